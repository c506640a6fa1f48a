use Rattle.std.proofs.Common.{◌≡◌, to_z, of_z, w32, rules}
use Rattle.scott_types.proofs.RoomExits.{beyond-room}
use Rattle.scott_types.proofs.exits.room_beyond.Goals as goal

pub returns-then-number-rooms : goal.returns-then-number-rooms
returns-then-number-rooms c =
    let same : to_z w32 (of_z w32 c.args.number) ≡ c.args.number = search rules in
    rw same (beyond-room c.args.rooms c.args.number (rw same at c.if-number-gt0.true) (rw same at c.if-number-rooms.true))
