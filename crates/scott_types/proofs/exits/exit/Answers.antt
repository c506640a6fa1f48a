use Rattle.std.proofs.Common.{◌≡◌, ◌∙◌, [], length, get_or, pos, to_z, of_z, w32, ap, rules}
use Rattle.std.proofs.lemmas.List.{get_or_read}
use Rattle.scott_types.specs.declared.parts.Room.{Room}
use Rattle.scott_types.specs.Database.{Database}
use Rattle.scott_types.specs.Room.{room_beyond}
use Rattle.scott_types.proofs.RoomExits.{six_exits}
use Rattle.scott_types.proofs.exits.exit.Goals as goal

pub returns : goal.returns
returns c =
    let db = c.args.db.now in
    let number = get_or c.index.result.now.exits c.args.direction (pos 0) in
    let fits : to_z w32 (of_z w32 number) ≡ number = search rules in
    let rooms = ap (λ (db : Database). db.rooms) c.parts.ensures.value in
    let many = c.len.ensures ∙ c.parts.result.now.rooms.ok.0 ∙ ap length rooms in
    let room = get_or_read db.rooms c.args.room c.index.result.now c.requires.room_there (rw rooms at c.index.ensures) (record { exits = []; text = [] }) in
    record {
      value =
          c.room_beyond.ensures
          ∙ ap (room_beyond c.len.result) fits
          ∙ ap (λ many. room_beyond many number) many
          ∙ ap (λ (room : Room). room_beyond (length db.rooms) (get_or room.exits c.args.direction (pos 0))) room;
      six = six_exits db c.args.room c.parts.ensures.kept c.requires.room_there;
    }
