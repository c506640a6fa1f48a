use Rattle.std.proofs.Common.{◌≡◌, ◌++◌, drop, map, flat_map}
use Rattle.scott_types.specs.Room.{room_beyond}
use Rattle.trans_data.proofs.exit_tables.exits_of.Given as goal

-- the exits of the rooms before, and those of the rooms to come, are all
abbrev pub invariant-loop-room : goal.invariant-loop-room
invariant-loop-room l =
    flat_map (λ room. map (room_beyond l.count) room.exits) l.rooms
    ≡ l.numbers.items
    ++ flat_map (λ room. map (room_beyond l.count) room.exits) (drop l.room-index l.rooms)
