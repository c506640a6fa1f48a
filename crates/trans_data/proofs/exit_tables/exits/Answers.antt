use Rattle.std.proofs.Common.{◌≡◌, IfOk, map, flat_map, length, List, subst}
use Rattle.scott_types.specs.declared.parts.Room.{Room}
use Rattle.scott_types.specs.Room.{room_beyond}
use Rattle.trans_data.proofs.exit_tables.exits.Goals as goal

pub returns : goal.returns
returns c = subst (λ (rooms : List Room). IfOk c.exits_of.result (λ numbers. numbers.items
    ≡ flat_map (λ room. map (room_beyond (length rooms)) room.exits) rooms))
    c.rooms-rooms.ensures.value c.exits_of.ensures
