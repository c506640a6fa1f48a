use Rattle.std.proofs.Common.{◌≡◌, ◌++◌, drop, map}
use Rattle.scott_types.specs.Room.{room_beyond}
use Rattle.trans_data.proofs.exit_tables.with_exits.Given as goal

-- the exits before, and those to come, are all
abbrev pub invariant-loop-number : goal.invariant-loop-number
invariant-loop-number l =
    l.initial.all.items ++ map (room_beyond l.rooms) l.exits
    ≡ l.all.items ++ map (room_beyond l.rooms) (drop l.number-index l.exits)
