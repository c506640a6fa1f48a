use Rattle.std.proofs.Common.{◌≡◌, ◌≤◌, not, map, take, length}
use Rattle.std.specs.Prelude.{◌==◌}
use Rattle.scott_types.specs.Database.{room_at}
use Rattle.scott_types.specs.Phrase.{text_of}
use Rattle.scott_types.specs.Room.{room_beyond}
use Rattle.scott_rules.specs.Looking.{chosen, directions}
use Rattle.scott_light.proofs.listing.exit_names.Given as goal

-- the names so far are those of the exits so far
abbrev pub invariant-loop-i : goal.invariant-loop-i
invariant-loop-i l = record {
  names : map (λ text. text.now) l.names.items ≡
      chosen (λ exit. not (room_beyond (length l.db.rooms) exit == 0)) text_of (take l.i directions) (take l.i (room_at l.db l.room).exits);
  few : length l.names.items ≤ l.i;
}
