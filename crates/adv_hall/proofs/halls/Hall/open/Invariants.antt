use Rattle.std.proofs.Common.{◌≡◌, ◌+◌, ◌-◌, ◌++◌}
use Rattle.std.specs.Prelude.{IsTrue}
use Rattle.std.specs.List.{list_all}
use Rattle.adv_hall.specs.Seats.{seats_opened, is_whole}
use Rattle.adv_hall.proofs.halls.Hall.open.Given as goal

-- the seats so far, and those that are opened after them, are all
abbrev pub invariant-loop-k : goal.invariant-loop-k
invariant-loop-k l = record {
  all : l.seats.items ++ seats_opened l.db (l.k + 1) (l.count - l.k) ≡ seats_opened l.db 1 l.count;
  whole : IsTrue (list_all is_whole l.seats.items);
}
