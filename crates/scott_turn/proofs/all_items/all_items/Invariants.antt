use Rattle.std.proofs.Common.{◌≡◌, ◌≤◌, length, drop}
use Rattle.scott_types.specs.State.{Fits}
use Rattle.scott_rules.specs.Transfer.{all_items}
use Rattle.scott_turn.specs.ItemTurns.{taken_before}
use Rattle.adv_io.proofs.Along.{Along}
use Rattle.scott_turn.specs.Tried.{tallied}
use Rattle.scott_turn.proofs.all_items.all_items.Given as goal

-- what is still to come is the walk over the items from this one on, and whether one was taken
-- before
abbrev pub invariant-loop-i : goal.invariant-loop-i
invariant-loop-i g l =
    let seen = g.C.Console.seen in
    record {
      tried : tallied (all_items l.transfer l.game l.typed 0 l.game.db.items l.initial.state).events l.initial.tally
          ≡ tallied (taken_before l.any_taken (all_items l.transfer l.game l.typed l.i (drop l.i l.game.db.items) l.state)).events l.tally;
      few : length l.game.db.items ≤ 255;
      fits : Fits l.game.db l.state;
      along : Along
          (all_items l.transfer l.game l.typed 0 l.game.db.items l.initial.state)
          (taken_before l.any_taken (all_items l.transfer l.game l.typed l.i (drop l.i l.game.db.items) l.state)) (seen l.initial.console) (seen l.console);
    }
