use Rattle.std.proofs.Common.{◌≡◌, ◌-◌, ◌≤◌, length}
use Rattle.scott_types.specs.State.{Fits}
use Rattle.scott_rules.specs.Groups.{tail_tried}
use Rattle.scott_turn.specs.Heads.{tail_from}
use Rattle.adv_io.proofs.Along.{Along}
use Rattle.scott_turn.specs.Tried.{tallied}
use Rattle.scott_turn.proofs.trying.try_tail.Given as goal

-- what is still to come is the tail from this line on
abbrev pub invariant-loop-state : goal.invariant-loop-state
invariant-loop-state g l =
    let seen = g.C.Console.seen in
    record {
      tried : tallied (tail_tried l.game l.noun (tail_from l.game.db l.initial.line) l.initial.state).events l.initial.tally
          ≡ tallied (tail_tried l.game l.noun (tail_from l.game.db l.line) l.state).events l.tally;
      few : length l.game.db.actions ≤ 5000;
      fits : Fits l.game.db l.state;
      along : Along
          (tail_tried l.game l.noun (tail_from l.game.db l.initial.line) l.initial.state)
          (tail_tried l.game l.noun (tail_from l.game.db l.line) l.state) (seen l.initial.console) (seen l.console);
    }

abbrev pub decreases-loop-state : goal.decreases-loop-state
decreases-loop-state g l = length l.game.db.actions - l.line
