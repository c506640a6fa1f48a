use Rattle.std.proofs.Common.{◌≡◌, ◌+◌, ◌-◌, length}
use Rattle.scott_types.specs.State.{Fits}
use Rattle.scott_rules.specs.Groups.{groups_from, automatic}
use Rattle.scott_turn.specs.Heads.{groups_for, line_of, IsHead}
use Rattle.adv_io.proofs.Along.{Along}
use Rattle.scott_turn.specs.Tried.{tallied}
use Rattle.scott_turn.proofs.automatic.automatic.Given as goal

-- what is still to come are the automatic groups from the next head on
abbrev pub invariant-loop-next : goal.invariant-loop-next
invariant-loop-next g l =
    let seen = g.C.Console.seen in
    record {
      tried : tallied (automatic l.game (groups_from l.game.db l.from) l.initial.state l.initial.draws.left).events l.initial.tally
          ≡ tallied (automatic l.game (groups_for l.game.db 0 (line_of l.game.db l.next)) l.state l.draws.left).events l.tally;
      at_head : IsHead l.game.db 0 l.next;
      fits : Fits l.game.db l.state;
      taken : l.draws.taken + length l.draws.left ≡ l.initial.draws.taken + length l.initial.draws.left;
      along : Along
          (automatic l.game (groups_from l.game.db l.from) l.initial.state l.initial.draws.left)
          (automatic l.game (groups_for l.game.db 0 (line_of l.game.db l.next)) l.state l.draws.left) (seen l.initial.console) (seen l.console);
    }

abbrev pub decreases-loop-next : goal.decreases-loop-next
decreases-loop-next g l = length l.game.db.actions - line_of l.game.db l.next
