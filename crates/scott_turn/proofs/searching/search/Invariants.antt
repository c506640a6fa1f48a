use Rattle.std.proofs.Common.{◌≡◌, ◌-◌, false, length}
use Rattle.scott_types.specs.State.{Fits}
use Rattle.scott_rules.specs.Groups.{groups}
use Rattle.scott_rules.specs.Search.{search_result}
use Rattle.scott_turn.specs.Heads.{groups_for, line_of, IsHead}
use Rattle.scott_turn.specs.Turns.{with_before, ends_search}
use Rattle.adv_io.proofs.Along.{Along}
use Rattle.scott_turn.specs.Tried.{tallied}
use Rattle.scott_turn.proofs.searching.search.Given as goal

-- what is still to come are the verb's groups from the next head on, and what those before came to
abbrev pub invariant-loop-next : goal.invariant-loop-next
invariant-loop-next g l =
    let seen = g.C.Console.seen in
    record {
      tried : tallied (search_result l.game l.typed l.command.verb l.command.noun (groups l.game.db) l.initial.state).events l.initial.tally
          ≡ tallied (with_before l.before (search_result l.game l.typed l.command.verb l.command.noun (groups_for l.game.db l.command.verb (line_of l.game.db l.next)) l.state)).events l.tally;
      at_head : IsHead l.game.db l.command.verb l.next;
      fits : Fits l.game.db l.state;
      begun : ends_search l.before ≡ false;
      along : Along
          (search_result l.game l.typed l.command.verb l.command.noun (groups l.game.db) l.initial.state)
          (with_before l.before (search_result l.game l.typed l.command.verb l.command.noun (groups_for l.game.db l.command.verb (line_of l.game.db l.next)) l.state)) (seen l.initial.console) (seen l.console);
    }

abbrev pub decreases-loop-next : goal.decreases-loop-next
decreases-loop-next g l = length l.game.db.actions - line_of l.game.db l.next
