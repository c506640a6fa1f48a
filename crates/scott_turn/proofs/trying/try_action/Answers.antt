use Rattle.scott_turn.proofs.Showing.{shown_action}
use Rattle.scott_turn.proofs.Tallying.{tallied-only, noted-said}
use Rattle.scott_turn.proofs.Tries.{ran_left}
use Rattle.scott_rules.specs.Actions.{note_of, action_result, try_action}
use Rattle.adv_io.specs.Steps.{said_steps}
use Rattle.scott_types.specs.Database.{action_at}
use Rattle.scott_turn.proofs.trying.try_action.Goals as goal

pub returns-clause-does : goal.returns-clause-does
returns-clause-does g c =
    let game = c.args.game.now in
    let noun = c.args.noun.now in
    let line = c.args.line in
    let s = c.args.state.now in
    record {
      spoken = rw (shown_action game noun line s) (rw (c.style.ensures, c.db.ensures) at c.perform.ensures.spoken);
      tried = tallied-only c.perform.result (note_of (action_at game.db line) line) (said_steps (action_result game noun line s).events)
          c.args.tally.now (noted-said (action_result game noun line s).events) c.note.ensures;
      left = ran_left c.perform.result (try_action game noun line s).value c.perform.new.state
          (rw (c.style.ensures, c.db.ensures) at c.perform.ensures.state) (rw (c.style.ensures, c.db.ensures) at c.perform.ensures.ran);
    }
