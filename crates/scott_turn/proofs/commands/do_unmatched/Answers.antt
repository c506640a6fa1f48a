use Rattle.std.proofs.Common.{refl}
use Rattle.std.proofs.lemmas.Bool.{ne_eqb}
use Rattle.std.proofs.lemmas.Result.{IfOk-weaker}
use Rattle.adv_io.specs.Steps.{said_steps}
use Rattle.scott_rules.specs.Rounds.{not_done}
use Rattle.scott_turn.proofs.Tallying.{tallied-none, noted-said}
use Rattle.scott_turn.proofs.commands.do_unmatched.Goals as goal

pub returns-then-command-eq-GET : goal.returns-then-command-eq-GET
returns-then-command-eq-GET g c = record {
  does = rw c.if-command-eq-GET.true c.transfer.ensures.does;
  fits = c.transfer.ensures.fits;
}

pub returns-then-command-eq-DROP : goal.returns-then-command-eq-DROP
returns-then-command-eq-DROP g c = record {
  does = rw c.if-command-eq-DROP.true c.transfer-then-command-eq-DROP.ensures.does;
  fits = c.transfer-then-command-eq-DROP.ensures.fits;
}

pub returns-else-command-eq-DROP-clause-does : goal.returns-else-command-eq-DROP-clause-does
returns-else-command-eq-DROP-clause-does g c =
    let text = not_done c.args.game.now.style c.args.found in
    rw (ne_eqb _ _ c.if-command-eq-GET.false, ne_eqb _ _ c.if-command-eq-DROP.false) (record {
      spoken = rw (c.not_done.ensures, c.style.ensures) at c.say_only.ensures.spoken;
      tried = tallied-none c.say_only.result (said_steps text) c.args.tally.now (noted-said text);
      left = IfOk-weaker c.say_only.result _ _ (λ over is. rw is refl) c.say_only.ensures.over;
    })
