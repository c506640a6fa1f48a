use Rattle.std.proofs.Common.{◌≡◌, ◌∙◌, true, false, refl, sym}
use Rattle.std.proofs.lemmas.Result.{IfOk-weaker}
use Rattle.scott_types.specs.Database.{action_at}
use Rattle.scott_rules.specs.Actions.{passes}
use Rattle.scott_actions.proofs.actions.perform.Goals as goal

pub returns-then-passes : goal.returns-then-passes
returns-then-passes g c =
    let db = c.args.db.now in
    let does : passes db c.args.state.now (action_at db c.args.line) ≡ true = sym (rw c.actions.ensures.value at c.passes.ensures) ∙ c.if-passes.true in
    record {
      spoken = rw does (rw c.actions.ensures.value at c.run.ensures.spoken);
      state = rw does (rw c.actions.ensures.value at c.run.ensures.state);
      ran = rw does (rw c.actions.ensures.value at c.run.ensures.ran);
      fits = c.run.ensures.fits;
    }

pub returns-else-passes : goal.returns-else-passes
returns-else-passes g c =
    let db = c.args.db.now in
    let fails : passes db c.args.state.now (action_at db c.args.line) ≡ false = sym (rw c.actions.ensures.value at c.passes.ensures) ∙ c.if-passes.false in
    record {
      spoken = rw fails c.leave.ensures.spoken;
      state = rw fails (IfOk-weaker c.leave.result _ _ (λ ran is. refl) c.leave.ensures.ran);
      ran = rw fails c.leave.ensures.ran;
      fits = c.requires.fits;
    }
