use Rattle.std.proofs.Common.{refl}
use Rattle.std.specs.Prelude.{codes}
use Rattle.scott_requests.proofs.Given.{no_command}
use Rattle.scott_requests.proofs.requests.further_form.Goals as goal

pub returns-in_default-clause-value : goal.returns-in_default-clause-value
returns-in_default-clause-value c =
    let word = c.args.command.now in
    rw (
      no_command word (codes "hall") c.in_default.not-hall,
      no_command word (codes "transfer") c.in_default.not-transfer,
      no_command word (codes "simplify") c.in_default.not-simplify,
      no_command word (codes "step") c.in_default.not-step,
      no_command word (codes "cover") c.in_default.not-cover,
      no_command word (codes "calls") c.in_default.not-calls,
      no_command word (codes "demo") c.in_default.not-demo,
    ) refl
