use Rattle.std.proofs.Common.{ap, arith}
use Rattle.std.specs.Prelude.{option_map}
use Rattle.scott_requests.specs.Request.{demo}
use Rattle.scott_requests.proofs.Given.{one_element}
use Rattle.scott_requests.proofs.requests.demo_form.Goals as goal

pub returns-clause-value : goal.returns-clause-value
returns-clause-value c =
    rw (one_element c.args.words.now c.number-item.result (omega arith) c.number-item.is)
    (ap (option_map demo) (rw (c.in_ok-game_number.was, c.as_str.ensures.value) at
    c.game_number.ensures.value))
