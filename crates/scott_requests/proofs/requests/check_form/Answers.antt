use Rattle.std.proofs.Common.{ap, arith}
use Rattle.std.specs.Prelude.{option_map}
use Rattle.scott_requests.specs.Request.{check}
use Rattle.scott_requests.proofs.Given.{one_element}
use Rattle.scott_requests.proofs.requests.check_form.Goals as goal

pub returns-clause-value : goal.returns-clause-value
returns-clause-value c =
    rw (one_element c.args.words.now c.game-item.result (omega arith) c.game-item.is)
    (ap (option_map check) (rw (c.in_ok-file_name.was, c.as_str.ensures.value) at
    c.file_name.ensures))
