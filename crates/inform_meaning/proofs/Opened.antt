-- Every sealed part of the meaning, opened at once.
use Rattle.std.specs.Int.{int_wrap}
use Rattle.std.specs.Fmt.{digits}
use Rattle.inform_meaning.specs.Frames.{bind, when, on_normal, on_value, on_truth, on_body, on_return, on_main, on_over}
use Rattle.inform_meaning.specs.Parts.{tick, saying}
use Rattle.inform_meaning.specs.Statements.{turns}
use Rattle.inform_meaning.specs.Runs.{call_at, resume_at}

unfoldable pub opened : Unit {0}
unfolding int_wrap digits bind when on_normal on_value on_truth on_body on_return on_main on_over tick saying turns call_at resume_at
opened = tt
