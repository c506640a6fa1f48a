-- The worked examples of pauses hold by computing.
use Rattle.std.proofs.Common.{refl}
use Rattle.inform_meaning.proofs.Opened.{opened}
use Rattle.inform_stepper.specs.Worked.{CallsPause, ThirdsPause}

pub calls_pause : CallsPause
unfolding opened
calls_pause = refl

pub thirds_pause : ThirdsPause
unfolding opened
thirds_pause = refl
