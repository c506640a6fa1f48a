use Rattle.std.proofs.Common.{refl}
use Rattle.std.proofs.lemmas.Result.{IfOk-weaker}
use Rattle.adv_io.proofs.Sayings.{nothing_said}
use Rattle.scott_turn.proofs.advancing.go_to_prompt.Goals as goal

pub returns-in-Through : goal.returns-in-Through
returns-in-Through g c = record {
  does = record {
    spoken = rw c.in-Through.is c.prompt.ensures.spoken;
    left = rw (c.in-Through.is, c.prompt.ensures.state) (IfOk-weaker c.prompt.result _ _ (λ position at. rw at refl) c.prompt.ensures.position);
  };
  fits = c.prompt.ensures.fits;
}

pub returns-in-Waits : goal.returns-in-Waits
returns-in-Waits g c = record {
  does = rw c.in-Waits.is (record { spoken = nothing_said _ _; left = refl });
  fits = c.requires;
}

pub returns-in-Over : goal.returns-in-Over
returns-in-Over g c = record {
  does = rw c.in-Over.is (record { spoken = nothing_said _ _; left = refl });
  fits = c.requires;
}
