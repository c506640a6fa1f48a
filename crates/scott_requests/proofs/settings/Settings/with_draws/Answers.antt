use Rattle.std.proofs.Common.{refl}
use Rattle.scott_requests.proofs.settings.Settings.with_draws.Goals as goal

pub returns-in-None : goal.returns-in-None
returns-in-None c = rw c.in-None.is refl
