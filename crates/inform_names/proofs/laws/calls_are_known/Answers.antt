use Rattle.inform_names.proofs.Faultless.{calls_known as law}
use Rattle.inform_names.proofs.laws.calls_are_known.Goals as goal

pub returns : goal.returns
returns c = law
