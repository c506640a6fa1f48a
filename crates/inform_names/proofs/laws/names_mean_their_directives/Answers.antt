use Rattle.inform_names.proofs.Faultless.{means_itself as law}
use Rattle.inform_names.proofs.laws.names_mean_their_directives.Goals as goal

pub returns : goal.returns
returns c = law
