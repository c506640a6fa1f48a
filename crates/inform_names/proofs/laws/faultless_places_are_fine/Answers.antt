use Rattle.inform_names.proofs.Firsts.{fine_where_faultless as law}
use Rattle.inform_names.proofs.laws.faultless_places_are_fine.Goals as goal

pub returns : goal.returns
returns c = law
