use Rattle.inform_names.proofs.Firsts.{first_of_the_list as law}
use Rattle.inform_names.proofs.laws.first_of_the_list.Goals as goal

pub returns : goal.returns
returns c = law
