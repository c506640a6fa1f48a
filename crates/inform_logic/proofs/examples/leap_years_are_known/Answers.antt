use Rattle.inform_logic.proofs.LeapYears.{leap_years_are_known as law}
use Rattle.inform_logic.proofs.examples.leap_years_are_known.Goals as goal

pub returns : goal.returns
returns c = law
