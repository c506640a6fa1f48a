use Rattle.inform_simplify.proofs.Programs.{runs_shorter as law}
use Rattle.inform_simplify.proofs.laws.runs_shorter.Goals as goal

-- src/laws.rt
pub returns : goal.returns
returns c = law
