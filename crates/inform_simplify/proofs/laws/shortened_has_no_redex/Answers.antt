use Rattle.inform_simplify.proofs.Reduced.{shortened_has_no_redex as law}
use Rattle.inform_simplify.proofs.laws.shortened_has_no_redex.Goals as goal

-- src/laws.rt
pub returns : goal.returns
returns c = law
