use Rattle.trans_specs.proofs.Hill.{dead_line_is_refused as law}
use Rattle.trans_specs.proofs.worked.dead_line_is_refused.Goals as goal

pub returns : goal.returns
returns c = law
