use Rattle.trans_specs.proofs.SpecsMet.{chance_line_is_done as law}
use Rattle.trans_specs.proofs.meeting.chance_line_is_done.Goals as goal

pub returns : goal.returns
returns c = law
