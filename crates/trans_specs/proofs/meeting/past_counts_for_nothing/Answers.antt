use Rattle.trans_specs.proofs.SpecsMet.{past_counts_for_nothing as law}
use Rattle.trans_specs.proofs.meeting.past_counts_for_nothing.Goals as goal

pub returns : goal.returns
returns c = law
