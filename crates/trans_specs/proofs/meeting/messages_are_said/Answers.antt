use Rattle.trans_specs.proofs.SpecsMet.{messages_are_said as law}
use Rattle.trans_specs.proofs.meeting.messages_are_said.Goals as goal

pub returns : goal.returns
returns c = law
