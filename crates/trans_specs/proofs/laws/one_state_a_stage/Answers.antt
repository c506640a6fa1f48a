use Rattle.trans_specs.proofs.Views.{one_state_a_stage as law}
use Rattle.trans_specs.proofs.laws.one_state_a_stage.Goals as goal

pub returns : goal.returns
returns c = law
