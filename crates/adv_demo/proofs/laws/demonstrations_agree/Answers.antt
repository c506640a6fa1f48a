use Rattle.adv_demo.proofs.Agreeing.{demonstrations_agree}
use Rattle.adv_demo.proofs.laws.demonstrations_agree.Goals as goal

pub returns : goal.returns
returns c = demonstrations_agree c.made_lines_are_typed.ensures c.run_tells_the_play.ensures
