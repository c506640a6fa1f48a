use Rattle.adv_demo.proofs.Agreeing.{run_tells_the_play}
use Rattle.adv_demo.proofs.laws.run_tells_the_play.Goals as goal

pub returns : goal.returns
returns c = run_tells_the_play c.program_in.ensures
