use Rattle.std.proofs.Common.{length}
use Rattle.trans_data.proofs.choices.+cases.Given as goal

abbrev pub decreases-cases : goal.decreases-cases
decreases-cases l = length l.texts.now
