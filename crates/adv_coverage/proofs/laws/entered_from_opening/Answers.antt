use Rattle.adv_coverage.proofs.Opening.{entered_from_opening}
use Rattle.adv_coverage.proofs.laws.entered_from_opening.Goals as goal

pub returns : goal.returns
returns c = entered_from_opening c.entered_from_the_beginning.ensures
