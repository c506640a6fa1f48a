use Rattle.scott_rules.proofs.Endings.{advance-known}
use Rattle.scott_rules.proofs.laws.advance_ends_well.Goals as goal

pub returns : goal.returns
returns c = advance-known
