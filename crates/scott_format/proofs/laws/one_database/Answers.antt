use Rattle.scott_format.proofs.Answered.{one_database}
use Rattle.scott_format.proofs.laws.one_database.Goals as goal

pub returns : goal.returns
returns c = one_database c.text_laws.ensures
