use Rattle.scott_format.proofs.Answered.{database_is}
use Rattle.scott_format.proofs.laws.database_in.Goals as goal

pub returns : goal.returns
returns c = database_is c.text_laws.ensures
