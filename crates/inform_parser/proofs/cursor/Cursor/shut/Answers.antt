use Rattle.std.proofs.Common.{ap}
use Rattle.inform_parser.specs.Reading.{shut_spot}
use Rattle.inform_parser.proofs.Taking.{less_by_one}
use Rattle.inform_parser.proofs.cursor.Cursor.shut.Goals as goal

pub returns-clause-shut : goal.returns-clause-shut
returns-clause-shut c =
    rw c.saturating_sub-self-inside.ensures (rw (← less_by_one c.self.inside.opened) (ap shut_spot c.self.view_is))
