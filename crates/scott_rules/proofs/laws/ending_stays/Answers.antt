use Rattle.scott_rules.proofs.Splitting.{go-stays_over}
use Rattle.scott_rules.proofs.laws.ending_stays.Goals as goal

pub returns : goal.returns
returns c = λ game position s lines more draws further ending. go-stays_over game position s lines more draws further ending
