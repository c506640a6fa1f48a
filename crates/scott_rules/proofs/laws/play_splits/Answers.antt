use Rattle.scott_rules.proofs.Splitting.{go-splits}
use Rattle.scott_rules.proofs.laws.play_splits.Goals as goal

pub returns : goal.returns
returns c = λ game position s lines more draws further. go-splits game lines more further position s draws
