use Rattle.scott_rules.proofs.Spending.{go-spends}
use Rattle.scott_rules.proofs.laws.play_spends.Goals as goal

pub returns : goal.returns
returns c = λ game position s lines draws. go-spends game lines position s draws
