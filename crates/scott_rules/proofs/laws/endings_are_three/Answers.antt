use Rattle.scott_rules.proofs.Endings.{go-known}
use Rattle.scott_rules.proofs.laws.endings_are_three.Goals as goal

pub returns : goal.returns
returns c = λ game position s lines draws known. go-known game lines position s draws known
