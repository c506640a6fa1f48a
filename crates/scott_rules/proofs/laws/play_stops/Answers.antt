use Rattle.scott_rules.proofs.Stopping.{go-stops}
use Rattle.scott_rules.proofs.laws.play_stops.Goals as goal

pub returns : goal.returns
returns c = λ game position s lines draws. go-stops game lines position s draws
