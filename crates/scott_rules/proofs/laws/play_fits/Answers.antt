use Rattle.scott_rules.proofs.Fitting.{Fits-go}
use Rattle.scott_rules.proofs.laws.play_fits.Goals as goal

pub returns : goal.returns
returns c = λ game position s lines draws limits fits. Fits-go game limits position s lines draws fits
