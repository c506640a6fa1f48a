use Rattle.trans_specs.proofs.Rounds.{plays_are_rounds as law}
use Rattle.trans_specs.proofs.laws.plays_are_rounds.Goals as goal

pub returns : goal.returns
returns c = law c.play_stops.ensures
