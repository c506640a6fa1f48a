use Rattle.trans_turn.proofs.MainRuns.{rounds_meet_specs}
use Rattle.trans_turn.proofs.laws.rounds_meet_specs.Goals as goal

-- src/laws.rt:9:1
pub returns : goal.returns
returns c = rounds_meet_specs c.word_names_least_match.ensures c.play_spends.ensures c.play_stops.ensures
    c.plays_are_rounds.ensures
