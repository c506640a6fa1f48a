use Rattle.trans_turn.proofs.TurnSpecs.{turn_meets_specs}
use Rattle.trans_turn.proofs.laws.turn_meets_specs.Goals as goal

-- src/laws.rt
pub returns : goal.returns
returns c = turn_meets_specs c.parts_are_served.ensures c.helpers_meet_specs.ensures c.data_meets_specs.ensures
    c.trying_meets_specs.ensures c.commands_meet_specs.ensures c.rounds_meet_specs.ensures
