use Rattle.translator.proofs.PlayedAlike.{programs_are_faithful}
use Rattle.translator.proofs.laws.programs_are_faithful.Goals as goal

-- src/laws.rt
pub returns : goal.returns
returns c = programs_are_faithful c.program_holds.ensures c.notes_count_for_nothing.ensures
    c.entered_are_noted.ensures c.main_is_enough.ensures c.data_meets_specs.ensures c.helpers_meet_specs.ensures
    c.lines_meet_specs.ensures c.turn_meets_specs.ensures c.words_meet_spec.ensures c.programs_are_distinct.ensures
    c.programs_are_accepted.ensures c.programs_are_shaped.ensures
