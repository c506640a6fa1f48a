use Rattle.inform_entered.proofs.Entered.{entered_are_noted}
use Rattle.inform_entered.proofs.laws.entered_are_noted.Goals as goal

-- src/laws.rt
pub returns : goal.returns
returns c = entered_are_noted c.meanings_are_of_directives.ensures c.notes_count_for_nothing.ensures
