use Rattle.inform_logic.proofs.NotesAside.{notes_count_for_nothing}
use Rattle.inform_logic.proofs.laws.notes_count_for_nothing.Goals as goal

-- src/laws.rt:27:1
pub returns : goal.returns
returns c = notes_count_for_nothing
