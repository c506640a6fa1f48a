-- That a program which is to be simplified is well formed.
use Rattle.std.proofs.Common.{◌≡◌, ℕ, List, Ok, true}
use Rattle.inform_tree.specs.declared.widths.Width.{Width}
use Rattle.inform_tree.specs.Programs.{DirectiveTree}
use Rattle.inform_tree.specs.Formed.{is_well_formed}
use Rattle.inform_reader.specs.Reading.{program_in}
use Rattle.inform_reader.specs.Laws.{ProgramIn, ProgramsAreWellFormed}
use Rattle.scott_tool.specs.Run.{program_of_file}
use Rattle.scott_tool.proofs.Readings.{program_fit}

-- the program of a file is well formed
pub read_formed : ProgramIn → ProgramsAreWellFormed → (width : Width) (name bytes : List ℕ)
    (p : List DirectiveTree) → program_of_file width name bytes ≡ Ok p → is_well_formed p ≡ true
read_formed read formed width name bytes p is =
    formed width bytes p ((read width bytes p).0 (program_fit name (program_in width bytes) p is))
