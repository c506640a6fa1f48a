-- What acceptance answers.
use Rattle.std.specs.Prelude.{◌≡◌, List, Some, IfSome}
use Rattle.inform_tree.specs.declared.widths.Width.{Width}
use Rattle.inform_tree.specs.Programs.{DirectiveTree}
use Rattle.inform_names.specs.declared.faults.NameFault.{NameFault}
use Rattle.inform_names.specs.Faults.{fault_of}
use Rattle.inform_names.specs.Acceptance.{name_fault}

-- the fault that was answered is the first of the program, unless memory ran out
abbrev pub IsFirstFault : Width → List DirectiveTree → NameFault → Type 0
IsFirstFault width program answer =
    IfSome (fault_of answer) (λ fault. name_fault width program ≡ Some fault)
