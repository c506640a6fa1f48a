-- The laws of signatures.
use Rattle.std.specs.Prelude.{◌≡◌, true, false, List, None}
use Rattle.std.specs.List.{AllByRecursion}
use Rattle.inform_tree.specs.declared.widths.Width.{Width}
use Rattle.inform_tree.specs.Programs.{DirectiveTree, RoutineTree}
use Rattle.inform_names.specs.Meanings.{Known, meanings}
use Rattle.inform_names.specs.Demands.{Demands}
use Rattle.inform_names.specs.Faults.{first_of}
use Rattle.inform_names.specs.Places.{Scope, first_fault}
use Rattle.inform_names.specs.Acceptance.{routine_faults, name_fault}
use Rattle.inform_logic.specs.Holding.{Distinct}
use Rattle.inform_signature.specs.Signatures.{Sign, signature, Knows, are_met}
use Rattle.inform_signature.specs.Soundness.{is_sound_routine, is_constant, IsSoundProgram}

-- where the names of a signature are known, what it meets has no fault
abbrev pub MetDemandsAreFine : Type 0
MetDemandsAreFine = (scope : Scope) (signs : List Sign) (demands : Demands)
    → Knows scope.known signs → are_met scope.width signs scope.locals demands ≡ true
    → first_fault scope demands ≡ None

-- and a routine that is sound under it has none
abbrev pub SoundRoutinesAreFaultless : Type 0
SoundRoutinesAreFaultless = (width : Width) (known : Known) (signs : List Sign) (r : RoutineTree)
    → Knows known signs → is_sound_routine width signs r ≡ true
    → first_of (routine_faults width known r) ≡ None

-- where no two directives have one name, and none is a constant, each name is known as that of its
-- directive
abbrev pub SignatureIsKnown : Type 0
SignatureIsKnown = (width : Width) (ds : List DirectiveTree) → Distinct ds
    → AllByRecursion (λ x. is_constant x ≡ false) ds
    → Knows (meanings width ds) (signature ds)

-- a sound program is accepted
abbrev pub SoundProgramsAreAccepted : Type 0
SoundProgramsAreAccepted = (width : Width) (ds : List DirectiveTree) → IsSoundProgram width ds
    → name_fault width ds ≡ None
