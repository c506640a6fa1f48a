-- Routines and programs that are sound: each place meets what is demanded of it.
use Rattle.std.specs.Prelude.{ℕ, ◌≡◌, ◌≤◌, nat_lt, Bool, true, false, not, ◌&&◌, List, None, is_none}
use Rattle.std.specs.List.{AllByRecursion}
use Rattle.inform_tree.specs.declared.widths.Width.{Width}
use Rattle.inform_tree.specs.declared.values.Const.{Const}
use Rattle.inform_tree.specs.Programs as d
use Rattle.inform_tree.specs.Programs.{DirectiveTree, RoutineTree}
use Rattle.inform_tree.specs.Depths.{routine_depth}
use Rattle.inform_names.specs.declared.limits.TheConstants.{DEEPEST, ENTRY_LIMIT}
use Rattle.inform_names.specs.Meanings.{Known, meanings, array_length}
use Rattle.inform_names.specs.Demands.{optional_demands, constant_demands, constants_demands, statements_demands, no_loop}
use Rattle.inform_names.specs.Faults.{first_of}
use Rattle.inform_names.specs.Places.{first_fault}
use Rattle.inform_names.specs.Lookups.{IsLength}
use Rattle.inform_names.specs.Acceptance.{outer_scope, is_main, has_locals, locals_fault, routine_faults, means_routine, main}
use Rattle.inform_names.specs.Laws.{total_entries}
use Rattle.inform_logic.specs.Holding.{Distinct}
use Rattle.inform_signature.specs.Signatures.{Sign, are_met}

-- ---- routines

-- whether a routine is no deeper than it may be, has locals as it may, and meets what its places
-- demand at a width, where these names are known
abbrev pub is_sound_routine : Width → List Sign → RoutineTree → Bool
is_sound_routine width signs r = not (nat_lt DEEPEST (routine_depth r))
    && (not (is_main r.name && has_locals r.locals)
    && (is_none (locals_fault r.name r.locals 0 r.locals)
    && are_met width signs r.locals (statements_demands no_loop r.body)))

-- ---- directives

abbrev pub is_constant : DirectiveTree → Bool
is_constant (d.Constant name value) = true
is_constant (d.Global name value) = false
is_constant (d.Array name words entries) = false
is_constant (d.Routine r) = false

-- an array has a length in 1..32767, and entries without a fault
pub record IsSoundArray (width : Width) (known : Known) (name : List ℕ) (entries : List Const)
    : Type 0 where
  pub length_is : IsLength (array_length width known entries)
  pub fine : first_fault (outer_scope width known name) (constants_demands entries) ≡ None

-- a directive that is no constant has no fault of its own
abbrev pub IsSound : Width → Known → DirectiveTree → Type 0
IsSound width known (d.Constant name value) = ⊥
IsSound width known (d.Global name value) =
    first_fault (outer_scope width known name) (optional_demands constant_demands value) ≡ None
IsSound width known (d.Array name words entries) = IsSoundArray width known name entries
IsSound width known (d.Routine r) = first_of (routine_faults width known r) ≡ None

-- a directive that is a routine without a fault
abbrev pub IsFaultless : Width → Known → DirectiveTree → Type 0
IsFaultless width known (d.Constant name value) = ⊥
IsFaultless width known (d.Global name value) = ⊥
IsFaultless width known (d.Array name words entries) = ⊥
IsFaultless width known (d.Routine r) = first_of (routine_faults width known r) ≡ None

-- ---- programs

-- No two directives have one name, each is sound, the arrays have no more entries than they may,
-- and `main` is a routine.
pub record IsSoundProgram (width : Width) (ds : List DirectiveTree) : Type 0 where
  pub distinct : Distinct ds
  pub each : AllByRecursion (IsSound width (meanings width ds)) ds
  pub few : total_entries width (meanings width ds) ds ≤ ENTRY_LIMIT
  pub has_main : means_routine (meanings width ds main) ≡ true
