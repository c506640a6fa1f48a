-- The laws of names: what the definitions of meanings and faults come to.
use Rattle.std.specs.Prelude.{ℕ, ◌≡◌, ◌+◌, ◌≤◌, ℤ, Bool, false, List, [], ◌∷◌, take, slice_get, Option, Some, None, IsSome}
use Rattle.std.specs.List.{position_from}
use Rattle.std.specs.Option.{option_map}
use Rattle.std.specs.Str.{bytes_eq}
use Rattle.inform_tree.specs.declared.widths.Width.{Width}
use Rattle.inform_tree.specs.declared.values.Const.{Const}
use Rattle.inform_tree.specs.Programs as d
use Rattle.inform_tree.specs.Programs.{DirectiveTree, RoutineTree}
use Rattle.inform_tree.specs.Depths.{routine_depth}
use Rattle.inform_names.specs.declared.meanings.Kind.TheVariants as k
use Rattle.inform_names.specs.declared.meanings.Meaning.{Meaning}
use Rattle.inform_names.specs.declared.limits.TheConstants.{DEEPEST}
use Rattle.inform_names.specs.Meanings.{Known, constant_word, name_of, kind_of, meanings, earlier, array_length, directive_entries}
use Rattle.inform_names.specs.Demands as q
use Rattle.inform_names.specs.Demands.{Demands, optional_demands, constant_demands, constants_demands, statements_demands, no_loop}
use Rattle.inform_names.specs.Places.{Scope, is_local, is_constant, is_global, is_array, has_value, kind_fault, call_fault, fault_at, first_fault, IsFine}
use Rattle.inform_names.specs.Lookups.{IsLength}
use Rattle.inform_names.specs.Acceptance.{outer_scope, routine_scope, directive_fault, main, name_fault}

-- ---- meanings

-- this directive is the one that m names, of this name, and what m says is what it makes of it
abbrev pub IsMeaningOf : Width → List DirectiveTree → List ℕ → Meaning → DirectiveTree → Type 0
IsMeaningOf width program name m directive = (slice_get program m.at ≡ Some directive)
    × (name_of directive ≡ name)
    × (m.kind ≡ kind_of width (meanings width (take m.at program)) directive)

-- each meaning is that of a directive of the program
abbrev pub MeaningsAreOfDirectives : Type 0
MeaningsAreOfDirectives =
    (width : Width) (program : List DirectiveTree) (name : List ℕ) (m : Meaning)
    → meanings width program name ≡ Some m
    → (directive : DirectiveTree) × IsMeaningOf width program name m directive

-- the directive is the first with the name, and a name that no directive has means nothing
abbrev pub MeaningsAreFirst : Type 0
MeaningsAreFirst = (width : Width) (program : List DirectiveTree) (name : List ℕ)
    → option_map (λ m. m.at) (meanings width program name)
    ≡ position_from (λ directive. bytes_eq name (name_of directive)) 0 program

-- what the directives before number `at` say of a name is what the whole program says of it, if
-- that stands before
abbrev pub EarlierMeaningsStay : Type 0
EarlierMeaningsStay = (width : Width) (program : List DirectiveTree) (at : ℕ) (name : List ℕ)
    → earlier at (meanings width program name) ≡ meanings width (take at program) name

-- ---- programs without a fault

-- how many entries these directives have together
abbrev pub total_entries : Width → Known → List DirectiveTree → ℕ
total_entries width known [] = 0
total_entries width known (directive ∷ directives) =
    directive_entries width known directive + total_entries width known directives

-- no directive of such a program has a fault
abbrev pub DirectivesAreFaultless : Type 0
DirectivesAreFaultless =
    (width : Width) (program : List DirectiveTree) (at : ℕ) (directive : DirectiveTree)
    → name_fault width program ≡ None
    → slice_get program at ≡ Some directive
    → directive_fault width (meanings width program) at
    (total_entries width (meanings width program) (take at program)) directive ≡ None

-- the name of each directive means that directive
abbrev pub NamesMeanTheirDirectives : Type 0
NamesMeanTheirDirectives =
    (width : Width) (program : List DirectiveTree) (at : ℕ) (directive : DirectiveTree)
    → name_fault width program ≡ None
    → slice_get program at ≡ Some directive
    → meanings width program (name_of directive)
    ≡ Some (record { at = at; kind = kind_of width (meanings width (take at program)) directive })

-- each constant has a word
abbrev pub ConstantsHaveWords : Type 0
ConstantsHaveWords =
    (width : Width) (program : List DirectiveTree) (name : List ℕ) (at : ℕ) (value : Option ℤ)
    → name_fault width program ≡ None
    → meanings width program name ≡ Some (record { at = at; kind = k.Constant value })
    → IsSome value

-- so does what stands where a constant is demanded
abbrev pub FineConstantsHaveWords : Type 0
FineConstantsHaveWords =
    (width : Width) (program : List DirectiveTree) (scope : Scope) (constant : Const)
    → name_fault width program ≡ None
    → scope.known ≡ meanings width program
    → IsFine scope (constant_demands constant)
    → IsSome (constant_word width scope.known constant)

-- each array has a length in 1..32767
abbrev pub ArraysHaveLengths : Type 0
ArraysHaveLengths = (width : Width) (program : List DirectiveTree) (at : ℕ) (name : List ℕ)
    (words : Bool) (entries : List Const)
    → name_fault width program ≡ None
    → slice_get program at ≡ Some (d.Array name words entries)
    → IsLength (array_length width (meanings width program) entries)

-- no routine is too deep
abbrev pub RoutinesAreShallow : Type 0
RoutinesAreShallow = (width : Width) (program : List DirectiveTree) (at : ℕ) (routine : RoutineTree)
    → name_fault width program ≡ None
    → slice_get program at ≡ Some (d.Routine routine)
    → routine_depth routine ≤ DEEPEST

-- the names of arrays, and what stands in globals, arrays and routines, are as they are demanded
abbrev pub ArraysMeanThemselves : Type 0
ArraysMeanThemselves = (width : Width) (program : List DirectiveTree) (at : ℕ) (name : List ℕ)
    (words : Bool) (entries : List Const)
    → name_fault width program ≡ None
    → slice_get program at ≡ Some (d.Array name words entries)
    → kind_fault (is_array words) name (meanings width program name) ≡ None

abbrev pub GlobalsAreFine : Type 0
GlobalsAreFine =
    (width : Width) (program : List DirectiveTree) (at : ℕ) (name : List ℕ) (value : Option Const)
    → name_fault width program ≡ None
    → slice_get program at ≡ Some (d.Global name value)
    → IsFine (outer_scope width (meanings width program) name)
    (optional_demands constant_demands value)

abbrev pub EntriesAreFine : Type 0
EntriesAreFine = (width : Width) (program : List DirectiveTree) (at : ℕ) (name : List ℕ)
    (words : Bool) (entries : List Const)
    → name_fault width program ≡ None
    → slice_get program at ≡ Some (d.Array name words entries)
    → IsFine (outer_scope width (meanings width program) name) (constants_demands entries)

abbrev pub BodiesAreFine : Type 0
BodiesAreFine = (width : Width) (program : List DirectiveTree) (at : ℕ) (routine : RoutineTree)
    → name_fault width program ≡ None
    → slice_get program at ≡ Some (d.Routine routine)
    → IsFine (routine_scope width (meanings width program) routine)
    (statements_demands no_loop routine.body)

-- `main` is a routine without locals
abbrev pub MainIsARoutine : Type 0
MainIsARoutine = (width : Width) (program : List DirectiveTree)
    → name_fault width program ≡ None
    → (m : Meaning) × (routine : RoutineTree) × (meanings width program main ≡ Some m)
    × IsMeaningOf width program main m (d.Routine routine)
    × (routine.locals ≡ [])

-- ---- places without a fault

-- where no place has a fault, each is fine
abbrev pub FaultlessPlacesAreFine : Type 0
FaultlessPlacesAreFine =
    (scope : Scope) (demands : Demands) → first_fault scope demands ≡ None → IsFine scope demands

-- a called name is no local, and a routine that takes the arguments
abbrev pub CallsAreKnown : Type 0
CallsAreKnown = (scope : Scope) (name : List ℕ) (count : ℕ)
    → fault_at scope (q.Call name count) ≡ None
    → (is_local scope name ≡ false) × (call_fault name count (scope.known name) ≡ None)

-- the name of an array is no local, and that of an array of the kind
abbrev pub ArraysAreKnown : Type 0
ArraysAreKnown = (scope : Scope) (name : List ℕ) (words : Bool)
    → fault_at scope (q.Array name words) ≡ None
    → (is_local scope name ≡ false) × (kind_fault (is_array words) name (scope.known name) ≡ None)

-- the name of a constant is no local, and that of a constant
abbrev pub ConstantsAreKnown : Type 0
ConstantsAreKnown = (scope : Scope) (name : List ℕ)
    → fault_at scope (q.Constant name) ≡ None
    → (is_local scope name ≡ false) × (kind_fault is_constant name (scope.known name) ≡ None)

-- the name of a value is that of a constant or a global where it isn't a local
abbrev pub ValuesAreKnown : Type 0
ValuesAreKnown = (scope : Scope) (name : List ℕ)
    → fault_at scope (q.Value name) ≡ None
    → is_local scope name ≡ false
    → kind_fault has_value name (scope.known name) ≡ None

-- the name of a variable is that of a global where it isn't a local
abbrev pub VariablesAreKnown : Type 0
VariablesAreKnown = (scope : Scope) (name : List ℕ)
    → fault_at scope (q.Variable name) ≡ None
    → is_local scope name ≡ false
    → kind_fault is_global name (scope.known name) ≡ None
