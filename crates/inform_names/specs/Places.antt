-- What is wrong at a place, and the first place at which something is.
use Rattle.std.specs.Prelude.{ℕ, ◌≡◌, nat_lt, Bool, true, false, not, ◌||◌, if◌then◌else◌, List, [], ◌∷◌, ◌++◌, map, Option, Some, None, ⊤}
use Rattle.std.specs.List.{list_any}
use Rattle.std.specs.Option.{option_or}
use Rattle.std.specs.Str.{bytes_eq}
use Rattle.inform_tree.specs.declared.widths.Width.{Width}
use Rattle.inform_names.specs.declared.meanings.Kind.{Kind}
use Rattle.inform_names.specs.declared.meanings.Kind.TheVariants as k
use Rattle.inform_names.specs.declared.meanings.Meaning.{Meaning}
use Rattle.inform_names.specs.declared.limits.TheConstants.{ARGUMENT_LIMIT}
use Rattle.inform_names.specs.Words.{is_wide}
use Rattle.inform_names.specs.Meanings.{Known}
use Rattle.inform_names.specs.Demands as d
use Rattle.inform_names.specs.Demands.{Demand, Demands}
use Rattle.inform_names.specs.Faults.{Fault, missing, wrong_kind, too_many_arguments, wide_number, outside, fault_if, first_of}

-- ---- scopes

-- where a place stands: the width, the names that are known there, and the directive with its
-- locals
pub record Scope : Type 0 where
  pub width : Width
  pub known : Known
  pub directive : List ℕ
  pub locals : List (List ℕ)

-- whether a name is one of these
abbrev pub is_one_of : List ℕ → List (List ℕ) → Bool
is_one_of name names = list_any (bytes_eq name) names

-- whether a name is a local, which hides what else it means
abbrev pub is_local : Scope → List ℕ → Bool
is_local scope name = is_one_of name scope.locals

-- ---- kinds

abbrev pub is_constant : Kind → Bool
is_constant (k.Constant value) = true
is_constant k.Global = false
is_constant (k.Array words) = false
is_constant (k.Routine locals) = false

abbrev pub is_global : Kind → Bool
is_global (k.Constant value) = false
is_global k.Global = true
is_global (k.Array words) = false
is_global (k.Routine locals) = false

-- an array of words, or one of bytes
abbrev pub is_array : Bool → Kind → Bool
is_array words (k.Constant value) = false
is_array words k.Global = false
is_array words (k.Array other) = if words then other else not other
is_array words (k.Routine locals) = false

-- what has a value by its name alone
abbrev pub has_value : Kind → Bool
has_value (k.Constant value) = true
has_value k.Global = true
has_value (k.Array words) = false
has_value (k.Routine locals) = false

-- ---- what is wrong at a place

-- a name that has to be of a kind that passes this test
abbrev pub kind_fault : (Kind → Bool) → List ℕ → Option Meaning → Option Fault
kind_fault test name None = Some (missing name)
kind_fault test name (Some m) = fault_if (not (test m.kind)) (wrong_kind name)

-- a call of something of this kind with so many arguments
abbrev pub arguments_fault : List ℕ → ℕ → Kind → Option Fault
arguments_fault name count (k.Constant value) = Some (wrong_kind name)
arguments_fault name count k.Global = Some (wrong_kind name)
arguments_fault name count (k.Array words) = Some (wrong_kind name)
arguments_fault name count (k.Routine locals) =
    fault_if (nat_lt ARGUMENT_LIMIT count || nat_lt locals count) (too_many_arguments name)

-- a call of this name
abbrev pub call_fault : List ℕ → ℕ → Option Meaning → Option Fault
call_fault name count None = Some (missing name)
call_fault name count (Some m) = arguments_fault name count m.kind

abbrev pub fault_at : Scope → Demand → Option Fault
fault_at scope (d.Number n) = fault_if (is_wide scope.width n) (wide_number n)
fault_at scope (d.Constant name) = if is_local scope name then Some (wrong_kind name)
    else kind_fault is_constant name (scope.known name)
fault_at scope (d.Value name) =
    if is_local scope name then None else kind_fault has_value name (scope.known name)
fault_at scope (d.Variable name) =
    if is_local scope name then None else kind_fault is_global name (scope.known name)
fault_at scope (d.Array name words) = if is_local scope name then Some (wrong_kind name)
    else kind_fault (is_array words) name (scope.known name)
fault_at scope (d.Call name count) =
    if is_local scope name then Some (wrong_kind name) else call_fault name count (scope.known name)
fault_at scope (d.Leave has_loop) = fault_if (not has_loop) (outside scope.directive)

-- ---- the first fault

abbrev pub first_fault : Scope → Demands → Option Fault
first_fault scope d.Nothing = None
first_fault scope (d.One demand) = fault_at scope demand
first_fault scope (d.Both first rest) = option_or (first_fault scope first) (first_fault scope rest)

-- nothing is wrong at any of these places
abbrev pub IsFine : Scope → Demands → Type 0
IsFine scope d.Nothing = ⊤
IsFine scope (d.One demand) = fault_at scope demand ≡ None
IsFine scope (d.Both first rest) = IsFine scope first × IsFine scope rest

-- ---- the same over the list of all places

abbrev pub listed : Demands → List Demand
listed d.Nothing = []
listed (d.One demand) = demand ∷ []
listed (d.Both first rest) = listed first ++ listed rest

-- the first fault is that of the first place in the list that has one
abbrev pub FirstOfTheList : Type 0
FirstOfTheList = (scope : Scope) (demands : Demands)
    → first_fault scope demands ≡ first_of (map (fault_at scope) (listed demands))
