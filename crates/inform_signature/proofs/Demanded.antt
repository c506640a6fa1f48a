-- What a signature meets has no fault where its names are known.
use Rattle.std.proofs.Common.{◌≡◌, ◌∙◌, arith, ℕ, nat_lt, Bool, true, false, not, ◌&&◌, ◌||◌, if◌then◌else◌, List, [], ◌∷◌, Option, Some, None, option_map, unwrap_or, refl, sym, ap, subst}
use Rattle.std.specs.Option.{option_or}
use Rattle.std.specs.Str.{bytes_eq}
use Rattle.std.proofs.lemmas.Bool.{and_parts}
use Rattle.std.proofs.lemmas.Slice.Eq.{bytes_eq-Decides}
use Rattle.inform_tree.specs.declared.widths.Width.{Width}
use Rattle.inform_tree.specs.declared.widths.Width.TheVariants.{W16, W32}
use Rattle.inform_names.specs.declared.meanings.Kind.{Kind}
use Rattle.inform_names.specs.declared.meanings.Kind.TheVariants as k
use Rattle.inform_names.specs.declared.meanings.Meaning.{Meaning}
use Rattle.inform_names.specs.declared.limits.TheConstants.{ARGUMENT_LIMIT}
use Rattle.inform_names.specs.Words.{is_wide}
use Rattle.inform_names.specs.Meanings.{Known}
use Rattle.inform_names.specs.Demands as q
use Rattle.inform_names.specs.Demands.{Demand, Demands}
use Rattle.inform_names.specs.Faults.{Fault, wide_number, wrong_kind, too_many_arguments, outside, fault_if}
use Rattle.inform_names.specs.Places.{Scope, is_one_of, is_global, is_array, has_value, kind_fault, arguments_fault, call_fault, fault_at, first_fault}
use Rattle.inform_signature.specs.Signatures.{Sign, IsKnown, Knows, kind_in, is_kind, takes, is_narrow, is_met, are_met}
use Rattle.inform_signature.specs.Laws.{MetDemandsAreFine}

-- ---- names

pub no_fault : (wrong : Bool) (fault : Fault) → wrong ≡ false → fault_if wrong fault ≡ None
no_fault true fault h = cc
no_fault false fault h = refl

-- what a signature says of a name is known
known_as : (known : Known) (signs : List Sign) (name : List ℕ) (kind : Kind) → Knows known signs
    → kind_in signs name ≡ Some kind → IsKnown known (name, kind)
known_as known [] name kind knows is = cc
known_as known (sign ∷ signs) name kind knows is =
    by (bytes_eq name sign.0) refl is (known_as known signs name kind knows.1) where
      by : (same : Bool) → bytes_eq name sign.0 ≡ same
          → (if same then Some sign.1 else kind_in signs name) ≡ Some kind
          → (kind_in signs name ≡ Some kind → IsKnown known (name, kind))
          → IsKnown known (name, kind)
      by true same is later = ap (λ n. option_map (λ m. m.kind) (known n))
          ((bytes_eq-Decides name sign.0).0 same) ∙ knows.0 ∙ is
      by false same is later = later is

-- one kind
some_is : {a b : Kind} → Some a ≡ Some b → a ≡ b
some_is {a} h = ap (λ (o : Option Kind). unwrap_or o a) h

-- a name that is of the kind that is demanded
of_kind : (test : Kind → Bool) (name : List ℕ) (o : Option Meaning) (kind : Kind)
    → option_map (λ m. m.kind) o ≡ Some kind → test kind ≡ true → kind_fault test name o ≡ None
of_kind test name None kind is passes = cc
of_kind test name (Some m) kind is passes = no_fault (not (test m.kind)) (wrong_kind name)
    (ap not (ap test (some_is is) ∙ passes))

-- a routine that takes the arguments
taken : (name : List ℕ) (count : ℕ) (o : Option Meaning) (kind : Kind)
    → option_map (λ m. m.kind) o ≡ Some kind → takes count kind ≡ true
    → call_fault name count o ≡ None
taken name count None kind is passes = cc
taken name count (Some m) kind is passes = subst (λ kind. arguments_fault name count kind ≡ None)
    (some_is (sym is)) (by kind passes) where
      by : (kind : Kind) → takes count kind ≡ true → arguments_fault name count kind ≡ None
      by (k.Constant value) h = cc
      by k.Global h = cc
      by (k.Array words) h = cc
      by (k.Routine locals) h = no_fault (nat_lt ARGUMENT_LIMIT count || nat_lt locals count)
          (too_many_arguments name) (grind (arith, h))

module _ (scope : Scope) (signs : List Sign) (knows : Knows scope.known signs) where
  of_kind_in : (test : Kind → Bool) (name : List ℕ) (o : Option Kind) → kind_in signs name ≡ o
      → is_kind test o ≡ true → kind_fault test name (scope.known name) ≡ None
  of_kind_in test name None is passes = cc
  of_kind_in test name (Some kind) is passes =
      of_kind test name (scope.known name) kind (known_as scope.known signs name kind knows is)
      passes

  taken_in : (name : List ℕ) (count : ℕ) (o : Option Kind) → kind_in signs name ≡ o
      → is_kind (takes count) o ≡ true → call_fault name count (scope.known name) ≡ None
  taken_in name count None is passes = cc
  taken_in name count (Some kind) is passes =
      taken name count (scope.known name) kind (known_as scope.known signs name kind knows is)
      passes

  -- a local, or a name of the kind
  or_kind : (test : Kind → Bool) (name : List ℕ) (local : Bool)
      → local || is_kind test (kind_in signs name) ≡ true
      → (if local then None else kind_fault test name (scope.known name)) ≡ None
  or_kind test name true h = refl
  or_kind test name false h = of_kind_in test name (kind_in signs name) refl h

  -- no local, and what is demanded
  and_fine : (local met : Bool) (fault : Fault) (o : Option Fault) → not local && met ≡ true
      → (met ≡ true → o ≡ None) → (if local then Some fault else o) ≡ None
  and_fine true met fault o h fine = cc
  and_fine false met fault o h fine = fine h

  not_wide : (width : Width) (n : ℕ) → is_narrow width n ≡ true → is_wide width n ≡ false
  not_wide W16 n h = grind (arith, h)
  not_wide W32 n h = refl

  -- a demand that the signature meets has no fault
  one : (demand : Demand) → is_met scope.width signs scope.locals demand ≡ true
      → fault_at scope demand ≡ None
  one (q.Number n) h = no_fault (is_wide scope.width n) (wide_number n) (not_wide scope.width n h)
  one (q.Constant name) h = cc
  one (q.Value name) h = or_kind has_value name (is_one_of name scope.locals) h
  one (q.Variable name) h = or_kind is_global name (is_one_of name scope.locals) h
  one (q.Array name words) h = and_fine (is_one_of name scope.locals)
      (is_kind (is_array words) (kind_in signs name)) (wrong_kind name)
      (kind_fault (is_array words) name (scope.known name)) h
      (of_kind_in (is_array words) name (kind_in signs name) refl)
  one (q.Call name count) h = and_fine (is_one_of name scope.locals)
      (is_kind (takes count) (kind_in signs name)) (wrong_kind name)
      (call_fault name count (scope.known name)) h (taken_in name count (kind_in signs name) refl)
  one (q.Leave has_loop) h = no_fault (not has_loop) (outside scope.directive) (ap not h)

  all : (demands : Demands) → are_met scope.width signs scope.locals demands ≡ true
      → first_fault scope demands ≡ None
  all q.Nothing h = refl
  all (q.One demand) h = one demand h
  all (q.Both first rest) h = let
      parts = and_parts (are_met scope.width signs scope.locals first)
      (are_met scope.width signs scope.locals rest) h in
      ap (λ o. option_or o (first_fault scope rest)) (all first parts.0) ∙ all rest parts.1

pub met_demands_are_fine : MetDemandsAreFine
met_demands_are_fine scope signs demands knows met = all scope signs knows demands met
