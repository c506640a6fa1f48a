-- Sound routines have no fault, and sound programs are accepted.
use Rattle.std.proofs.Common.{◌≡◌, ◌∙◌, arith, ℕ, ◌+◌, ◌≤◌, ℤ, nat_lt, Bool, true, false, not, ◌&&◌, take, if◌then◌else◌, List, [], ◌∷◌, drop, length, slice_get, Option, Some, None, is_some, option_map, unwrap_or, refl, sym, ap, subst}
use Rattle.std.specs.Prelude.{is_none}
use Rattle.std.specs.List.{AllByRecursion}
use Rattle.std.specs.Option.{option_or}
use Rattle.std.proofs.lemmas.Bool.{and_parts}
use Rattle.inform_tree.specs.declared.widths.Width.{Width}
use Rattle.inform_tree.specs.Programs as d
use Rattle.inform_tree.specs.Programs.{DirectiveTree}
use Rattle.inform_tree.specs.Depths.{routine_depth}
use Rattle.inform_names.specs.declared.meanings.Meaning.{Meaning}
use Rattle.inform_names.specs.declared.limits.TheConstants.{DEEPEST, ENTRY_LIMIT}
use Rattle.inform_names.specs.Meanings.{Known, name_of, kind_of, meanings, earlier, array_length, entry_count, directive_entries}
use Rattle.inform_names.specs.Demands.{statements_demands, no_loop}
use Rattle.inform_names.specs.Faults.{Fault, twice, wrong_size, too_deep, main_locals, no_main, fault_if, first_of}
use Rattle.inform_names.specs.Lookups.{IsLength}
use Rattle.inform_names.specs.Acceptance.{routine_scope, has_wrong_size, size_fault, twice_fault, is_main, has_locals, locals_fault, inner_fault, directives_fault, means_routine, main, main_fault}
use Rattle.inform_names.specs.Laws.{MeaningsAreFirst, MeaningsAreOfDirectives, total_entries}
use Rattle.inform_logic.specs.Holding.{Distinct}
use Rattle.inform_logic.proofs.Lists.{at_rest, after_rest}
use Rattle.inform_logic.proofs.Holding.{meant}
use Rattle.inform_signature.specs.Signatures.{own_kind, signature, IsKnown, Knows, are_met}
use Rattle.inform_signature.specs.Soundness.{is_constant, IsSound}
use Rattle.inform_signature.specs.Laws.{SoundRoutinesAreFaultless, SignatureIsKnown, SoundProgramsAreAccepted}
use Rattle.inform_signature.proofs.Demanded.{no_fault, met_demands_are_fine}

-- ---- routines

is_false : (b : Bool) → not b ≡ true → b ≡ false
is_false true h = cc
is_false false h = refl

is_absent : {X : Type 0} (o : Option X) → is_none o ≡ true → o ≡ None
is_absent None h = refl
is_absent (Some x) h = cc

four_none : {a b c e : Option Fault} → a ≡ None → b ≡ None → c ≡ None → e ≡ None
    → first_of (a ∷ b ∷ c ∷ e ∷ []) ≡ None
four_none {a} {b} {c} {e} ha hb hc he = ap (λ o. first_of (o ∷ b ∷ c ∷ e ∷ [])) ha
    ∙ ap (λ o. first_of (o ∷ c ∷ e ∷ [])) hb ∙ ap (λ o. first_of (o ∷ e ∷ [])) hc
    ∙ ap (λ o. first_of (o ∷ [])) he

two_none : {a b : Option Fault} → a ≡ None → b ≡ None → first_of (a ∷ b ∷ []) ≡ None
two_none {a} {b} ha hb = ap (λ o. first_of (o ∷ b ∷ [])) ha ∙ ap (λ o. first_of (o ∷ [])) hb

-- a routine that is sound under a signature has no fault, where the names of that are known
pub sound_routines_are_faultless : SoundRoutinesAreFaultless
sound_routines_are_faultless width known signs r knows sound = let
    demands = statements_demands no_loop r.body in
    let first = and_parts (not (nat_lt DEEPEST (routine_depth r))) _ sound in
    let second = and_parts (not (is_main r.name && has_locals r.locals)) _ first.1 in
    let third = and_parts (is_none (locals_fault r.name r.locals 0 r.locals))
    (are_met width signs r.locals demands) second.1 in
    four_none (no_fault (nat_lt DEEPEST (routine_depth r)) (too_deep r.name) (is_false _ first.0))
    (no_fault (is_main r.name && has_locals r.locals) main_locals (is_false _ second.0))
    (is_absent (locals_fault r.name r.locals 0 r.locals) third.0)
    (met_demands_are_fine (routine_scope width known r) signs demands knows third.1)

-- ---- what a name is known as

own_is : (width : Width) (known : Known) (x : DirectiveTree) → is_constant x ≡ false
    → kind_of width known x ≡ own_kind x
own_is width known (d.Constant name value) h = cc
own_is width known (d.Global name value) h = refl
own_is width known (d.Array name words entries) h = refl
own_is width known (d.Routine r) h = refl

module _ (first : MeaningsAreFirst) (width : Width) (ds : List DirectiveTree)
    (distinct : Distinct ds) where
  module _ (of : MeaningsAreOfDirectives) where
    known_at : (at : ℕ) (x : DirectiveTree) → slice_get ds at ≡ Some x → is_constant x ≡ false
        → IsKnown (meanings width ds) (name_of x, own_kind x)
    known_at at x there no_constant = by (meanings width ds (name_of x)) refl
        (meant first width ds distinct at x there) where
          by : (o : Option Meaning) → meanings width ds (name_of x) ≡ o
              → option_map (λ m. m.at) o ≡ Some at
              → option_map (λ m. m.kind) (meanings width ds (name_of x)) ≡ Some (own_kind x)
          by None is at_is = cc
          by (Some m) is at_is = let its = of width ds (name_of x) m is in
              let number : m.at ≡ at = ap (λ o. unwrap_or o 0) at_is in
              let same : its.0 ≡ x = ap (λ o. unwrap_or o its.0)
              (sym its.1.0 ∙ ap (slice_get ds) number ∙ there) in
              ap (option_map (λ m. m.kind)) is ∙ ap Some (its.1.2
              ∙ ap (kind_of width (meanings width (take m.at ds))) same
              ∙ own_is width (meanings width (take m.at ds)) x no_constant)

    known_from : (rest : List DirectiveTree) (at : ℕ) → drop at ds ≡ rest
        → AllByRecursion (λ x. is_constant x ≡ false) rest
        → Knows (meanings width ds) (signature rest)
    known_from [] at left all = tt
    known_from (x ∷ rest) at left all = (
      known_at at x (at_rest ds at left) all.0,
      known_from rest (at + 1) (after_rest ds at left) all.1,
    )

  -- ---- directives

  -- where no two directives have one name, none has a name that was there before
  not_twice : (at : ℕ) (x : DirectiveTree) → slice_get ds at ≡ Some x
      → twice_fault (meanings width ds) at (name_of x) ≡ None
  not_twice at x there = by (meanings width ds (name_of x))
      (meant first width ds distinct at x there) where
        by : (o : Option Meaning) → option_map (λ m. m.at) o ≡ Some at
            → fault_if (is_some (earlier at o)) (twice (name_of x)) ≡ None
        by None h = cc
        by (Some m) h = let number : m.at ≡ at = ap (λ o. unwrap_or o 0) h in
            let late : nat_lt m.at at ≡ false = grind (arith, number) in
            no_fault (is_some (earlier at (Some m))) (twice (name_of x))
            (ap (λ b. is_some (if b then Some m else None)) late)

  right_size : (total : ℕ) (name : List ℕ) (length : Option ℤ) → IsLength length
      → total + entry_count length ≤ ENTRY_LIMIT → size_fault total name length ≡ None
  right_size total name length h few = no_fault (has_wrong_size total length) (wrong_size name)
      (subst (λ o. has_wrong_size total o ≡ false) (sym h.1) (grind (
        arith,
        h.2,
        h.3,
        subst (λ o. total + entry_count o ≤ ENTRY_LIMIT) h.1 few,
      )))

  abbrev known : Known
  known = meanings width ds

  inner_fine : (at total : ℕ) (x : DirectiveTree) → IsSound width known x
      → total + directive_entries width known x ≤ ENTRY_LIMIT
      → inner_fault width known at total x ≡ None
  inner_fine at total (d.Constant name value) sound few = absurd sound
  inner_fine at total (d.Global name value) sound few = sound
  inner_fine at total (d.Array name words entries) sound few =
      two_none (right_size total name (array_length width known entries) sound.length_is few)
      sound.fine
  inner_fine at total (d.Routine r) sound few = sound

  -- sound directives have no fault, from any of them on, if all entries keep within the limit
  faultless_from : (rest : List DirectiveTree) (at total : ℕ) → drop at ds ≡ rest
      → AllByRecursion (IsSound width known) rest
      → total + total_entries width known rest ≤ ENTRY_LIMIT
      → directives_fault width known at total rest ≡ None
  faultless_from [] at total left sound few = refl
  faultless_from (x ∷ rest) at total left sound few =
      ap (λ o. option_or o (directives_fault width known (at + 1)
      (total + directive_entries width known x) rest))
      (two_none (not_twice at x (at_rest ds at left))
      (inner_fine at total x sound.0 (omega (arith, few))))
      ∙ faultless_from rest (at + 1) (total + directive_entries width known x)
      (after_rest ds at left) sound.1 (omega (arith, few))

pub signature_is_known : MeaningsAreFirst → MeaningsAreOfDirectives → SignatureIsKnown
signature_is_known first of width ds distinct no_constants =
    known_from first width ds distinct of ds 0 refl no_constants

pub sound_programs_are_accepted : MeaningsAreFirst → SoundProgramsAreAccepted
sound_programs_are_accepted first width ds sound =
    ap (λ o. option_or o (main_fault (meanings width ds)))
    (faultless_from first width ds sound.distinct ds 0 0 refl sound.each (omega (arith, sound.few)))
    ∙ no_fault (not (means_routine (meanings width ds main))) no_main (ap not sound.has_main)
