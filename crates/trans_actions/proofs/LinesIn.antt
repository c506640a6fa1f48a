-- The routines of lines among the directives: each line that isn't all zeros has one, and no other
-- routine is named as a line.
use Rattle.std.proofs.Common.{◌≡◌, ◌≢◌, ◌∙◌, arith, ℕ, zero, suc, ◌+◌, ◌<◌, ◌≤◌, ◌^◌, Bool, true, false, if◌then◌else◌, List, [], ◌∷◌, drop, length, refl, sym, ap, subst, true≢false}
use Rattle.std.specs.Prelude.{slice_index_or}
use Rattle.std.specs.List.{AllByRecursion}
use Rattle.std.proofs.lemmas.Fmt.{decimal_injective}
use Rattle.inform_tree.specs.Programs.{DirectiveTree, Routine}
use Rattle.inform_names.specs.Meanings.{name_of}
use Rattle.inform_logic.specs.Holding.{Distinct}
use Rattle.inform_signature.proofs.Elements.{element_at}
use Rattle.scott_types.specs.declared.parts.Action.{Action}
use Rattle.scott_types.specs.Database.{Database, action_at}
use Rattle.scott_types.specs.Action.{is_zero_action}
use Rattle.trans_specs.specs.Names.{line_name}
use Rattle.trans_specs.specs.Lines.{line_routine}
use Rattle.trans_specs.specs.ActionSpecs.{HasLineRoutine}
use Rattle.trans_specs.specs.Shaped.{IsIn}
use Rattle.trans_actions.specs.Directives.{routine_of_line, lines_from, line_directives}

-- ---- lines

abbrev none : Action
none = record { vocab = 0; conds = []; pairs = [] }

module _ (db : Database) where
  -- those from number j on have the routine of each that isn't all zeros
  line_in : (j : ℕ) (actions : List Action) (i : ℕ) → i < length actions
      → is_zero_action (slice_index_or actions i none) ≡ false
      → IsIn (Routine (routine_of_line db (j + i) (slice_index_or actions i none)))
      (lines_from db j actions)
  line_in j [] i less other = absurd (omega (arith, less))
  line_in j (a ∷ actions) i less other =
      by (is_zero_action a) refl i less other (line_in (j + 1) actions) where
        by : (zeros : Bool) → is_zero_action a ≡ zeros → (i : ℕ) → i < suc (length actions)
            → is_zero_action (slice_index_or (a ∷ actions) i none) ≡ false
            → ((i : ℕ) → i < length actions
            → is_zero_action (slice_index_or actions i none) ≡ false
            → IsIn (Routine (routine_of_line db (j + 1 + i) (slice_index_or actions i none)))
            (lines_from db (j + 1) actions))
            → IsIn (Routine (routine_of_line db (j + i) (slice_index_or (a ∷ actions) i none)))
            (if zeros then lines_from db (j + 1) actions
            else Routine (routine_of_line db j a) ∷ lines_from db (j + 1) actions)
        by true is zero less other more = absurd (true≢false (sym is ∙ other))
        by false is zero less other more = let at : j ≡ j + 0 = omega arith in
            subst (λ n. IsIn (Routine (routine_of_line db n a))
            (Routine (routine_of_line db j a) ∷ lines_from db (j + 1) actions)) at (0, refl)
        by true is (suc i) less other more = let at : j + 1 + i ≡ j + suc i = omega arith in
            subst (λ n. IsIn (Routine (routine_of_line db n (slice_index_or actions i none)))
            (lines_from db (j + 1) actions)) at (more i (omega (arith, less)) other)
        by false is (suc i) less other more = let at : j + 1 + i ≡ j + suc i = omega arith in
            subst (λ n. IsIn (Routine (routine_of_line db n (slice_index_or actions i none)))
            (Routine (routine_of_line db j a) ∷ lines_from db (j + 1) actions)) at
            (later (lines_from db (j + 1) actions) (more i (omega (arith, less)) other)) where
              later : (rest : List DirectiveTree) → IsIn (Routine (routine_of_line db (j + 1 + i)
                  (slice_index_or actions i none))) rest
                  → IsIn (Routine (routine_of_line db (j + 1 + i) (slice_index_or actions i none)))
                  (Routine (routine_of_line db j a) ∷ rest)
              later rest there = (suc there.0, there.1)

  pub line_is_in : (k : ℕ) → HasLineRoutine db k
      → IsIn (Routine (line_routine db k)) (line_directives db)
  line_is_in k has = let is : 0 + k ≡ k = omega arith in
      subst (λ n. IsIn (Routine (routine_of_line db n (action_at db k))) (line_directives db)) is
      (line_in 0 db.actions k has.there has.not_zero)

  -- ---- what holds of the routine of each line

  module _ (P : DirectiveTree → Type 0)
      (each : (k : ℕ) → HasLineRoutine db k → P (Routine (line_routine db k))) where
    each_from : (j : ℕ) (actions : List Action) → drop j db.actions ≡ actions
        → AllByRecursion P (lines_from db j actions)
    each_from j [] is = tt
    each_from j (a ∷ actions) is =
        by (is_zero_action a) refl (each_from (j + 1) actions at.2) where
          at : (j < length db.actions) × (action_at db j ≡ a) × (drop (j + 1) db.actions ≡ actions)
          at = element_at none db.actions j a actions is

          by : (zeros : Bool) → is_zero_action a ≡ zeros
              → AllByRecursion P (lines_from db (j + 1) actions)
              → AllByRecursion P (if zeros then lines_from db (j + 1) actions
              else Routine (routine_of_line db j a) ∷ lines_from db (j + 1) actions)
          by true own more = more
          by false own more = (
            subst (λ a. P (Routine (routine_of_line db j a))) at.1 (each j
                (record { there = at.0; not_zero = ap is_zero_action at.1 ∙ own })),
            more,
          )

    pub each_line : AllByRecursion P (line_directives db)
    each_line = each_from 0 db.actions refl

-- ---- names

same_number : (m n : ℕ) → m < 2 ^ 64 → n < 2 ^ 64 → line_name m ≡ line_name n → m ≡ n
same_number m n few_m few_n same = decimal_injective m n few_m few_n (ap (drop 5) same)

-- a line of a lower number
lower_apart : (db : Database) (m n : ℕ) (actions : List Action) → m < n
    → n + length actions ≤ 2 ^ 63
    → AllByRecursion (λ y. line_name m ≢ name_of y) (lines_from db n actions)
lower_apart db m n [] less fits = tt
lower_apart db m n (a ∷ actions) less fits = by (is_zero_action a)
    (lower_apart db m (n + 1) actions (omega (arith, less)) (omega (arith, fits))) where
      by : (zeros : Bool)
          → AllByRecursion (λ y. line_name m ≢ name_of y) (lines_from db (n + 1) actions)
          → AllByRecursion (λ y. line_name m ≢ name_of y)
          (if zeros then lines_from db (n + 1) actions
          else Routine (routine_of_line db n a) ∷ lines_from db (n + 1) actions)
      by true more = more
      by false more = (
        λ same. absurd (omega (
          arith,
          less,
          same_number m n (omega (arith, less, fits)) (omega (arith, fits)) same,
        )),
        more,
      )

-- the routines of lines from a number on have distinct names
pub lines_distinct : (db : Database) (n : ℕ) (actions : List Action)
    → n + length actions ≤ 2 ^ 63 → Distinct (lines_from db n actions)
lines_distinct db n [] fits = tt
lines_distinct db n (a ∷ actions) fits = by (is_zero_action a)
    (lines_distinct db (n + 1) actions (omega (arith, fits))) where
      by : (zeros : Bool) → Distinct (lines_from db (n + 1) actions)
          → Distinct (if zeros then lines_from db (n + 1) actions
          else Routine (routine_of_line db n a) ∷ lines_from db (n + 1) actions)
      by true more = more
      by false more =
          (lower_apart db n (n + 1) actions (omega arith) (omega (arith, fits)), more)
