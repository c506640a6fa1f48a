-- What is known of a program that has the routines of lines.
use Rattle.std.proofs.Common.{◌≡◌, ◌∙◌, ℕ, zero, suc, Bool, true, false, cond, List, [], ◌∷◌, map, filter, codes, Option, Some, None, refl, sym, true≢false}
use Rattle.std.specs.Prelude.{⊤, is_none}
use Rattle.std.specs.List.{AllByRecursion, list_all, list_any}
use Rattle.std.proofs.lemmas.Bool.{and_parts}
use Rattle.inform_meaning.specs.Worlds.{Program}
use Rattle.inform_logic.specs.Holding.{Holds, Has}
use Rattle.inform_logic.proofs.Holding.{has}
use Rattle.inform_codes.specs.Codes.{name_in}
use Rattle.inform_codes.specs.Routines.{Row, row_routine, rows_directives}
use Rattle.scott_types.specs.declared.styles.Style.{Style}
use Rattle.scott_types.specs.Database.{Database}
use Rattle.scott_types.specs.Limits.{KeepsLimits}
use Rattle.scott_types.specs.Style.{in_style}
use Rattle.scott_rules.specs.Laws.{OpcodeFits}
use Rattle.trans_specs.specs.Wide.{is_word_of}
use Rattle.trans_specs.specs.Names.{line_number}
use Rattle.trans_specs.specs.Writes.{GlobalsWritten, EntriesWritten}
use Rattle.trans_specs.specs.Laws.{NumbersAreTheirWords, LinesHaveWords}
use Rattle.trans_specs.specs.DataSpecs.{DataSpecs}
use Rattle.trans_specs.specs.HelperSpecs.{HelperSpecs}
use Rattle.trans_actions.specs.declared.table.Kind.TheVariants.{Condition, Opcode}
use Rattle.trans_actions.specs.Names.{action_names, numbers, helper_names}
use Rattle.trans_actions.specs.Helpers.{uses, Helper, conditions, opcodes, refill, used_rows}
use Rattle.trans_actions.specs.Laws.{HasMessages}

-- the laws on which the proofs stand
pub record Laws : Type 0 where
  pub opcode_fits : OpcodeFits
  pub globals_written : GlobalsWritten
  pub entries_written : EntriesWritten
  pub their_words : NumbersAreTheirWords
  pub have_words : LinesHaveWords

-- where a line uses one of its numbers, the program has the routine, and doesn't note it
abbrev pub Own : Style → Database → Program → (ℕ → Bool) → Helper → Type 0
Own style db p test h = list_any test h.0 ≡ true
    → Has p (row_routine (action_names style) (numbers db) h.1)

pub record Known (style : Style) (db : Database) (p : Program) : Type 0 where
  pub limits : KeepsLimits db
  pub laws : Laws
  pub light_word : is_word_of p.width db.header.light ≡ true
  pub helpers : HelperSpecs (in_style style db) p helper_names
  pub texts : DataSpecs (in_style style db) p (codes "look") (codes "inventory") (codes "score")
      (codes "burn")
  pub messages : HasMessages db p
  pub conditions : AllByRecursion (Own style db p (uses Condition db)) conditions
  pub opcodes : AllByRecursion (Own style db p (uses Opcode db)) opcodes
  pub refill : AllByRecursion (Own style db p (uses Opcode db)) (refill db.header.light)

-- ---- each by its place in its table

abbrev pub AtPlace : {X : Type 0} → (X → Type 0) → List X → ℕ → Type 0
AtPlace P [] n = ⊤
AtPlace P (x ∷ xs) zero = P x
AtPlace P (x ∷ xs) (suc n) = AtPlace P xs n

pub at_place : {X : Type 0} (P : X → Type 0) (xs : List X) (n : ℕ) → AllByRecursion P xs
    → AtPlace P xs n
at_place P [] n h = tt
at_place P (x ∷ xs) zero h = h.0
at_place P (x ∷ xs) (suc n) h = at_place P xs n h.1

pub condition_there : {style : Style} {db : Database} {p : Program} → Known style db p → (n : ℕ)
    → AtPlace (Own style db p (uses Condition db)) conditions n
condition_there {style} {db} {p} known n =
    at_place (Own style db p (uses Condition db)) conditions n known.conditions

pub opcode_there : {style : Style} {db : Database} {p : Program} → Known style db p → (n : ℕ)
    → AtPlace (Own style db p (uses Opcode db)) opcodes n
opcode_there {style} {db} {p} known n =
    at_place (Own style db p (uses Opcode db)) opcodes n known.opcodes

-- ---- the routines of a program

-- a routine isn't named as a line
abbrev pub is_unnoted : Style → Helper → Bool
is_unnoted style h = is_none (line_number (name_in (action_names style) h.1.0))

module _ (style : Style) (db : Database) (p : Program)
    (unnoted : (name : List ℕ) (at : ℕ) → p.notes name at ≡ line_number name) where
  absent : (name : List ℕ) → is_none (line_number name) ≡ true → line_number name ≡ None
  absent name h = none (line_number name) h where
    none : (o : Option ℕ) → is_none o ≡ true → o ≡ None
    none None h = refl
    none (Some k) h = cc

  module _ (test : ℕ → Bool) where
    abbrev rows : List Helper → List Row
    rows hs = used_rows test hs

    pub own_rows : (hs : List Helper) → list_all (is_unnoted style) hs ≡ true
        → Holds p (rows_directives (action_names style) (numbers db) (rows hs))
        → AllByRecursion (Own style db p test) hs
    own_rows [] named h = tt
    own_rows (x ∷ hs) named h = by (list_any test x.0) refl h (own_rows hs parts.1) where
      parts : (is_unnoted style x ≡ true) × (list_all (is_unnoted style) hs ≡ true)
      parts = and_parts (is_unnoted style x) (list_all (is_unnoted style) hs) named

      by : (b : Bool) → list_any test x.0 ≡ b
          → Holds p (rows_directives (action_names style) (numbers db)
          (map (λ h. h.1) (cond b (x ∷ filter (λ h. list_any test h.0) hs)
          (filter (λ h. list_any test h.0) hs))))
          → (Holds p (rows_directives (action_names style) (numbers db) (rows hs))
          → AllByRecursion (Own style db p test) hs)
          → AllByRecursion (Own style db p test) (x ∷ hs)
      by true is h more = (
        λ used. has p h.0 (unnoted (name_in (action_names style) x.1.0) h.0.0
            ∙ absent (name_in (action_names style) x.1.0) parts.0),
        more h.1,
      )
      by false is h more = (λ used. absurd (true≢false (sym used ∙ is)), more h)
