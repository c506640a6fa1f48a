-- The places at which groups are called: each at one, and lines at none of the search and the step.
use Rattle.std.proofs.Common.{◌≡◌, ◌∙◌, arith, ℕ, ◌+◌, ◌==◌, nat_eq, Bool, true, false, ◌||◌, if◌then◌else◌, List, [], ◌∷◌, None, refl, sym, ap, true≢false}
use Rattle.inform_tree.specs.declared.values.Const.TheVariants.{Number}
use Rattle.inform_tree.specs.Statements.{Statements, statements, Cases, MoreCases}
use Rattle.inform_names.specs.declared.enclosures.Enclosure.{Enclosure}
use Rattle.inform_names.specs.Demands.{no_loop, switch_in, statements_demands, cases_demands}
use Rattle.inform_meaning.specs.Tables.{same_name}
use Rattle.scott_types.specs.Action.{verb_of, noun_of}
use Rattle.scott_rules.specs.Groups.{Group}
use Rattle.trans_specs.specs.Tables.{bit}
use Rattle.trans_specs.specs.Names.{group_name, line_name}
use Rattle.trans_specs.specs.Shaped.{demands_calls, routine_calls}
use Rattle.trans_groups.specs.Automatic.{chance, chances, automatic_routine}
use Rattle.trans_groups.specs.Search.{group_tries, for_noun, verb_tries, has_verb, verb_cases, search_routine}

-- ---- by the verbs of groups

-- the groups of a verb that have this name
abbrev pub at_verb : List ℕ → ℕ → List Group → ℕ
at_verb name verb [] = 0
at_verb name verb (g ∷ gs) =
    (if verb_of g.vocab == verb then bit (same_name name (group_name g.head)) else 0)
    + at_verb name verb gs

module _ (name : List ℕ) where
  abbrev calls_in : Enclosure → Statements → ℕ
  calls_in e body = demands_calls name (statements_demands e body)

  abbrev calls_in_cases : Enclosure → Cases → ℕ
  calls_in_cases e cases = demands_calls name (cases_demands e cases)

  -- the case of a verb calls a name as often as groups of that verb have it
  pub tries_calls : (e : Enclosure) (verb : ℕ) (gs : List Group)
      → calls_in e (statements (verb_tries verb gs)) ≡ at_verb name verb gs
  tries_calls e verb [] = refl
  tries_calls e verb (g ∷ gs) =
      by (verb_of g.vocab == verb) (noun_of g.vocab == 0) (tries_calls e verb gs) where
        by : (same none : Bool)
            → calls_in e (statements (verb_tries verb gs)) ≡ at_verb name verb gs
            → calls_in e (statements (if same
            then if none then group_tries g.head (verb_tries verb gs)
            else for_noun (noun_of g.vocab) g.head ∷ verb_tries verb gs else verb_tries verb gs))
            ≡ (if same then bit (same_name name (group_name g.head)) else 0) + at_verb name verb gs
        by true true more = omega (arith, more)
        by true false more = omega (arith, more)
        by false none more = omega (arith, more)

  pub chances_calls : (e : Enclosure) (gs : List Group)
      → calls_in e (statements (chances gs)) ≡ at_verb name 0 gs
  chances_calls e [] = refl
  chances_calls e (g ∷ gs) = by (verb_of g.vocab == 0) (chances_calls e gs) where
    by : (same : Bool) → calls_in e (statements (chances gs)) ≡ at_verb name 0 gs
        → calls_in e (statements (if same then chance (noun_of g.vocab) g.head ∷ chances gs
        else chances gs))
        ≡ (if same then bit (same_name name (group_name g.head)) else 0) + at_verb name 0 gs
    by true more = omega (arith, more)
    by false more = omega (arith, more)

  -- the cases of groups, by what each case has
  module _ (e : Enclosure) (all : List Group) where
    abbrev FirstCalls : Bool → Bool → Group → List Group → ℕ
    FirstCalls none again g gs = calls_in_cases e (if none || again then verb_cases all gs
        else MoreCases ((Number (verb_of g.vocab), None) ∷ [])
        (statements (verb_tries (verb_of g.vocab) all)) (verb_cases all gs))

    pub cases_none : ((verb : ℕ) → (verb == 0) ≡ false → at_verb name verb all ≡ 0)
        → (gs : List Group) → calls_in_cases e (verb_cases all gs) ≡ 0
    cases_none each [] = refl
    cases_none each (g ∷ gs) = by (verb_of g.vocab == 0) (has_verb (verb_of g.vocab) gs) refl
        (cases_none each gs) where
          by : (none again : Bool) → (verb_of g.vocab == 0) ≡ none
              → calls_in_cases e (verb_cases all gs) ≡ 0 → FirstCalls none again g gs ≡ 0
          by true again is more = more
          by false true is more = more
          by false false is more = omega (
            arith,
            more,
            each (verb_of g.vocab) is,
            tries_calls e (verb_of g.vocab) all,
          )

    -- where the groups of that name are of one verb, and one is there
    pub cases_one : (v : ℕ) → (v == 0) ≡ false
        → ((verb : ℕ) → at_verb name verb all ≡ bit (v == verb)) → (gs : List Group)
        → calls_in_cases e (verb_cases all gs) ≡ bit (has_verb v gs)
    cases_one v some each [] = refl
    cases_one v some each (g ∷ gs) = by (verb_of g.vocab == 0) (has_verb (verb_of g.vocab) gs)
        (verb_of g.vocab == v) refl refl refl (cases_one v some each gs) where
          same_number : (a b : ℕ) → nat_eq a b ≡ true → a ≡ b
          same_number a b h = grind (arith, h)

          turned : (a b : ℕ) → nat_eq a b ≡ nat_eq b a
          turned a b = grind arith

          each_is : (same : Bool) → (verb_of g.vocab == v) ≡ same
              → calls_in e (statements (verb_tries (verb_of g.vocab) all)) ≡ bit same
          each_is same is = tries_calls e (verb_of g.vocab) all ∙ each (verb_of g.vocab)
              ∙ ap bit (turned v (verb_of g.vocab) ∙ is)

          gone : (verb_of g.vocab == v) ≡ true → {again : Bool}
              → has_verb (verb_of g.vocab) gs ≡ again → has_verb v gs ≡ again
          gone is later =
              ap (λ n. has_verb n gs) (sym (same_number (verb_of g.vocab) v is)) ∙ later

          by : (none again same : Bool) → (verb_of g.vocab == 0) ≡ none
              → has_verb (verb_of g.vocab) gs ≡ again → (verb_of g.vocab == v) ≡ same
              → calls_in_cases e (verb_cases all gs) ≡ bit (has_verb v gs)
              → FirstCalls none again g gs ≡ bit (same || has_verb v gs)
          by true again true none later is more = absurd (true≢false (sym none
              ∙ ap (λ n. n == 0) (same_number (verb_of g.vocab) v is) ∙ some))
          by true again false none later is more = more
          by false true true none later is more = more ∙ ap bit (gone is later)
          by false true false none later is more = more
          by false false true none later is more =
              omega (arith, each_is true is, more ∙ ap bit (gone is later))
          by false false false none later is more = omega (arith, each_is false is, more)

-- ---- lines

no_line : (k verb : ℕ) (gs : List Group) → at_verb (line_name k) verb gs ≡ 0
no_line k verb [] = refl
no_line k verb (g ∷ gs) = by (verb_of g.vocab == verb) (no_line k verb gs) where
  by : (same : Bool) → at_verb (line_name k) verb gs ≡ 0
      → (if same then bit (same_name (line_name k) (group_name g.head)) else 0)
      + at_verb (line_name k) verb gs ≡ 0
  by true more = omega (arith, more)
  by false more = omega (arith, more)

-- neither the search nor the automatic step calls one
pub search_calls_none : (gs : List Group) (k : ℕ)
    → routine_calls (line_name k) (search_routine gs) ≡ 0
search_calls_none gs k = omega (
  arith,
  cases_none (line_name k) (switch_in no_loop) gs (λ verb some. no_line k verb gs) gs,
)

pub step_calls_none : (gs : List Group) (k : ℕ)
    → routine_calls (line_name k) (automatic_routine gs) ≡ 0
step_calls_none gs k = omega (arith, chances_calls (line_name k) no_loop gs, no_line k 0 gs)
