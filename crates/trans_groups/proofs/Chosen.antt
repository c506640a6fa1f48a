-- The case of a verb is chosen, where one is there.
use Rattle.std.proofs.Common.{◌≡◌, ◌∙◌, arith, ℕ, ◌+◌, ◌==◌, ◌<◌, pos, nat_eq, Bool, true, false, ◌&&◌, ◌||◌, if◌then◌else◌, List, [], ◌∷◌, Option, None, refl, sym, subst}
use Rattle.std.specs.List.{AllByRecursion}
use Rattle.adv_io.specs.Steps.{traced}
use Rattle.inform_tree.specs.declared.values.Const.TheVariants.{Number}
use Rattle.inform_tree.specs.Statements.{statements, MoreCases, NoDefault}
use Rattle.inform_meaning.specs.Words.{number_word}
use Rattle.inform_meaning.specs.Worlds.{Program, Scope}
use Rattle.inform_meaning.specs.Frames.{Outcome, Normal}
use Rattle.inform_logic.specs.Stages.{Stage}
use Rattle.inform_logic.specs.Leading.{Leads, TheCases, Runs}
use Rattle.inform_logic.proofs.Choices.{one_word}
use Rattle.inform_logic.proofs.Statements.{this_case, later_case, no_default}
use Rattle.scott_types.specs.declared.parts.Action.{Action}
use Rattle.scott_types.specs.declared.states.State.{State}
use Rattle.scott_types.specs.declared.endings.Found.TheVariants.{NoMatch}
use Rattle.scott_types.specs.Style.{Game}
use Rattle.scott_types.specs.Action.{verb_of, noun_of}
use Rattle.scott_rules.specs.Groups.{Group, tail_of, groups_of}
use Rattle.scott_rules.specs.Search.{is_for_noun, search_group, search_result}
use Rattle.trans_specs.specs.Laws.{HasWords, NumbersAreTheirWords}
use Rattle.trans_groups.specs.Search.{verb_tries, has_verb, verb_cases}

-- each verb stands for itself in the program
abbrev pub VerbsAreWords : Program → List Group → Type 0
VerbsAreWords p gs =
    AllByRecursion (λ g. number_word p.width (verb_of g.vocab) ≡ pos (verb_of g.vocab)) gs

-- the verbs of the groups are their own words, where the numbers of the lines are words
pub verbs_are_words : (p : Program) → NumbersAreTheirWords → (k : ℕ) (actions : List Action)
    → AllByRecursion (HasWords p.width) actions → VerbsAreWords p (groups_of k actions)
verbs_are_words p own k [] words = tt
verbs_are_words p own k (a ∷ actions) words =
    by (a.vocab == 0) (verbs_are_words p own (k + 1) actions words.1) where
      by : (plain : Bool) → VerbsAreWords p (groups_of (k + 1) actions)
          → VerbsAreWords p (if plain then groups_of (k + 1) actions
          else record { head = k; vocab = a.vocab; tail = tail_of (k + 1) actions }
          ∷ groups_of (k + 1) actions)
      by true more = more
      by false more = (own p.width (verb_of a.vocab) words.0.verb, more)

-- ---- numbers

same_number : (a b : ℕ) → nat_eq a b ≡ true → a ≡ b
same_number a b h = grind (arith, h)

turned : (a b : ℕ) {same : Bool} → nat_eq a b ≡ same → nat_eq b a ≡ same
turned a b {same} h = back a b ∙ h where
  back : (a b : ℕ) → nat_eq b a ≡ nat_eq a b
  back a b = grind arith

not_both : (own verb : ℕ) → 0 < verb → nat_eq own 0 ≡ true → nat_eq own verb ≡ true → ⊥
not_both own verb some zero same = absurd (omega (
  arith,
  some,
  same_number own 0 zero,
  same_number own verb same,
))

-- ---- the cases

module _ (p : Program) (d : ℕ) (scope : Scope) (w : Stage) (all : List Group) (verb : ℕ)
    (some : 0 < verb) where
  -- from these groups on
  abbrev Chooses : List Group → Outcome → Scope → Stage → ℕ → Type 0
  Chooses gs = Leads p d (TheCases (pos verb) (verb_cases all gs) NoDefault) scope w

  -- the case of a group's verb, where it is its last, and those of the others
  abbrev FirstChooses : Bool → Bool → Group → List Group → Outcome → Scope → Stage → ℕ → Type 0
  FirstChooses zero again g gs = Leads p d (TheCases (pos verb) (if zero || again
      then verb_cases all gs
      else MoreCases ((Number (verb_of g.vocab), None) ∷ [])
      (statements (verb_tries (verb_of g.vocab) all)) (verb_cases all gs)) NoDefault) scope w

  module _ (e : Outcome) (last : Scope) (w' : Stage) (n : ℕ) where
    -- the case is there
    pub chosen : (gs : List Group) → VerbsAreWords p gs → has_verb verb gs ≡ true
        → Runs p d (statements (verb_tries verb all)) scope w e last w' n → Chooses gs e last w' n
    chosen [] words h run = cc
    chosen (g ∷ gs) words h run = by (verb_of g.vocab == 0) (has_verb (verb_of g.vocab) gs)
        (verb_of g.vocab == verb) refl refl refl h
        (λ more. chosen gs words.1 more run) where
          own : (same : Bool) → (verb_of g.vocab == verb) ≡ same → nat_eq verb (verb_of g.vocab) ≡
              same
          own same is = turned (verb_of g.vocab) verb is

          by : (zero again same : Bool) → (verb_of g.vocab == 0) ≡ zero
              → has_verb (verb_of g.vocab) gs ≡ again → (verb_of g.vocab == verb) ≡ same
              → same || has_verb verb gs ≡ true
              → (has_verb verb gs ≡ true → Chooses gs e last w' n)
              → FirstChooses zero again g gs e last w' n
          by true again true none later same h more =
              absurd (not_both (verb_of g.vocab) verb some none same)
          by true again false none later same h more = more h
          by false true true none later same h more = more (subst (λ v. has_verb v gs ≡ true)
              (same_number (verb_of g.vocab) verb same) later)
          by false true false none later same h more = more h
          by false false true none later same h more =
              this_case (one_word words.0 (own true same))
              (subst (λ v. Runs p d (statements (verb_tries v all)) scope w e last w' n)
              (sym (same_number (verb_of g.vocab) verb same)) run)
          by false false false none later same h more =
              later_case (one_word words.0 (own false same)) (more h)

  -- no case is there
  pub none_chosen : (gs : List Group) → VerbsAreWords p gs → has_verb verb gs ≡ false
      → Chooses gs Normal scope w 0
  none_chosen [] words h = no_default
  none_chosen (g ∷ gs) words h = by (verb_of g.vocab == 0) (has_verb (verb_of g.vocab) gs)
      (verb_of g.vocab == verb) refl h (none_chosen gs words.1) where
        by : (zero again same : Bool) → (verb_of g.vocab == verb) ≡ same
            → same || has_verb verb gs ≡ false
            → (has_verb verb gs ≡ false → Chooses gs Normal scope w 0)
            → FirstChooses zero again g gs Normal scope w 0
        by zero again true same h more = cc
        by true again false same h more = more h
        by false true false same h more = more h
        by false false false same h more =
            later_case (one_word words.0 (turned (verb_of g.vocab) verb same)) (more h)

-- where no head has the verb, none is found
pub none_found : (game : Game) (typed : List ℕ) (verb : ℕ) (noun : Option ℕ) (gs : List Group)
    (s : State) → has_verb verb gs ≡ false
    → search_result game typed verb noun gs s ≡ traced [] (record { state = s; found = NoMatch })
none_found game typed verb noun [] s h = refl
none_found game typed verb noun (g ∷ gs) s h =
    by (verb_of g.vocab == verb) h (none_found game typed verb noun gs s) where
      by : (same : Bool) → same || has_verb verb gs ≡ false
          → (has_verb verb gs ≡ false → search_result game typed verb noun gs s
          ≡ traced [] (record { state = s; found = NoMatch }))
          → search_group (same && is_for_noun (noun_of g.vocab) noun) game typed g s
          (search_result game typed verb noun gs)
          ≡ traced [] (record { state = s; found = NoMatch })
      by true h more = cc
      by false h more = more h
