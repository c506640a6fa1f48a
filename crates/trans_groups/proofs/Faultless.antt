-- The routines that try groups have no fault where the names that they take for granted are known.
use Rattle.std.proofs.Common.{◌≡◌, ◌∙◌, arith, ℕ, ◌+◌, ◌==◌, ◌<◌, ◌%◌, pos, nat_lt, nat_le, Bool, true, false, not, cond, ◌||◌, if◌then◌else◌, List, [], ◌∷◌, map, length, codes, Option, Some, None, option_map, unwrap_or, refl, ap}
use Rattle.std.specs.List.{AllByRecursion, list_all}
use Rattle.std.proofs.lemmas.Bool.{and_parts}
use Rattle.std.proofs.lemmas.Int.{ints}
use Rattle.inform_tree.specs.declared.widths.Width.{Width}
use Rattle.inform_tree.specs.declared.widths.Width.TheVariants.{W16, W32}
use Rattle.inform_tree.specs.declared.values.Const.TheVariants.{Number}
use Rattle.inform_tree.specs.declared.formed_programs.TheConstants.{DEPTH_LIMIT}
use Rattle.inform_tree.specs.Statements.{Statement, statements, Cases, MoreCases}
use Rattle.inform_tree.specs.Programs.{RoutineTree, Routine}
use Rattle.inform_tree.specs.Words.{is_name}
use Rattle.inform_tree.specs.Depths.{routine_depth}
use Rattle.inform_tree.specs.Formed.{are_formed_statements, is_formed_directive, is_well_formed}
use Rattle.inform_names.specs.declared.meanings.Kind.{Kind}
use Rattle.inform_names.specs.declared.meanings.Kind.TheVariants as k
use Rattle.inform_names.specs.declared.meanings.Meaning.{Meaning}
use Rattle.inform_names.specs.declared.enclosures.Enclosure.{Enclosure}
use Rattle.inform_names.specs.declared.limits.TheConstants.{DEEPEST}
use Rattle.inform_names.specs.Words.{is_wide}
use Rattle.inform_names.specs.Meanings.{Known, name_of}
use Rattle.inform_names.specs.Demands.{no_loop, switch_in, statements_demands, cases_demands}
use Rattle.inform_names.specs.Faults.{Fault, too_deep, wrong_kind, fault_if, first_of}
use Rattle.inform_names.specs.Places.{Scope, is_global, kind_fault, arguments_fault, call_fault, first_fault}
use Rattle.inform_names.specs.Acceptance.{routine_scope}
use Rattle.inform_signature.specs.Signatures.{IsKnown, own_kind}
use Rattle.inform_signature.specs.Soundness.{IsFaultless}
use Rattle.scott_types.specs.declared.parts.Action.{Action}
use Rattle.scott_types.specs.Database.{Database, action_at}
use Rattle.scott_types.specs.Action.{verb_of, noun_of, is_zero_action}
use Rattle.scott_rules.specs.Actions.{goes_on_after}
use Rattle.scott_rules.specs.Groups.{Group, tail_of, groups_of, groups}
use Rattle.trans_specs.specs.Wide.{is_word_of}
use Rattle.trans_specs.specs.Names.{group_name, line_name}
use Rattle.trans_specs.specs.Lines.{call_statement, group_parts, group_routine}
use Rattle.trans_specs.specs.ActionSpecs.{HasLineRoutine}
use Rattle.trans_specs.specs.Laws.{HasWords, LinesHaveWords}
use Rattle.trans_specs.proofs.Lists.{each_with, of_sources}
use Rattle.trans_groups.specs.Automatic.{chance, chances, automatic_routine}
use Rattle.trans_groups.specs.Search.{group_tries, for_noun, verb_tries, has_verb, verb_cases, search_routine}
use Rattle.trans_groups.specs.Trying.{trying_directives}
use Rattle.trans_groups.specs.Parts.{TryingIsFaultless}
use Rattle.trans_groups.proofs.Heads.{GroupStands, groups_stand, tried_of}
use Rattle.trans_groups.proofs.Formed.{trying_formed}

-- ---- numbers, calls and globals

few_wide : (width : Width) (n : ℕ) → n < 32768 → is_wide width n ≡ false
few_wide W16 n h = grind (arith, h)
few_wide W32 n h = refl

word_wide : (width : Width) (n : ℕ) → is_word_of width (pos n) ≡ true → is_wide width n ≡ false
word_wide W16 n h = grind (arith, ints, h)
word_wide W32 n h = refl

noun_wide : (width : Width) (vocab : ℕ) → is_wide width (noun_of vocab) ≡ false
noun_wide width vocab = let less : vocab % 150 < 150 = omega arith in
    few_wide width (vocab % 150) (omega (arith, less))

module _ (known : Known) where
  abbrev CallFine : List ℕ → Type 0
  CallFine name = call_fault name 0 (known name) ≡ None

  none_many : (name : List ℕ) (locals : ℕ) → arguments_fault name 0 (k.Routine locals) ≡ None
  none_many name locals = grind arith

  call_fine : (name : List ℕ) (locals : ℕ) → IsKnown known (name, k.Routine locals)
      → CallFine name
  call_fine name locals is = by (known name) is where
    by : (o : Option Meaning) → option_map (λ m. m.kind) o ≡ Some (k.Routine locals)
        → call_fault name 0 o ≡ None
    by None is = cc
    by (Some m) is = ap (λ (o : Option Kind). arguments_fault name 0 (unwrap_or o m.kind)) is
        ∙ none_many name locals

  global_fine : (name : List ℕ) → IsKnown known (name, k.Global)
      → kind_fault is_global name (known name) ≡ None
  global_fine name is = by (known name) is where
    by : (o : Option Meaning) → option_map (λ m. m.kind) o ≡ Some k.Global
        → kind_fault is_global name o ≡ None
    by None is = cc
    by (Some m) is = ap (λ (o : Option Kind). fault_if (not (is_global (unwrap_or o m.kind)))
        (wrong_kind name)) is

-- ---- depths

abbrev low : RoutineTree → Bool
low r = nat_lt DEEPEST (routine_depth r)

not_low : (n : ℕ) → nat_le n DEPTH_LIMIT ≡ true → nat_lt DEEPEST n ≡ false
not_low n h = grind (arith, h)

formed_low : (r : RoutineTree) → is_formed_directive (Routine r) ≡ true → low r ≡ false
formed_low r h = not_low (routine_depth r)
    (and_parts (nat_le (routine_depth r) DEPTH_LIMIT) (are_formed_statements r.body)
    (and_parts (list_all is_name r.locals) _ (and_parts (is_name r.name) _ h).1).1).0

by_parts : (deep : Bool) (fault : Fault) (o : Option Fault) → deep ≡ false → o ≡ None
    → first_of (fault_if deep fault ∷ None ∷ None ∷ o ∷ []) ≡ None
by_parts deep fault o h k = rw (h, k) refl

module _ (width : Width) (known : Known) where
  abbrev Called : List Group → Type 0
  Called gs = AllByRecursion (λ g. CallFine known (group_name g.head)) gs

  -- ---- the search

  module _ (all : List Group) where
    abbrev searching : Scope
    searching = routine_scope width known (search_routine all)

    abbrev tries_fault : Enclosure → List Statement → Option Fault
    tries_fault e xs = first_fault searching (statements_demands e (statements xs))

    tries_fine : (e : Enclosure) (verb : ℕ) (gs : List Group) → Called gs
        → tries_fault e (verb_tries verb gs) ≡ None
    tries_fine e verb [] called = refl
    tries_fine e verb (g ∷ gs) called = by (verb_of g.vocab == verb) (noun_of g.vocab == 0)
        (tries_fine e verb gs called.1) where
          by : (same none : Bool) → tries_fault e (verb_tries verb gs) ≡ None
              → tries_fault e (if same then if none then group_tries g.head (verb_tries verb gs)
              else for_noun (noun_of g.vocab) g.head ∷ verb_tries verb gs else verb_tries verb gs)
              ≡ None
          by true true more =
              rw (called.0, few_wide width 2 (omega arith), few_wide width 1 (omega arith), more)
              refl
          by true false more = rw (
            called.0,
            few_wide width 2 (omega arith),
            few_wide width 1 (omega arith),
            noun_wide width g.vocab,
            more,
          ) refl
          by false none more = more

    abbrev VerbsFit : List Group → Type 0
    VerbsFit gs = AllByRecursion (λ g. is_wide width (verb_of g.vocab) ≡ false) gs

    abbrev cases_fault : Enclosure → Cases → Option Fault
    cases_fault e cases = first_fault searching (cases_demands e cases)

    cases_fine : (e : Enclosure) → Called all → (gs : List Group) → VerbsFit gs
        → cases_fault e (verb_cases all gs) ≡ None
    cases_fine e called [] fit = refl
    cases_fine e called (g ∷ gs) fit =
        by (verb_of g.vocab == 0 || has_verb (verb_of g.vocab) gs)
        (cases_fine e called gs fit.1) where
          by : (skipped : Bool) → cases_fault e (verb_cases all gs) ≡ None
              → cases_fault e (if skipped then verb_cases all gs
              else MoreCases ((Number (verb_of g.vocab), None) ∷ [])
              (statements (verb_tries (verb_of g.vocab) all)) (verb_cases all gs)) ≡ None
          by true more = more
          by false more = rw (fit.0, tries_fine e (verb_of g.vocab) all called, more) refl

    search_fine : is_formed_directive (Routine (search_routine all)) ≡ true → Called all
        → VerbsFit all → IsFaultless width known (Routine (search_routine all))
    search_fine formed called fit = by_parts (low (search_routine all)) (too_deep (codes "search"))
        (first_fault searching (statements_demands no_loop (search_routine all).body))
        (formed_low (search_routine all) formed)
        (rw (cases_fine (switch_in no_loop) called all fit) refl)

  -- ---- the automatic step

  module _ (all : List Group) where
    abbrev stepping : Scope
    stepping = routine_scope width known (automatic_routine all)

    abbrev chances_fault : List Statement → Option Fault
    chances_fault xs = first_fault stepping (statements_demands no_loop (statements xs))

    chances_fine : (gs : List Group) → Called gs → chances_fault (chances gs) ≡ None
    chances_fine [] called = refl
    chances_fine (g ∷ gs) called =
        by (verb_of g.vocab == 0) (chances_fine gs called.1) where
          by : (same : Bool) → chances_fault (chances gs) ≡ None
              → chances_fault (if same then chance (noun_of g.vocab) g.head ∷ chances gs
              else chances gs) ≡ None
          by true more =
              rw (called.0, few_wide width 100 (omega arith), noun_wide width g.vocab, more) refl
          by false more = more

    step_fine : is_formed_directive (Routine (automatic_routine all)) ≡ true → Called all
        → IsKnown known (codes "nb", k.Global)
        → IsFaultless width known (Routine (automatic_routine all))
    step_fine formed called global = by_parts (low (automatic_routine all))
        (too_deep (codes "automatic"))
        (first_fault stepping (statements_demands no_loop (automatic_routine all).body))
        (formed_low (automatic_routine all) formed) (rw (
          global_fine known (codes "nb") global,
          few_wide width 0 (omega arith),
          chances_fine all called,
        ) refl)

  -- ---- groups

  abbrev head_routine : Bool → ℕ → List ℕ → RoutineTree
  head_routine more head tail = record {
    name = group_name head;
    locals = (group_parts more head tail).0;
    body = statements (group_parts more head tail).1;
  }

  abbrev LinesCalled : List ℕ → Type 0
  LinesCalled ks = AllByRecursion (λ n. CallFine known (line_name n)) ks

  calls_fine : (scope : Scope) → scope.known ≡ known → scope.locals ≡ codes "r" ∷ []
      → (e : Enclosure) (ks : List ℕ) → LinesCalled ks
      → first_fault scope (statements_demands e (statements
      (map (λ n. call_statement (line_name n) []) ks))) ≡ None
  calls_fine scope is own e [] called = refl
  calls_fine scope is own e (n ∷ ks) called =
      rw (is, own, called.0, calls_fine scope is own e ks called.1) refl

  -- the routine of a group has no fault, where those of its lines are known
  parts_fine : (more : Bool) (head : ℕ) (tail : List ℕ)
      → is_formed_directive (Routine (head_routine more head tail)) ≡ true
      → CallFine known (line_name head) → LinesCalled tail
      → IsFaultless width known (Routine (head_routine more head tail))
  parts_fine true head (n ∷ tail) formed own called =
      by_parts (low (head_routine true head (n ∷ tail))) (too_deep (group_name head))
      (first_fault (routine_scope width known (head_routine true head (n ∷ tail)))
      (statements_demands no_loop (head_routine true head (n ∷ tail)).body))
      (formed_low (head_routine true head (n ∷ tail)) formed) (rw (
        own,
        few_wide width 2 (omega arith),
        called.0,
        calls_fine (routine_scope width known (head_routine true head (n ∷ tail))) refl refl no_loop
            tail called.1,
      ) refl)
  parts_fine true head [] formed own called = by_parts (low (head_routine true head []))
      (too_deep (group_name head))
      (first_fault (routine_scope width known (head_routine true head []))
      (statements_demands no_loop (head_routine true head []).body))
      (formed_low (head_routine true head []) formed) (rw own refl)
  parts_fine false head tail formed own called = by_parts (low (head_routine false head tail))
      (too_deep (group_name head))
      (first_fault (routine_scope width known (head_routine false head tail))
      (statements_demands no_loop (head_routine false head tail).body))
      (formed_low (head_routine false head tail) formed) (rw own refl)

  module _ (db : Database) (lines : (n : ℕ) → HasLineRoutine db n → CallFine known (line_name n))
    where
      tail_called : (ks : List ℕ) → AllByRecursion (λ n. n < length db.actions) ks
          → LinesCalled (tried_of db ks)
      tail_called [] there = tt
      tail_called (n ∷ ks) there =
          by (is_zero_action (action_at db n)) refl (tail_called ks there.1) where
            by : (zeros : Bool) → is_zero_action (action_at db n) ≡ zeros
                → LinesCalled (tried_of db ks)
                → LinesCalled (cond (not zeros) (n ∷ tried_of db ks) (tried_of db ks))
            by true is more = more
            by false is more = (lines n (record { there = there.0; not_zero = is }), more)

      groups_fine : (gs : List Group) → AllByRecursion (GroupStands db) gs
          → is_well_formed (map (λ g. Routine (group_routine db g)) gs) ≡ true
          → AllByRecursion (IsFaultless width known) (map (λ g. Routine (group_routine db g)) gs)
      groups_fine [] there formed = tt
      groups_fine (g ∷ gs) there formed = let
          parts = and_parts (is_formed_directive (Routine (group_routine db g)))
          (is_well_formed (map (λ g. Routine (group_routine db g)) gs)) formed in (
            parts_fine (goes_on_after (action_at db g.head)) g.head (tried_of db g.tail) parts.0
                (lines g.head there.0.head) (tail_called g.tail there.0.tail),
            groups_fine gs there.1 parts.1,
          )

-- ---- all of them

-- no verb of a group is too wide, where the numbers of the lines are words of the width
verbs_fit : (width : Width) (n : ℕ) (actions : List Action)
    → AllByRecursion (HasWords width) actions
    → AllByRecursion (λ g. is_wide width (verb_of g.vocab) ≡ false) (groups_of n actions)
verbs_fit width n [] words = tt
verbs_fit width n (a ∷ actions) words =
    by (a.vocab == 0) (verbs_fit width (n + 1) actions words.1) where
      by : (plain : Bool)
          → AllByRecursion (λ g. is_wide width (verb_of g.vocab) ≡ false)
          (groups_of (n + 1) actions)
          → AllByRecursion (λ g. is_wide width (verb_of g.vocab) ≡ false)
          (if plain then groups_of (n + 1) actions
          else record { head = n; vocab = a.vocab; tail = tail_of (n + 1) actions }
          ∷ groups_of (n + 1) actions)
      by true more = more
      by false more = (word_wide width (verb_of a.vocab) words.0.verb, more)

-- the search, the automatic step and the routines of groups have no fault, where the routines of
-- lines and what they call among themselves are known
pub trying_is_faultless : LinesHaveWords → TryingIsFaultless
trying_is_faultless have_words width db known translates global lines knows = (
  search_fine width known (groups db) formed.0 called
      (verbs_fit width 0 db.actions (have_words width db translates.none_wide)),
  (
    step_fine width known (groups db) formed.1 called global,
    groups_fine width known db (λ n has. call_fine known (line_name n) 0 (lines n has)) (groups db)
        (groups_stand db 0 db.actions refl) formed.2,
  ),
) where
  all_formed : is_well_formed (trying_directives db) ≡ true
  all_formed = trying_formed db translates.limits

  formed : (is_formed_directive (Routine (search_routine (groups db))) ≡ true)
      × (is_formed_directive (Routine (automatic_routine (groups db))) ≡ true)
      × (is_well_formed (map (λ g. Routine (group_routine db g)) (groups db)) ≡ true)
  formed = let first = and_parts (is_formed_directive (Routine (search_routine (groups db)))) _
      all_formed in
      let second = and_parts (is_formed_directive (Routine (automatic_routine (groups db)))) _
      first.1 in (first.0, second.0, second.1)

  own : AllByRecursion (λ x. IsKnown known (name_of x, own_kind x)) (trying_directives db)
  own = of_sources (IsKnown known) (λ x. (name_of x, own_kind x)) (trying_directives db) knows

  called : AllByRecursion (λ g. CallFine known (group_name g.head)) (groups db)
  called = each_with (λ g. IsKnown known (
    group_name g.head,
    k.Routine (length (group_routine db g).locals),
  ))
      (λ g. CallFine known (group_name g.head))
      (λ g is. call_fine known (group_name g.head) (length (group_routine db g).locals) is)
      (groups db) (of_sources (λ x. IsKnown known (name_of x, own_kind x))
      (λ g. Routine (group_routine db g)) (groups db) own.1.1)
