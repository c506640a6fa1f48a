-- The search, the automatic step and the routines of groups have a text.
use Rattle.std.proofs.Common.{◌≡◌, ◌∙◌, arith, ℕ, ◌+◌, ◌==◌, ◌<◌, ◌≤◌, ◌/◌, ◌%◌, ◌^◌, nat_le, nat_lt, Bool, true, false, not, cond, ◌&&◌, ◌||◌, if◌then◌else◌, max, List, [], ◌∷◌, map, length, decimal, None, refl}
use Rattle.std.specs.List.{AllByRecursion, list_all}
use Rattle.std.proofs.lemmas.Bool.{and_parts}
use Rattle.std.proofs.lemmas.List.Folds.{list_all-append}
use Rattle.std.proofs.lemmas.Fmt.{decimal_by_steps, length-decimal-le}
use Rattle.inform_tree.specs.declared.values.Const.TheVariants.{Number}
use Rattle.inform_tree.specs.Words.{is_name_byte, is_name, is_number}
use Rattle.inform_tree.specs.Statements.{Statement, statements, MoreCases}
use Rattle.inform_tree.specs.Programs.{Routine}
use Rattle.inform_tree.specs.Depths.{statements_depth, cases_depth, routine_depth}
use Rattle.inform_tree.specs.Formed.{are_formed_statements, are_formed_cases, is_formed_routine, is_well_formed}
use Rattle.scott_types.specs.declared.parts.Action.{Action}
use Rattle.scott_types.specs.Database.{Database, action_at}
use Rattle.scott_types.specs.Limits.{KeepsLimits, is_natural, is_action}
use Rattle.scott_types.specs.Action.{verb_of, noun_of, is_zero_action}
use Rattle.scott_rules.specs.Actions.{goes_on_after}
use Rattle.scott_rules.specs.Groups.{Group, tail_of, groups_of, groups}
use Rattle.trans_specs.specs.Names.{group_name, line_name}
use Rattle.trans_specs.specs.Lines.{call_statement, group_parts, group_routine}
use Rattle.trans_specs.proofs.Lengths.{few}
use Rattle.trans_groups.specs.Automatic.{chance, chances, automatic_routine}
use Rattle.trans_groups.specs.Search.{group_tries, for_noun, verb_tries, has_verb, verb_cases, search_routine}
use Rattle.trans_groups.specs.Laws.{TryingFormed}
use Rattle.trans_groups.proofs.Heads.{GroupStands, groups_stand, tried_of}
use Rattle.trans_groups.proofs.Tails.{calls_of}

-- ---- truth values and numbers

and_both : (a b : Bool) → a ≡ true → b ≡ true → a && b ≡ true
and_both a b h k = rw (h, k) refl

both : {a b : Bool} → a ≡ true → b ≡ true → a && b ≡ true
both {a} {b} h k = and_both a b h k

up_to : (a b : ℕ) → a ≤ b → nat_le a b ≡ true
up_to a b h = grind (arith, h)

under : (a b : ℕ) → a < b → nat_lt a b ≡ true
under a b h = grind (arith, h)

noun_is_number : (vocab : ℕ) → is_number (noun_of vocab) ≡ true
noun_is_number vocab = let less : vocab % 150 < 150 = omega arith in
    up_to (vocab % 150) 4294967295 (omega (arith, less))

verb_is_number : (vocab : ℕ) → is_natural vocab ≡ true → is_number (verb_of vocab) ≡ true
verb_is_number vocab h = up_to (vocab / 150) 4294967295 (omega (arith, less vocab h)) where
  less : (n : ℕ) → nat_le n 2147483647 ≡ true → n ≤ 2147483647
  less n h = grind (arith, h)

-- ---- names

digit_in_name : (n : ℕ) → n < 10 → is_name_byte (48 + n) ≡ true
digit_in_name n h = grind (arith, h)

digits_in_name : (k : ℕ) → k < 2 ^ 64 → list_all is_name_byte (decimal k) ≡ true
digits_in_name k small = decimal_by_steps (λ n digits. list_all is_name_byte digits ≡ true)
    (λ n h. and_both (is_name_byte (48 + n)) true (digit_in_name n h) refl)
    (λ n digits h own. list_all-append is_name_byte digits ((48 + n % 10) ∷ [])
    ∙ both own (and_both (is_name_byte (48 + n % 10)) true
    (digit_in_name (n % 10) (omega arith)) refl))
    k small

few_digits : (k : ℕ) → k < 10000 → length (decimal k) ≤ 4
few_digits k small = length-decimal-le 4 k (omega arith) (omega (arith, small))
    (omega (arith, small))

group_named : (k : ℕ) → k < 10000 → is_name (group_name k) ≡ true
group_named k small = and_both (list_all is_name_byte (decimal k)) _
    (digits_in_name k (omega (arith, small)))
    (and_both _ true (grind (arith, few_digits k small)) refl)

line_named : (k : ℕ) → k < 10000 → is_name (line_name k) ≡ true
line_named k small = and_both (list_all is_name_byte (decimal k)) _
    (digits_in_name k (omega (arith, small)))
    (and_both _ true (grind (arith, few_digits k small)) refl)

-- ---- statements

-- all are formed, and none is deeper
record Fine (xs : List Statement) : Type 0 where
  formed : are_formed_statements (statements xs) ≡ true
  low : statements_depth (statements xs) ≤ 5

low_next : (a b : ℕ) → a ≤ 5 → b ≤ 5 → max a b ≤ 5
low_next a b h k = grind (arith, h, k)

-- a group that may be named, with a verb that is a number
record CanName (g : Group) : Type 0 where
  head : g.head < 10000
  verb : is_number (verb_of g.vocab) ≡ true

-- what the case of a verb tries is formed, and at most 5 deep
tries_fine : (verb : ℕ) (gs : List Group) → AllByRecursion CanName gs → Fine (verb_tries verb gs)
tries_fine verb [] can = record { formed = refl; low = omega arith }
tries_fine verb (g ∷ gs) can =
    by (verb_of g.vocab == verb) (noun_of g.vocab == 0) (tries_fine verb gs can.1) where
      name : is_name (group_name g.head) ≡ true
      name = group_named g.head can.0.head

      by : (same none : Bool) → Fine (verb_tries verb gs)
          → Fine (if same then if none then group_tries g.head (verb_tries verb gs)
          else for_noun (noun_of g.vocab) g.head ∷ verb_tries verb gs else verb_tries verb gs)
      by true true more = record {
        formed = rw (name, more.formed) refl;
        low = low_next _ _ (omega arith) (low_next _ _ (omega arith) more.low);
      }
      by true false more = record {
        formed = rw (name, noun_is_number g.vocab, more.formed) refl;
        low = low_next _ _ (omega arith) more.low;
      }
      by false none more = more

-- the chances of the automatic step are formed, and at most 5 deep
chances_fine : (gs : List Group) → AllByRecursion CanName gs → Fine (chances gs)
chances_fine [] can = record { formed = refl; low = omega arith }
chances_fine (g ∷ gs) can = by (verb_of g.vocab == 0) (chances_fine gs can.1) where
  name : is_name (group_name g.head) ≡ true
  name = group_named g.head can.0.head

  by : (same : Bool) → Fine (chances gs)
      → Fine (if same then chance (noun_of g.vocab) g.head ∷ chances gs else chances gs)
  by true more = record {
    formed = rw (name, noun_is_number g.vocab, more.formed) refl;
    low = low_next _ _ (omega arith) more.low;
  }
  by false more = more

automatic_formed : (gs : List Group) → AllByRecursion CanName gs
    → is_formed_routine (automatic_routine gs) ≡ true
automatic_formed gs can = let fine = chances_fine gs can in
    rw (
      fine.formed,
      up_to (routine_depth (automatic_routine gs)) 64
          (deep (statements_depth (statements (chances gs))) fine.low),
    ) refl where
      deep : (n : ℕ) → n ≤ 5 → max 2 n ≤ 64
      deep n h = grind (arith, h)

-- ---- cases

module _ (all : List Group) (can_all : AllByRecursion CanName all) where
  -- the cases of the search are formed, and at most 5 deep
  cases_formed : (gs : List Group) → AllByRecursion CanName gs
      → (are_formed_cases (verb_cases all gs) ≡ true) × (cases_depth (verb_cases all gs) ≤ 5)
  cases_formed [] can = (refl, omega arith)
  cases_formed (g ∷ gs) can = by (verb_of g.vocab == 0 || has_verb (verb_of g.vocab) gs)
      (cases_formed gs can.1) where
        fine : Fine (verb_tries (verb_of g.vocab) all)
        fine = tries_fine (verb_of g.vocab) all can_all

        by : (skipped : Bool)
            → (are_formed_cases (verb_cases all gs) ≡ true) × (cases_depth (verb_cases all gs) ≤ 5)
            → (are_formed_cases (if skipped then verb_cases all gs
            else MoreCases ((Number (verb_of g.vocab), None) ∷ [])
            (statements (verb_tries (verb_of g.vocab) all)) (verb_cases all gs)) ≡ true)
            × (cases_depth (if skipped then verb_cases all gs
            else MoreCases ((Number (verb_of g.vocab), None) ∷ [])
            (statements (verb_tries (verb_of g.vocab) all)) (verb_cases all gs)) ≤ 5)
        by true more = more
        by false more = (
          rw (can.0.verb, fine.formed, more.0) refl,
          low_next _ _ fine.low more.1,
        )

  search_formed : is_formed_routine (search_routine all) ≡ true
  search_formed = let cases = cases_formed all can_all in
      rw (
        cases.0,
        up_to (routine_depth (search_routine all)) 64
            (deep (cases_depth (verb_cases all all)) cases.1),
      ) refl where
        deep : (n : ℕ) → n ≤ 5 → max (max 1 (max n 0) + 1) (max 2 0) ≤ 64
        deep n h = grind (arith, h)

-- ---- groups

calls_fine : (ks : List ℕ) → AllByRecursion (λ k. k < 10000) ks
    → Fine (map (λ k. call_statement (line_name k) []) ks)
calls_fine [] can = record { formed = refl; low = omega arith }
calls_fine (k ∷ ks) can = let more = calls_fine ks can.1 in record {
  formed = rw (line_named k can.0, more.formed) refl;
  low = low_next _ _ (omega arith) more.low;
}

-- the routine of a group is formed, where its lines are numbered below 10,000
parts_formed : (more : Bool) (head : ℕ) (tail : List ℕ) → head < 10000
    → AllByRecursion (λ k. k < 10000) tail
    → is_formed_routine (record {
      name = group_name head;
      locals = (group_parts more head tail).0;
      body = statements (group_parts more head tail).1;
    }) ≡ true
parts_formed true head (k ∷ tail) small can = let fine = calls_fine (k ∷ tail) can in
    let deep = statements_depth (calls_of (k ∷ tail)) in
    rw (
      group_named head small,
      line_named head small,
      fine.formed,
      up_to (max 2 (max (max 2 (max deep 0) + 1) (max 2 0))) 64 (low deep fine.low),
    ) refl where
      low : (n : ℕ) → n ≤ 5 → max 2 (max (max 2 (max n 0) + 1) (max 2 0)) ≤ 64
      low n h = grind (arith, h)
parts_formed true head [] small can = rw (group_named head small, line_named head small) refl
parts_formed false head tail small can = rw (group_named head small, line_named head small) refl

-- ---- what a database gives

line_few : {db : Database} → KeepsLimits db → length db.actions ≤ 5000
line_few {db} limits = few 5000 db.actions limits.sizes.actions

-- each group among the lines of a file can be named, and its verb is a number
can_name : {db : Database} → KeepsLimits db → (k : ℕ) (actions : List Action)
    → list_all is_action actions ≡ true → k + length actions ≤ 5000
    → AllByRecursion CanName (groups_of k actions)
can_name limits k [] each fits = tt
can_name limits k (a ∷ actions) each fits = by (a.vocab == 0)
    (can_name limits (k + 1) actions parts.1 (omega (arith, fits))) where
      parts : (is_action a ≡ true) × (list_all is_action actions ≡ true)
      parts = and_parts (is_action a) (list_all is_action actions) each

      by : (plain : Bool) → AllByRecursion CanName (groups_of (k + 1) actions)
          → AllByRecursion CanName (if plain then groups_of (k + 1) actions
          else record { head = k; vocab = a.vocab; tail = tail_of (k + 1) actions }
          ∷ groups_of (k + 1) actions)
      by true more = more
      by false more = (
        record {
          head = omega (arith, fits);
          verb = verb_is_number a.vocab (and_parts (is_natural a.vocab) _ parts.0).0;
        },
        more,
      )

module _ (db : Database) (limits : KeepsLimits db) where
  small_lines : (ks : List ℕ) → AllByRecursion (λ k. k < length db.actions) ks
      → AllByRecursion (λ k. k < 10000) (tried_of db ks)
  small_lines [] there = tt
  small_lines (k ∷ ks) there = by (is_zero_action (action_at db k)) (small_lines ks there.1) where
    by : (zeros : Bool) → AllByRecursion (λ k. k < 10000) (tried_of db ks)
        → AllByRecursion (λ k. k < 10000)
        (cond (not zeros) (k ∷ tried_of db ks) (tried_of db ks))
    by true more = more
    by false more = (omega (arith, there.0, line_few limits), more)

  groups_formed : (gs : List Group) → AllByRecursion (GroupStands db) gs
      → is_well_formed (map (λ g. Routine (group_routine db g)) gs) ≡ true
  groups_formed [] there = refl
  groups_formed (g ∷ gs) there = both (parts_formed (goes_on_after (action_at db g.head)) g.head
      (tried_of db g.tail) (omega (arith, there.0.head.there, line_few limits))
      (small_lines g.tail there.0.tail)) (groups_formed gs there.1)

pub trying_formed : TryingFormed
trying_formed db limits = both (search_formed (groups db) can)
    (both (automatic_formed (groups db) can)
    (groups_formed db limits (groups db) (groups_stand db 0 db.actions refl))) where
      can : AllByRecursion CanName (groups db)
      can = can_name limits 0 db.actions limits.entries.actions (omega (arith, line_few limits))
