-- A line's routine meets its specification.
use Rattle.std.proofs.Common.{◌≡◌, ◌∙◌, arith, ℕ, zero, suc, ◌+◌, ◌*◌, ◌-◌, ◌/◌, ◌%◌, ◌<◌, ◌≤◌, ◌^◌, pos, nat_eq, ◌==◌, Bool, true, false, not, cond, ◌&&◌, ◌||◌, if◌then◌else◌, List, [], ◌∷◌, ◌++◌, map, filter, length, Option, Some, None, refl, sym, ap, subst, append_assoc, true≢false}
use Rattle.std.specs.Prelude.{slice_index_or, flat_map}
use Rattle.std.specs.List.{AllByRecursion, list_all, list_any}
use Rattle.std.proofs.lemmas.Bool.{and_parts}
use Rattle.adv_io.specs.Steps.{Noted, Traced, said_steps, after, as_steps, traced}
use Rattle.inform_tree.specs.Values as v
use Rattle.inform_tree.specs.Statements as t
use Rattle.inform_tree.specs.Statements.{Statement, Statements, statements}
use Rattle.inform_tree.specs.Programs.{Routine}
use Rattle.inform_meaning.specs.Words.{number_word}
use Rattle.inform_meaning.specs.Worlds.{Program, Scope, scope_of}
use Rattle.inform_meaning.specs.Frames.{Outcome, Returns}
use Rattle.inform_meaning.specs.Runs.{noted_body}
use Rattle.inform_logic.specs.Stages.{Stage, with_past}
use Rattle.inform_logic.specs.Leading.{Does, Runs, by_return}
use Rattle.inform_logic.specs.Holding.{routine_at, Holds, Held, Notes}
use Rattle.inform_logic.proofs.Holding.{notes}
use Rattle.inform_logic.proofs.Values.{within, valued, number, call, argument, called}
use Rattle.inform_logic.proofs.Conditions.{nonzero, negated}
use Rattle.inform_logic.proofs.Statements.{end, next, returns, return, return_false, if_true, if_false}
use Rattle.inform_logic.proofs.Routines.{does_within, noted_routine}
use Rattle.inform_logic.proofs.Stops.{later, noted_routine_stops}
use Rattle.inform_signature.proofs.Elements.{one_in}
use Rattle.scott_types.specs.declared.parts.Action.{Action}
use Rattle.scott_types.specs.declared.states.State.{State}
use Rattle.scott_types.specs.declared.styles.Style.{Style}
use Rattle.scott_types.specs.Database.{Database, action_at}
use Rattle.scott_types.specs.Style.{in_style}
use Rattle.scott_types.specs.Condition.{condition_of}
use Rattle.scott_types.specs.Opcode.{opcode_of}
use Rattle.scott_types.specs.Limits.{KeepsLimits, is_action, is_natural}
use Rattle.scott_types.specs.Action.{argument_of, condition_code, parameters, opcode_numbers}
use Rattle.scott_rules.specs.Conditions.{holds}
use Rattle.scott_rules.specs.Progress.{Progress as Result}
use Rattle.scott_rules.specs.Opcodes.{run_opcodes}
use Rattle.scott_rules.specs.Actions.{condition_holds, passes, goes_on_after, ran_of, performed, action_result}
use Rattle.trans_specs.specs.Tables.{bit}
use Rattle.trans_specs.specs.Wide.{is_word_of}
use Rattle.trans_specs.specs.Steps.{line_steps}
use Rattle.trans_specs.specs.Names.{line_name, line_number, condition_name}
use Rattle.trans_specs.specs.Standing.{StandsFor}
use Rattle.trans_specs.specs.Lines.{condition_test, is_test, condition_tests, all_statements, line_value, line_routine}
use Rattle.trans_specs.specs.ActionSpecs.{passed_value, LineOutcome, LineDone, LineSpec}
use Rattle.trans_specs.specs.Calls.{StageLeft, CallLeaves}
use Rattle.trans_specs.specs.Laws.{HasWords, LinesAreNumbered}
use Rattle.trans_specs.proofs.Lists.{each_with, each_passes, one_of_all}
use Rattle.trans_specs.proofs.Room.{one_less}
use Rattle.trans_specs.proofs.Entries.{bit_tells}
use Rattle.trans_specs.proofs.Left.{stands_after, nothing_left}
use Rattle.trans_specs.proofs.Acts.{stops_within}
use Rattle.trans_specs.proofs.Lengths.{few as few_of_list}
use Rattle.trans_actions.specs.declared.table.Kind.TheVariants as kinds
use Rattle.trans_actions.specs.Helpers.{has_condition, has_opcode, uses}
use Rattle.trans_actions.specs.Directives.{line_directives}
use Rattle.trans_actions.proofs.Known.{Known}
use Rattle.trans_actions.proofs.ByNumber.{at_number}
use Rattle.trans_actions.proofs.LinesIn.{line_is_in}
use Rattle.trans_actions.proofs.Tests.{condition_steps, ConditionSpec, condition_specs}
use Rattle.trans_actions.proofs.Effects.{some_is}
use Rattle.trans_actions.proofs.ListActs.{ListActsBy}
use Rattle.trans_actions.proofs.Performed.{IsOwnWord, each_steps, performs}

-- ---- conditions

abbrev test_steps : Database → ℕ
test_steps db = condition_steps db + 5

pub one_more : (n t x : ℕ) → x ≤ t → x + n * t ≤ suc n * t
one_more n t x few = omega (arith, few)

-- the code of a condition that is a test
code_from : (packed : ℕ) → (condition_code packed == 0) ≡ false
    → (1 ≤ condition_code packed) × (condition_code packed ≤ 19)
code_from packed h = (some (condition_code packed) h, few packed) where
  some : (n : ℕ) → nat_eq n 0 ≡ false → 1 ≤ n
  some n h = grind (arith, h)

  few : (n : ℕ) → n % 20 ≤ 19
  few n = let less : n % 20 < 20 = omega arith in omega (arith, less)

-- a condition of code 0 holds
plain_holds : (db : Database) (s : State) (packed : ℕ) → (condition_code packed == 0) ≡ true
    → condition_holds db s packed ≡ true
plain_holds db s packed h =
    ap (λ n. holds db s (argument_of packed) (condition_of n)) (same (condition_code packed) h)
  where
    same : (n : ℕ) → nat_eq n 0 ≡ true → n ≡ 0
    same n h = grind (arith, h)

module _ {style : Style} {db : Database} {p : Program} (known : Known style db p) (s : State)
    (noun : List ℕ) (w : Stage) (stands : StandsFor db s noun w) (d : ℕ) (space : 110 ≤ d)
    (scope : Scope) where
  -- a condition that its line has, with an argument that is a word
  record CanTest (packed : ℕ) : Type 0 where
    used : uses kinds.Condition db (condition_code packed) ≡ true
    word : IsOwnWord p (argument_of packed)

  condition_does : (packed : ℕ) → CanTest packed → (condition_code packed == 0) ≡ false
      → Does p d (condition_name (condition_code packed)) (pos (argument_of packed) ∷ []) w
      (pos (bit (condition_holds db s packed))) w (condition_steps db)
  condition_does packed can test = let
      from : (1 ≤ condition_code packed) × (condition_code packed ≤ 19) = code_from packed test in
      let is : 1 + (condition_code packed - 1) ≡ condition_code packed = omega (arith, from.0) in
      subst (ConditionSpec db p) is (at_number (ConditionSpec db p) 1 19 (condition_code packed - 1)
      (condition_specs known) (omega (arith, from.0, from.1)))
      (some_is (uses kinds.Condition db) (condition_code packed ∷ []) 0 refl can.used)
      (argument_of packed) s noun w d space stands

  -- a test that holds, and what comes after it
  holds_then : (packed : ℕ) → CanTest packed → (condition_code packed == 0) ≡ false
      → condition_holds db s packed ≡ true → {e : Outcome} {last : Scope} {w' : Stage} {m : ℕ}
      {ys : Statements} → Runs p d ys scope w e last w' m
      → Runs p d (t.MoreStatements (condition_test packed) ys) scope w e last w' (test_steps db + m)
  holds_then packed can test is run = within (omega arith) (next (if_false (negated (nonzero
      (call (argument (valued can.word number) (called (condition_does packed can test))))
      (bit_tells (condition_holds db s packed) ∙ is))) end) run)

  -- one that fails
  fails_then : (packed : ℕ) → CanTest packed → (condition_code packed == 0) ≡ false
      → condition_holds db s packed ≡ false → {ys : Statements}
      → Runs p d (t.MoreStatements (condition_test packed) ys) scope w (Returns (pos 0)) scope w
      (test_steps db)
  fails_then packed can test is = within (omega arith) (returns (if_true (negated (nonzero
      (call (argument (valued can.word number) (called (condition_does packed can test))))
      (bit_tells (condition_holds db s packed) ∙ is))) (returns return_false)))

  -- the tests of conditions, and statements after them
  abbrev tests_then : List ℕ → List Statement → Statements
  tests_then cs ys = statements (map condition_test (filter is_test cs) ++ ys)

  -- where all conditions hold, the statements after their tests are run
  tests_hold : (cs : List ℕ) → AllByRecursion CanTest cs → list_all (condition_holds db s) cs ≡ true
      → (ys : List Statement) {e : Outcome} {last : Scope} {w' : Stage} {m : ℕ}
      → Runs p d (statements ys) scope w e last w' m
      → Runs p d (tests_then cs ys) scope w e last w' (length cs * test_steps db + m)
  tests_hold [] can all ys run = within (omega arith) run
  tests_hold (c ∷ cs) can all ys {e} {last} {w'} {m} run =
      by (condition_code c == 0) refl (tests_hold cs can.1 parts.1 ys run) where
        parts : (condition_holds db s c ≡ true) × (list_all (condition_holds db s) cs ≡ true)
        parts = and_parts (condition_holds db s c) (list_all (condition_holds db s) cs) all

        by : (plain : Bool) → (condition_code c == 0) ≡ plain
            → Runs p d (tests_then cs ys) scope w e last w' (length cs * test_steps db + m)
            → Runs p d (statements (map condition_test (cond (not plain) (c ∷ filter is_test cs)
            (filter is_test cs)) ++ ys)) scope w e last w' (suc (length cs) * test_steps db + m)
        by true is more = within (omega arith) more
        by false is more = within (omega arith) (holds_then c can.0 is parts.0 more)

  -- where a condition fails, the tests return 0 and change nothing
  tests_fail : (cs : List ℕ) → AllByRecursion CanTest cs
      → list_all (condition_holds db s) cs ≡ false → (ys : List Statement)
      → Runs p d (tests_then cs ys) scope w (Returns (pos 0)) scope w (length cs * test_steps db)
  tests_fail [] can all ys = cc
  tests_fail (c ∷ cs) can all ys =
      by (condition_code c == 0) (condition_holds db s c) refl refl all (tests_fail cs can.1) where
        by : (plain first : Bool) → (condition_code c == 0) ≡ plain → condition_holds db s c ≡ first
            → first && list_all (condition_holds db s) cs ≡ false
            → (list_all (condition_holds db s) cs ≡ false → (ys : List Statement)
            → Runs p d (tests_then cs ys) scope w (Returns (pos 0)) scope w
            (length cs * test_steps db))
            → Runs p d (statements (map condition_test (cond (not plain) (c ∷ filter is_test cs)
            (filter is_test cs)) ++ ys)) scope w (Returns (pos 0)) scope w
            (suc (length cs) * test_steps db)
        by true true is first all more = within (omega arith) (more all ys)
        by true false is first all more =
            absurd (true≢false (sym (plain_holds db s c is) ∙ first))
        by false true is first all more = within (omega arith) (holds_then c can.0 is first
            (more all ys))
        by false false is first all more = within (omega arith) (fails_then c can.0 is first)

-- ---- what a line has

-- an element that passes is one of them
any_of_these : {X : Type 0} (test : X → Bool) (xs : List X) (i : ℕ) (none : X) → i < length xs
    → test (slice_index_or xs i none) ≡ true → list_any test xs ≡ true
any_of_these test [] i none less h = absurd (omega (arith, less))
any_of_these test (x ∷ xs) zero none less h = first (test x) h where
  first : (b : Bool) → b ≡ true → b || list_any test xs ≡ true
  first true h = refl
  first false h = cc
any_of_these test (x ∷ xs) (suc i) none less h =
    after (test x) (any_of_these test xs i none (omega (arith, less)) h) where
      after : (b : Bool) → list_any test xs ≡ true → b || list_any test xs ≡ true
      after true more = refl
      after false more = more

-- each element has a key that one of them has
each_has : {X : Type 0} (key : X → ℕ) (xs : List X)
    → AllByRecursion (λ x. list_any (λ y. key y == key x) xs ≡ true) xs
each_has key [] = tt
each_has {X} key (x ∷ xs) = (
  same (nat_eq (key x) (key x)) (itself (key x)),
  each_with (λ y. list_any (λ z. key z == key y) xs ≡ true)
      (λ y. (key x == key y) || list_any (λ z. key z == key y) xs ≡ true)
      (λ y h. after (key x == key y) h) xs (each_has key xs),
) where
  itself : (n : ℕ) → nat_eq n n ≡ true
  itself n = grind arith

  same : (b : Bool) → b ≡ true → b || list_any (λ y. key y == key x) xs ≡ true
  same true h = refl
  same false h = cc

  after : (b : Bool) {t : Bool} → t ≡ true → b || t ≡ true
  after true h = refl
  after false h = h

both_each : {X : Type 0} (P Q R : X → Type 0) → ((x : X) → P x → Q x → R x) → (xs : List X)
    → AllByRecursion P xs → AllByRecursion Q xs → AllByRecursion R xs
both_each P Q R by [] h k = tt
both_each P Q R by (x ∷ xs) h k = (by x h.0 k.0, both_each P Q R by xs h.1 k.1)

-- what holds of each element holds of those that pass
pub of_filtered : {X Y : Type 0} (P : Y → Type 0) (f : X → Y) (test : X → Bool) (xs : List X)
    → AllByRecursion (λ x. P (f x)) xs → AllByRecursion P (map f (filter test xs))
of_filtered P f test [] h = tt
of_filtered {X} {Y} P f test (x ∷ xs) h = by (test x) (of_filtered P f test xs h.1) where
  by : (b : Bool) → AllByRecursion P (map f (filter test xs))
      → AllByRecursion P (map f (cond b (x ∷ filter test xs) (filter test xs)))
  by true more = (h.0, more)
  by false more = more

-- a body that ends in a statement isn't empty
some_body : (xs ys : List Statement) (x : Statement) (k : ℕ)
    → noted_body (Some k) (statements (xs ++ (ys ++ x ∷ []))) ≡ Some k
some_body (x ∷ xs) ys last k = refl
some_body [] (y ∷ ys) last k = refl
some_body [] [] last k = refl

-- ---- how much a line has

-- a line of a file has five conditions and four opcode numbers
sizes_of : (a : Action) → is_action a ≡ true
    → (length a.conds ≡ 5) × (length (opcode_numbers a) ≡ 4)
sizes_of a h = (same 5 (length a.conds) conds.0, opcodes_long) where
  same : (n m : ℕ) → nat_eq m n ≡ true → m ≡ n
  same n m h = grind (arith, h)

  conds : (nat_eq (length a.conds) 5 ≡ true) × ((list_all is_natural a.conds
      && (nat_eq (length a.pairs) 2 && list_all is_natural a.pairs)) ≡ true)
  conds = and_parts (nat_eq (length a.conds) 5) _ (and_parts (is_natural a.vocab) _ h).1

  pairs : (nat_eq (length a.pairs) 2 ≡ true) × (list_all is_natural a.pairs ≡ true)
  pairs = and_parts (nat_eq (length a.pairs) 2) _ (and_parts (list_all is_natural a.conds) _
      conds.1).1

  twice : (xs : List ℕ)
      → length (flat_map (λ pair. pair / 150 ∷ pair % 150 ∷ []) xs) ≡ 2 * length xs
  twice [] = refl
  twice (x ∷ xs) = omega (arith, twice xs)

  opcodes_long : length (opcode_numbers a) ≡ 4
  opcodes_long = omega (arith, twice a.pairs, same 2 (length a.pairs) pairs.0)

-- ---- the specification

module _ {style : Style} {db : Database} {p : Program} (known : Known style db p)
    (none_wide : AllByRecursion (HasWords p.width) db.actions) where
  module _ (k : ℕ) (there : k < length db.actions) where
    words : HasWords p.width (action_at db k)
    words = one_of_all (HasWords p.width) db.actions k
        (record { vocab = 0; conds = []; pairs = [] }) none_wide there

    own_words : AllByRecursion (λ c. IsOwnWord p (argument_of c)) (action_at db k).conds
    own_words = each_with (λ c. is_word_of p.width (pos (argument_of c)) ≡ true)
        (λ c. IsOwnWord p (argument_of c))
        (λ c h. known.laws.their_words p.width (argument_of c) h) (action_at db k).conds
        words.arguments

    conditions_used : AllByRecursion
        (λ c. uses kinds.Condition db (condition_code c) ≡ true) (action_at db k).conds
    conditions_used = each_with
        (λ c. list_any (λ y. condition_code y == condition_code c) (action_at db k).conds ≡ true)
        (λ c. uses kinds.Condition db (condition_code c) ≡ true)
        (λ c h. any_of_these (has_condition (condition_code c)) db.actions k
        (record { vocab = 0; conds = []; pairs = [] }) there h) (action_at db k).conds
        (each_has condition_code (action_at db k).conds)

    opcodes_used : AllByRecursion (λ n. uses kinds.Opcode db n ≡ true)
        (opcode_numbers (action_at db k))
    opcodes_used = each_with
        (λ n. list_any (λ y. y == n) (opcode_numbers (action_at db k)) ≡ true)
        (λ n. uses kinds.Opcode db n ≡ true)
        (λ n h. any_of_these (has_opcode n) db.actions k
        (record { vocab = 0; conds = []; pairs = [] }) there h)
        (opcode_numbers (action_at db k)) (each_has (λ n. n) (opcode_numbers (action_at db k)))

    -- a line has five conditions and four opcodes
    is_whole : is_action (action_at db k) ≡ true
    is_whole = one_of_all (λ a. is_action a ≡ true) db.actions k
        (record { vocab = 0; conds = []; pairs = [] })
        (each_passes is_action db.actions known.limits.entries.actions) there

    sizes : (length (action_at db k).conds ≡ 5) × (length (opcode_numbers (action_at db k)) ≡ 4)
    sizes = sizes_of (action_at db k) is_whole

    few_steps : length (action_at db k).conds * test_steps db
        + (length (opcode_numbers (action_at db k)) * each_steps db + 2) ≤ line_steps db
    few_steps = subst (λ n. n * test_steps db
        + (length (opcode_numbers (action_at db k)) * each_steps db + 2) ≤ line_steps db)
        (sym sizes.0) (subst (λ n. 5 * test_steps db + (n * each_steps db + 2) ≤ line_steps db)
        (sym sizes.1) (omega arith))

    module _ (held : Notes p (line_routine db k) k) (s : State) (noun : List ℕ) (w : Stage)
        (stands : StandsFor db s noun w) (d : ℕ) (space : 110 ≤ d) where
      abbrev scope : Scope
      scope = scope_of (routine_at held.at (line_routine db k)) []

      -- the stage with the line's note
      abbrev entered : Stage
      entered = with_past (w.past ++ Noted k ∷ []) w

      stands_there : StandsFor db s noun entered
      stands_there = stands_after (w.past ++ Noted k ∷ []) stands

      can : AllByRecursion (CanTest known s noun entered stands_there d space scope)
          (action_at db k).conds
      can = both_each (λ c. uses kinds.Condition db (condition_code c) ≡ true)
          (λ c. IsOwnWord p (argument_of c))
          (CanTest known s noun entered stands_there d space scope)
          (λ c used word. record { used = used; word = word }) (action_at db k).conds
          conditions_used
          own_words

      abbrev opcodes_then : List Statement
      opcodes_then = all_statements db (opcode_numbers (action_at db k))
          (parameters (action_at db k)) ++ t.Return (Some (v.Number (line_value (action_at db k))))
          ∷ []

      some : noted_body (Some k) (line_routine db k).body ≡ Some k
      some = some_body (condition_tests (action_at db k))
          (all_statements db (opcode_numbers (action_at db k)) (parameters (action_at db k)))
          (t.Return (Some (v.Number (line_value (action_at db k))))) k

      -- what is left by the body is left by the call, with the note before it
      with_note : {u : State} (bytes : List ℕ) {w' : Stage}
          → StageLeft db u noun (said_steps bytes) entered w'
          → StageLeft db u noun (Noted k ∷ said_steps bytes) w w'
      with_note {u} bytes h = record {
        stands = h.stands;
        past_is = h.past_is ∙ append_assoc w.past (Noted k ∷ []) (said_steps bytes);
        lines_stay = h.lines_stay;
        draws_stay = h.draws_stay;
        globals_stay = h.globals_stay;
        arrays_stay = h.arrays_stay;
      }

      -- it doesn't pass
      refused : passes db s (action_at db k) ≡ false → CallLeaves p (suc d) (line_name k) [] w
          (pos 0) db s noun (Noted k ∷ []) (line_steps db)
      refused fails = record {
        after = entered;
        does = does_within (omega (arith, few_steps)) (noted_routine held some
            (tests_fail known s noun entered stands_there d space scope (action_at db k).conds can
            fails opcodes_then) by_return);
        leaves = with_note [] (nothing_left stands_there);
      }

      abbrev ran : Traced ℕ Result
      ran = run_opcodes (in_style style db) noun (map opcode_of (opcode_numbers (action_at db k)))
          (parameters (action_at db k)) s

      returns_value : (more : Bool) → goes_on_after (action_at db k) ≡ more → (w' : Stage)
          → Runs p d (statements (t.Return (Some (v.Number (line_value (action_at db k)))) ∷ []))
          scope
          w' (Returns (pos (passed_value more))) scope w' 1
      returns_value true is w' = returns (return (valued
          (ap (λ (b : Bool). number_word p.width (if b then 2 else 1)) is) number))
      returns_value false is w' = returns (return (valued
          (ap (λ (b : Bool). number_word p.width (if b then 2 else 1)) is) number))

      -- it passes, and the game goes on or ends
      passed : passes db s (action_at db k) ≡ true → (over : Option ℕ)
          → ListActsBy over db p d (all_statements db (opcode_numbers (action_at db k))
          (parameters (action_at db k))) scope entered noun ran.value.state ran.events
          (length (opcode_numbers (action_at db k)) * each_steps db)
          → LineOutcome (ran_of over (goes_on_after (action_at db k))) (in_style style db) p (suc d)
          k
          w noun (traced (Noted k ∷ said_steps ran.events) (record {
            state = ran.value.state;
            ran = ran_of over (goes_on_after (action_at db k));
          }))
      passed all None x = record {
        after = x.after;
        does = does_within few_steps (noted_routine held some (within (omega arith)
            (tests_hold known s noun entered stands_there d space scope (action_at db k).conds can
            all
            opcodes_then (x.leads (t.Return (Some (v.Number (line_value (action_at db k)))) ∷ [])
            (Returns (pos (passed_value (goes_on_after (action_at db k))))) scope x.after 1
            (returns_value (goes_on_after (action_at db k)) refl x.after)))) by_return);
        leaves = with_note ran.events x.leaves;
      }
      passed all (Some ending) x = record {
        after = x.after;
        stops = stops_within few_steps (noted_routine_stops held some (later (λ e s' run.
            within (omega arith) (tests_hold known s noun entered stands_there d space scope
            (action_at db k).conds can all opcodes_then run))
            (x.stops (t.Return (Some (v.Number (line_value (action_at db k)))) ∷ []))));
        shows = x.shows;
        past_is = x.past_is ∙ append_assoc w.past (Noted k ∷ []) (said_steps ran.events);
        over_is = x.over_is;
      }

      line_is_done : (b : Bool) → passes db s (action_at db k) ≡ b
          → LineDone (in_style style db) p (suc d) k w noun
          (after (Noted k ∷ []) (as_steps (performed b (in_style style db) noun (action_at db k)
          s)))
      line_is_done true all = passed all ran.value.over
          (performs known noun d space scope (opcode_numbers (action_at db k)) opcodes_used
          (parameters (action_at db k)) parameter_words s entered stands_there).acts where
            parameter_words : AllByRecursion (IsOwnWord p) (parameters (action_at db k))
            parameter_words = of_filtered (IsOwnWord p) argument_of (λ c. condition_code c == 0)
                (action_at db k).conds own_words
      line_is_done false fails = refused fails

-- ---- the routines of lines

many : {db : Database} → KeepsLimits db → length db.actions ≤ 5000
many {db} limits = few_of_list 5000 db.actions limits.sizes.actions

-- a program that has the routines of lines meets the specification of lines
pub line_spec : {style : Style} {db : Database} {p : Program} → Known style db p
    → AllByRecursion (HasWords p.width) db.actions
    → ((name : List ℕ) (at : ℕ) → p.notes name at ≡ line_number name) → LinesAreNumbered
    → Holds p (line_directives db) → LineSpec (in_style style db) p
line_spec {style} {db} {p} known none_wide notes_lines numbered holds k s noun w d room has stands =
    subst (λ note. LineDone (in_style style db) p d k w noun
    (after note (as_steps (action_result (in_style style db) noun k s))))
    (sym (ap (λ (b : Bool). if b then [] else Noted k ∷ []) has.not_zero))
    (one_less (λ d. LineDone (in_style style db) p d k w noun
    (after (Noted k ∷ []) (as_steps (action_result (in_style style db) noun k s)))) 119 d room
    (λ n few. line_is_done known none_wide k has.there held s noun w stands n (omega (arith, few))
    (passes db s (action_at db k)) refl)) where
      small : k < 2 ^ 64
      small = omega (arith, has.there, many known.limits)

      at : Held p (Routine (line_routine db k))
      at = let is_in = line_is_in db k has in
          one_in (Held p) (line_directives db) is_in.0 holds is_in.1

      held : Notes p (line_routine db k) k
      held = notes p at (notes_lines (line_name k) at.0 ∙ numbered k small)
