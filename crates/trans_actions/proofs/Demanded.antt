-- What the routines of lines demand passes, where numbers and calls do.
use Rattle.std.proofs.Common.{◌≡◌, ◌∙◌, arith, ℕ, zero, suc, ◌<◌, ◌==◌, pos, nat_lt, Bool, true, false, not, ◌&&◌, ◌||◌, if◌then◌else◌, cond, List, [], ◌∷◌, ◌++◌, map, filter, drop, length, Some, refl, ap}
use Rattle.std.specs.Prelude.{slice_index}
use Rattle.std.specs.List.{AllByRecursion, list_any}
use Rattle.std.proofs.lemmas.Bool.{and_parts}
use Rattle.std.proofs.lemmas.Int.{ints}
use Rattle.inform_tree.specs.declared.widths.Width.{Width}
use Rattle.inform_tree.specs.declared.widths.Width.TheVariants.{W16, W32}
use Rattle.inform_tree.specs.Values as v
use Rattle.inform_tree.specs.Conditions as c
use Rattle.inform_tree.specs.Statements as s
use Rattle.inform_tree.specs.Statements.{Statement, statements}
use Rattle.inform_names.specs.Demands as q
use Rattle.inform_names.specs.Demands.{Demand, Demands, argument_count, arguments_demands, statement_demands, statements_demands, no_loop}
use Rattle.scott_types.specs.declared.parts.Action.{Action}
use Rattle.scott_types.specs.declared.opcodes.Opcode.{Opcode}
use Rattle.scott_types.specs.declared.opcodes.Opcode.TheVariants.{Nothing, Say, Get, Items, Rooms, Flags, Counters, Talk, Refill, Score, Die, Finish, Screen, Picture, More}
use Rattle.scott_types.specs.Database.{Database}
use Rattle.scott_types.specs.Action.{argument_of, condition_code, parameters, opcode_numbers}
use Rattle.scott_types.specs.Opcode.{opcode_of, uses as parameter_count}
use Rattle.scott_rules.specs.Actions.{goes_on_after}
use Rattle.trans_specs.specs.Wide.{is_word_of}
use Rattle.trans_specs.specs.Names.{message_name, condition_name, opcode_name}
use Rattle.trans_specs.specs.Lines.{number_arguments, next_parameters, call_value, call_statement, condition_test, is_test, opcode_call, message_call, get_number, get_statements, opcode_statements, all_statements, line_body}
use Rattle.trans_specs.specs.Laws.{HasWords}
use Rattle.trans_actions.specs.declared.table.Kind.TheVariants as kinds
use Rattle.trans_actions.specs.Helpers.{has_condition, has_opcode, uses}
use Rattle.trans_actions.proofs.Effects.{is_called}
use Rattle.trans_actions.proofs.FineLists.{both}
use Rattle.trans_actions.proofs.LineRuns.{of_filtered}

-- ---- what passes

-- each demand passes
abbrev pub all_pass : (Demand → Bool) → Demands → Bool
all_pass test q.Nothing = true
all_pass test (q.One demand) = test demand
all_pass test (q.Both first rest) = all_pass test first && all_pass test rest

-- The numbers that are words pass, and so does a call of each message, and of each condition and
-- opcode that a line uses, with as many arguments as it has.
pub record PassesCalls (width : Width) (db : Database) (test : Demand → Bool) : Type 0 where
  pub numbers : (n : ℕ) → is_word_of width (pos n) ≡ true → test (q.Number n) ≡ true
  pub conditions : (code : ℕ) → code < 20 → uses kinds.Condition db code ≡ true
      → (code == 0) ≡ false → test (q.Call (condition_name code) 1) ≡ true
  pub opcodes : (n : ℕ) → uses kinds.Opcode db n ≡ true → is_called (opcode_of n) ≡ true
      → test (q.Call (opcode_name n) (parameter_count (opcode_of n))) ≡ true
  pub gets : (n : ℕ) → uses kinds.Opcode db n ≡ true → opcode_of n ≡ Get
      → test (q.Call (opcode_name get_number) 1) ≡ true
  pub messages : (m : ℕ) → m < length db.messages → test (q.Call (message_name m) 0) ≡ true

-- ---- one of a list

pub at_first : {X : Type 0} (test : X → Bool) (x : X) (xs : List X) → test x ≡ true
    → list_any test (x ∷ xs) ≡ true
at_first test x xs h = rw h refl

further_on : {X : Type 0} (test : X → Bool) (x : X) (xs : List X) → list_any test xs ≡ true
    → list_any test (x ∷ xs) ≡ true
further_on test x xs h = by (test x) where
  by : (b : Bool) → b || list_any test xs ≡ true
  by true = refl
  by false = h

same_number : (n : ℕ) → (n == n) ≡ true
same_number n = grind arith

few_is_word : (width : Width) (n : ℕ) → n < 150 → is_word_of width (pos n) ≡ true
few_is_word W16 n few = grind (arith, ints, few)
few_is_word W32 n few = grind (arith, ints, few)

-- ---- calls

count_is : (n : ℕ) (params : List ℕ)
    → argument_count (number_arguments (next_parameters n params)) ≡ n
count_is zero params = refl
count_is (suc n) params = omega (arith, count_is n (drop 1 params))

module _ (width : Width) (db : Database) (test : Demand → Bool) (passes : PassesCalls width db test)
  where
    abbrev Words : List ℕ → Type 0
    Words xs = AllByRecursion (λ n. is_word_of width (pos n) ≡ true) xs

    abbrev Passes : List Statement → Type 0
    Passes xs = all_pass test (statements_demands no_loop (statements xs)) ≡ true

    abbrev passes_one : Statement → Bool
    passes_one x = all_pass test (statement_demands no_loop x)

    abbrev pass_all : List Statement → Bool
    pass_all xs = all_pass test (statements_demands no_loop (statements xs))

    joined : (xs ys : List Statement) → Passes xs → Passes ys → Passes (xs ++ ys)
    joined [] ys h k = k
    joined (x ∷ xs) ys h k = both (passes_one x) (pass_all (xs ++ ys))
        (and_parts (passes_one x) (pass_all xs) h).0
        (joined xs ys (and_parts (passes_one x) (pass_all xs) h).1 k)

    first_word : (params : List ℕ) → Words params
        → is_word_of width (pos (slice_index params 0)) ≡ true
    first_word [] words = few_is_word width 0 (omega arith)
    first_word (x ∷ xs) words = words.0

    dropped : (n : ℕ) (params : List ℕ) → Words params → Words (drop n params)
    dropped zero params words = words
    dropped (suc n) [] words = tt
    dropped (suc n) (x ∷ xs) words = dropped n xs words.1

    numbers_pass : (n : ℕ) (params : List ℕ) → Words params → all_pass test
        (arguments_demands (number_arguments (next_parameters n params))) ≡ true
    numbers_pass zero params words = refl
    numbers_pass (suc n) params words = both (test (q.Number (slice_index params 0)))
        (all_pass test (arguments_demands (number_arguments (next_parameters n (drop 1 params)))))
        (passes.numbers (slice_index params 0) (first_word params words))
        (numbers_pass n (drop 1 params) (dropped 1 params words))

    -- a call with so many of the parameters
    call_passes : (name : List ℕ) (n : ℕ) (params : List ℕ) → Words params
        → test (q.Call name n) ≡ true
        → test (q.Call name (argument_count (number_arguments (next_parameters n params))))
        && all_pass test (arguments_demands (number_arguments (next_parameters n params))) ≡ true
    call_passes name n params words h = both
        (test (q.Call name (argument_count (number_arguments (next_parameters n params)))))
        (all_pass test (arguments_demands (number_arguments (next_parameters n params))))
        (ap (λ count. test (q.Call name count)) (count_is n params) ∙ h)
        (numbers_pass n params words)

    -- ---- tests

    abbrev UsesCode : ℕ → Type 0
    UsesCode code = uses kinds.Condition db code ≡ true

    test_passes : (packed : ℕ) → is_word_of width (pos (argument_of packed)) ≡ true
        → UsesCode (condition_code packed) → (condition_code packed == 0) ≡ false
        → Passes (condition_test packed ∷ [])
    test_passes packed word used is = rw (
      passes.conditions (condition_code packed) (omega arith) used is,
      passes.numbers (argument_of packed) word,
    ) refl

    tests_pass : (conds : List ℕ)
        → AllByRecursion (λ c. is_word_of width (pos (argument_of c)) ≡ true) conds
        → ((code : ℕ) → list_any (λ packed. condition_code packed == code) conds ≡ true
        → UsesCode code)
        → Passes (map condition_test (filter is_test conds))
    tests_pass [] words used = refl
    tests_pass (packed ∷ conds) words used = from (condition_code packed == 0) refl
        (tests_pass conds words.1 (λ code h. used code
        (further_on (λ packed. condition_code packed == code) packed conds h))) where
          from : (b : Bool) → (condition_code packed == 0) ≡ b
              → Passes (map condition_test (filter is_test conds))
              → Passes (map condition_test
              (cond (not b) (packed ∷ filter is_test conds) (filter is_test conds)))
          from true is rest = rest
          from false is rest =
              joined (condition_test packed ∷ []) (map condition_test (filter is_test conds))
              (test_passes packed words.0 (used (condition_code packed)
              (at_first (λ p. condition_code p == condition_code packed) packed conds
              (same_number (condition_code packed)))) is) rest

    -- ---- opcodes

    abbrev UsesNumber : ℕ → Type 0
    UsesNumber n = uses kinds.Opcode db n ≡ true

    message_passes : (m : ℕ) → Passes (message_call db m)
    message_passes m = from (nat_lt m (length db.messages)) refl where
      from : (b : Bool) → nat_lt m (length db.messages) ≡ b
          → Passes (if b then call_statement (message_name m) [] ∷ [] else [])
      from true is = rw (passes.messages m (grind (arith, is))) refl
      from false is = refl

    module _ (n : ℕ) (ns : List ℕ) (used : UsesNumber n)
        (others : (params : List ℕ) → Words params → Passes (all_statements db ns params))
      where
        called : (params : List ℕ) (taken : ℕ) → Words params → is_called (opcode_of n) ≡ true
            → Passes (opcode_call n params ∷ all_statements db ns (drop taken params))
        called params taken words is = both (passes_one (opcode_call n params))
            (pass_all (all_statements db ns (drop taken params)))
            (call_passes (opcode_name n) (parameter_count (opcode_of n)) params words
            (passes.opcodes n used is))
            (others (drop taken params) (dropped taken params words))

        got : (params : List ℕ) (taken left : List Statement) → Words params → opcode_of n ≡ Get
            → Passes taken → Passes left → Passes (get_statements params taken left)
        got params taken left words is = from taken left where
          test_passes_too : test (q.Call (opcode_name get_number)
              (argument_count (number_arguments (next_parameters 1 params))))
              && all_pass test (arguments_demands (number_arguments (next_parameters 1 params)))
              ≡ true
          test_passes_too =
              call_passes (opcode_name get_number) 1 params words (passes.gets n used is)

          parted : (taken left : List Statement) → Passes taken → Passes left
              → Passes (s.If (c.Nonzero (call_value (opcode_name get_number)
              (next_parameters 1 params))) (statements taken) (statements left) ∷ [])
          parted taken left h k = rw (test_passes_too, h, k) refl

          from : (taken left : List Statement) → Passes taken → Passes left
              → Passes (get_statements params taken left)
          from [] [] h k = rw test_passes_too refl
          from [] (x ∷ left) h k = parted [] (x ∷ left) h k
          from (x ∷ taken) [] h k = parted (x ∷ taken) [] h k
          from (x ∷ taken) (y ∷ left) h k = parted (x ∷ taken) (y ∷ left) h k

        opcode_passes : (opcode : Opcode) → opcode_of n ≡ opcode → (params : List ℕ) → Words params
            → Passes (opcode_statements db opcode n params (all_statements db ns))
        opcode_passes Nothing is params words = others params words
        opcode_passes More is params words = others params words
        opcode_passes (Say m) is params words =
            joined (message_call db m) (all_statements db ns params) (message_passes m)
            (others params words)
        opcode_passes Get is params words = got params (all_statements db ns (drop 1 params))
            (all_statements db ns params) words is
            (others (drop 1 params) (dropped 1 params words)) (others params words)
        opcode_passes (Items op) is params words =
            called params (parameter_count (Items op)) words (ap is_called is)
        opcode_passes (Rooms op) is params words =
            called params (parameter_count (Rooms op)) words (ap is_called is)
        opcode_passes (Flags op) is params words =
            called params (parameter_count (Flags op)) words (ap is_called is)
        opcode_passes (Counters op) is params words =
            called params (parameter_count (Counters op)) words (ap is_called is)
        opcode_passes (Talk op) is params words =
            called params (parameter_count (Talk op)) words (ap is_called is)
        opcode_passes Refill is params words =
            called params (parameter_count Refill) words (ap is_called is)
        opcode_passes Score is params words =
            called params (parameter_count Score) words (ap is_called is)
        opcode_passes Die is params words =
            called params (parameter_count Die) words (ap is_called is)
        opcode_passes Finish is params words =
            called params (parameter_count Finish) words (ap is_called is)
        opcode_passes Screen is params words =
            called params (parameter_count Screen) words (ap is_called is)
        opcode_passes Picture is params words =
            called params (parameter_count Picture) words (ap is_called is)

    opcodes_pass : (ns : List ℕ) → ((n : ℕ) → list_any (λ m. m == n) ns ≡ true → UsesNumber n)
        → (params : List ℕ) → Words params → Passes (all_statements db ns params)
    opcodes_pass [] used params words = refl
    opcodes_pass (n ∷ ns) used params words = opcode_passes n ns
        (used n (at_first (λ m. m == n) n ns (same_number n)))
        (opcodes_pass ns (λ m h. used m (further_on (λ k. k == m) n ns h)))
        (opcode_of n) refl params words

    -- ---- lines

    value_passes : (b : Bool) → Passes (s.Return (Some (v.Number (if b then 2 else 1))) ∷ [])
    value_passes true = rw (passes.numbers 2 (few_is_word width 2 (omega arith))) refl
    value_passes false = rw (passes.numbers 1 (few_is_word width 1 (omega arith))) refl

    line_passes : (a : Action) → HasWords width a
        → ((code : ℕ) → has_condition code a ≡ true → UsesCode code)
        → ((n : ℕ) → has_opcode n a ≡ true → UsesNumber n) → Passes (line_body db a)
    line_passes a words codes numbers =
        joined (map condition_test (filter is_test a.conds)) _
        (tests_pass a.conds words.arguments codes)
        (joined (all_statements db (opcode_numbers a) (parameters a)) _
        (opcodes_pass (opcode_numbers a) numbers (parameters a)
        (of_filtered (λ n. is_word_of width (pos n) ≡ true) argument_of
        (λ c. condition_code c == 0) a.conds words.arguments))
        (value_passes (goes_on_after a)))

    lines_pass : (actions : List Action) → AllByRecursion (HasWords width) actions
        → ((code : ℕ) → list_any (has_condition code) actions ≡ true → UsesCode code)
        → ((n : ℕ) → list_any (has_opcode n) actions ≡ true → UsesNumber n)
        → AllByRecursion (λ a. Passes (line_body db a)) actions
    lines_pass [] words codes numbers = tt
    lines_pass (a ∷ actions) words codes numbers = (
      line_passes a words.0 (λ code h. codes code (at_first (has_condition code) a actions h))
          (λ n h. numbers n (at_first (has_opcode n) a actions h)),
      lines_pass actions words.1
          (λ code h. codes code (further_on (has_condition code) a actions h))
          (λ n h. numbers n (further_on (has_opcode n) a actions h)),
    )

-- where the numbers of a database are words, all that its lines demand passes
pub lines_demand : (width : Width) (db : Database) (test : Demand → Bool)
    → AllByRecursion (HasWords width) db.actions → PassesCalls width db test
    → AllByRecursion (λ a. all_pass test
    (statements_demands no_loop (statements (line_body db a))) ≡ true) db.actions
lines_demand width db test words passes =
    lines_pass width db test passes db.actions words (λ code h. h) (λ n h. h)
