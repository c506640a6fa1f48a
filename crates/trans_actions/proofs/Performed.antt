-- The opcodes of a line, one after the other, do what the rules do.
use Rattle.std.proofs.Common.{◌≡◌, ◌∙◌, arith, ℕ, zero, suc, ◌+◌, ◌*◌, ◌<◌, ◌≤◌, pos, nat_lt, Bool, true, false, not, if◌then◌else◌, List, [], ◌∷◌, ◌++◌, map, take, drop, length, Option, None, refl, sym, ap, subst}
use Rattle.std.specs.Prelude.{slice_index, slice_index_or}
use Rattle.std.specs.List.{AllByRecursion}
use Rattle.adv_io.specs.Steps.{said_steps, Traced, traced}
use Rattle.inform_tree.specs.Values.{NoArguments}
use Rattle.inform_tree.specs.Statements.{Statement}
use Rattle.inform_meaning.specs.Words.{number_word}
use Rattle.inform_meaning.specs.Worlds.{Program, Scope}
use Rattle.inform_meaning.specs.Frames.{Outcome}
use Rattle.inform_logic.specs.Stages.{Stage}
use Rattle.inform_logic.specs.Leading.{Leads, TheCall, Does}
use Rattle.inform_logic.proofs.Values.{within, valued, number, call, argument, called}
use Rattle.inform_logic.proofs.Conditions.{nonzero}
use Rattle.inform_logic.proofs.Statements.{call_alone}
use Rattle.scott_types.specs.declared.states.State.{State}
use Rattle.scott_types.specs.declared.styles.Style.{Style}
use Rattle.scott_types.specs.declared.opcodes.Opcode.{Opcode}
use Rattle.scott_types.specs.declared.opcodes.Opcode.TheVariants.{Nothing, Say, Get, Items, Rooms, Flags, Counters, Talk, Refill, Score, Die, Finish, Screen, Picture, More}
use Rattle.scott_types.specs.declared.opcodes.ItemOp.TheVariants as item
use Rattle.scott_types.specs.declared.opcodes.RoomOp.TheVariants as room
use Rattle.scott_types.specs.declared.opcodes.FlagOp.TheVariants as flag
use Rattle.scott_types.specs.declared.opcodes.CounterOp.TheVariants as counter
use Rattle.scott_types.specs.declared.phrases.Phrase.TheVariants.{TooMuch}
use Rattle.scott_types.specs.declared.phrases.Phrase.TheVariants as phrase
use Rattle.scott_types.specs.Phrase.{text_of, text_in}
use Rattle.scott_types.specs.Database.{Database}
use Rattle.scott_types.specs.Opcode.{opcode_of, uses as parameter_count}
use Rattle.scott_types.specs.Style.{in_style}
use Rattle.scott_rules.specs.Progress.{Progress as Result, and_then}
use Rattle.scott_rules.specs.Opcodes.{said_message, is_full, moved, opcode_effect, takes, run_opcodes}
use Rattle.trans_specs.specs.Tables.{bit}
use Rattle.trans_specs.specs.Steps.{text_steps}
use Rattle.trans_specs.specs.Names.{message_name, opcode_name}
use Rattle.trans_specs.specs.Standing.{StandsFor}
use Rattle.trans_specs.specs.Lines.{number_arguments, call_statement, next_parameters, opcode_call, get_statements, opcode_statements, all_statements}
use Rattle.trans_specs.specs.Calls.{StageLeft, CallLeaves, CallSays}
use Rattle.trans_specs.proofs.Entries.{bit_tells}
use Rattle.trans_specs.proofs.Left.{said_left}
use Rattle.trans_specs.proofs.Acts.{CallActs, returns_acts}
use Rattle.trans_actions.specs.declared.table.Kind.TheVariants as kinds
use Rattle.trans_actions.specs.Helpers.{uses}
use Rattle.trans_actions.proofs.Known.{Known}
use Rattle.trans_actions.proofs.Stored.{is_less}
use Rattle.trans_actions.proofs.Effects.{opcode_steps, is_called}
use Rattle.trans_actions.proofs.ItemEffects.{get_spec}
use Rattle.trans_actions.proofs.Numbered.{opcode_specs, get_is}
use Rattle.trans_actions.proofs.ListActs.{ListActs, list_within, list_end, list_next, list_branch, list_call}

-- ---- parameters

-- a number that is itself in a program
abbrev pub IsOwnWord : Program → ℕ → Type 0
IsOwnWord p n = number_word p.width n ≡ pos n

module _ (p : Program) where
  word_at : (params : List ℕ) → AllByRecursion (IsOwnWord p) params → (i : ℕ)
      → IsOwnWord p (slice_index params i)
  word_at [] h zero = refl
  word_at [] h (suc i) = refl
  word_at (x ∷ xs) h zero = h.0
  word_at (x ∷ xs) h (suc i) = word_at xs h.1 i

  words_left : (n : ℕ) (params : List ℕ) → AllByRecursion (IsOwnWord p) params
      → AllByRecursion (IsOwnWord p) (drop n params)
  words_left zero params h = h
  words_left (suc n) [] h = tt
  words_left (suc n) (x ∷ xs) h = words_left n xs h.1

second : (params : List ℕ) → slice_index (drop 1 params) 0 ≡ slice_index params 1
second [] = refl
second (x ∷ []) = refl
second (x ∷ y ∷ xs) = refl

-- an opcode has two parameters at most
few_parameters : (o : Opcode) → parameter_count o ≤ 2
few_parameters Nothing = omega arith
few_parameters (Say m) = omega arith
few_parameters Get = omega arith
few_parameters (Items item.Drop) = omega arith
few_parameters (Items item.Remove) = omega arith
few_parameters (Items item.Put) = omega arith
few_parameters (Items item.Swap) = omega arith
few_parameters (Items item.Take) = omega arith
few_parameters (Items item.Join) = omega arith
few_parameters (Rooms room.Go) = omega arith
few_parameters (Rooms room.SwapSaved) = omega arith
few_parameters (Rooms room.SwapRoom) = omega arith
few_parameters (Flags flag.Darken) = omega arith
few_parameters (Flags flag.Lighten) = omega arith
few_parameters (Flags flag.SetFlag) = omega arith
few_parameters (Flags flag.ClearFlag) = omega arith
few_parameters (Flags flag.SetZero) = omega arith
few_parameters (Flags flag.ClearZero) = omega arith
few_parameters (Counters counter.Down) = omega arith
few_parameters (Counters counter.SetCounter) = omega arith
few_parameters (Counters counter.SwapCounter) = omega arith
few_parameters (Counters counter.Add) = omega arith
few_parameters (Counters counter.Subtract) = omega arith
few_parameters (Talk t) = omega arith
few_parameters Refill = omega arith
few_parameters Score = omega arith
few_parameters Die = omega arith
few_parameters Finish = omega arith
few_parameters Screen = omega arith
few_parameters Picture = omega arith
few_parameters More = omega arith

module _ {p : Program} {d : ℕ} {scope : Scope} {w : Stage} where
  -- the parameters of a call are its arguments
  leads_with : (f : List ℕ) (params : List ℕ) → AllByRecursion (IsOwnWord p) params → (c : ℕ)
      → c ≤ 2 → (e : Outcome) (last : Scope) (w' : Stage) (k : ℕ)
      → Leads p d (TheCall f (map pos (take c (slice_index params 0 ∷ slice_index params 1 ∷ [])))
      NoArguments) scope w e last w' k
      → Leads p d (TheCall f [] (number_arguments (next_parameters c params))) scope w e last w' k
  leads_with f params words zero few e last w' k x = x
  leads_with f params words (suc zero) few e last w' k x = within (omega arith)
      (argument (valued (word_at p params words 0) number) x)
  leads_with f params words (suc (suc zero)) few e last w' k x = within (omega arith)
      (argument (valued (word_at p params words 0) number)
      (argument (valued (ap (number_word p.width) (second params) ∙ word_at p params words 1)
      number)
      x))
  leads_with f params words (suc (suc (suc c))) few e last w' k x = absurd (omega (arith, few))

-- ---- one opcode

-- what an opcode and the choice after it may take
abbrev pub each_steps : Database → ℕ
each_steps db = text_steps db + 25

one_more : (n t x : ℕ) → x ≤ t → x + n * t ≤ suc n * t
one_more n t x few = omega (arith, few)

all_but_one : (n t : ℕ) → n * t ≤ suc n * t
all_but_one n t = omega arith

-- an opcode that is called takes all its parameters
takes_all : (db : Database) (s : State) (o : Opcode) → is_called o ≡ true
    → takes db s o ≡ parameter_count o
takes_all db s Nothing h = cc
takes_all db s (Say m) h = cc
takes_all db s Get h = cc
takes_all db s (Items o) h = refl
takes_all db s (Rooms o) h = refl
takes_all db s (Flags o) h = refl
takes_all db s (Counters o) h = refl
takes_all db s (Talk o) h = refl
takes_all db s Refill h = refl
takes_all db s Score h = refl
takes_all db s Die h = refl
takes_all db s Finish h = refl
takes_all db s Screen h = refl
takes_all db s Picture h = refl
takes_all db s More h = cc

-- the statements of an opcode that is called are its call, and those of the opcodes after it
is_a_call : (db : Database) (n : ℕ) (params : List ℕ) (others : List ℕ → List Statement)
    (o : Opcode) → is_called o ≡ true → opcode_statements db o n params others
    ≡ opcode_call n params ∷ others (drop (parameter_count o) params)
is_a_call db n params others Nothing h = cc
is_a_call db n params others (Say m) h = cc
is_a_call db n params others Get h = cc
is_a_call db n params others (Items o) h = refl
is_a_call db n params others (Rooms o) h = refl
is_a_call db n params others (Flags o) h = refl
is_a_call db n params others (Counters o) h = refl
is_a_call db n params others (Talk o) h = refl
is_a_call db n params others Refill h = refl
is_a_call db n params others Score h = refl
is_a_call db n params others Die h = refl
is_a_call db n params others Finish h = refl
is_a_call db n params others Screen h = refl
is_a_call db n params others Picture h = refl
is_a_call db n params others More h = cc

module _ {style : Style} {db : Database} {p : Program} (known : Known style db p)
    (noun : List ℕ) (d : ℕ) (space : 110 ≤ d) (scope : Scope) where
  abbrev run : List ℕ → List ℕ → State → Traced ℕ Result
  run ns params s = run_opcodes (in_style style db) noun (map opcode_of ns) params s

  abbrev Acts : List Statement → Stage → Traced ℕ Result → ℕ → Type 0
  Acts xs w t most = ListActs t.value.over db p d xs scope w noun t.value.state t.events most

  -- a list of opcodes does what the rules do, with any parameters and from any state
  abbrev Performs : List ℕ → Type 0
  Performs ns = (params : List ℕ) → AllByRecursion (IsOwnWord p) params → (s : State) (w : Stage)
      → StandsFor db s noun w → Acts (all_statements db ns params) w (run ns params s)
      (length ns * each_steps db)

  module _ (n : ℕ) (ns : List ℕ) (used : uses kinds.Opcode db n ≡ true) (more : Performs ns)
      (params : List ℕ) (words : AllByRecursion (IsOwnWord p) params) (s : State) (w : Stage)
      (stands : StandsFor db s noun w) where
    abbrev a : ℕ
    a = slice_index params 0

    abbrev b : ℕ
    b = slice_index params 1

    abbrev effect : Opcode → Traced ℕ Result
    effect o = opcode_effect (in_style style db) noun o a b s

    abbrev whole : Opcode → Traced ℕ Result
    whole o = and_then (effect o) (run ns (drop (takes db s o) params))

    -- one that is called
    called_acts : (o : Opcode) → opcode_of n ≡ o → is_called o ≡ true
        → Acts (opcode_statements db o n params (all_statements db ns)) w (whole o)
        (suc (length ns) * each_steps db)
    called_acts o is called_too = subst (λ xs. Acts xs w (whole o)
        (suc (length ns) * each_steps db))
        (sym (is_a_call db n params (all_statements db ns) o called_too))
        (subst (λ c. Acts (opcode_call n params ∷ all_statements db ns
        (drop (parameter_count o) params))
        w (and_then (effect o) (run ns (drop c params))) (suc (length ns) * each_steps db))
        (sym (takes_all db s o called_too))
        (list_within (one_more (length ns) (each_steps db) (opcode_steps db + 2) (omega arith))
        (list_call (effect o).value.over (effect o).value.state (effect o).events
        (run ns (drop (parameter_count o) params)) leads acts
        (λ w1 stands1. more (drop (parameter_count o) params)
        (words_left p (parameter_count o) params words) (effect o).value.state w1 stands1)))) where
          acts : CallActs (effect o).value.over db p d (opcode_name n)
              (map pos (take (parameter_count o) (a ∷ b ∷ []))) w noun (effect o).value.state
              (said_steps (effect o).events) (opcode_steps db)
          acts = subst (λ o. CallActs (effect o).value.over db p d (opcode_name n)
              (map pos (take (parameter_count o) (a ∷ b ∷ []))) w noun (effect o).value.state
              (said_steps (effect o).events) (opcode_steps db)) is
              (opcode_specs known n (ap is_called is ∙ called_too) used
              (ap is_called is ∙ called_too) a b s noun w d space stands)

          leads : (e : Outcome) (last : Scope) (w' : Stage) (k : ℕ)
              → Leads p d (TheCall (opcode_name n)
              (map pos (take (parameter_count o) (a ∷ b ∷ []))) NoArguments) scope w e last w' k
              → Leads p d (TheCall (opcode_name n) []
              (number_arguments (next_parameters (parameter_count (opcode_of n)) params))) scope w e
              last w' k
          leads e last w' k x = subst (λ o. Leads p d (TheCall (opcode_name n) []
              (number_arguments (next_parameters (parameter_count o) params))) scope w e last w' k)
              (sym is) (leads_with (opcode_name n) params words (parameter_count o)
              (few_parameters o)
              e last w' k x)

    -- a message
    message_acts : (m : ℕ) → Acts (opcode_statements db (Say m) n params (all_statements db ns)) w
        (whole (Say m)) (suc (length ns) * each_steps db)
    message_acts m = by (nat_lt m (length db.messages)) refl where
      rest : Acts (all_statements db ns params) w (run ns params s) (length ns * each_steps db)
      rest = more params words s w stands

      by : (there : Bool) → nat_lt m (length db.messages) ≡ there
          → Acts ((if there then call_statement (message_name m) [] ∷ [] else [])
          ++ all_statements db ns params) w (whole (Say m)) (suc (length ns) * each_steps db)
      by true there = list_within (one_more (length ns) (each_steps db) (text_steps db + 2)
          (omega arith))
          (list_call None s (said_message db m) (run ns params) (λ e last w' k x. x)
          (returns_acts says.does (said_left (said_message db m) stands))
          (λ w1 stands1. more params words s w1 stands1)) where
            less : m < length db.messages
            less = is_less m (length db.messages) there

            says : CallSays p d (message_name m) [] w (said_message db m) (text_steps db)
            says = known.texts.messages m less (known.messages m less) s noun w d
                (omega (arith, space)) stands
      by false there = subst (λ bytes. ListActs (run ns params s).value.over db p d
          (all_statements db ns params) scope w noun (run ns params s).value.state
          (bytes ++ (run ns params s).events) (suc (length ns) * each_steps db)) (sym silent)
          (list_within (all_but_one (length ns) (each_steps db)) rest) where
            silent : said_message db m ≡ []
            silent = ap (λ (b : Bool). if b then slice_index_or db.messages m []
                ++ text_of phrase.Newline else []) there

    -- a get, and what comes after it in two branches
    module _ (own : uses kinds.Opcode db 52 ≡ true) where
      abbrev taken : List Statement
      taken = all_statements db ns (drop 1 params)

      abbrev left : List Statement
      left = all_statements db ns params

      abbrev whole_get : Bool → Traced ℕ Result
      whole_get full = and_then (traced (if full then text_in style TooMuch else [])
          (record { state = if full then s else moved s a 255; over = None }))
          (run ns (drop (if full then 0 else 1) params))

      branches : (xs ys : List Statement) (b : Bool) {over : Option ℕ} {w1 : Stage} {t u : State}
          (cs bs : List ℕ) {n m : ℕ}
          → Does p d (opcode_name 52) (pos a ∷ []) w (pos (bit b)) w1 n
          → StageLeft db t noun (said_steps cs) w w1
          → ListActs over db p d (if b then xs else ys) scope w1 noun u bs m
          → ListActs over db p d (get_statements params xs ys) scope w noun u (cs ++ bs) (n + m + 5)
      branches [] [] true cs bs does before r = list_within (omega arith) (list_next cs bs
          (call_alone (leads_with (opcode_name 52) params words 1 (omega arith) _ _ _ _
          (called does))) before r)
      branches [] [] false cs bs does before r = list_within (omega arith) (list_next cs bs
          (call_alone (leads_with (opcode_name 52) params words 1 (omega arith) _ _ _ _
          (called does))) before r)
      branches (x ∷ xs) ys b cs bs does before r = list_within (omega arith)
          (list_branch (x ∷ xs) ys b cs bs (nonzero (call
          (leads_with (opcode_name 52) params words 1
          (omega arith) _ _ _ _ (called does))) (bit_tells b)) before r)
      branches [] (y ∷ ys) b cs bs does before r = list_within (omega arith)
          (list_branch [] (y ∷ ys) b cs bs (nonzero (call
          (leads_with (opcode_name 52) params words 1
          (omega arith) _ _ _ _ (called does))) (bit_tells b)) before r)

      get_by : (full : Bool) → CallLeaves p d (opcode_name 52) (pos a ∷ []) w (pos (bit (not full)))
          db (if full then s else moved s a 255) noun
          (said_steps (if full then text_in style TooMuch else [])) (opcode_steps db)
          → Acts (get_statements params taken left) w (whole_get full)
          (suc (length ns) * each_steps db)
      get_by true x = list_within (one_more (length ns) (each_steps db) (opcode_steps db + 5)
          (omega arith)) (list_within (omega arith) (branches taken left false
          (text_in style TooMuch) (run ns params s).events x.does x.leaves
          (more params words s x.after x.leaves.stands)))
      get_by false x = list_within (one_more (length ns) (each_steps db) (opcode_steps db + 5)
          (omega arith)) (list_within (omega arith) (branches taken left true []
          (run ns (drop 1 params) (moved s a 255)).events x.does x.leaves
          (more (drop 1 params) (words_left p 1 params words) (moved s a 255) x.after
          x.leaves.stands)))

      get_acts : Acts (get_statements params taken left) w (whole_get (is_full db s))
          (suc (length ns) * each_steps db)
      get_acts = get_by (is_full db s) (get_spec known own a s noun w d space stands)

    -- any opcode
    each_acts : (o : Opcode) → opcode_of n ≡ o
        → Acts (opcode_statements db o n params (all_statements db ns)) w (whole o)
        (suc (length ns) * each_steps db)
    each_acts Nothing is = list_within (all_but_one (length ns) (each_steps db))
        (more params words s w stands)
    each_acts (Say m) is = message_acts m
    each_acts Get is = get_acts (subst (λ n. uses kinds.Opcode db n ≡ true) (get_is n is) used)
    each_acts (Items o) is = called_acts (Items o) is refl
    each_acts (Rooms o) is = called_acts (Rooms o) is refl
    each_acts (Flags o) is = called_acts (Flags o) is refl
    each_acts (Counters o) is = called_acts (Counters o) is refl
    each_acts (Talk o) is = called_acts (Talk o) is refl
    each_acts Refill is = called_acts Refill is refl
    each_acts Score is = called_acts Score is refl
    each_acts Die is = called_acts Die is refl
    each_acts Finish is = called_acts Finish is refl
    each_acts Screen is = called_acts Screen is refl
    each_acts Picture is = called_acts Picture is refl
    each_acts More is = list_within (all_but_one (length ns) (each_steps db))
        (more params words s w stands)

  pub performs : (ns : List ℕ) → AllByRecursion (λ n. uses kinds.Opcode db n ≡ true) ns → Performs
      ns
  performs [] used params words s w stands = list_within (omega arith) (list_end stands)
  performs (n ∷ ns) used params words s w stands = each_acts n ns used.0 (performs ns used.1) params
      words s w stands (opcode_of n) refl
