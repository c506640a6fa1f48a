-- The routines of lines have no fault where the names that they take for granted are known.
use Rattle.std.proofs.Common.{◌≡◌, ◌∙◌, arith, ℕ, ℤ, pos, negsuc, ◌<◌, ◌≤◌, nat_lt, nat_eq, Bool, true, false, ◌&&◌, ◌||◌, List, [], ◌∷◌, length, codes, Option, Some, None, is_none, refl, sym, ap, subst}
use Rattle.std.specs.List.{AllByRecursion, list_all, list_any}
use Rattle.std.specs.Option.{option_or}
use Rattle.std.proofs.lemmas.Bool.{and_parts}
use Rattle.std.proofs.lemmas.Int.{ints}
use Rattle.inform_tree.specs.declared.widths.Width.{Width}
use Rattle.inform_tree.specs.declared.widths.Width.TheVariants.{W16, W32}
use Rattle.inform_tree.specs.Statements.{statements}
use Rattle.inform_tree.specs.Programs.{DirectiveTree, Routine}
use Rattle.inform_tree.specs.Depths.{routine_depth}
use Rattle.inform_names.specs.declared.meanings.Kind.TheVariants as k
use Rattle.inform_names.specs.declared.limits.TheConstants.{DEEPEST}
use Rattle.inform_names.specs.Words.{is_wide}
use Rattle.inform_names.specs.Meanings.{Known, name_of}
use Rattle.inform_names.specs.Demands as q
use Rattle.inform_names.specs.Demands.{Demand, Demands, statements_demands, no_loop}
use Rattle.inform_names.specs.Faults.{Fault, wide_number, too_deep, fault_if, first_of}
use Rattle.inform_names.specs.Places.{Scope, fault_at, first_fault}
use Rattle.inform_names.specs.Acceptance.{routine_scope}
use Rattle.inform_codes.specs.Grown.{body_of}
use Rattle.inform_codes.specs.Routines.{row_routine}
use Rattle.inform_signature.specs.Signatures.{Sign, IsKnown, Knows, own_kind, is_narrow}
use Rattle.inform_signature.specs.Soundness.{is_sound_routine, IsFaultless}
use Rattle.inform_signature.specs.Laws.{SoundRoutinesAreFaultless}
use Rattle.scott_types.specs.declared.parts.Action.{Action}
use Rattle.scott_types.specs.declared.styles.Style.{Style}
use Rattle.scott_types.specs.Database.{Database, action_at}
use Rattle.scott_types.specs.Limits.{KeepsLimits, is_action}
use Rattle.scott_rules.specs.Opcodes.{last_room}
use Rattle.trans_specs.specs.Wide.{is_word_of}
use Rattle.trans_specs.specs.Names.{message_name, line_name}
use Rattle.trans_specs.specs.Lines.{line_body, line_routine}
use Rattle.trans_specs.specs.ActionSpecs.{HasLineRoutine}
use Rattle.trans_specs.specs.Laws.{HasWords, LinesHaveWords}
use Rattle.trans_specs.proofs.Lengths.{few}
use Rattle.trans_specs.proofs.Lists.{one_of_all, of_both, of_first, of_sources, each_passes}
use Rattle.trans_actions.specs.declared.table.Kind.TheVariants.{Condition, Opcode}
use Rattle.trans_actions.specs.Names.{action_names, numbers, light_number}
use Rattle.trans_actions.specs.Helpers.{Helper, conditions, opcodes, refill, uses, helper_directives}
use Rattle.trans_actions.specs.Directives.{line_directives, action_directives}
use Rattle.trans_actions.specs.Needed.{needed}
use Rattle.trans_actions.specs.Parts.{ActionsAreFaultless}
use Rattle.trans_actions.proofs.Light.{light_word}
use Rattle.trans_actions.proofs.Known.{at_place}
use Rattle.trans_actions.proofs.FineLists.{all_shallow}
use Rattle.trans_actions.proofs.Formed.{natural_line, body_fine}
use Rattle.trans_actions.proofs.Demanded.{all_pass, PassesCalls, lines_demand}
use Rattle.trans_actions.proofs.LinesIn.{each_line}
use Rattle.trans_actions.proofs.UsedRows.{OfKind, EachUsed, each_helper, of_helpers, each_by}
use Rattle.trans_actions.proofs.CallsKnown.{call_fine, IsOwnKnown, conditions_fine, opcodes_fine, gets_fine}

-- ---- numbers

small : (n : ℕ) → n ≤ 255 → nat_lt n 32768 ≡ true
small n h = grind (arith, h)

not_wide : (width : Width) (n : ℕ) → is_word_of width (pos n) ≡ true → is_wide width n ≡ false
not_wide W16 n h = grind (arith, ints, h)
not_wide W32 n h = refl

narrow_word : (width : Width) (n : ℕ) → is_word_of width (pos n) ≡ true
    → is_narrow width n ≡ true
narrow_word W16 n h = grind (arith, ints, h)
narrow_word W32 n h = by (nat_lt n 32768) where
  by : (b : Bool) → b || true ≡ true
  by true = refl
  by false = refl

-- how long the light lasts
narrow_light : (width : Width) (z : ℤ) → is_word_of width z ≡ true
    → is_narrow width (light_number z) ≡ true
narrow_light width (pos n) h = narrow_word width n h
narrow_light width (negsuc n) h = refl

-- ---- depths

few_deep : (n : ℕ) → n ≤ 8 → nat_lt DEEPEST n ≡ false
few_deep n h = grind (arith, h)

not_deep : (db : Database) (n : ℕ) → KeepsLimits db → n < length db.actions
    → nat_lt DEEPEST (routine_depth (line_routine db n)) ≡ false
not_deep db n limits there = few_deep (routine_depth (line_routine db n))
    (all_shallow 8 (line_body db (action_at db n)) (body_fine db (action_at db n) limits
    (natural_line (action_at db n) (one_of_all (λ a. is_action a ≡ true) db.actions n
    (record { vocab = 0; conds = []; pairs = [] })
    (each_passes is_action db.actions limits.entries.actions) there))))

-- ---- the routines of conditions and opcodes

-- the routines of this table that others of it call, with the opcodes for which they are there
mover : Sign
mover = (codes "move_item", k.Routine 2)

moving : List ℕ
moving = 52 ∷ 53 ∷ 55 ∷ 59 ∷ 69 ∷ 72 ∷ 74 ∷ 75 ∷ []

noun_sayer : Sign
noun_sayer = (codes "op_84", k.Routine 1)

saying : List ℕ
saying = 84 ∷ 85 ∷ []

abbrev all_among : List ℕ → List ℕ → Bool
all_among xs ns = list_all (λ n. list_any (λ x. nat_eq x n) xs) ns

-- one of these is used, where one of some among them is
one_used : (test : ℕ → Bool) (xs : List ℕ) (n : ℕ) → list_any (λ x. nat_eq x n) xs ≡ true
    → test n ≡ true → list_any test xs ≡ true
one_used test [] n there used = cc
one_used test (x ∷ xs) n there used = by (nat_eq x n) refl there (one_used test xs n) where
  same : (m : ℕ) → nat_eq m n ≡ true → m ≡ n
  same m h = grind (arith, h)

  at_first : test x ≡ true → test x || list_any test xs ≡ true
  at_first h = rw h refl

  further : (b : Bool) → list_any test xs ≡ true → b || list_any test xs ≡ true
  further true h = refl
  further false h = h

  by : (b : Bool) → nat_eq x n ≡ b → b || list_any (λ x. nat_eq x n) xs ≡ true
      → (list_any (λ x. nat_eq x n) xs ≡ true → test n ≡ true → list_any test xs ≡ true)
      → test x || list_any test xs ≡ true
  by true is there more = at_first (subst (λ n. test n ≡ true) (sym (same x is)) used)
  by false is there more = further (test x) (more there used)

-- where one of some numbers is used, so is one of a list that has all of them
among_used : (test : ℕ → Bool) (xs ns : List ℕ) → all_among xs ns ≡ true
    → list_any test ns ≡ true → list_any test xs ≡ true
among_used test xs [] all used = cc
among_used test xs (n ∷ ns) all used = by (test n) refl used parts.0 (among_used test xs ns parts.1)
  where
    parts : (list_any (λ x. nat_eq x n) xs ≡ true) × (all_among xs ns ≡ true)
    parts = and_parts (list_any (λ x. nat_eq x n) xs) (all_among xs ns) all

    by : (b : Bool) → test n ≡ b → b || list_any test ns ≡ true
        → list_any (λ x. nat_eq x n) xs ≡ true
        → (list_any test ns ≡ true → list_any test xs ≡ true) → list_any test xs ≡ true
    by true is used there more = one_used test xs n there is
    by false is used there more = more used

module _ (style : Style) (width : Width) (given : List ℕ) where
  abbrev sound_with : List Sign → Helper → Bool
  sound_with signs h = is_sound_routine width signs (row_routine (action_names style) given h.1)

  -- a routine that calls none of the table, or one of these two where they are there
  abbrev is_sound : Helper → Bool
  is_sound h = sound_with needed h
      || ((all_among moving h.0 && sound_with (mover ∷ needed) h)
      || (all_among saying h.0 && sound_with (noun_sayer ∷ needed) h))

module _ (style : Style) (width : Width) (items rooms last lasts : ℕ) where
  conditions_sound : nat_lt items 32768 ≡ true
      → list_all (sound_with style width (items ∷ rooms ∷ last ∷ lasts ∷ []) needed) conditions
      ≡ true
  unfolding body_of action_names
  conditions_sound h1 = rw h1 refl

  opcodes_sound : nat_lt items 32768 ≡ true → nat_lt rooms 32768 ≡ true
      → nat_lt last 32768 ≡ true
      → list_all (is_sound style width (items ∷ rooms ∷ last ∷ lasts ∷ [])) opcodes ≡ true
  unfolding body_of action_names mover moving noun_sayer saying
  opcodes_sound h1 h2 h3 = rw (h1, h2, h3) refl

  refill_sound : (light : ℤ) → is_narrow width lasts ≡ true
      → list_all (is_sound style width (items ∷ rooms ∷ last ∷ lasts ∷ [])) (refill light) ≡ true
  unfolding body_of action_names mover moving noun_sayer saying
  refill_sound (pos n) h = rw h refl
  refill_sound (negsuc n) h = refl

module _ (law : SoundRoutinesAreFaultless) (style : Style) (width : Width) (db : Database)
    (known : Known) (granted : Knows known needed)
    (own : EachUsed style db (IsOwnKnown known)) where
  abbrev Fine : DirectiveTree → Type 0
  Fine = IsFaultless width known

  by_signs : (signs : List Sign) → Knows known signs → (h : Helper)
      → sound_with style width (numbers db) signs h ≡ true
      → Fine (Routine (row_routine (action_names style) (numbers db) h.1))
  by_signs signs knows h sound =
      law width known signs (row_routine (action_names style) (numbers db) h.1) knows sound

  mover_known : list_any (uses Opcode db) moving ≡ true → IsKnown known mover
  unfolding action_names mover moving
  mover_known used = at_place (OfKind style db (IsOwnKnown known) (uses Opcode db)) opcodes 0
      own.opcodes used

  sayer_known : list_any (uses Opcode db) saying ≡ true → IsKnown known noun_sayer
  unfolding action_names noun_sayer saying
  sayer_known used = at_place (OfKind style db (IsOwnKnown known) (uses Opcode db)) opcodes 31
      own.opcodes used

  -- one that is used
  fine_used : (h : Helper) → is_sound style width (numbers db) h ≡ true
      → list_any (uses Opcode db) h.0 ≡ true
      → Fine (Routine (row_routine (action_names style) (numbers db) h.1))
  fine_used h sound used = by (sound_with style width (numbers db) needed h)
      (all_among moving h.0) (sound_with style width (numbers db) (mover ∷ needed) h)
      (all_among saying h.0) (sound_with style width (numbers db) (noun_sayer ∷ needed) h)
      refl refl refl refl refl sound where
        by : (a b c d e : Bool) → sound_with style width (numbers db) needed h ≡ a
            → all_among moving h.0 ≡ b
            → sound_with style width (numbers db) (mover ∷ needed) h ≡ c
            → all_among saying h.0 ≡ d
            → sound_with style width (numbers db) (noun_sayer ∷ needed) h ≡ e
            → a || ((b && c) || (d && e)) ≡ true
            → Fine (Routine (row_routine (action_names style) (numbers db) h.1))
        by true b c d e ha hb hc hd he all = by_signs needed granted h ha
        by false true true d e ha hb hc hd he all = by_signs (mover ∷ needed)
            (mover_known (among_used (uses Opcode db) moving h.0 hb used), granted) h hc
        by false true false true true ha hb hc hd he all = by_signs (noun_sayer ∷ needed)
            (sayer_known (among_used (uses Opcode db) saying h.0 hd used), granted) h he
        by false false c true true ha hb hc hd he all = by_signs (noun_sayer ∷ needed)
            (sayer_known (among_used (uses Opcode db) saying h.0 hd used), granted) h he
        by false true false true false ha hb hc hd he all = cc
        by false true false false e ha hb hc hd he all = cc
        by false false c true false ha hb hc hd he all = cc
        by false false c false e ha hb hc hd he all = cc

  opcodes_fine_too : (hs : List Helper)
      → list_all (is_sound style width (numbers db)) hs ≡ true
      → AllByRecursion (OfKind style db Fine (uses Opcode db)) hs
  opcodes_fine_too [] all = tt
  opcodes_fine_too (h ∷ hs) all = let parts = and_parts (is_sound style width (numbers db) h)
      (list_all (is_sound style width (numbers db)) hs) all in
      (fine_used h parts.0, opcodes_fine_too hs parts.1)

  -- no routine of a condition or an opcode has a fault, where there are fewer than 32,768 items and
  -- rooms, and the light's number isn't too wide
  helpers_fine : nat_lt (length db.items) 32768 ≡ true → nat_lt (length db.rooms) 32768 ≡ true
      → nat_lt (last_room db) 32768 ≡ true
      → is_narrow width (light_number db.header.light) ≡ true
      → AllByRecursion Fine (helper_directives style db)
  helpers_fine h1 h2 h3 h4 = each_helper style db Fine (record {
    conditions = each_by style db Fine (uses Condition db)
        (sound_with style width (numbers db) needed) (λ h. by_signs needed granted h) conditions
        (conditions_sound style width (length db.items) (length db.rooms) (last_room db)
        (light_number db.header.light) h1);
    opcodes = opcodes_fine_too opcodes (opcodes_sound style width (length db.items)
        (length db.rooms) (last_room db) (light_number db.header.light) h1 h2 h3);
    refill = opcodes_fine_too (refill db.header.light) (refill_sound style width (length db.items)
        (length db.rooms) (last_room db) (light_number db.header.light) db.header.light h4);
  })

  -- ---- lines

  module _ (limits : KeepsLimits db) (words : AllByRecursion (HasWords width) db.actions)
      (messages : (m : ℕ) → m < length db.messages
      → IsKnown known (message_name m, k.Routine 0)) where
    abbrev scope_of : ℕ → Scope
    scope_of n = routine_scope width known (line_routine db n)

    abbrev is_fine : ℕ → Demand → Bool
    is_fine n demand = is_none (fault_at (scope_of n) demand)

    number_fine : (wide : Bool) (n : ℕ) → wide ≡ false
        → is_none (fault_if wide (wide_number n)) ≡ true
    number_fine true n h = cc
    number_fine false n h = refl

    passes_calls : (n : ℕ) → PassesCalls width db (is_fine n)
    passes_calls n = record {
      numbers = λ m word. number_fine (is_wide width m) m (not_wide width m word);
      conditions = λ code less used other.
          ap is_none (conditions_fine style db known own code less used other);
      opcodes = λ m used called. ap is_none (opcodes_fine style db known own m used called);
      gets = λ m used get. ap is_none (gets_fine style db known own m used get);
      messages = λ m there.
          ap is_none (call_fine known (message_name m) 0 0 (messages m there) refl);
    }

    none_there : (o : Option Fault) → is_none o ≡ true → o ≡ None
    none_there None h = refl
    none_there (Some fault) h = cc

    none_at_all : (n : ℕ) (demands : Demands) → all_pass (is_fine n) demands ≡ true
        → first_fault (scope_of n) demands ≡ None
    none_at_all n q.Nothing h = refl
    none_at_all n (q.One demand) h = none_there (fault_at (scope_of n) demand) h
    none_at_all n (q.Both first rest) h = let
        parts = and_parts (all_pass (is_fine n) first) (all_pass (is_fine n) rest) h in
        ap (λ o. option_or o (first_fault (scope_of n) rest)) (none_at_all n first parts.0)
        ∙ none_at_all n rest parts.1

    abbrev BodyPasses : ℕ → Action → Type 0
    BodyPasses n a = all_pass (is_fine n)
        (statements_demands no_loop (statements (line_body db a))) ≡ true

    body_passes : (n : ℕ) → HasLineRoutine db n → BodyPasses n (action_at db n)
    body_passes n has = one_of_all (BodyPasses n) db.actions n
        (record { vocab = 0; conds = []; pairs = [] })
        (lines_demand width db (is_fine n) words (passes_calls n)) has.there

    by_parts : (deep : Bool) (fault : Fault) (o : Option Fault) → deep ≡ false → o ≡ None
        → first_of (fault_if deep fault ∷ None ∷ None ∷ o ∷ []) ≡ None
    by_parts deep fault o h k = rw (h, k) refl

    line_fine : (n : ℕ) → HasLineRoutine db n → Fine (Routine (line_routine db n))
    line_fine n has = by_parts (nat_lt DEEPEST (routine_depth (line_routine db n)))
        (too_deep (line_name n)) (first_fault (scope_of n)
        (statements_demands no_loop (statements (line_body db (action_at db n)))))
        (not_deep db n limits has.there)
        (none_at_all n (statements_demands no_loop (statements (line_body db (action_at db n))))
        (body_passes n has))

-- no routine of a condition, an opcode or a line has a fault, where what they call is known
pub actions_are_faultless : LinesHaveWords → SoundRoutinesAreFaultless → ActionsAreFaultless
actions_are_faultless have_words law style width db known translates granted messages knows = let
    own : EachUsed style db (IsOwnKnown known) = of_helpers style db (IsOwnKnown known)
    (of_first (IsOwnKnown known) (helper_directives style db) (line_directives db)
    (of_sources (IsKnown known) (λ x. (name_of x, own_kind x)) (action_directives style db) knows))
    in
    of_both (IsFaultless width known) (helper_directives style db) (line_directives db)
    (helpers_fine law style width db known granted own
    (small (length db.items) (few 255 db.items translates.limits.sizes.items))
    (small (length db.rooms) (few 255 db.rooms translates.limits.sizes.rooms))
    (small (last_room db) (omega (arith, few 255 db.rooms translates.limits.sizes.rooms)))
    (narrow_light width db.header.light (light_word width db translates.none_wide)))
    (each_line db (IsFaultless width known) (line_fine law style width db known granted own
    translates.limits (have_words width db translates.none_wide) messages))
