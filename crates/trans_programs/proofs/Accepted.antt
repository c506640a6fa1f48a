-- The program of a game is accepted.
use Rattle.std.proofs.Common.{◌≡◌, ◌∙◌, arith, ℕ, zero, suc, ◌+◌, ◌*◌, ◌<◌, ◌≤◌, ℤ, not, Bool, true, false, List, [], ◌∷◌, ◌++◌, length, codes, Option, Some, None, option_map, unwrap_or, refl, sym, ap, subst}
use Rattle.std.specs.List.{AllByRecursion}
use Rattle.std.specs.Option.{option_or}
use Rattle.std.proofs.lemmas.Bool.{and_parts}
use Rattle.inform_tree.specs.declared.widths.Width.{Width}
use Rattle.inform_tree.specs.declared.values.Const.{Const}
use Rattle.inform_tree.specs.declared.values.Const.TheVariants as k
use Rattle.inform_tree.specs.Programs as d
use Rattle.inform_tree.specs.Programs.{DirectiveTree}
use Rattle.inform_tree.specs.Words.{is_number}
use Rattle.inform_names.specs.declared.meanings.Kind.{Kind}
use Rattle.inform_names.specs.declared.meanings.Kind.TheVariants as m
use Rattle.inform_names.specs.declared.meanings.Meaning.{Meaning}
use Rattle.inform_names.specs.Words.{is_wide}
use Rattle.inform_names.specs.Meanings.{Known, name_of, meanings, array_length, directive_entries, entry_count}
use Rattle.inform_names.specs.Demands.{constant_demands, constants_demands}
use Rattle.inform_names.specs.Faults.{wide_number}
use Rattle.inform_names.specs.Places.{Scope, first_fault}
use Rattle.inform_names.specs.Lookups.{IsLength}
use Rattle.inform_names.specs.Acceptance.{outer_scope, is_routine, means_routine, main, name_fault}
use Rattle.inform_names.specs.Laws.{total_entries}
use Rattle.inform_logic.specs.Holding.{Distinct}
use Rattle.inform_signature.specs.Signatures.{Sign, own_kind, signature, IsKnown, Knows}
use Rattle.inform_signature.specs.Soundness.{is_constant, IsSound, IsFaultless}
use Rattle.inform_signature.specs.Laws.{SoundRoutinesAreFaultless, SignatureIsKnown, SoundProgramsAreAccepted}
use Rattle.inform_signature.proofs.Demanded.{no_fault}
use Rattle.inform_signature.proofs.Elements.{one_in}
use Rattle.scott_types.specs.declared.states.State.{State}
use Rattle.scott_types.specs.declared.styles.Style.{Style}
use Rattle.scott_types.specs.declared.endings.Position.{Position}
use Rattle.scott_types.specs.Database.{Database}
use Rattle.scott_types.specs.State.{Fits}
use Rattle.trans_specs.specs.Names.{message_name, line_name}
use Rattle.trans_specs.specs.Directives.{data_directives}
use Rattle.trans_specs.specs.Faithful.{opening_state, opening_position}
use Rattle.trans_specs.specs.ActionSpecs.{HasLineRoutine}
use Rattle.trans_specs.specs.Meeting.{Translates}
use Rattle.trans_specs.proofs.Written.{small_written}
use Rattle.trans_specs.proofs.Lists.{of_both, each_passes, each_with, of_sources, of_images}
use Rattle.trans_data.specs.Routines.{routine_names, table_rows}
use Rattle.trans_data.specs.Texts.{message_directives, text_directives}
use Rattle.trans_words.specs.Directives.{word_directives}
use Rattle.trans_actions.specs.Directives.{action_directives}
use Rattle.trans_actions.specs.Needed.{needed}
use Rattle.trans_actions.specs.Parts.{LinesAreThere, ActionsAreFaultless}
use Rattle.trans_actions.proofs.Known.{AtPlace, at_place}
use Rattle.trans_groups.specs.Directives.{group_directives}
use Rattle.trans_groups.specs.Trying.{trying_directives}
use Rattle.trans_groups.specs.Parts.{TryingIsFaultless}
use Rattle.trans_turn.specs.Routines.{rounds_asking, turn_directives}
use Rattle.trans_programs.specs.Programs.{playing_routines, game_routines, game_program}
use Rattle.trans_programs.specs.Laws.{ProgramsAreDistinct, ProgramsAreAccepted}
use Rattle.trans_programs.proofs.Parts.{before_groups, after_groups, named, Each, by_parts, of_named}
use Rattle.trans_programs.proofs.Routines.{IsRoutine, routines_only}
use Rattle.trans_programs.proofs.Tables.{is_fine, HasLength, IsFineTable, tables_are_fine}
use Rattle.trans_programs.proofs.Sound.{is_sound, are_sound, texts_sound, words_sound, turns_sound}

-- ---- tables

not_wide : (b : Bool) → not b ≡ true → b ≡ false
not_wide true h = cc
not_wide false h = refl

constant_faultless : (scope : Scope) (x : Const) → is_fine scope.width x ≡ true
    → first_fault scope (constant_demands x) ≡ None
constant_faultless scope (k.Number n) h = no_fault (is_wide scope.width n) (wide_number n)
    (not_wide (is_wide scope.width n) (and_parts (is_number n) (not (is_wide scope.width n)) h).1)
constant_faultless scope (k.Char byte) h = cc
constant_faultless scope (k.Name name) h = cc
constant_faultless scope (k.Minus n) h = no_fault (is_wide scope.width n) (wide_number n)
    (not_wide (is_wide scope.width n) (and_parts (is_number n) (not (is_wide scope.width n)) h).1)

constants_faultless : (scope : Scope) (xs : List Const)
    → AllByRecursion (λ x. is_fine scope.width x ≡ true) xs
    → first_fault scope (constants_demands xs) ≡ None
constants_faultless scope [] h = refl
constants_faultless scope (x ∷ xs) h =
    ap (λ o. option_or o (first_fault scope (constants_demands xs)))
    (constant_faultless scope x h.0) ∙ constants_faultless scope xs h.1

module _ (width : Width) (known : Known) where
  length_is : (entries : List Const) → HasLength entries
      → IsLength (array_length width known entries)
  length_is [] h = absurd h
  length_is (x ∷ []) h = (
    h.0,
    ap (λ x. array_length width known (x ∷ [])) h.1 ∙ small_written known width h.0 h.3,
    h.2,
    omega (arith, h.3),
  )
  length_is (x ∷ y ∷ xs) h = (length (x ∷ y ∷ xs), refl, omega arith, omega (arith, h))

  table_sound : (x : DirectiveTree) → IsFineTable width x → IsSound width known x
  table_sound (d.Constant name value) h = absurd h
  table_sound (d.Global name None) h = absurd h
  table_sound (d.Global name (Some value)) h =
      constant_faultless (outer_scope width known name) value h.1
  table_sound (d.Array name words entries) h = record {
    length_is = length_is entries h.2;
    fine = constants_faultless (outer_scope width known name) entries h.1;
  }
  table_sound (d.Routine r) h = absurd h

  -- ---- how many entries there are

  few_entries : (o : Option ℤ) → IsLength o → entry_count o ≤ 32767
  few_entries o h = subst (λ o. entry_count o ≤ 32767) (sym h.1) h.3

  table_entries : (x : DirectiveTree) → IsFineTable width x
      → directive_entries width known x ≤ 32767
  table_entries (d.Constant name value) h = absurd h
  table_entries (d.Global name None) h = absurd h
  table_entries (d.Global name (Some value)) h = omega arith
  table_entries (d.Array name words entries) h =
      few_entries (array_length width known entries) (length_is entries h.2)
  table_entries (d.Routine r) h = absurd h

  none_in_all : (ds : List DirectiveTree)
      → AllByRecursion (λ x. directive_entries width known x ≡ 0) ds
      → total_entries width known ds ≡ 0
  none_in_all [] h = refl
  none_in_all (x ∷ xs) h = omega (arith, h.0, none_in_all xs h.1)

  few_in_all : (tables others : List DirectiveTree) → AllByRecursion (IsFineTable width) tables
      → total_entries width known others ≡ 0
      → total_entries width known (tables ++ others) ≤ length tables * 32767
  few_in_all [] others h none = omega (arith, none)
  few_in_all (x ∷ xs) others h none =
      omega (arith, table_entries x h.0, few_in_all xs others h.1 none)

-- ---- routines

-- a routine without a fault is sound, has no entries, and is no constant
faultless_sound : (width : Width) (known : Known) (x : DirectiveTree) → IsFaultless width known x
    → IsSound width known x
faultless_sound width known (d.Constant name value) h = absurd h
faultless_sound width known (d.Global name value) h = absurd h
faultless_sound width known (d.Array name words entries) h = absurd h
faultless_sound width known (d.Routine r) h = h

no_entries : (width : Width) (known : Known) (x : DirectiveTree) → IsRoutine x
    → directive_entries width known x ≡ 0
no_entries width known (d.Constant name value) h = cc
no_entries width known (d.Global name value) h = cc
no_entries width known (d.Array name words entries) h = cc
no_entries width known (d.Routine r) h = refl

routine_constant : (x : DirectiveTree) → IsRoutine x → is_constant x ≡ false
routine_constant (d.Constant name value) h = cc
routine_constant (d.Global name value) h = refl
routine_constant (d.Array name words entries) h = refl
routine_constant (d.Routine r) h = refl

table_constant : (width : Width) (x : DirectiveTree) → IsFineTable width x
    → is_constant x ≡ false
table_constant width (d.Constant name value) h = absurd h
table_constant width (d.Global name value) h = refl
table_constant width (d.Array name words entries) h = refl
table_constant width (d.Routine r) h = refl

-- one that is sound by a signature that is known
sound_faultless : SoundRoutinesAreFaultless → (width : Width) (known : Known) (signs : List Sign)
    → Knows known signs → (x : DirectiveTree) → is_sound width signs x ≡ true
    → IsFaultless width known x
sound_faultless law width known signs knows (d.Constant name value) h = cc
sound_faultless law width known signs knows (d.Global name value) h = cc
sound_faultless law width known signs knows (d.Array name words entries) h = cc
sound_faultless law width known signs knows (d.Routine r) h = law width known signs r knows h

-- ---- names that are known

abbrev sign : DirectiveTree → Sign
sign x = (name_of x, own_kind x)

is_called : (o : Option Meaning) (locals : ℕ)
    → option_map (λ m. m.kind) o ≡ Some (m.Routine locals) → means_routine o ≡ true
is_called None locals h = cc
is_called (Some x) locals h = ap is_routine (ap (λ (o : Option Kind). unwrap_or o x.kind) h)

module _ (style : Style) (db : Database) (s : State) (begin : Position) (known : Known)
    (knows : Knows known (signature (named style db s begin))) where
  -- the name of a number
  sign_at : (n : ℕ) → AtPlace (IsKnown known) (signature (named style db s begin)) n
  sign_at n = at_place (IsKnown known) (signature (named style db s begin)) n knows

  has_main : means_routine (known main) ≡ true
  unfolding table_rows routine_names rounds_asking
  has_main = is_called (known main) 0 (sign_at 79)

  and : {A B : Type 0} → A → B → A × B
  and a b = (a, b)

  -- what the lines take for granted
  granted : Knows known needed
  unfolding table_rows routine_names rounds_asking
  granted = and (sign_at 12) (and (sign_at 16) (and (sign_at 13) (and (sign_at 14) (and (sign_at 15)
      (and (sign_at 27) (and (sign_at 0) (and (sign_at 1) (and (sign_at 2) (and (sign_at 3)
      (and (sign_at 4) (and (sign_at 5) (and (sign_at 10) (and (sign_at 11) (and (sign_at 29)
      (and (sign_at 30) (and (sign_at 33) (and (sign_at 34) (and (sign_at 38) (and (sign_at 39)
      (and (sign_at 41) tt))))))))))))))))))))

  -- what the automatic step does
  noun_granted : IsKnown known (codes "nb", m.Global)
  noun_granted = sign_at 11

-- each message
message_known : (known : Known) (n : ℕ) (texts : List (List ℕ))
    → AllByRecursion (λ x. IsKnown known (sign x)) (message_directives n texts) → (i : ℕ)
    → i < length texts → IsKnown known (message_name (n + i), m.Routine 0)
message_known known n [] h i less = absurd (omega (arith, less))
message_known known n (text ∷ texts) h zero less = let at : n ≡ n + 0 = omega arith in
    subst (λ n. IsKnown known (message_name n, m.Routine 0)) at h.0
message_known known n (text ∷ texts) h (suc i) less = let at : n + 1 + i
    ≡ n + suc i = omega arith in
    subst (λ n. IsKnown known (message_name n, m.Routine 0)) at
    (message_known known (n + 1) texts h.1 i (omega (arith, less)))

-- ---- all of it

module _ (distinct_law : ProgramsAreDistinct) (first : SignatureIsKnown)
    (faultless : SoundRoutinesAreFaultless) (accepted : SoundProgramsAreAccepted)
    (lines_there : LinesAreThere) (lines_fine : ActionsAreFaultless)
    (trying_fine : TryingIsFaultless) (style : Style) (width : Width) (db : Database)
    (from : Option State) (translates : Translates width db)
    (fits : Fits db (opening_state db from)) where
  abbrev begin : Position
  begin = opening_position from

  abbrev program : List DirectiveTree
  program = game_program style db from

  abbrev tables : List DirectiveTree
  tables = data_directives db (opening_state db from)

  abbrev routines : List DirectiveTree
  routines = game_routines style db from

  abbrev known : Known
  known = meanings width program

  abbrev signs : List Sign
  signs = signature (named style db (opening_state db from) begin)

  distinct : Distinct program
  distinct = distinct_law style db from translates.limits

  fine : AllByRecursion (IsFineTable width) tables
  fine = tables_are_fine width db translates.limits (opening_state db from) fits
      translates.none_wide

  no_constant : AllByRecursion (λ x. is_constant x ≡ false) program
  no_constant = of_both (λ x. is_constant x ≡ false) tables routines
      (each_with (IsFineTable width) (λ x. is_constant x ≡ false)
      (table_constant width) tables fine)
      (each_with IsRoutine (λ x. is_constant x ≡ false) routine_constant routines
      (routines_only style db from))

  -- each name is known as that of its directive
  each_known : Each style db from (λ x. IsKnown known (sign x))
  each_known = by_parts style db from (λ x. IsKnown known (sign x))
      (of_sources (IsKnown known) sign program (first width program distinct no_constant))

  knows : Knows known signs
  knows = of_images (IsKnown known) sign (named style db (opening_state db from) begin)
      (of_named style db from (λ x. IsKnown known (sign x)) each_known)

  line_known : (n : ℕ) → HasLineRoutine db n → IsKnown known (line_name n, m.Routine 0)
  line_known n has = let there = lines_there style db n has in
      one_in (λ x. IsKnown known (sign x)) (action_directives style db) there.0 each_known.lines
      there.1

  message_there : (n : ℕ) → n < length db.messages
      → IsKnown known (message_name n, m.Routine 0)
  message_there n less = let at : 0 + n ≡ n = omega arith in
      subst (λ n. IsKnown known (message_name n, m.Routine 0)) at
      (message_known known 0 db.messages each_known.messages n less)

  -- no routine has a fault
  by_signs : (ds : List DirectiveTree) → are_sound width signs ds ≡ true
      → AllByRecursion (IsFaultless width known) ds
  by_signs ds sound = each_with (λ x. is_sound width signs x ≡ true) (IsFaultless width known)
      (sound_faultless faultless width known signs knows) ds
      (each_passes (is_sound width signs) ds sound)

  -- no routine of the program has a fault
  no_fault_there : AllByRecursion (IsFaultless width known) routines
  no_fault_there = of_both (IsFaultless width known) (text_directives style db)
      (word_directives db ++ playing_routines style db from)
      (by_signs (text_directives style db)
      (texts_sound width db translates.limits style (opening_state db from) begin))
      (of_both (IsFaultless width known) (word_directives db) (playing_routines style db from)
      (by_signs (word_directives db)
      (words_sound width db translates.limits style (opening_state db from) begin))
      (of_both (IsFaultless width known) (action_directives style db)
      (turn_directives style db begin)
      (lines_fine style width db known translates
      (granted style db (opening_state db from) begin known knows) message_there
      (of_images (IsKnown known) sign (action_directives style db) each_known.lines))
      (of_both (IsFaultless width known) (trying_directives db) (after_groups style db begin)
      (trying_fine width db known translates
      (noun_granted style db (opening_state db from) begin known knows) line_known
      (of_images (IsKnown known) sign (trying_directives db) (of_both (λ x. IsKnown known (sign x))
      (before_groups db) (group_directives db) each_known.search each_known.groups)))
      (by_signs (after_groups style db begin)
      (turns_sound width db translates.limits style (opening_state db from) begin from)))))

  few_is : total_entries width known program ≤ length tables * 32767
      → total_entries width known program ≤ 4000000
  few_is h = omega (arith, h)

  -- no fault is found in the program
  program_accepted : name_fault width program ≡ None
  program_accepted = accepted width program (record {
    distinct = distinct;
    each = of_both (IsSound width known) tables routines
        (each_with (IsFineTable width) (IsSound width known) (table_sound width known) tables fine)
        (each_with (IsFaultless width known) (IsSound width known) (faultless_sound width known)
        routines no_fault_there);
    few = few_is (few_in_all width known tables routines fine (none_in_all width known routines
        (each_with IsRoutine (λ x. directive_entries width known x ≡ 0) (no_entries width known)
        routines (routines_only style db from))));
    has_main = has_main style db (opening_state db from) begin known knows;
  })

pub programs_are_accepted : ProgramsAreDistinct → SignatureIsKnown → SoundRoutinesAreFaultless
    → SoundProgramsAreAccepted → LinesAreThere → ActionsAreFaultless → TryingIsFaultless
    → ProgramsAreAccepted
programs_are_accepted distinct first faultless accepted there lines trying style width db from
    translates fits = program_accepted distinct first faultless accepted there lines trying style
    width db from translates fits
