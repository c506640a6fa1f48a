-- The routines of fixed names meet what is demanded of them, by those names.
use Rattle.std.proofs.Common.{◌≡◌, ◌∙◌, arith, ℕ, ◌+◌, ◌≤◌, pos, nat_lt, not, Bool, true, false, List, [], ◌∷◌, ◌++◌, length, codes, Option, Some, None, refl}
use Rattle.std.specs.Prelude.{int_lt}
use Rattle.std.specs.List.{list_all}
use Rattle.std.proofs.lemmas.List.{length-map}
use Rattle.std.proofs.lemmas.List.Folds.{list_all-append}
use Rattle.inform_tree.specs.declared.widths.Width.{Width}
use Rattle.inform_tree.specs.Programs as d
use Rattle.inform_tree.specs.Programs.{DirectiveTree}
use Rattle.inform_tree.specs.Depths.{cases_depth, routine_depth}
use Rattle.inform_names.specs.declared.limits.TheConstants.{DEEPEST}
use Rattle.inform_names.specs.Demands.{cases_demands, switch_in, no_loop}
use Rattle.inform_names.specs.Acceptance.{is_main}
use Rattle.inform_codes.specs.Grown.{body_of}
use Rattle.inform_codes.specs.Routines.{rows_directives}
use Rattle.inform_signature.specs.Signatures.{Sign, signature, are_met}
use Rattle.inform_signature.specs.Soundness.{is_sound_routine}
use Rattle.scott_types.specs.declared.states.State.{State}
use Rattle.scott_types.specs.declared.styles.Style.{Style}
use Rattle.scott_types.specs.declared.endings.Position.{Position}
use Rattle.scott_types.specs.declared.commands.Column.{Column}
use Rattle.scott_types.specs.declared.commands.Column.TheVariants.{Verbs, Nouns}
use Rattle.scott_types.specs.Database.{Database}
use Rattle.scott_types.specs.Limits.{KeepsLimits}
use Rattle.scott_types.specs.ItemText.{shown}
use Rattle.scott_rules.specs.Looking.{described}
use Rattle.scott_rules.specs.Words.{which}
use Rattle.trans_specs.specs.Tables.{or_zero}
use Rattle.trans_specs.specs.Faithful.{opening_position}
use Rattle.trans_specs.proofs.Lengths.{few}
use Rattle.trans_data.specs.Numbers.{byte_or_more, divisor, goal, numbers}
use Rattle.trans_data.specs.Routines.{routine_names, table_rows, chosen_rows, fixed_directives}
use Rattle.trans_data.specs.Texts.{message_directives, text_cases, text_routine, item_texts, room_texts, spoken_directives, text_directives}
use Rattle.trans_words.specs.Directives.{line_directives, column_names, column_rows, column_directives, word_directives}
use Rattle.trans_words.proofs.Tables.{few_words}
use Rattle.trans_words.proofs.First.{named_small}
use Rattle.trans_commands.specs.Directives.{command_directives}
use Rattle.trans_turn.specs.Routines.{rounds_asking, round_directives}
use Rattle.trans_programs.proofs.Numbers.{is_small, less_small, items_small, byte_small, goal_small, divisor_small}
use Rattle.trans_programs.proofs.Formed.{both}
use Rattle.trans_programs.proofs.Parts.{after_groups, named, chosen_by}

abbrev pub is_sound : Width → List Sign → DirectiveTree → Bool
is_sound width signs (d.Constant name value) = false
is_sound width signs (d.Global name value) = false
is_sound width signs (d.Array name words entries) = false
is_sound width signs (d.Routine r) = is_sound_routine width signs r

abbrev pub are_sound : Width → List Sign → List DirectiveTree → Bool
are_sound width signs ds = list_all (is_sound width signs) ds

module _ (width : Width) where
  -- ---- the fixed routines of the texts

  rows_sound : (style : Style) (db : Database) (s : State) (begin : Position)
      (items carry home size all : ℕ) → is_small items ≡ true → is_small carry ≡ true
      → is_small home ≡ true → is_small all ≡ true
      → are_sound width (signature (named style db s begin)) (rows_directives (routine_names style)
      (items ∷ carry ∷ home ∷ size ∷ all ∷ []) table_rows) ≡ true
  unfolding body_of routine_names table_rows rounds_asking
  rows_sound style db s begin items carry home size all h1 h2 h3 h4 = rw (h1, h2, h3, h4) refl

  -- the routines that are chosen by the treasures and the style are sound, whichever they are
  chosen_sound : (style : Style) (db : Database) (s : State) (begin : Position)
      (items carry home size all : ℕ) (less counted vanish : Bool) → is_small size ≡ true
      → are_sound width (signature (named style db s begin)) (rows_directives (routine_names style)
      (items ∷ carry ∷ home ∷ size ∷ all ∷ []) (chosen_by less counted vanish)) ≡ true
  unfolding body_of routine_names table_rows rounds_asking
  chosen_sound style db s begin items carry home size all true true true h = rw h refl
  chosen_sound style db s begin items carry home size all true true false h = rw h refl
  chosen_sound style db s begin items carry home size all true false true h = rw h refl
  chosen_sound style db s begin items carry home size all true false false h = rw h refl
  chosen_sound style db s begin items carry home size all false true true h = rw h refl
  chosen_sound style db s begin items carry home size all false true false h = rw h refl
  chosen_sound style db s begin items carry home size all false false true h = rw h refl
  chosen_sound style db s begin items carry home size all false false false h = rw h refl

  -- ---- the word reader

  line_sound : (style : Style) (db : Database) (s : State) (begin : Position)
      → are_sound width (signature (named style db s begin)) line_directives ≡ true
  unfolding body_of routine_names table_rows rounds_asking
  line_sound style db s begin = refl

  -- the routines that read one column of words are sound, where their numbers are small
  column_sound : (style : Style) (db : Database) (s : State) (begin : Position) (column : Column)
      (size entries a b c d e f g : ℕ) → is_small size ≡ true → is_small entries ≡ true
      → is_small a ≡ true → is_small b ≡ true → is_small c ≡ true → is_small d ≡ true
      → is_small e ≡ true → is_small f ≡ true → is_small g ≡ true
      → are_sound width (signature (named style db s begin)) (rows_directives (column_names column)
      (size ∷ entries ∷ a ∷ b ∷ c ∷ d ∷ e ∷ f ∷ g ∷ []) column_rows) ≡ true
  unfolding body_of routine_names table_rows rounds_asking
  column_sound style db s begin Verbs size entries a b c d e f g hs he ha hb hc hd hi hf hg =
      rw (hs, he, ha, hb, hc, hd, hi, hf, hg) refl
  column_sound style db s begin Nouns size entries a b c d e f g hs he ha hb hc hd hi hf hg =
      rw (hs, he, ha, hb, hc, hd, hi, hf, hg) refl

  -- ---- the turn

  commands_sound : (style : Style) (db : Database) (s : State) (begin : Position)
      → is_small (length db.items) ≡ true
      → are_sound width (signature (named style db s begin)) (command_directives style db) ≡ true
  unfolding body_of routine_names table_rows rounds_asking
  commands_sound style db s begin h = rw h refl

  rounds_sound : (style : Style) (db : Database) (s : State) (from : Option State)
      → are_sound width (signature (named style db s (opening_position from)))
      (round_directives (opening_position from)) ≡ true
  unfolding body_of routine_names table_rows rounds_asking
  rounds_sound style db s None = refl
  rounds_sound style db s (Some other) = refl

  -- ---- texts by their numbers, and messages

  cases_shallow : (n : ℕ) (texts : List (List ℕ)) → cases_depth (text_cases n texts) ≤ 1
  cases_shallow n [] = omega arith
  cases_shallow n (text ∷ texts) = omega (arith, cases_shallow (n + 1) texts)

  cases_met : (signs : List Sign) (locals : List (List ℕ)) (n : ℕ) (texts : List (List ℕ))
      → n + length texts ≤ 32768
      → are_met width signs locals (cases_demands (switch_in no_loop) (text_cases n texts)) ≡ true
  cases_met signs locals n [] fits = refl
  cases_met signs locals n (text ∷ texts) fits = rw (less_small n (omega (arith, fits)))
      (cases_met signs locals (n + 1) texts (omega (arith, fits)))

  switch_not_deep : (name : List ℕ) (texts : List (List ℕ))
      → not (nat_lt DEEPEST (routine_depth (text_routine name texts))) ≡ true
  switch_not_deep name texts = grind (arith, cases_shallow 0 texts)

  switch_sound : (signs : List Sign) (name : List ℕ) (texts : List (List ℕ)) → is_main name ≡ false
      → length texts ≤ 255 → is_sound width signs (d.Routine (text_routine name texts)) ≡ true
  switch_sound signs name texts other few = both _ _ (switch_not_deep name texts)
      (rw (other, cases_met signs (codes "i" ∷ []) 0 texts (omega (arith, few))) refl)

  messages_sound : (signs : List Sign) (m : ℕ) (texts : List (List ℕ))
      → are_sound width signs (message_directives m texts) ≡ true
  unfolding body_of
  messages_sound signs m [] = refl
  messages_sound signs m (text ∷ texts) = messages_sound signs (m + 1) texts

  -- ---- all routines

  sound_both : (signs : List Sign) (xs ys : List DirectiveTree) → are_sound width signs xs ≡ true
      → are_sound width signs ys ≡ true → are_sound width signs (xs ++ ys) ≡ true
  sound_both signs xs ys h k = list_all-append (is_sound width signs) xs ys
      ∙ both (are_sound width signs xs) (are_sound width signs ys) h k

  module _ (db : Database) (limits : KeepsLimits db) where
    named_entry : (column : Column) (word : List ℕ) → is_small (or_zero (which db column word))
        ≡ true
    named_entry column word = less_small (or_zero (which db column word))
        (omega (arith, named_small db column limits word))

    module _ (style : Style) (s : State) (begin : Position) where
      pub texts_sound : are_sound width (signature (named style db s begin))
          (text_directives style db) ≡ true
      unfolding numbers
      texts_sound = let signs = signature (named style db s begin) in
          sound_both signs (fixed_directives style db) (spoken_directives style db)
          (sound_both signs
          (rows_directives (routine_names style) (numbers db) table_rows)
          (rows_directives (routine_names style) (numbers db) (chosen_rows style db))
          (rows_sound style db s begin (length db.items) (byte_or_more db.header.carry)
          (byte_or_more db.header.home) (divisor db.header.treasures) (goal db.header.treasures)
          (items_small db limits) (byte_small db.header.carry) (byte_small db.header.home)
          (goal_small db.header.treasures))
          (chosen_sound style db s begin (length db.items) (byte_or_more db.header.carry)
          (byte_or_more db.header.home) (divisor db.header.treasures) (goal db.header.treasures)
          (int_lt db.header.treasures (pos 0)) style.counted style.vanish
          (divisor_small db.header.treasures)))
          (both _ _ (switch_sound signs (codes "say_item") (item_texts db) refl (omega (
            arith,
            length-map db.items (λ item. shown item.text),
            few 255 db.items limits.sizes.items,
          )))
          (both _ _ (switch_sound signs (codes "say_room") (room_texts style db) refl (omega (
            arith,
            length-map db.rooms (λ room. described style room.text),
            few 255 db.rooms limits.sizes.rooms,
          ))) (messages_sound signs 0 db.messages)))

      pub words_sound : are_sound width (signature (named style db s begin)) (word_directives db)
          ≡ true
      words_sound = sound_both (signature (named style db s begin)) line_directives
          (column_directives db Verbs ++ column_directives db Nouns) (line_sound style db s begin)
          (sound_both (signature (named style db s begin)) (column_directives db Verbs)
          (column_directives db Nouns) (of_column Verbs) (of_column Nouns)) where
            of_column : (column : Column)
                → are_sound width (signature (named style db s begin)) (column_directives db column)
                ≡ true
            of_column column = column_sound style db s begin column _ _ _ _ _ _ _ _ _
                (less_small db.header.length (omega (arith, limits.header.length_range.1)))
                (less_small (length db.words) (omega (arith, few_words db limits)))
                (named_entry column (codes "north")) (named_entry column (codes "south"))
                (named_entry column (codes "east")) (named_entry column (codes "west"))
                (named_entry column (codes "up")) (named_entry column (codes "down"))
                (named_entry column (codes "inventory"))

      pub turns_sound : (from : Option State) → are_sound width
          (signature (named style db s (opening_position from)))
          (after_groups style db (opening_position from)) ≡ true
      turns_sound from = let begin = opening_position from in
          sound_both (signature (named style db s begin)) (command_directives style db)
          (round_directives begin) (commands_sound style db s begin (items_small db limits))
          (rounds_sound style db s from)
