-- The stage with which a translated game opens stands for its opening state.
use Rattle.std.proofs.Common.{◌≡◌, ◌∙◌, arith, ℕ, ◌+◌, ◌<◌, ◌≤◌, ℤ, pos, negsuc, ◌≤ℤ◌, nat_lt, nat_le, Bool, true, false, ◌&&◌, not, cond, List, [], ◌∷◌, ◌++◌, map, length, drop, replicate, codes, flat_map, find, Option, Some, None, is_some, unwrap_or, refl, ap}
use Rattle.std.specs.List.{AllByRecursion, list_all}
use Rattle.std.proofs.lemmas.Bool.{and_parts}
use Rattle.std.proofs.lemmas.Int.{ints}
use Rattle.std.proofs.lemmas.List.{length-map, length-drop}
use Rattle.inform_tree.specs.declared.widths.Width.{Width}
use Rattle.inform_tree.specs.declared.widths.Width.TheVariants.{W16, W32}
use Rattle.inform_tree.specs.declared.values.Const.TheVariants.{Number}
use Rattle.inform_tree.specs.Programs.{DirectiveTree}
use Rattle.inform_names.specs.Meanings.{Known, meanings, constant_word, entry_count}
use Rattle.inform_meaning.specs.Programs.{entries_in}
use Rattle.inform_logic.specs.Stages.{Stage}
use Rattle.inform_logic.specs.Holding.{Opens, opening_stage}
use Rattle.inform_logic.specs.Laws.{OpeningOpens}
use Rattle.scott_types.specs.declared.parts.Item.{Item}
use Rattle.scott_types.specs.declared.states.State.{State}
use Rattle.scott_types.specs.declared.commands.Column.{Column}
use Rattle.scott_types.specs.declared.commands.Column.TheVariants.{Verbs, Nouns}
use Rattle.scott_types.specs.Database.{Database, place_of_item}
use Rattle.scott_types.specs.Limits.{is_item, is_file_text, KeepsLimits}
use Rattle.scott_types.specs.Room.{room_beyond}
use Rattle.scott_types.specs.State.{is_counter, is_place, is_room_of, Fits}
use Rattle.scott_types.specs.ItemText.{is_treasure}
use Rattle.scott_rules.specs.Words.{is_empty, is_typed, column_of, entries_of, which}
use Rattle.trans_specs.specs.Tables.{bit, or_zero, guarded, start_places, exits_of_room, exits, entry_letters, word_letters, bases, word_bases, is_class, class_of, class_of_noun, classes, noun_classes, item_word, buffer_length}
use Rattle.trans_specs.specs.declared.places.Place.TheVariants.{Carry, Treasures, Light, Home}
use Rattle.trans_specs.specs.Wide.{Placed, is_word_of, placed_actions, is_too_wide, wide_at}
use Rattle.trans_specs.specs.Directives.{written, data_directives}
use Rattle.trans_specs.specs.Views.{naturals, Shows}
use Rattle.trans_specs.specs.Standing.{HasTables, CanWork, HasNoun, StandsFor}
use Rattle.trans_specs.specs.Laws.{OpeningStands}
use Rattle.trans_specs.proofs.Bounds.{Below, below_guarded, below_map, below_flat, below_tested, below_bit, below_choice, below_bases, below_position, below_entry, below_word_letters}
use Rattle.trans_specs.proofs.Written.{word_written, small_written, naturals_written, bytes_written, integers_written, entries_are}
use Rattle.trans_specs.proofs.Lengths.{IsThere, there, few, long_guarded, there_map, there_exits, there_words, there_bases, there_classes}

-- ---- the light is a word, where no number is wide

pub word_or_wide : (b : Bool) → not b ≡ false → b ≡ true
word_or_wide true h = refl
word_or_wide false h = cc

none_first : (test : Placed → Bool) (x : Placed) (xs : List Placed)
    → find test (x ∷ xs) ≡ None → (test x ≡ false) × (find test xs ≡ None)
none_first test x xs = from (test x) where
  from : (b : Bool) → cond b (Some x) (find test xs) ≡ None
      → (b ≡ false) × (find test xs ≡ None)
  from true h = cc
  from false h = (refl, h)

pub none_third : (test : Placed → Bool) (x y z : Placed) (xs : List Placed)
    → find test (x ∷ y ∷ z ∷ xs) ≡ None → test z ≡ false
none_third test x y z xs h = (none_first test z xs
    (none_first test y (z ∷ xs) (none_first test x (y ∷ z ∷ xs) h).1).1).0

pub less_light : (width : Width) (light most : ℤ) → negsuc 0 ≤ℤ light
    → light ≤ℤ most → is_word_of width most ≡ true → is_word_of width light ≡ true
less_light W16 light most low high word = grind (arith, ints)
less_light W32 light most low high word = grind (arith, ints)

pub counter_word : (width : Width) (z : ℤ) → is_counter z ≡ true → is_word_of width z ≡ true
counter_word W16 z h = grind (arith, ints)
counter_word W32 z h = grind (arith, ints)

pub counter_words : (width : Width) (zs : List ℤ) → list_all is_counter zs ≡ true
    → AllByRecursion (λ z. is_word_of width z ≡ true) zs
counter_words width [] h = tt
counter_words width (z ∷ zs) h = (
  counter_word width z (and_parts (is_counter z) (list_all is_counter zs) h).0,
  counter_words width zs (and_parts (is_counter z) (list_all is_counter zs) h).1,
)

-- ---- small entries

pub small : 2 ≤ 32768
small = omega arith

below_beyond : (rooms : ℕ) (z : ℤ) → rooms ≤ 255 → room_beyond rooms z < 32768
below_beyond rooms (pos n) h = below_choice 32768 small (nat_lt 0 n && nat_lt n rooms) n inside
  where
    inside : nat_lt 0 n && nat_lt n rooms ≡ true → n < 32768
    inside k = grind (arith, h, (and_parts (nat_lt 0 n) (nat_lt n rooms) k).1)
below_beyond rooms (negsuc n) h = omega arith

-- the items of a file begin at places below 32,768
pub below_places : (items : List Item) → list_all is_item items ≡ true
    → Below 32768 (map place_of_item items)
below_places [] h = tt
below_places (item ∷ items) h = (
  grind (
    arith,
    (and_parts (is_file_text item.text) (nat_le item.place 255)
        (and_parts (is_item item) (list_all is_item items) h).0).1,
  ),
  below_places items (and_parts (is_item item) (list_all is_item items) h).1,
)

pub place_small : (n : ℕ) → is_place n ≡ true → n < 32768
place_small n h = grind arith

pub room_small : (rooms n : ℕ) → rooms ≤ 255 → nat_lt n rooms ≡ true → n < 32768
room_small rooms n few h = grind (arith, few)

module _ (db : Database) (limits : KeepsLimits db) where
  pub rooms_few : length db.rooms ≤ 255
  rooms_few = few 255 db.rooms limits.sizes.rooms

  pub items_there : IsThere db.items
  items_there = there 255 db.items limits.sizes.items

  pub words_few : (column : Column) → length (entries_of db column) ≤ 1000
  words_few column = omega (
    arith,
    few 1000 db.words limits.sizes.words,
    length-map db.words (column_of column),
  )

  pub words_there : (column : Column) → IsThere (entries_of db column)
  words_there column = there_map (column_of column) db.words
      (there 1000 db.words limits.sizes.words)

  pub below_all_exits : Below 32768 (flat_map (exits_of_room db) db.rooms)
  below_all_exits = below_flat 32768 small (exits_of_room db)
      (λ room. below_map 32768 small (room_beyond (length db.rooms))
      (λ z. below_beyond (length db.rooms) z rooms_few) room.exits) db.rooms

  below_exits : Below 32768 (exits db)
  below_exits = below_guarded 32768 small _ below_all_exits

  rest_few : (column : Column) → 1 + length (drop 1 (entries_of db column)) ≤ 32768
  rest_few column = omega (
    arith,
    words_few column,
    words_there column,
    length-drop 1 (entries_of db column),
  )

  pub below_class : (word : List ℕ) → class_of db word < 32768
  below_class word = below_position 32768 small
      (λ noun. is_class noun && is_typed db.header.length noun word) 1
      (drop 1 (entries_of db Nouns)) (rest_few Nouns)

  below_noun_class : (noun : List ℕ) → class_of_noun db noun < 32768
  below_noun_class noun =
      below_choice 32768 small (is_class noun) (class_of db noun) (λ h. below_class noun)

  pub below_classes : (entries : List (List ℕ)) → Below 32768 (classes db entries)
  below_classes [] = tt
  below_classes (entry ∷ entries) =
      (omega arith, below_map 32768 small (class_of_noun db) below_noun_class entries)

  pub below_which : (word : List ℕ) → or_zero (which db Nouns word) < 32768
  below_which word = below_entry 32768 small db.header.length word None 1
      (drop 1 (entries_of db Nouns)) (rest_few Nouns) (omega arith)

  -- ---- the tables of a stage

  module _ (width : Width) (known : Known) where
    -- an array that opens with these numbers holds them
    numbers_held : {o : Option (List ℤ)} (xs : List ℕ) → 2 ≤ length xs → Below 32768 xs
        → o ≡ Some (entries_in width known true (map Number xs)) → o ≡ Some (naturals xs)
    numbers_held xs long below h = h ∙ ap Some (entries_are known width true Number xs long
        ∙ naturals_written known width xs below)

    bytes_held : {o : Option (List ℤ)} (xs : List ℕ) → 2 ≤ length xs → Below 256 xs
        → o ≡ Some (entries_in width known false (map Number xs)) → o ≡ Some (naturals xs)
    bytes_held xs long below h = h ∙ ap Some (entries_are known width false Number xs long
        ∙ bytes_written known width xs below)

    letters_held : {o : Option (List ℤ)} (column : Column)
        → o ≡ Some (entries_in width known false (map Number (word_letters db column)))
        → o ≡ Some (naturals (word_letters db column))
    letters_held column h = bytes_held (word_letters db column)
        (long_guarded (flat_map (entry_letters db.header.length) (entries_of db column))
        (there_words db.header.length (entries_of db column) limits.header.length_range.0
        (words_there column))) (below_word_letters db column) h

    bases_held : {o : Option (List ℤ)} (column : Column)
        → o ≡ Some (entries_in width known true (map Number (word_bases db column)))
        → o ≡ Some (naturals (word_bases db column))
    bases_held column h = numbers_held (word_bases db column)
        (long_guarded (bases (entries_of db column))
        (there_bases (entries_of db column) (words_there column)))
        (below_guarded 32768 small (bases (entries_of db column))
        (below_bases 32768 small (entries_of db column) (omega (arith, words_few column)))) h

    -- a table with an entry for each item
    items_held : {o : Option (List ℤ)} (f : Item → ℕ) → ((item : Item) → f item < 32768)
        → o ≡ Some (entries_in width known true (map Number (guarded (map f db.items))))
        → o ≡ Some (naturals (guarded (map f db.items)))
    items_held f below h = numbers_held (guarded (map f db.items))
        (long_guarded (map f db.items) (there_map f db.items items_there))
        (below_guarded 32768 small (map f db.items) (below_map 32768 small f below db.items)) h

    global_is : {o : Option ℤ} (z : ℤ) → is_word_of width z ≡ true
        → o ≡ Some (unwrap_or (constant_word width known (written z)) (pos 0)) → o ≡ Some z
    global_is z word h =
        h ∙ ap (λ o. Some (unwrap_or o (pos 0))) (word_written known width z word)

    small_is : {o : Option ℤ} (n : ℕ) → n < 32768
        → o ≡ Some (unwrap_or (constant_word width known (Number n)) (pos 0)) → o ≡ Some (pos n)
    small_is n less h =
        h ∙ ap (λ o. Some (unwrap_or o (pos 0))) (small_written known width n less)

    is_there : {o : Option ℤ} {z : ℤ} → o ≡ Some z → is_some o ≡ true
    is_there h = ap is_some h

    module _ (s : State) (fits : Fits db s) (none : wide_at width db ≡ None)
        (others : List DirectiveTree) (w : Stage)
        (opens : Opens width known w (data_directives db s ++ others)) where
      light_word : is_word_of width s.light ≡ true
      light_word = less_light width s.light db.header.light fits.light.0 fits.light.1
          (word_or_wide (is_word_of width db.header.light) (none_third (is_too_wide width)
          (Carry, db.header.carry) (Treasures, db.header.treasures) (Light, db.header.light)
          ((Home, db.header.home) ∷ placed_actions 0 db.actions) none))

      flag_bits : (flags : List Bool) → Below 32768 (map bit flags)
      flag_bits flags = below_map 32768 small bit (below_bit 32768 small) flags

      held_guarded : (xs : List ℕ) → naturals (guarded xs) ≡ naturals xs ++ pos 0 ∷ []
      held_guarded [] = refl
      held_guarded (x ∷ xs) = ap (◌∷◌ (pos x)) (held_guarded xs)

      places_long : IsThere s.places.items
      places_long = omega (arith, fits.places.count, items_there)

      shows : Shows s w
      shows = record {
        room_is = small_is s.room (room_small (length db.rooms) s.room rooms_few fits.rooms.room)
            opens.0;
        saved_is = small_is s.saved
            (room_small (length db.rooms) s.saved rooms_few fits.rooms.saved) opens.1.0;
        counter_is = global_is s.counter (counter_word width s.counter fits.counters.counter)
            opens.1.1.0;
        light_is = global_is s.light light_word opens.1.1.1.0;
        mark_is = small_is (bit s.redraw) (below_bit 32768 small s.redraw) opens.1.1.1.1.0;
        guard = pos 0;
        places_are = numbers_held (guarded s.places.items)
            (long_guarded s.places.items places_long)
            (below_guarded 32768 small s.places.items
            (below_tested 32768 small is_place place_small s.places.items fits.places.places))
            opens.1.1.1.1.1.1.1.1.1.1.1.1.0 ∙ ap Some (held_guarded s.places.items);
        flags_are = numbers_held (map bit s.flags)
            (omega (arith, length-map s.flags bit, fits.flags)) (flag_bits s.flags)
            opens.1.1.1.1.1.1.1.1.1.1.1.1.1.0;
        counters_are = opens.1.1.1.1.1.1.1.1.1.1.1.1.1.1.0 ∙ ap Some
            (entries_are known width true written s.counters (omega (arith, fits.counters.count))
            ∙ integers_written known width s.counters
            (counter_words width s.counters fits.counters.counters));
        rooms_are = numbers_held s.rooms (omega (arith, fits.rooms.count))
            (below_tested 32768 small (is_room_of db)
            (λ n h. room_small (length db.rooms) n rooms_few h) s.rooms fits.rooms.rooms)
            opens.1.1.1.1.1.1.1.1.1.1.1.1.1.1.1.0;
      }

      tables : HasTables db w
      tables = record {
        start_is = numbers_held (start_places db)
            (long_guarded (map place_of_item db.items)
            (there_map place_of_item db.items items_there))
            (below_guarded 32768 small (map place_of_item db.items)
            (below_places db.items limits.entries.items))
            opens.1.1.1.1.1.1.1.1.1.1.1.1.1.1.1.1.0;
        exits_are = numbers_held (exits db)
            (long_guarded (flat_map (exits_of_room db) db.rooms)
            (there_exits db db.rooms (there 255 db.rooms limits.sizes.rooms)
            limits.entries.rooms)) below_exits opens.1.1.1.1.1.1.1.1.1.1.1.1.1.1.1.1.1.0;
        verbs_are = letters_held Verbs opens.1.1.1.1.1.1.1.1.1.1.1.1.1.1.1.1.1.1.0;
        nouns_are = letters_held Nouns opens.1.1.1.1.1.1.1.1.1.1.1.1.1.1.1.1.1.1.1.0;
        verb_bases_are = bases_held Verbs opens.1.1.1.1.1.1.1.1.1.1.1.1.1.1.1.1.1.1.1.1.0;
        noun_bases_are = bases_held Nouns opens.1.1.1.1.1.1.1.1.1.1.1.1.1.1.1.1.1.1.1.1.1.0;
        noun_classes_are = numbers_held (noun_classes db)
            (long_guarded (classes db (entries_of db Nouns))
            (there_classes db (entries_of db Nouns) (words_there Nouns)))
            (below_guarded 32768 small (classes db (entries_of db Nouns))
            (below_classes (entries_of db Nouns)))
            opens.1.1.1.1.1.1.1.1.1.1.1.1.1.1.1.1.1.1.1.1.1.1.0;
        item_classes_are = items_held (λ item. class_of db (item_word item))
            (λ item. below_class (item_word item))
            opens.1.1.1.1.1.1.1.1.1.1.1.1.1.1.1.1.1.1.1.1.1.1.1.0;
        item_nouns_are = items_held (λ item. or_zero (which db Nouns (item_word item)))
            (λ item. below_which (item_word item))
            opens.1.1.1.1.1.1.1.1.1.1.1.1.1.1.1.1.1.1.1.1.1.1.1.1.0;
        words_are = items_held (λ item. bit (not (is_empty (item_word item))))
            (λ item. below_bit 32768 small (not (is_empty (item_word item))))
            opens.1.1.1.1.1.1.1.1.1.1.1.1.1.1.1.1.1.1.1.1.1.1.1.1.1.0;
        treasures_are = items_held (λ item. bit (is_treasure item.text))
            (λ item. below_bit 32768 small (is_treasure item.text))
            opens.1.1.1.1.1.1.1.1.1.1.1.1.1.1.1.1.1.1.1.1.1.1.1.1.1.1.0;
      }

      zero_is : {o : Option ℤ}
          → o ≡ Some (unwrap_or (constant_word width known (Number 0)) (pos 0))
          → o ≡ Some (pos 0)
      zero_is h = small_is 0 (omega arith) h

      buffer_is : w.arrays (codes "buf") ≡ Some (replicate buffer_length (pos 0))
      buffer_is = opens.1.1.1.1.1.1.1.1.1.1.1.1.1.1.1.1.1.1.1.1.1.1.1.1.1.1.1.0
          ∙ ap (λ o. Some (replicate (entry_count o) (pos 0)))
          (small_written known width buffer_length (omega arith))

      working : CanWork w
      working = record {
        over_there = is_there (zero_is opens.1.1.1.1.1.0);
        vnum_there = is_there (zero_is opens.1.1.1.1.1.1.0);
        nnum_there = is_there (zero_is opens.1.1.1.1.1.1.1.0);
        wa_there = is_there (zero_is opens.1.1.1.1.1.1.1.1.0);
        na_there = is_there (zero_is opens.1.1.1.1.1.1.1.1.1.0);
        wb_there = is_there (zero_is opens.1.1.1.1.1.1.1.1.1.1.0);
        nb_there = is_there (zero_is opens.1.1.1.1.1.1.1.1.1.1.1.0);
        buffer = replicate buffer_length (pos 0);
        buffer_is = buffer_is;
        buffer_long = refl;
      }

      has_noun : HasNoun [] w
      has_noun = record {
        printable = tt;
        at = 0;
        at_is = zero_is opens.1.1.1.1.1.1.1.1.1.1.0;
        size_is = zero_is opens.1.1.1.1.1.1.1.1.1.1.1.0;
        stands =
            record { all = replicate buffer_length (pos 0); all_are = buffer_is; stand = refl };
      }

      stands : StandsFor db s [] w
      stands = record {
        ready = record { shows = shows; fits = fits; tables = tables; working = working };
        has_noun = has_noun;
      }

pub opening_stands : OpeningOpens → OpeningStands
opening_stands law width db s others lines draws limits fits none distinct =
    let ds = data_directives db s ++ others in
    stands db limits width (meanings width ds) s fits none others
    (opening_stage width ds lines draws) (law width ds lines draws distinct)
