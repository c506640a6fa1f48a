-- The tables have a text and no fault: no number is too wide, and each array has a length.
use Rattle.std.proofs.Common.{◌≡◌, arith, ℕ, ◌+◌, ◌*◌, ◌<◌, ◌≤◌, ℤ, pos, negsuc, Bool, true, false, not, ◌&&◌, ◌==◌, if◌then◌else◌, List, [], ◌∷◌, ◌++◌, map, length, flat_map, codes, Option, Some, None, refl}
use Rattle.std.specs.List.{AllByRecursion, list_all}
use Rattle.std.proofs.lemmas.Bool.{and_parts}
use Rattle.std.proofs.lemmas.Int.{ints}
use Rattle.std.proofs.lemmas.List.{length-append, length-map}
use Rattle.inform_tree.specs.declared.widths.Width.{Width}
use Rattle.inform_tree.specs.declared.widths.Width.TheVariants.{W16, W32}
use Rattle.inform_tree.specs.declared.values.Const.{Const}
use Rattle.inform_tree.specs.declared.values.Const.TheVariants as k
use Rattle.inform_tree.specs.Programs as d
use Rattle.inform_tree.specs.Programs.{DirectiveTree}
use Rattle.inform_tree.specs.Words.{is_name, is_number}
use Rattle.inform_names.specs.Words.{is_wide}
use Rattle.scott_types.specs.declared.parts.Item.{Item}
use Rattle.scott_types.specs.declared.parts.Room.{Room}
use Rattle.scott_types.specs.declared.states.State.{State}
use Rattle.scott_types.specs.declared.commands.Column.{Column}
use Rattle.scott_types.specs.declared.commands.Column.TheVariants.{Verbs, Nouns}
use Rattle.scott_types.specs.Database.{Database, place_of_item}
use Rattle.scott_types.specs.Limits.{KeepsLimits, is_number as is_whole, is_file_text, is_room}
use Rattle.scott_types.specs.Room.{room_beyond}
use Rattle.scott_types.specs.State.{is_counter, is_place, is_room_of, Fits}
use Rattle.scott_types.specs.ItemText.{is_treasure, is_starred}
use Rattle.scott_rules.specs.Words.{is_empty, entries_of, which}
use Rattle.trans_specs.specs.declared.places.Place.TheVariants.{Carry, Treasures, Light, Home}
use Rattle.trans_specs.specs.Tables.{bit, or_zero, guarded, exits_of_room, entry_letters, word_letters, bases_from, bases, word_bases, class_of, class_of_noun, classes, item_word, buffer_length}
use Rattle.trans_specs.specs.Wide.{is_word_of, placed_actions, is_too_wide, wide_at}
use Rattle.trans_specs.specs.Directives.{written, global, words, bytes, zero_bytes, turn_globals, global_directives, state_arrays, fixed_arrays, buffers, array_directives, data_directives}
use Rattle.trans_specs.proofs.Bounds.{Below, below_guarded, below_map, below_tested, below_bit, below_bases, below_word_letters}
use Rattle.trans_specs.proofs.Lengths.{IsThere, there, few, long_guarded, there_map, there_exits, there_words, there_bases, there_classes}
use Rattle.trans_specs.proofs.Opening.{word_or_wide, none_third, less_light, counter_word, small, below_places, place_small, room_small, rooms_few, items_there, words_few, words_there, below_all_exits, below_class, below_classes, below_which}
use Rattle.trans_words.proofs.Matching.{letters_long}
use Rattle.trans_specs.proofs.Lists.{of_both}

-- ---- what is asked of a table

-- a number that may stand in a text, and isn't too wide
abbrev pub is_fine : Width → Const → Bool
is_fine width (k.Number n) = is_number n && not (is_wide width n)
is_fine width (k.Char byte) = false
is_fine width (k.Name name) = false
is_fine width (k.Minus n) = is_number n && not (is_wide width n)

-- a length that is written alone, or two entries and more
abbrev pub HasLength : List Const → Type 0
HasLength [] = ⊥
HasLength (x ∷ []) = (n : ℕ) × (x ≡ k.Number n) × (1 ≤ n) × (n < 32768)
HasLength (x ∷ y ∷ xs) = length (x ∷ y ∷ xs) < 32768

abbrev pub IsFineTable : Width → DirectiveTree → Type 0
IsFineTable width (d.Constant name value) = ⊥
IsFineTable width (d.Global name None) = ⊥
IsFineTable width (d.Global name (Some value)) =
    (is_name name ≡ true) × (is_fine width value ≡ true)
IsFineTable width (d.Array name words entries) = (is_name name ≡ true)
    × AllByRecursion (λ x. is_fine width x ≡ true) entries × HasLength entries
IsFineTable width (d.Routine r) = ⊥

-- ---- one table

fine_number : (width : Width) (n : ℕ) → n < 32768 → is_fine width (k.Number n) ≡ true
fine_number W16 n h = grind (arith, h)
fine_number W32 n h = grind (arith, h)

fine_word : (width : Width) (z : ℤ) → is_word_of width z ≡ true → is_fine width (written z) ≡ true
fine_word W16 (pos n) h = grind (arith, ints, h)
fine_word W16 (negsuc n) h = grind (arith, ints, h)
fine_word W32 (pos n) h = grind (arith, ints, h)
fine_word W32 (negsuc n) h = grind (arith, ints, h)

module _ (width : Width) where
  fine_numbers : (xs : List ℕ) → Below 32768 xs
      → AllByRecursion (λ x. is_fine width x ≡ true) (map k.Number xs)
  fine_numbers [] h = tt
  fine_numbers (x ∷ xs) h = (fine_number width x h.0, fine_numbers xs h.1)

  fine_words : (zs : List ℤ) → list_all is_counter zs ≡ true
      → AllByRecursion (λ x. is_fine width x ≡ true) (map written zs)
  fine_words [] h = tt
  fine_words (z ∷ zs) h = (
    fine_word width z
        (counter_word width z (and_parts (is_counter z) (list_all is_counter zs) h).0),
    fine_words zs (and_parts (is_counter z) (list_all is_counter zs) h).1,
  )

  has_length : {X : Type 0} (f : X → Const) (xs : List X) → 2 ≤ length xs → length xs < 32768
      → HasLength (map f xs)
  has_length f [] some few = absurd (omega (arith, some))
  has_length f (x ∷ []) some few = absurd (omega (arith, some))
  has_length f (x ∷ y ∷ xs) some few = omega (arith, few, length-map xs f)

  -- a table of contents with its guard entry
  fine_table : (name : List ℕ) (size : Bool) (xs : List ℕ) → is_name name ≡ true → IsThere xs
      → length xs < 32767 → Below 32768 xs
      → IsFineTable width (d.Array name size (map k.Number (guarded xs)))
  fine_table name size xs formed some few below = (
    formed,
    fine_numbers (guarded xs) (below_guarded 32768 small xs below),
    has_length k.Number (guarded xs) (omega (arith, some, length-append xs (0 ∷ [])))
        (omega (arith, few, length-append xs (0 ∷ []))),
  )

  fine_global : (name : List ℕ) (z : ℤ) → is_name name ≡ true → is_word_of width z ≡ true
      → IsFineTable width (global name z)
  fine_global name z formed word = (formed, fine_word width z word)

  small_global : (name : List ℕ) (n : ℕ) → is_name name ≡ true → n < 32768
      → IsFineTable width (global name (pos n))
  small_global name n formed less = (formed, fine_number width n less)

-- ---- lengths, and bytes as small numbers

below_more : (xs : List ℕ) → Below 256 xs → Below 32768 xs
below_more [] h = tt
below_more (x ∷ xs) h = (omega (arith, h.0), below_more xs h.1)

-- the table of exits has at most six entries for each room
few_exits : (db : Database) (rooms : List Room) → list_all is_room rooms ≡ true
    → length (flat_map (exits_of_room db) rooms) ≤ length rooms * 6
few_exits db [] all = omega arith
few_exits db (room ∷ rooms) all = omega (
  arith,
  six,
  length-append (exits_of_room db room) (flat_map (exits_of_room db) rooms),
  length-map room.exits (room_beyond (length db.rooms)),
  few_exits db rooms (and_parts (is_room room) (list_all is_room rooms) all).1,
) where
  six : length room.exits ≡ 6
  six = grind (
    arith,
    (and_parts (length room.exits == 6)
        (list_all is_whole room.exits && is_file_text room.text)
        (and_parts (is_room room) (list_all is_room rooms) all).0).0,
  )

few_letters : (size : ℕ) (entries : List (List ℕ)) → size ≤ 20
    → length (flat_map (entry_letters size) entries) ≤ length entries * 20
few_letters size [] h = omega arith
few_letters size (entry ∷ entries) h = omega (
  arith,
  h,
  letters_long size entry,
  length-append (entry_letters size entry) (flat_map (entry_letters size) entries),
  few_letters size entries h,
)

as_many_from : (base : Option ℕ) (k : ℕ) (entries : List (List ℕ))
    → length (bases_from base k entries) ≡ length entries
as_many_from base k [] = refl
as_many_from base k (entry ∷ entries) =
    omega (arith, as_many_from (if is_starred entry then base else Some k) (k + 1) entries)

as_many_bases : (entries : List (List ℕ)) → length (bases entries) ≡ length entries
as_many_bases [] = refl
as_many_bases (entry ∷ entries) = omega (arith, as_many_from None 1 entries)

as_many_classes : (db : Database) (entries : List (List ℕ))
    → length (classes db entries) ≡ length entries
as_many_classes db [] = refl
as_many_classes db (entry ∷ entries) = omega (arith, length-map entries (class_of_noun db))

-- ---- the tables of a game

-- one more
also : {A B : Type 0} → A → B → A × B
also a b = (a, b)

module _ (width : Width) (db : Database) (limits : KeepsLimits db) where
  -- one with an entry for each item
  items_table : (name : List ℕ) (f : Item → ℕ) → is_name name ≡ true
      → Below 32768 (map f db.items) → IsFineTable width (words name (guarded (map f db.items)))
  items_table name f formed below = fine_table width name true (map f db.items) formed
      (there_map f db.items (items_there db limits))
      (omega (arith, few 255 db.items limits.sizes.items, length-map db.items f)) below

  -- the letters of a column's words are a table without a fault
  letters_table : (name : List ℕ) (column : Column) → is_name name ≡ true
      → IsFineTable width (bytes name (word_letters db column))
  letters_table name column formed = (
    formed,
    fine_numbers width (word_letters db column)
        (below_more (word_letters db column) (below_word_letters db column)),
    has_length width k.Number (word_letters db column)
        (long_guarded (flat_map (entry_letters db.header.length) (entries_of db column))
        (there_words db.header.length (entries_of db column) limits.header.length_range.0
        (words_there db limits column))) (omega (
          arith,
          few_letters db.header.length (entries_of db column) limits.header.length_range.1,
          words_few db limits column,
          length-append (flat_map (entry_letters db.header.length) (entries_of db column))
              (0 ∷ []),
        )),
  )

  bases_table : (name : List ℕ) (column : Column) → is_name name ≡ true
      → IsFineTable width (words name (word_bases db column))
  bases_table name column formed = fine_table width name true (bases (entries_of db column)) formed
      (there_bases (entries_of db column) (words_there db limits column))
      (omega (arith, as_many_bases (entries_of db column), words_few db limits column))
      (below_bases 32768 small (entries_of db column) (omega (arith, words_few db limits column)))

  -- each array that is the same for all states is a table without a fault
  all_fixed : AllByRecursion (IsFineTable width) (fixed_arrays db)
  all_fixed = also (items_table (codes "start") place_of_item refl
      (below_places db.items limits.entries.items))
      (also (fine_table width (codes "exits") true (flat_map (exits_of_room db) db.rooms) refl
      (there_exits db db.rooms (there 255 db.rooms limits.sizes.rooms) limits.entries.rooms)
      (omega (arith, few_exits db db.rooms limits.entries.rooms, rooms_few db limits))
      (below_all_exits db limits))
      (also (letters_table (codes "vword") Verbs refl)
      (also (letters_table (codes "nword") Nouns refl)
      (also (bases_table (codes "vroot") Verbs refl)
      (also (bases_table (codes "nroot") Nouns refl)
      (also (fine_table width (codes "nclass") true (classes db (entries_of db Nouns)) refl
      (there_classes db (entries_of db Nouns) (words_there db limits Nouns))
      (omega (arith, as_many_classes db (entries_of db Nouns), words_few db limits Nouns))
      (below_classes db limits (entries_of db Nouns)))
      (also (items_table (codes "iclass") (λ item. class_of db (item_word item)) refl
      (below_map 32768 small _ (λ item. below_class db limits (item_word item)) db.items))
      (also (items_table (codes "inoun") (λ item. or_zero (which db Nouns (item_word item))) refl
      (below_map 32768 small _ (λ item. below_which db limits (item_word item)) db.items))
      (also (items_table (codes "iget") (λ item. bit (not (is_empty (item_word item)))) refl
      (below_map 32768 small _ (λ item. below_bit 32768 small _) db.items))
      (also (items_table (codes "gold") (λ item. bit (is_treasure item.text)) refl
      (below_map 32768 small _ (λ item. below_bit 32768 small _) db.items)) tt))))))))))

  -- ---- those of a state

  module _ (s : State) (fits : Fits db s) (none_wide : wide_at width db ≡ None) where
    light_word : is_word_of width s.light ≡ true
    light_word = less_light width s.light db.header.light fits.light.0 fits.light.1
        (word_or_wide (is_word_of width db.header.light) (none_third (is_too_wide width)
        (Carry, db.header.carry) (Treasures, db.header.treasures) (Light, db.header.light)
        ((Home, db.header.home) ∷ placed_actions 0 db.actions) none_wide))

    room_less : (room : ℕ) → is_room_of db room ≡ true → room < 32768
    room_less room h = room_small (length db.rooms) room (rooms_few db limits) h

    all_globals : AllByRecursion (IsFineTable width) (global_directives s)
    all_globals = also (small_global width (codes "here") s.room refl
        (room_less s.room fits.rooms.room))
        (also (small_global width (codes "saved") s.saved refl (room_less s.saved fits.rooms.saved))
        (also (fine_global width (codes "cur") s.counter refl
        (counter_word width s.counter fits.counters.counter))
        (also (fine_global width (codes "light") s.light refl light_word)
        (also (small_global width (codes "redraw") (bit s.redraw) refl
        (below_bit 32768 small s.redraw)) turning)))) where
          zero_global : (name : List ℕ) → is_name name ≡ true
              → IsFineTable width (global name (pos 0))
          zero_global name formed = small_global width name 0 formed (omega arith)

          turning : AllByRecursion (IsFineTable width) turn_globals
          turning = also (zero_global (codes "over") refl)
              (also (zero_global (codes "vnum") refl)
              (also (zero_global (codes "nnum") refl)
              (also (zero_global (codes "wa") refl)
              (also (zero_global (codes "na") refl)
              (also (zero_global (codes "wb") refl)
              (also (zero_global (codes "nb") refl) tt))))))

    all_arrays : AllByRecursion (IsFineTable width) (state_arrays s)
    all_arrays = also (fine_table width (codes "item") true s.places.items refl
        (omega (arith, fits.places.count, items_there db limits))
        (omega (arith, fits.places.count, few 255 db.items limits.sizes.items))
        (below_tested 32768 small is_place place_small s.places.items fits.places.places))
        (also (
          refl,
          fine_numbers width (map bit s.flags)
              (below_map 32768 small bit (below_bit 32768 small) s.flags),
          has_length width k.Number (map bit s.flags)
              (omega (arith, length-map s.flags bit, fits.flags))
              (omega (arith, length-map s.flags bit, fits.flags)),
        )
        (also (
          refl,
          fine_words width s.counters fits.counters.counters,
          has_length width written s.counters (omega (arith, fits.counters.count))
              (omega (arith, fits.counters.count)),
        )
        (also (
          refl,
          fine_numbers width s.rooms (below_tested 32768 small (is_room_of db)
              (λ n h. room_less n h) s.rooms fits.rooms.rooms),
          has_length width k.Number s.rooms (omega (arith, fits.rooms.count))
              (omega (arith, fits.rooms.count)),
        ) tt)))

    all_buffers : AllByRecursion (IsFineTable width) buffers
    all_buffers = also (buffer (codes "buf") buffer_length refl (omega arith) (omega arith))
        (also (buffer (codes "pbuf") 2 refl (omega arith) (omega arith)) tt) where
          buffer : (name : List ℕ) (size : ℕ) → is_name name ≡ true → 1 ≤ size → size < 32768
              → IsFineTable width (zero_bytes name size)
          buffer name size formed some few =
              (formed, (fine_number width size few, tt), (size, refl, some, few))

    pub tables_are_fine : AllByRecursion (IsFineTable width) (data_directives db s)
    tables_are_fine = of_both (IsFineTable width) (global_directives s) (array_directives db s)
        all_globals (of_both (IsFineTable width) (state_arrays s) (fixed_arrays db ++ buffers)
        all_arrays (of_both (IsFineTable width) (fixed_arrays db) buffers all_fixed all_buffers))
