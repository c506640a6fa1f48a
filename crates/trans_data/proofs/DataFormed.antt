-- The globals and arrays of a game have a text.
use Rattle.std.proofs.Common.{◌≡◌, arith, ℕ, ◌+◌, ◌<◌, ◌≤◌, ℤ, pos, negsuc, ◌≤ℤ◌, nat_le, nat_lt, ◌&&◌, Bool, true, false, not, List, [], ◌∷◌, ◌++◌, map, drop, length, codes, None, refl, length-drop}
use Rattle.std.specs.List.{list_all}
use Rattle.std.proofs.lemmas.Bool.{and_parts}
use Rattle.std.proofs.lemmas.Int.{ints}
use Rattle.std.proofs.lemmas.List.{length-append, length-map}
use Rattle.inform_tree.specs.declared.values.Const.TheVariants.{Number}
use Rattle.inform_tree.specs.Programs.{Array}
use Rattle.inform_tree.specs.Words.{is_name}
use Rattle.inform_tree.specs.Formed.{is_formed_constant, is_formed_directive, is_well_formed}
use Rattle.scott_types.specs.declared.parts.Item.{Item}
use Rattle.scott_types.specs.declared.states.State.{State}
use Rattle.scott_types.specs.declared.commands.Column.{Column}
use Rattle.scott_types.specs.declared.commands.Column.TheVariants.{Verbs, Nouns}
use Rattle.scott_types.specs.Database.{Database, place_of_item}
use Rattle.scott_types.specs.Limits.{is_number, is_file_text, is_item, KeepsLimits}
use Rattle.scott_types.specs.ItemText.{is_treasure}
use Rattle.scott_types.specs.Room.{room_beyond}
use Rattle.scott_types.specs.State.{is_place, is_counter, is_room_of, Fits}
use Rattle.scott_rules.specs.Words.{is_empty, is_typed, column_of, entries_of, which}
use Rattle.trans_specs.specs.Tables.{bit, or_zero, guarded, exits_of_room, exits, word_letters, bases, is_class, class_of, class_of_noun, classes, item_word}
use Rattle.trans_specs.specs.Directives.{written, global, integers, data_directives}
use Rattle.trans_specs.proofs.Bounds.{Below, below_guarded, below_map, below_flat, below_tested, below_bit, below_choice, below_bases, below_position, below_entry, below_word_letters}
use Rattle.trans_data.specs.Laws.{DataFormed}
use Rattle.trans_data.proofs.Exits.{few_rooms}
use Rattle.trans_data.proofs.Lists.{at_most}

-- ---- what holds of both

both : (a b : Bool) → a ≡ true → b ≡ true → (a && b) ≡ true
both true b h k = k
both false b h k = h

pub both_true : {a b : Bool} → a ≡ true → b ≡ true → (a && b) ≡ true
both_true {a} {b} h k = both a b h k

pub two_lists : {X : Type 0} (p : X → Bool) (xs ys : List X) → list_all p xs ≡ true
    → list_all p ys ≡ true → list_all p (xs ++ ys) ≡ true
two_lists p [] ys h k = k
two_lists p (x ∷ xs) ys h k = both_true (and_parts (p x) (list_all p xs) h).0
    (two_lists p xs ys (and_parts (p x) (list_all p xs) h).1 k)

some_there : (n : ℕ) → 1 ≤ n → nat_lt 0 n ≡ true
some_there n h = grind (arith, h)

-- ---- one directive

number_formed : (n : ℕ) → n < 32768 → is_formed_constant (Number n) ≡ true
number_formed n h = grind (arith, h)

written_formed : (z : ℤ) → is_number z ≡ true → is_formed_constant (written z) ≡ true
written_formed (pos n) h = grind (arith, ints)
written_formed (negsuc n) h = grind (arith, ints)

numbers_formed : (xs : List ℕ) → Below 32768 xs
    → list_all is_formed_constant (map Number xs) ≡ true
numbers_formed [] h = refl
numbers_formed (x ∷ xs) h = both_true (number_formed x h.0) (numbers_formed xs h.1)

counters_formed : (zs : List ℤ) → list_all is_counter zs ≡ true
    → list_all is_formed_constant (map written zs) ≡ true
counters_formed [] h = refl
counters_formed (z ∷ zs) h = both_true
    (written_formed z (number z (and_parts (is_counter z) (list_all is_counter zs) h).0))
    (counters_formed zs (and_parts (is_counter z) (list_all is_counter zs) h).1) where
      number : (z : ℤ) → is_counter z ≡ true → is_number z ≡ true
      number z h = grind (arith, ints)

global_formed : (name : List ℕ) (z : ℤ) → is_name name ≡ true → is_number z ≡ true
    → is_formed_directive (global name z) ≡ true
global_formed name z named h = both_true named (written_formed z h)

small_number : (n : ℕ) → n < 32768 → is_number (pos n) ≡ true
small_number n h = grind (arith, ints, h)

array_formed : (name : List ℕ) (kind : Bool) (xs : List ℕ) → is_name name ≡ true
    → Below 32768 xs → 1 ≤ length xs
    → is_formed_directive (Array name kind (map Number xs)) ≡ true
array_formed name kind xs named below some = both_true named (both_true
    (some_there (length (map Number xs)) (long (length-map xs Number)))
    (numbers_formed xs below)) where
      long : length (map Number xs) ≡ length xs → 1 ≤ length (map Number xs)
      long same = omega (arith, some, same)

guarded_formed : (name : List ℕ) (kind : Bool) (xs : List ℕ) → is_name name ≡ true
    → Below 32768 xs → is_formed_directive (Array name kind (map Number (guarded xs))) ≡ true
guarded_formed name kind xs named below = array_formed name kind (guarded xs) named
    (below_guarded 32768 (omega arith) xs below) (long (length-append xs (0 ∷ []))) where
      long : length (guarded xs) ≡ length xs + 1 → 1 ≤ length (guarded xs)
      long same = omega (arith, same)

-- ---- small entries

small : 2 ≤ 32768
small = omega arith

below_beyond : (rooms : ℕ) (z : ℤ) → rooms ≤ 255 → room_beyond rooms z < 32768
below_beyond rooms (pos n) h = below_choice 32768 small (nat_lt 0 n && nat_lt n rooms) n inside
  where
    inside : (nat_lt 0 n && nat_lt n rooms) ≡ true → n < 32768
    inside k = grind (arith, h, (and_parts (nat_lt 0 n) (nat_lt n rooms) k).1)
below_beyond rooms (negsuc n) h = omega arith

below_starts : (items : List Item) → list_all is_item items ≡ true
    → Below 32768 (map place_of_item items)
below_starts [] h = tt
below_starts (item ∷ items) h = (
  byte (at_most item.place 255 (and_parts (is_file_text item.text) (nat_le item.place 255)
      (and_parts (is_item item) (list_all is_item items) h).0).1),
  below_starts items (and_parts (is_item item) (list_all is_item items) h).1,
) where
  byte : {n : ℕ} → n ≤ 255 → n < 32768
  byte h = omega (arith, h)

place_small : (n : ℕ) → is_place n ≡ true → n < 32768
place_small n h = grind arith

room_small : (rooms n : ℕ) → rooms ≤ 255 → nat_lt n rooms ≡ true → n < 32768
room_small rooms n few h = grind (arith, few)

raised : (xs : List ℕ) → Below 256 xs → Below 32768 xs
raised [] h = tt
raised (x ∷ xs) h = (omega (arith, h.0), raised xs h.1)

module _ (db : Database) (limits : KeepsLimits db) where
  few_words : (column : Column) → length (entries_of db column) ≤ 1000
  few_words column = less (length-map db.words (column_of column)) (at_most (length db.words) 1000
      (and_parts (nat_le 1 (length db.words)) (nat_le (length db.words) 1000) limits.sizes.words).1)
    where
      less : {n m : ℕ} → n ≡ m → m ≤ 1000 → n ≤ 1000
      less same few = omega (arith, same, few)

  rest_few : (column : Column) → 1 + length (drop 1 (entries_of db column)) ≤ 32768
  rest_few column =
      omega (arith, few_words column, length-drop 1 (entries_of db column))

  below_class : (word : List ℕ) → class_of db word < 32768
  below_class word = below_position 32768 small
      (λ noun. is_class noun && is_typed db.header.length noun word) 1
      (drop 1 (entries_of db Nouns)) (rest_few Nouns)

  below_noun_class : (noun : List ℕ) → class_of_noun db noun < 32768
  below_noun_class noun =
      below_choice 32768 small (is_class noun) (class_of db noun) (λ h. below_class noun)

  below_classes : (entries : List (List ℕ)) → Below 32768 (classes db entries)
  below_classes [] = tt
  below_classes (entry ∷ entries) =
      (omega arith, below_map 32768 small (class_of_noun db) below_noun_class entries)

  below_which : (word : List ℕ) → or_zero (which db Nouns word) < 32768
  below_which word = below_entry 32768 small db.header.length word None 1
      (drop 1 (entries_of db Nouns)) (rest_few Nouns) (omega arith)

  below_exits : Below 32768 (exits db)
  below_exits = below_guarded 32768 small _ (below_flat 32768 small (exits_of_room db)
      (λ room. below_map 32768 small (room_beyond (length db.rooms))
      (λ z. below_beyond (length db.rooms) z (few_rooms db limits)) room.exits) db.rooms)

  few_bases : (column : Column) → length (entries_of db column) ≤ 32768
  few_bases column = omega (arith, few_words column)

  one_at_least : (xs : List ℕ) → 1 ≤ length (guarded xs)
  one_at_least xs = omega (arith, length-append xs (0 ∷ []))

  module _ (s : State) (fits : Fits db s) where
    light_number : is_number s.light ≡ true
    light_number = less s.light db.header.light fits.light.0 fits.light.1
        (and_parts (is_number db.header.light) _ (and_parts (is_number db.header.treasures) _
        (and_parts (is_number db.header.carry) _
        (and_parts (is_number db.header.unused) _ limits.header.numbers).1).1).1).0 where
          less : (z most : ℤ) → negsuc 0 ≤ℤ z → z ≤ℤ most → is_number most ≡ true
              → is_number z ≡ true
          less z most low few h = grind (arith, ints)

    counter_number : (z : ℤ) → is_counter z ≡ true → is_number z ≡ true
    counter_number z h = grind (arith, ints)

    room_number : (n : ℕ) → is_room_of db n ≡ true → is_number (pos n) ≡ true
    room_number n h = small_number n (room_small (length db.rooms) n (few_rooms db limits) h)

    bit_small : (b : Bool) → bit b < 32768
    bit_small b = below_bit 32768 small b

    all_formed : is_well_formed (data_directives db s) ≡ true
    all_formed = both_true (global_formed (codes "here") (pos s.room) refl
        (room_number s.room fits.rooms.room))
        (both_true (global_formed (codes "saved") (pos s.saved) refl
        (room_number s.saved fits.rooms.saved))
        (both_true (global_formed (codes "cur") s.counter refl
        (counter_number s.counter fits.counters.counter))
        (both_true (global_formed (codes "light") s.light refl light_number)
        (both_true (global_formed (codes "redraw") (pos (bit s.redraw)) refl
        (small_number (bit s.redraw) (bit_small s.redraw)))
        (both_true (global_formed (codes "over") (pos 0) refl refl)
        (both_true (global_formed (codes "vnum") (pos 0) refl refl)
        (both_true (global_formed (codes "nnum") (pos 0) refl refl)
        (both_true (global_formed (codes "wa") (pos 0) refl refl)
        (both_true (global_formed (codes "na") (pos 0) refl refl)
        (both_true (global_formed (codes "wb") (pos 0) refl refl)
        (both_true (global_formed (codes "nb") (pos 0) refl refl)
        (both_true (guarded_formed (codes "item") true s.places.items refl
        (below_tested 32768 small is_place place_small s.places.items fits.places.places))
        (both_true (array_formed (codes "flag") true (map bit s.flags) refl
        (below_map 32768 small bit bit_small s.flags) flags_there)
        (both_true counters_there
        (both_true (array_formed (codes "rsave") true s.rooms refl
        (below_tested 32768 small (is_room_of db)
        (λ n h. room_small (length db.rooms) n (few_rooms db limits) h) s.rooms fits.rooms.rooms)
        rooms_there)
        (both_true (guarded_formed (codes "start") true (map place_of_item db.items) refl
        (below_starts db.items limits.entries.items))
        (both_true (array_formed (codes "exits") true (exits db) refl below_exits (one_at_least _))
        (both_true (array_formed (codes "vword") false (word_letters db Verbs) refl
        (raised (word_letters db Verbs) (below_word_letters db Verbs)) (one_at_least _))
        (both_true (array_formed (codes "nword") false (word_letters db Nouns) refl
        (raised (word_letters db Nouns) (below_word_letters db Nouns)) (one_at_least _))
        (both_true (guarded_formed (codes "vroot") true (bases (entries_of db Verbs)) refl
        (below_bases 32768 small (entries_of db Verbs) (few_bases Verbs)))
        (both_true (guarded_formed (codes "nroot") true (bases (entries_of db Nouns)) refl
        (below_bases 32768 small (entries_of db Nouns) (few_bases Nouns)))
        (both_true (guarded_formed (codes "nclass") true (classes db (entries_of db Nouns)) refl
        (below_classes (entries_of db Nouns)))
        (both_true (guarded_formed (codes "iclass") true
        (map (λ item. class_of db (item_word item)) db.items) refl
        (below_map 32768 small (λ (item : Item). class_of db (item_word item))
        (λ item. below_class (item_word item)) db.items))
        (both_true (guarded_formed (codes "inoun") true
        (map (λ item. or_zero (which db Nouns (item_word item))) db.items) refl
        (below_map 32768 small (λ (item : Item). or_zero (which db Nouns (item_word item)))
        (λ item. below_which (item_word item)) db.items))
        (both_true (guarded_formed (codes "iget") true
        (map (λ item. bit (not (is_empty (item_word item)))) db.items) refl
        (below_map 32768 small (λ (item : Item). bit (not (is_empty (item_word item))))
        (λ item. bit_small (not (is_empty (item_word item)))) db.items))
        (both_true (guarded_formed (codes "gold") true
        (map (λ item. bit (is_treasure item.text)) db.items) refl
        (below_map 32768 small (λ (item : Item). bit (is_treasure item.text))
        (λ item. bit_small (is_treasure item.text)) db.items))
        refl)))))))))))))))))))))))))) where
          flags_there : 1 ≤ length (map bit s.flags)
          flags_there = omega (arith, fits.flags, length-map s.flags bit)

          rooms_there : 1 ≤ length s.rooms
          rooms_there = omega (arith, fits.rooms.count)

          counters_there : is_formed_directive (integers (codes "ctr") s.counters) ≡ true
          counters_there = both_true {a = is_name (codes "ctr")} refl (both_true
              (some_there (length (map written s.counters))
              (omega (arith, fits.counters.count, length-map s.counters written)))
              (counters_formed s.counters fits.counters.counters))

pub data_formed : DataFormed
data_formed db s limits fits = all_formed db limits s fits
