-- The routines of a game's texts have a text themselves.
use Rattle.std.proofs.Common.{◌≡◌, arith, ℕ, zero, suc, ◌+◌, ◌<◌, ◌≤◌, pos, unsigned_abs, int_lt, nat_le, nat_lt, max, ◌==◌, Bool, true, false, if◌then◌else◌, List, [], ◌∷◌, ◌++◌, map, take, drop, length, codes, decimal, refl}
use Rattle.std.specs.List.{list_all, position_or_len}
use Rattle.std.specs.Str.Parse.{AllDigits}
use Rattle.std.specs.Char.{digit_value}
use Rattle.std.proofs.lemmas.Bool.{and_parts}
use Rattle.std.proofs.lemmas.Fmt.{decimal_is_IsNumeral, length-decimal-le}
use Rattle.std.proofs.lemmas.List.{length-map}
use Rattle.inform_tree.specs.Programs.{Routine}
use Rattle.inform_tree.specs.Words.{is_name_byte, is_name, is_number, is_byte, is_text}
use Rattle.inform_tree.specs.Depths.{cases_depth}
use Rattle.inform_tree.specs.Formed.{are_formed_cases, is_formed_directive, is_well_formed}
use Rattle.inform_codes.specs.Grown.{body_of}
use Rattle.inform_codes.specs.Routines.{rows_directives}
use Rattle.scott_types.specs.declared.parts.Item.{Item}
use Rattle.scott_types.specs.declared.parts.Room.{Room}
use Rattle.scott_types.specs.declared.phrases.Phrase.TheVariants.{InA}
use Rattle.scott_types.specs.declared.styles.Style.{Style}
use Rattle.scott_types.specs.Database.{Database}
use Rattle.scott_types.specs.ItemText.{is_slash, is_starred, shown}
use Rattle.scott_types.specs.Limits.{is_file_byte, is_file_text, is_item, is_room, KeepsLimits}
use Rattle.scott_types.specs.Phrase.{text_of, second_person, text_in}
use Rattle.scott_rules.specs.Looking.{described}
use Rattle.trans_specs.specs.Names.{message_name}
use Rattle.trans_data.specs.declared.scoring.TheConstants.{HUNDREDTHS, LESS_HUNDREDTHS}
use Rattle.trans_data.specs.declared.lights.TheConstants.{COUNTED_LIGHT, DIM_LIGHT, OUT, VANISHED}
use Rattle.trans_data.specs.Numbers.{byte_or_more, divisor, goal, numbers}
use Rattle.trans_data.specs.Routines.{routine_names, table_rows, chosen_rows, fixed_directives}
use Rattle.trans_data.specs.Texts.{message_directive, message_directives, text_cases, text_routine, item_texts, room_texts, spoken_directives}
use Rattle.trans_data.specs.Laws.{TextsFormed}
use Rattle.trans_data.proofs.Lists.{byte_small, at_most, under}
use Rattle.trans_data.proofs.Exits.{few_rooms}
use Rattle.trans_data.proofs.Places.{few_items}
use Rattle.trans_data.proofs.Rated.{size_range, goal_small}
use Rattle.trans_data.proofs.DataFormed.{both_true, two_lists}

-- ---- the routines of codes

module _ (a b c d e : ℕ) (count : is_number a ≡ true) (carry : is_number b ≡ true)
    (home : is_number c ≡ true) (by : is_number d ≡ true) (all : is_number e ≡ true) where
  table_formed : (you counted vanish : Bool) → is_well_formed (rows_directives
      (routine_names (record { you = you; counted = counted; vanish = vanish }))
      (a ∷ b ∷ c ∷ d ∷ e ∷ []) table_rows) ≡ true
  unfolding body_of routine_names table_rows text_of second_person
  table_formed true counted vanish = rw (count, carry, home, all) refl
  table_formed false counted vanish = rw (count, carry, home, all) refl

  -- the routines that are chosen by the treasures and the style are well formed, whichever they are
  chosen_formed : (style : Style) (neg counted vanish : Bool) → is_well_formed (rows_directives
      (routine_names style) (a ∷ b ∷ c ∷ d ∷ e ∷ [])
      ((14, 20 ∷ [], if neg then LESS_HUNDREDTHS else HUNDREDTHS)
      ∷ (16, [], if counted then COUNTED_LIGHT else DIM_LIGHT)
      ∷ (17, [], if vanish then VANISHED else OUT) ∷ [])) ≡ true
  unfolding body_of routine_names text_of
  chosen_formed style true true true = rw by refl
  chosen_formed style true true false = rw by refl
  chosen_formed style true false true = rw by refl
  chosen_formed style true false false = rw by refl
  chosen_formed style false true true = rw by refl
  chosen_formed style false true false = rw by refl
  chosen_formed style false false true = rw by refl
  chosen_formed style false false false = rw by refl

small_number : (n : ℕ) → n < 32768 → is_number n ≡ true
small_number n h = grind (arith, h)

-- the routines of the table, and those that are chosen, are well formed for a database that keeps
-- its limits
fixed_formed : (style : Style) (db : Database) → KeepsLimits db
    → is_well_formed (fixed_directives style db) ≡ true
unfolding numbers
fixed_formed style db limits = two_lists is_formed_directive
    (rows_directives (routine_names style) (numbers db) table_rows)
    (rows_directives (routine_names style) (numbers db) (chosen_rows style db))
    (table_formed _ _ _ _ _ count carry home by all style.you style.counted style.vanish)
    (chosen_formed _ _ _ _ _ count carry home by all style (int_lt db.header.treasures (pos 0))
    style.counted style.vanish) where
      count : is_number (length db.items) ≡ true
      count = small_number (length db.items) (omega (arith, few_items db limits))

      carry : is_number (byte_or_more db.header.carry) ≡ true
      carry = small_number (byte_or_more db.header.carry) (byte_small db.header.carry)

      home : is_number (byte_or_more db.header.home) ≡ true
      home = small_number (byte_or_more db.header.home) (byte_small db.header.home)

      by : is_number (divisor db.header.treasures) ≡ true
      by = small_number (divisor db.header.treasures)
          (size_range (unsigned_abs db.header.treasures)).1

      all : is_number (goal db.header.treasures) ≡ true
      all = small_number (goal db.header.treasures) (goal_small db.header.treasures)

-- ---- texts

byte_of_file : (n : ℕ) → is_file_byte n ≡ true → is_byte n ≡ true
byte_of_file n h = less (and_parts (nat_lt n 256) _ h).0 where
  less : nat_lt n 256 ≡ true → is_byte n ≡ true
  less k = grind (arith, k)

bytes_of_file : (text : List ℕ) → list_all is_file_byte text ≡ true → is_text text ≡ true
bytes_of_file [] h = refl
bytes_of_file (x ∷ xs) h = both_true (byte_of_file x (and_parts (is_file_byte x) _ h).0)
    (bytes_of_file xs (and_parts (is_file_byte x) _ h).1)

file_text : (text : List ℕ) → is_file_text text ≡ true → is_text text ≡ true
file_text text h = bytes_of_file text (and_parts (nat_le (length text) 4096) _ h).1

first_bytes : (n : ℕ) (text : List ℕ) → is_text text ≡ true → is_text (take n text) ≡ true
first_bytes zero text h = refl
first_bytes (suc n) [] h = refl
first_bytes (suc n) (x ∷ xs) h = both_true (and_parts (is_byte x) (is_text xs) h).0
    (first_bytes n xs (and_parts (is_byte x) (is_text xs) h).1)

without_first : (text : List ℕ) → is_text text ≡ true → is_text (drop 1 text) ≡ true
without_first [] h = refl
without_first (x ∷ xs) h = (and_parts (is_byte x) (is_text xs) h).1

in_a_text : (style : Style) → is_text (text_in style InA) ≡ true
unfolding text_of second_person
in_a_text style = from style.you where
  from : (b : Bool) → is_text (if b then second_person InA else text_of InA) ≡ true
  from true = refl
  from false = refl

described_text : (style : Style) (text : List ℕ) → is_text text ≡ true
    → is_text (described style text) ≡ true
described_text style text h = from (is_starred text) where
  from : (b : Bool) → is_text (if b then drop 1 text else text_in style InA ++ text) ≡ true
  from true = without_first text h
  from false = two_lists is_byte (text_in style InA) text (in_a_text style) h

items_texts : (items : List Item) → list_all is_item items ≡ true
    → list_all is_text (map (λ item. shown item.text) items) ≡ true
items_texts [] h = refl
items_texts (item ∷ items) h = both_true
    (first_bytes (position_or_len is_slash item.text) item.text
    (file_text item.text (and_parts (is_file_text item.text) _
    (and_parts (is_item item) (list_all is_item items) h).0).0))
    (items_texts items (and_parts (is_item item) (list_all is_item items) h).1)

rooms_texts : (style : Style) (rooms : List Room) → list_all is_room rooms ≡ true
    → list_all is_text (map (λ room. described style room.text) rooms) ≡ true
rooms_texts style [] h = refl
rooms_texts style (room ∷ rooms) h = both_true
    (described_text style room.text (file_text room.text
    (and_parts _ (is_file_text room.text) (and_parts (length room.exits == 6) _
    (and_parts (is_room room) (list_all is_room rooms) h).0).1).1))
    (rooms_texts style rooms (and_parts (is_room room) (list_all is_room rooms) h).1)

-- ---- switches

cases_formed : (texts : List (List ℕ)) (n : ℕ) → n + length texts < 32768
    → list_all is_text texts ≡ true → are_formed_cases (text_cases n texts) ≡ true
cases_formed [] n few h = refl
cases_formed (x ∷ xs) n few h = both_true
    (both_true (both_true (small_number n (omega (arith, few))) refl) refl)
    (both_true (both_true (both_true (and_parts (is_text x) (list_all is_text xs) h).0 refl) refl)
    (cases_formed xs (n + 1) (omega (arith, few))
    (and_parts (is_text x) (list_all is_text xs) h).1))

cases_low : (texts : List (List ℕ)) (n : ℕ) → cases_depth (text_cases n texts) ≤ 1
cases_low [] n = omega arith
cases_low (x ∷ xs) n = higher (cases_depth (text_cases (n + 1) xs)) (cases_low xs (n + 1)) where
  higher : (m : ℕ) → m ≤ 1 → max 1 m ≤ 1
  higher m h = grind (arith, h)

switch_formed : (name : List ℕ) (texts : List (List ℕ)) → is_name name ≡ true
    → length texts ≤ 255 → list_all is_text texts ≡ true
    → is_formed_directive (Routine (text_routine name texts)) ≡ true
switch_formed name texts named few h = both_true named (both_true refl (both_true
    (low (cases_depth (text_cases 0 texts)) (cases_low texts 0))
    (both_true (both_true refl (both_true (cases_formed texts 0 (omega (arith, few)) h) refl))
    refl)))
  where
    low : (m : ℕ) → m ≤ 1 → nat_le (max (max 1 (max m 0) + 1) 0) 64 ≡ true
    low m h = grind (arith, h)

-- ---- messages

digit_name : (c : ℕ) → digit_value c < 10 → is_name_byte c ≡ true
digit_name c h = grind (arith, h)

digits_name : (ds : List ℕ) → AllDigits 10 ds → list_all is_name_byte ds ≡ true
digits_name [] h = refl
digits_name (c ∷ cs) h = both_true (digit_name c h.0) (digits_name cs h.1)

message_named : (m : ℕ) → m < 1000 → is_name (message_name m) ≡ true
message_named m h = both_true refl (both_true (both_true refl (both_true refl (both_true refl
    (digits_name (decimal m) (decimal_is_IsNumeral m (omega (arith, h))).0.1))))
    (both_true (under (length (codes "sg_" ++ decimal m)) 32
    (short (length-decimal-le 4 m (omega arith) (omega (arith, h)) (omega (arith, h))))) refl))
  where
    short : length (decimal m) ≤ 4 → length (codes "sg_" ++ decimal m) < 32
    short few = omega (arith, few)

message_formed : (m : ℕ) (text : List ℕ) → m < 1000 → is_text text ≡ true
    → is_formed_directive (message_directive m text) ≡ true
unfolding body_of
message_formed m text few h = both_true (message_named m few)
    (both_true refl (both_true refl (both_true (both_true refl (both_true h refl)) refl)))

messages_formed : (m : ℕ) (texts : List (List ℕ)) → m + length texts ≤ 1000
    → list_all is_file_text texts ≡ true → is_well_formed (message_directives m texts) ≡ true
messages_formed m [] few h = refl
messages_formed m (x ∷ xs) few h = both_true
    (message_formed m x (omega (arith, few))
    (file_text x (and_parts (is_file_text x) (list_all is_file_text xs) h).0))
    (messages_formed (m + 1) xs (omega (arith, few))
    (and_parts (is_file_text x) (list_all is_file_text xs) h).1)

-- all routines of texts are well formed for a database that keeps its limits
pub texts_formed : TextsFormed
texts_formed style db limits = two_lists is_formed_directive (fixed_directives style db)
    (spoken_directives style db) (fixed_formed style db limits)
    (both_true (switch_formed (codes "say_item") (item_texts db) refl
    (fewer (length-map db.items _) (few_items db limits))
    (items_texts db.items limits.entries.items))
    (both_true (switch_formed (codes "say_room") (room_texts style db) refl
    (fewer (length-map db.rooms _) (few_rooms db limits))
    (rooms_texts style db.rooms limits.entries.rooms))
    (messages_formed 0 db.messages (omega (arith, few))
    (and_parts (list_all is_file_text db.messages) _ limits.entries.texts).0))) where
      few : length db.messages ≤ 1000
      few = at_most (length db.messages) 1000 (and_parts (nat_le 1 (length db.messages))
          (nat_le (length db.messages) 1000) limits.sizes.messages).1

      fewer : {n m : ℕ} → n ≡ m → m ≤ 255 → n ≤ 255
      fewer same few = omega (arith, same, few)
