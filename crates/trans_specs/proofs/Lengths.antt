-- Each table has two entries at least.
use Rattle.std.proofs.Common.{◌≡◌, arith, ℕ, ◌-◌, ◌≤◌, nat_le, ◌==◌, Bool, true, false, ◌&&◌, if◌then◌else◌, List, [], ◌∷◌, ◌++◌, map, length, replicate, flat_map}
use Rattle.std.specs.List.{list_all}
use Rattle.std.specs.Char.{is_ascii_graphic}
use Rattle.std.proofs.lemmas.Bool.{and_parts}
use Rattle.std.proofs.lemmas.List.{length-append, length-map, length-replicate}
use Rattle.scott_types.specs.declared.parts.Room.{Room}
use Rattle.scott_types.specs.Database.{Database}
use Rattle.scott_types.specs.Limits.{is_number, is_file_text, is_room, is_list_of}
use Rattle.scott_types.specs.Room.{room_beyond}
use Rattle.scott_rules.specs.Words.{spelling}
use Rattle.scott_vocab.specs.Keys.{letters}
use Rattle.trans_specs.specs.Tables.{guarded, exits_of_room, filled_up, printed_letters, entry_letters, bases, classes}

-- a list that has an entry
abbrev pub IsThere : {X : Type 0} → List X → Type 0
IsThere xs = 1 ≤ length xs

pub there : {X : Type 0} (most : ℕ) (xs : List X) → is_list_of most xs ≡ true → IsThere xs
there most xs h = grind (arith, (and_parts (nat_le 1 (length xs)) (nat_le (length xs) most) h).0)

pub few : {X : Type 0} (most : ℕ) (xs : List X) → is_list_of most xs ≡ true → length xs ≤ most
few most xs h = grind (arith, (and_parts (nat_le 1 (length xs)) (nat_le (length xs) most) h).1)

pub long_guarded : (xs : List ℕ) → IsThere xs → 2 ≤ length (guarded xs)
long_guarded xs h = omega (arith, h, length-append xs (0 ∷ []))

pub there_map : {X Y : Type 0} (f : X → Y) (xs : List X) → IsThere xs → IsThere (map f xs)
there_map f xs h = omega (arith, h, length-map xs f)

-- the first part has an entry
there_first : {X : Type 0} (xs ys : List X) → IsThere xs → IsThere (xs ++ ys)
there_first xs ys h = omega (arith, h, length-append xs ys)

-- the table of exits has an entry, where there is a room
pub there_exits : (db : Database) (rooms : List Room) → IsThere rooms
    → list_all is_room rooms ≡ true → IsThere (flat_map (exits_of_room db) rooms)
there_exits db [] h all = absurd (omega (arith, h))
there_exits db (room ∷ rooms) h all = there_first (exits_of_room db room)
    (flat_map (exits_of_room db) rooms)
    (there_map (room_beyond (length db.rooms)) room.exits (omega (arith, six))) where
      six : length room.exits ≡ 6
      six = grind (
        arith,
        (and_parts (length room.exits == 6)
            (list_all is_number room.exits && is_file_text room.text)
            (and_parts (is_room room) (list_all is_room rooms) all).0).0,
      )

there_letters : (size : ℕ) (word : List ℕ) → 1 ≤ size → IsThere (printed_letters size word)
there_letters size word h = from (list_all is_ascii_graphic word) where
  from : (b : Bool) → IsThere (if b then filled_up size word else replicate size 0)
  from true = omega (
    arith,
    h,
    length-append word (replicate (size - length word) 0),
    length-replicate {A = ℕ} (size - length word) 0,
  )
  from false = omega (arith, h, length-replicate {A = ℕ} size 0)

pub there_words : (size : ℕ) (entries : List (List ℕ)) → 1 ≤ size → IsThere entries
    → IsThere (flat_map (entry_letters size) entries)
there_words size [] h there = absurd (omega (arith, there))
there_words size (entry ∷ entries) h there = there_first (entry_letters size entry)
    (flat_map (entry_letters size) entries)
    (there_letters size (letters size (spelling entry)) h)

pub there_bases : (entries : List (List ℕ)) → IsThere entries → IsThere (bases entries)
there_bases [] h = h
there_bases (entry ∷ entries) h = omega arith

pub there_classes : (db : Database) (entries : List (List ℕ)) → IsThere entries
    → IsThere (classes db entries)
there_classes db [] h = h
there_classes db (entry ∷ entries) h = omega arith
