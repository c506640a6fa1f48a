-- Tables in which each row stands after the one before it.
use Rattle.std.proofs.Common.{◌≡◌, ◌∙◌, arith, ℕ, zero, suc, ◌+◌, ◌-◌, ◌*◌, ◌<◌, ◌≤◌, ℤ, pos, Bool, true, false, ◌&&◌, ◌==◌, if◌then◌else◌, List, [], ◌∷◌, ◌++◌, map, length, take, replicate, flat_map, slice_index, slice_index_or, refl, ap, append_assoc}
use Rattle.std.specs.List.{list_all}
use Rattle.std.specs.Char.{is_ascii_graphic, to_ascii_lowercase}
use Rattle.std.proofs.lemmas.Bool.{and_parts}
use Rattle.std.proofs.lemmas.List.{length-append, length-map, length-replicate, get_or_append_left, get_or-append-add}
use Rattle.scott_types.specs.declared.parts.Room.{Room}
use Rattle.scott_types.specs.Database.{room_at}
use Rattle.scott_types.specs.Limits.{is_number, is_file_text, is_room}
use Rattle.scott_types.specs.Room.{room_beyond}
use Rattle.scott_rules.specs.Words.{spelling, entries_of}
use Rattle.scott_vocab.specs.Keys.{letters}
use Rattle.trans_specs.specs.Tables.{filled_up, printed_letters, entry_letters, exits_of_room}
use Rattle.trans_specs.specs.Laws.{ExitsStand, LettersStand}

-- an entry of a row, where each row has as many
flat_at : {X : Type 0} (none : X) (f : X → List ℕ) (size : ℕ) (xs : List X)
    (rest : List ℕ) (k i : ℕ)
    → ((j : ℕ) → j < length xs → length (f (slice_index_or xs j none)) ≡ size)
    → k < length xs → i < size
    → slice_index (flat_map f xs ++ rest) (size * k + i)
    ≡ slice_index (f (slice_index_or xs k none)) i
flat_at none f size [] rest k i each less few = absurd (omega (arith, less))
flat_at none f size (x ∷ xs) rest zero i each less few =
    ap (λ (zs : List ℕ). slice_index zs (size * 0 + i))
    (append_assoc (f x) (flat_map f xs) rest)
    ∙ ap (slice_index (f x ++ (flat_map f xs ++ rest))) first
    ∙ get_or_append_left (f x) (flat_map f xs ++ rest) 0 i (omega (arith, few, own)) where
      own : length (f x) ≡ size
      own = each 0 (omega arith)

      first : size * 0 + i ≡ i
      first = omega arith
flat_at none f size (x ∷ xs) rest (suc k) i each less few =
    ap (λ (zs : List ℕ). slice_index zs (size * suc k + i))
    (append_assoc (f x) (flat_map f xs) rest)
    ∙ ap (slice_index (f x ++ (flat_map f xs ++ rest))) next
    ∙ get_or-append-add (f x) (flat_map f xs ++ rest) (size * k + i) 0
    ∙ flat_at none f size xs rest k i (λ j fewer. each (suc j) (omega (arith, fewer)))
    (omega (arith, less)) few where
      own : length (f x) ≡ size
      own = each 0 (omega arith)

      next : size * suc k + i ≡ length (f x) + (size * k + i)
      next = omega (arith, own)

-- ---- exits

-- each room of a file has six exits
six_exits : (rooms : List Room) → list_all is_room rooms ≡ true → (j : ℕ) → j < length rooms
    → length (slice_index_or rooms j (record { exits = []; text = [] })).exits ≡ 6
six_exits [] all j less = absurd (omega (arith, less))
six_exits (room ∷ rooms) all zero less = grind (
  arith,
  (and_parts (length room.exits == 6)
      (list_all is_number room.exits && is_file_text room.text)
      (and_parts (is_room room) (list_all is_room rooms) all).0).0,
)
six_exits (room ∷ rooms) all (suc j) less =
    six_exits rooms (and_parts (is_room room) (list_all is_room rooms) all).1 j
    (omega (arith, less))

beyond_at : (rooms : ℕ) (zs : List ℤ) (i : ℕ)
    → slice_index (map (room_beyond rooms) zs) i ≡ room_beyond rooms (slice_index_or zs i (pos 0))
beyond_at rooms [] i = refl
beyond_at rooms (z ∷ zs) zero = refl
beyond_at rooms (z ∷ zs) (suc i) = beyond_at rooms zs i

pub exits_stand : ExitsStand
exits_stand db room direction limits there way =
    flat_at (record { exits = []; text = [] }) (exits_of_room db) 6 db.rooms (0 ∷ []) room direction
    (λ j less. length-map (slice_index_or db.rooms j (record { exits = []; text = [] })).exits
    (room_beyond (length db.rooms)) ∙ six_exits db.rooms limits.entries.rooms j less) there way
    ∙ beyond_at (length db.rooms) (room_at db room).exits direction

-- ---- letters

letters_few : (size : ℕ) (word : List ℕ) → length (letters size word) ≤ size
letters_few size word = omega (
  arith,
  length-map (take size word) to_ascii_lowercase,
  taken size word,
) where
  taken : (n : ℕ) (xs : List ℕ) → length (take n xs) ≤ n
  taken zero xs = omega arith
  taken (suc n) [] = omega arith
  taken (suc n) (x ∷ xs) = omega (arith, taken n xs)

-- the printed letters of a word that is no longer than a size are as many as the size
letters_long : (size : ℕ) (word : List ℕ) → length word ≤ size
    → length (printed_letters size word) ≡ size
letters_long size word few = from (list_all is_ascii_graphic word) where
  from : (b : Bool) → length (if b then filled_up size word else replicate size 0) ≡ size
  from true = omega (
    arith,
    few,
    length-append word (replicate (size - length word) 0),
    length-replicate {A = ℕ} (size - length word) 0,
  )
  from false = length-replicate {A = ℕ} size 0

pub letters_stand : LettersStand
letters_stand db column k i there few =
    flat_at [] (entry_letters db.header.length) db.header.length (entries_of db column) (0 ∷ []) k i
    (λ j less. letters_long db.header.length
    (letters db.header.length (spelling (slice_index_or (entries_of db column) j [])))
    (letters_few db.header.length (spelling (slice_index_or (entries_of db column) j []))))
    there few
