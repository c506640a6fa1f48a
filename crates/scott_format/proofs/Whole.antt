-- The text that is written of a database is one of it, whatever follows.
use Rattle.std.proofs.Common.{◌≡◌, ℕ, ◌+◌, ◌-◌, ◌≤◌, ◌≤ℤ◌, Bool, true, ◌&&◌, leb, List, [], ◌∷◌, ◌++◌, length, ℤ, negsuc, refl, sym, subst, ◌∙◌, append_assoc, arith}
use Rattle.std.specs.Prelude.{int_le}
use Rattle.std.specs.List.{list_all}
use Rattle.std.proofs.lemmas.Bool.{and_parts, leb-true}
use Rattle.std.proofs.lemmas.Int.{ints}
use Rattle.scott_types.specs.Limits.{is_file_text, is_number, is_action, is_word, is_room, is_item, is_list_of, KeepsLimits}
use Rattle.scott_types.specs.Database.{Database}
use Rattle.scott_format.specs.declared.header.Sizes.{Sizes}
use Rattle.scott_format.specs.declared.header.PlayNumbers.{PlayNumbers}
use Rattle.scott_format.specs.declared.header.Closing.{Closing}
use Rattle.scott_format.specs.Plan.{Plan, ◌>>=◌, many, Spelled}
use Rattle.scott_format.specs.Sections.{sizes, play_numbers, closing, action, word, room, string, item, trailer}
use Rattle.scott_format.specs.File.{file, body}
use Rattle.scott_format.specs.Canon.{Token, line_text, lines_text, header_line, action_line, word_line, room_line, string_line, item_line, trailer_line, canon}
use Rattle.scott_format.specs.Laws.{WrittenTextIsText}
use Rattle.scott_format.specs.TextLaws.{TextLaws}
use Rattle.scott_format.proofs.Tokens.{Feeds, fed, checked, a_number, none, line_spelled}
use Rattle.scott_format.proofs.CanonText.{Spelled-then, EntrySpelled, many_spelled, fits, natural_fits, within}
use Rattle.scott_format.proofs.Entries.{action_spelled, word_spelled, room_spelled, string_spelled, item_spelled, trailer_spelled}

-- ---- the header

-- the number of the last entry
abbrev last_of : {X : Type 0} → List X → ℕ
last_of xs = length xs - 1

abbrev counts_of : Database → Sizes
counts_of db = record { unused = db.header.unused; items = last_of db.items; actions = last_of db.actions; words = last_of db.words; rooms = last_of db.rooms }

abbrev numbers_of : Database → PlayNumbers
numbers_of db = record { carry = db.header.carry; start = db.header.start; treasures = db.header.treasures; length = db.header.length; light = db.header.light }

abbrev end_of : Database → Closing
end_of db = record { messages = last_of db.messages; home = db.header.home }

-- the last entry's number is no more than so many
last_within : {X : Type 0} (most : ℕ) (xs : List X) → (leb 1 (length xs) && leb (length xs) (most + 1)) ≡ true → last_of xs ≤ most
last_within most xs e =
    let h = and_parts (leb 1 (length xs)) (leb (length xs) (most + 1)) e in omega (arith, leb-true (length xs) (most + 1) h.1)

last_then : {X : Type 0} (most : ℕ) (xs : List X) → is_list_of most xs ≡ true → last_of xs + 1 ≡ length xs
last_then most xs e =
    let h = and_parts (leb 1 (length xs)) (leb (length xs) most) e in omega (arith, leb-true 1 (length xs) h.0)

at_least : (a b : ℤ) → a ≤ℤ b → int_le a b ≡ true
at_least a b h = grind (arith, ints)

-- the numbers of the header are read as its three sections
header_fed : (db : Database) → KeepsLimits db → Feeds Database file (header_line db) (body (counts_of db) (numbers_of db) (end_of db))
unfolding file sizes play_numbers closing
header_fed db h =
    let u = and_parts (is_number db.header.unused) _ h.header.numbers in
    let c = and_parts (is_number db.header.carry) _ u.1 in
    let t = and_parts (is_number db.header.treasures) _ c.1 in
    let l = and_parts (is_number db.header.light) _ t.1 in
    let r = and_parts (is_number db.header.home) true l.1 in
    let items = last_within 254 db.items h.sizes.items in
    let actions = last_within 4999 db.actions h.sizes.actions in
    let words = last_within 999 db.words h.sizes.words in
    let rooms = last_within 254 db.rooms h.sizes.rooms in
    let messages = last_within 999 db.messages h.sizes.messages in
    let start : db.header.start ≤ last_of db.rooms = omega (arith, h.header.start_there) in
    let fit = λ (most : ℕ) (n : ℕ) (le : n ≤ most) (small : most ≤ 4999). natural_fits n (omega arith) in
    a_number (fits db.header.unused u.0)
    (a_number (fit 254 (last_of db.items) items (omega arith)) (checked (within 0 254 (last_of db.items) (omega arith) items)
    (a_number (fit 4999 (last_of db.actions) actions (omega arith)) (checked (within 0 4999 (last_of db.actions) (omega arith) actions)
    (a_number (fit 999 (last_of db.words) words (omega arith)) (checked (within 0 999 (last_of db.words) (omega arith) words)
    (a_number (fit 254 (last_of db.rooms) rooms (omega arith)) (checked (within 0 254 (last_of db.rooms) (omega arith) rooms)
    (a_number (fits db.header.carry c.0)
    (a_number (fit 254 db.header.start (omega arith) (omega arith)) (checked (within 0 (last_of db.rooms) db.header.start (omega arith) start)
    (a_number (fits db.header.treasures t.0)
    (a_number (fit 20 db.header.length h.header.length_range.1 (omega arith)) (checked (within 1 20 db.header.length h.header.length_range.0 h.header.length_range.1)
    (a_number (fits db.header.light l.0) (checked (at_least (negsuc 0) db.header.light h.header.light_range)
    (a_number (fit 999 (last_of db.messages) messages (omega arith)) (checked (within 0 999 (last_of db.messages) (omega arith) messages)
    (a_number (fits db.header.home r.0) fed)))))))))))))))))))

-- ---- the body

module _ (laws : TextLaws) where
  -- a list whose last entry has this number
  list_spelled : {X : Type 0} (piece : ℕ → Plan X) (line : X → List Token) (ok : X → Bool) (each : (k : ℕ) (x : X) → ok x ≡ true → EntrySpelled (piece k) line x)
      (xs : List X) (n : ℕ) → n ≡ length xs → list_all ok xs ≡ true → (rest : List ℕ) → Spelled (many piece 0 n) xs (10 ∷ (lines_text line xs ++ rest)) (10 ∷ rest)
  list_spelled piece line ok each xs n e all rest =
      subst (λ (m : ℕ). Spelled (many piece 0 m) xs (10 ∷ (lines_text line xs ++ rest)) (10 ∷ rest)) (sym e) (many_spelled piece line ok each xs 0 all rest)

  -- a list of the body, and what follows it
  list_then : {X : Type 0} (piece : ℕ → Plan X) (line : X → List Token) (ok : X → Bool) (each : (k : ℕ) (x : X) → ok x ≡ true → EntrySpelled (piece k) line x)
      (xs : List X) (n : ℕ) (f : List X → Plan Database) (db : Database) (rest end : List ℕ) → n ≡ length xs → list_all ok xs ≡ true
      → Spelled (f xs) db (10 ∷ rest) end → Spelled (many piece 0 n >>= f) db (10 ∷ (lines_text line xs ++ rest)) end
  list_then piece line ok each xs n f db rest end e all h =
      Spelled-then (many piece 0 n) f xs db (10 ∷ (lines_text line xs ++ rest)) (10 ∷ rest) end (list_spelled piece line ok each xs n e all rest) h

  abbrev body_text : Database → List ℕ → List ℕ
  body_text db rest =
      lines_text action_line db.actions ++ (lines_text word_line db.words ++ (lines_text room_line db.rooms ++ (lines_text string_line db.messages
      ++ (lines_text item_line db.items ++ (lines_text string_line db.comments ++ (line_text (trailer_line db.trailer) ++ rest))))))

  -- what is written of the lists and the trailer of a database within the limits spells them
  body_spelled : (db : Database) → KeepsLimits db → (rest : List ℕ) → Spelled (body (counts_of db) (numbers_of db) (end_of db)) db (10 ∷ body_text db rest) (10 ∷ rest)
  unfolding body
  body_spelled db h rest =
      let texts = and_parts (list_all is_file_text db.messages) (list_all is_file_text db.comments) h.entries.texts in
      list_then action action_line is_action (action_spelled laws) db.actions _ _ db _ _ (last_then 5000 db.actions h.sizes.actions) h.entries.actions
      (list_then (λ k. word) word_line is_word (λ k. word_spelled laws) db.words _ _ db _ _ (last_then 1000 db.words h.sizes.words) h.entries.words
      (list_then (λ k. room) room_line is_room (λ k. room_spelled laws) db.rooms _ _ db _ _ (last_then 255 db.rooms h.sizes.rooms) h.entries.rooms
      (list_then (λ k. string) string_line is_file_text (λ k. string_spelled laws) db.messages _ _ db _ _ (last_then 1000 db.messages h.sizes.messages) texts.0
      (list_then (λ k. item) item_line is_item (λ k. item_spelled laws) db.items _ _ db _ _ (last_then 255 db.items h.sizes.items) h.entries.items
      (list_then (λ k. string) string_line is_file_text (λ k. string_spelled laws) db.comments _ _ db _ _ (last_then 5000 db.actions h.sizes.actions ∙ sym h.commented) texts.1
      (Spelled-then trailer _ db.trailer db _ (10 ∷ rest) (10 ∷ rest) (trailer_spelled laws db.trailer h.trailer rest) (refl, refl)))))))

  -- ---- the whole

  regroup : (db : Database) (rest : List ℕ) → canon db ++ rest ≡ line_text (header_line db) ++ body_text db rest
  regroup db rest = simp append_assoc

  pub written_text_is_text : WrittenTextIsText
  written_text_is_text db rest h = (
    10 ∷ rest,
    subst (λ (b : List ℕ). Spelled file db b (10 ∷ rest)) (sym (regroup db rest))
        (line_spelled laws file (body (counts_of db) (numbers_of db) (end_of db)) _ _ db [] (body_text db rest) (10 ∷ rest) (header_fed db h) none (body_spelled db h rest)),
  )
