-- Texts of printable bytes: what a database holds, and what is typed.
use Rattle.std.proofs.Common.{◌≡◌, ◌∙◌, ℕ, ◌+◌, ◌*◌, ◌/◌, ◌%◌, ◌^◌, ◌<◌, ◌≤◌, inl, inr, Bool, true, false, List, [], ◌∷◌, ◌++◌, map, take, length, leb, decimal, refl, ap, arith, length-append, take_all}
use Rattle.std.specs.Prelude.{◌&&◌, ◌==◌, not, nat_le, codes, if◌then◌else◌}
use Rattle.std.specs.List.{list_all}
use Rattle.std.specs.Char.{to_ascii_lowercase}
use Rattle.std.proofs.lemmas.Bool.{and_parts, and_from, le-leb, leb-true, cases_lt}
use Rattle.std.proofs.lemmas.Bool.Decides.{nat_tests}
use Rattle.std.proofs.lemmas.Fmt.{decimal_by_steps, length-decimal-le}
use Rattle.std.proofs.lemmas.List.Folds.{list_all-append}
use Rattle.std.proofs.lemmas.List.Sums.{AllPass-from_list_all}
use Rattle.adv_io.specs.TypedLine.{line_byte}
use Rattle.scott_types.specs.Limits.{is_file_byte, is_file_text}
use Rattle.rand_pcg.specs.Lcg.{Lcg}
use Rattle.adv_gen.specs.declared.typed_lines.Form.{Form}
use Rattle.adv_gen.specs.declared.typed_lines.Form.TheVariants.{Direction, GetItem, DropAll, VerbAndItem}
use Rattle.adv_gen.specs.Picks.{pick}
use Rattle.adv_gen.specs.Vocabulary.{verb, noun, thing_noun, directions, numbered, capital, letter_v, letter_x}
use Rattle.adv_gen.specs.Rooms.{room_opening, room_text, message}
use Rattle.adv_gen.specs.Items.{treasure_mark, item_text}
use Rattle.adv_gen.specs.TypedLines.{command}
use Rattle.adv_gen.proofs.Picking.{pick-below}
use Rattle.adv_gen.proofs.Words.{noun-after}

-- ---- bytes

-- a printable byte that is no grave accent
abbrev pub is_plain_byte : ℕ → Bool
is_plain_byte b = nat_le 32 b && (nat_le b 126 && not (b == 96))

file_byte-plain : (b : ℕ) → is_plain_byte b ≡ true → is_file_byte b ≡ true
file_byte-plain b h = grind (arith, nat_tests)

typed_byte-plain : (b : ℕ) → is_plain_byte b ≡ true → line_byte b ≡ to_ascii_lowercase b
typed_byte-plain b h = grind (arith, nat_tests)

-- ---- texts

-- at most so many such bytes
abbrev pub is_plain : ℕ → List ℕ → Bool
is_plain most text = leb (length text) most && list_all is_plain_byte text

short : (most : ℕ) (text : List ℕ) → is_plain most text ≡ true → length text ≤ most
short most text h = leb-true (length text) most
    (and_parts (leb (length text) most) (list_all is_plain_byte text) h).0

bytes : (most : ℕ) (text : List ℕ) → is_plain most text ≡ true → list_all is_plain_byte text ≡ true
bytes most text h = (and_parts (leb (length text) most) (list_all is_plain_byte text) h).1

wider : (most more : ℕ) (text : List ℕ) → most ≤ more → is_plain most text ≡ true
    → is_plain more text ≡ true
wider most more text few h =
    let size = short most text h in
    and_from _ _ (le-leb (length text) more (omega arith)) (bytes most text h)

is_plain-append : (most more : ℕ) (text rest : List ℕ) → is_plain most text ≡ true
    → is_plain more rest ≡ true → is_plain (most + more) (text ++ rest) ≡ true
is_plain-append most more text rest h k =
    let first = short most text h in
    let second = short more rest k in
    and_from _ _
    (le-leb (length (text ++ rest)) (most + more) (rw (length-append text rest) (omega arith)))
    (list_all-append is_plain_byte text rest ∙ and_from _ _ (bytes most text h) (bytes more rest k))

is_plain-cond : (most : ℕ) (test : Bool) (text other : List ℕ) → is_plain most text ≡ true
    → is_plain most other ≡ true → is_plain most (if test then text else other) ≡ true
is_plain-cond most true text other h k = h
is_plain-cond most false text other h k = k

file_bytes-plain : (text : List ℕ) → list_all is_plain_byte text ≡ true
    → list_all is_file_byte text ≡ true
file_bytes-plain [] h = refl
file_bytes-plain (b ∷ text) h =
    let parts = and_parts (is_plain_byte b) (list_all is_plain_byte text) h in
    and_from _ _ (file_byte-plain b parts.0) (file_bytes-plain text parts.1)

pub file_text-plain : (most : ℕ) (text : List ℕ) → most ≤ 4096 → is_plain most text ≡ true
    → is_file_text text ≡ true
file_text-plain most text few h =
    let size = short most text h in
    and_from _ _ (le-leb (length text) 4096 (omega arith))
    (file_bytes-plain text (bytes most text h))

typed_bytes-plain : (text : List ℕ) → list_all is_plain_byte text ≡ true
    → map line_byte text ≡ map to_ascii_lowercase text
typed_bytes-plain [] h = refl
typed_bytes-plain (b ∷ text) h =
    let parts = and_parts (is_plain_byte b) (list_all is_plain_byte text) h in
    λ i. typed_byte-plain b parts.0 i ∷ typed_bytes-plain text parts.1 i

pub typed-plain : (most : ℕ) (text : List ℕ) → most ≤ 120 → is_plain most text ≡ true
    → map line_byte (take 120 text) ≡ map to_ascii_lowercase text
typed-plain most text few h =
    let size = short most text h in
    ap (λ (t : List ℕ). map line_byte t) (take_all 120 text (omega arith))
    ∙ typed_bytes-plain text (bytes most text h)

-- ---- digits

digit-plain : (d : ℕ) → d < 10 → is_plain_byte (48 + d) ≡ true
digit-plain d h = grind (arith, nat_tests)

digits-plain : (n : ℕ) → n < 2 ^ 64 → list_all is_plain_byte (decimal n) ≡ true
digits-plain n small =
    decimal_by_steps (λ k digits. list_all is_plain_byte digits ≡ true)
    (λ k low. and_from _ _ (digit-plain k low) refl)
    (λ k digits high h. list_all-append is_plain_byte digits _
    ∙ and_from _ _ h (and_from _ _ (digit-plain (k % 10) (omega arith)) refl)) n small

decimal-plain : (n : ℕ) → n < 2 ^ 64 → is_plain 20 (decimal n) ≡ true
decimal-plain n small =
    and_from _ _ (le-leb (length (decimal n)) 20
    (length-decimal-le 20 n (omega arith) (omega arith) small)) (digits-plain n small)

-- ---- words

capital-plain : (k : ℕ) → k < 26 → is_plain_byte (capital k) ≡ true
capital-plain k h = grind (arith, nat_tests)

numbered-plain : (letter k : ℕ) → is_plain_byte letter ≡ true → k < 260
    → is_plain 5 (numbered letter k) ≡ true
numbered-plain letter k h low =
    let tens : k / 26 < 26 = omega arith in
    let ones : k % 26 < 26 = omega arith in
    and_from _ _ refl (and_from _ _ h
    (and_from _ _ (capital-plain (k / 26) tens)
    (and_from _ _ (capital-plain (k % 26) ones) refl)))

pub noun-plain : (k : ℕ) → k < 260 → is_plain 5 (noun k) ≡ true
unfolding noun
noun-plain k low =
    elim (cases_lt k 7) [
      | inl there ↦ AllPass-from_list_all (is_plain 5) directions refl k (numbered letter_x k) there
      | inr past ↦ ap (is_plain 5) (noun-after k past) ∙ numbered-plain letter_x k refl low
    ]

pub thing_noun-plain : (size k : ℕ) → size ≤ 120 → is_plain 5 (thing_noun size k) ≡ true
thing_noun-plain size k small =
    let low : 7 + k % (size + 30) < 260 = omega arith in noun-plain (7 + k % (size + 30)) low

pub verb-plain_text : (k : ℕ) → k < 260 → is_plain 5 (verb k) ≡ true
unfolding verb
verb-plain_text k low =
    is_plain-cond 5 (k == 0) _ _ refl
    (is_plain-cond 5 (k == 1) _ _ refl (is_plain-cond 5 (k == 2) _ _ refl
    (is_plain-cond 5 (k == 10) _ _ refl
    (is_plain-cond 5 (k == 18) _ _ refl (numbered-plain letter_v k refl low)))))

-- ---- texts of rooms, messages and items

pub room_text-plain : (k : ℕ) → k < 2 ^ 64 → is_plain 34 (room_text k) ≡ true
unfolding room_text
room_text-plain k small =
    is_plain-append 14 20 (room_opening k) (decimal k) (is_plain-cond 14 (k % 7 == 6) _ _ refl refl)
    (decimal-plain k small)

pub message-plain : (k : ℕ) → k < 2 ^ 64 → is_plain 37 (message k) ≡ true
unfolding message
message-plain k small =
    is_plain-append 36 1 (codes "This is message " ++ decimal k) (codes ".")
    (is_plain-append 16 20 (codes "This is message ") (decimal k) refl (decimal-plain k small)) refl

-- the text of an item has at most 34 bytes, and all are plain
pub item_text-plain : (size k : ℕ) → size ≤ 120 → k < 2 ^ 64 → is_plain 34 (item_text size k) ≡ true
unfolding item_text
item_text-plain size k few small =
    let mark = is_plain-cond 1 (k % 8 == 7) (codes "*") [] refl refl in
    let opening = treasure_mark k ++ codes "thing " in
    let thing = is_plain-append 1 6 (treasure_mark k) (codes "thing ") mark refl in
    let number = is_plain-append 7 20 opening (decimal k) thing (decimal-plain k small) in
    let first = is_plain-append 27 1 (opening ++ decimal k) (codes "/") number refl in
    let word = is_plain-append 28 5 (opening ++ decimal k ++ codes "/") (thing_noun size k) first
    (thing_noun-plain size k few) in
    is_plain-append 33 1 (opening ++ decimal k ++ codes "/" ++ thing_noun size k)
    (codes "/") word refl

-- ---- lines

-- a line that is made has at most 16 bytes, and all are plain
command-plain : (form : Form) (size : ℕ) (g : Lcg) → 8 ≤ size → size ≤ 120
    → is_plain 16 (command form size g) ≡ true
command-plain Direction size g some few =
    let below = pick-below g 0 6 (omega arith) in
    let low : 1 + pick g 0 6 < 260 = omega arith in
    wider 5 16 (noun (1 + pick g 0 6)) (omega arith) (noun-plain (1 + pick g 0 6) low)
command-plain GetItem size g some few =
    let item = thing_noun size (pick g 0 (2 * size)) in
    wider 9 16 (codes "get " ++ item) (omega arith)
    (is_plain-append 4 5 (codes "get ") item refl (thing_noun-plain size (pick g 0 (2 * size)) few))
command-plain DropAll size g some few = refl
command-plain VerbAndItem size g some few =
    let below = pick-below g 0 7 (omega arith) in
    let low : 3 + pick g 0 7 < 260 = omega arith in
    let item = thing_noun size (pick g 1 (2 * size)) in
    let chosen = verb (3 + pick g 0 7) in
    wider 11 16 (chosen ++ codes " " ++ item) (omega arith)
    (is_plain-append 6 5 (chosen ++ codes " ") item
    (is_plain-append 5 1 chosen (codes " ") (verb-plain_text (3 + pick g 0 7) low) refl)
    (thing_noun-plain size (pick g 1 (2 * size)) few))

-- what is typed is in lower case
pub typed_command : (form : Form) (size : ℕ) (g : Lcg) (text : List ℕ) → 8 ≤ size → size ≤ 120
    → text ≡ command form size g
    → map line_byte (take 120 text) ≡ map to_ascii_lowercase (command form size g)
typed_command form size g text some few e =
    ap (λ (t : List ℕ). map line_byte (take 120 t)) e
    ∙ typed-plain 16 (command form size g) (omega arith) (command-plain form size g some few)
