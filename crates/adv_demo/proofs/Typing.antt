-- The lines of a made game are typed lines.
use Rattle.std.proofs.Common.{◌≡◌, ◌∙◌, ℕ, zero, suc, ◌+◌, ◌*◌, ◌/◌, ◌%◌, ◌<◌, ◌≤◌, inl, inr, Bool, true, false, List, ◌++◌, map, length, leb, refl, ap, arith, length-append}
use Rattle.std.specs.Prelude.{◌&&◌, ◌==◌, codes, if◌then◌else◌}
use Rattle.std.specs.List.{AllByRecursion, list_all, range_with_len}
use Rattle.std.specs.Char.{to_ascii_lowercase}
use Rattle.std.proofs.Math.Nat.{mod-lt}
use Rattle.std.proofs.lemmas.Bool.{and_parts, and_from, le-leb, leb-true, cases_lt}
use Rattle.std.proofs.lemmas.Bool.Decides.{nat_tests}
use Rattle.std.proofs.lemmas.List.{get_or_past, length-map}
use Rattle.std.proofs.lemmas.List.Folds.{list_all-append, list_all-map}
use Rattle.std.proofs.lemmas.List.Sums.{AllPass-from_list_all}
use Rattle.adv_io.specs.TypedLine.{IsTyped, is_line_byte}
use Rattle.rand_pcg.specs.Lcg.{Lcg}
use Rattle.rand_pcg.specs.Pcg.{pcg32}
use Rattle.adv_gen.specs.declared.typed_lines.Form.{Form}
use Rattle.adv_gen.specs.declared.typed_lines.Form.TheVariants.{Direction, GetItem, DropAll, VerbAndItem}
use Rattle.adv_gen.specs.Picks.{after, pick, picks_before}
use Rattle.adv_gen.specs.Vocabulary.{verb, noun, thing_noun, directions, numbered, capital, letter_v, letter_x}
use Rattle.adv_gen.specs.TypedLines.{form_of, command, typed_line, line_picks}
use Rattle.adv_gen.specs.Made.{at_lines}
use Rattle.adv_demo.specs.Laws.{MadeLinesAreTyped}

-- ---- texts that can be typed, in lower case

-- at most so many printable bytes
abbrev can_be_typed : ℕ → List ℕ → Bool
can_be_typed most text =
    leb (length text) most && list_all (λ b. is_line_byte (to_ascii_lowercase b)) text

parts : (most : ℕ) (text : List ℕ) → can_be_typed most text ≡ true
    → (length text ≤ most)
    × (list_all (λ b. is_line_byte (to_ascii_lowercase b)) text ≡ true)
parts most text h =
    let p = and_parts (leb (length text) most)
    (list_all (λ b. is_line_byte (to_ascii_lowercase b)) text) h in
    (leb-true (length text) most p.0, p.1)

wider : (most more : ℕ) (text : List ℕ) → most ≤ more → can_be_typed most text ≡ true
    → can_be_typed more text ≡ true
wider most more text few h =
    let p = parts most text h in
    let short = p.0 in
    and_from _ _ (le-leb (length text) more (omega (arith, short, few))) p.1

-- two texts that can be typed can be typed one after the other, and their lengths add up
joined : (most more : ℕ) (text rest : List ℕ) → can_be_typed most text ≡ true
    → can_be_typed more rest ≡ true → can_be_typed (most + more) (text ++ rest) ≡ true
joined most more text rest h k =
    let p = parts most text h in
    let q = parts more rest k in
    let first = p.0 in
    let second = q.0 in
    and_from _ _
    (le-leb (length (text ++ rest)) (most + more)
    (rw (length-append text rest) (omega (arith, first, second))))
    (list_all-append (λ b. is_line_byte (to_ascii_lowercase b)) text rest ∙ and_from _ _ p.1 q.1)

either : (most : ℕ) (test : Bool) (text other : List ℕ) → can_be_typed most text ≡ true
    → can_be_typed most other ≡ true → can_be_typed most (if test then text else other) ≡ true
either most true text other h k = h
either most false text other h k = k

typed : (text : List ℕ) → can_be_typed 120 text ≡ true → IsTyped (map to_ascii_lowercase text)
typed text h =
    let p = parts 120 text h in
    let short = p.0 in
    let same = length-map text to_ascii_lowercase in
    record {
      short = omega (arith, short, same);
      lower = list_all-map is_line_byte to_ascii_lowercase text ∙ p.1;
    }

-- ---- words

pick-below : (g : Lcg) (place bound : ℕ) → 0 < bound → pick g place bound < bound
unfolding pick
pick-below g place bound some = mod-lt (pcg32 (after place g)).0 some

capital-typed : (k : ℕ) → k < 26 → is_line_byte (to_ascii_lowercase (capital k)) ≡ true
capital-typed k h = grind (arith, nat_tests)

numbered-typed : (letter k : ℕ) → is_line_byte (to_ascii_lowercase letter) ≡ true → k < 260
    → can_be_typed 5 (numbered letter k) ≡ true
numbered-typed letter k h low =
    let tens : k / 26 < 26 = omega arith in
    let ones : k % 26 < 26 = omega arith in
    and_from _ _ refl (and_from _ _ h
    (and_from _ _ (capital-typed (k / 26) tens)
    (and_from _ _ (capital-typed (k % 26) ones) refl)))

noun-typed : (k : ℕ) → k < 260 → can_be_typed 5 (noun k) ≡ true
unfolding noun
noun-typed k low =
    elim (cases_lt k 7) [
      | inl there ↦ AllPass-from_list_all (can_be_typed 5) directions refl k (numbered letter_x k)
          there
      | inr past ↦ ap (can_be_typed 5) (get_or_past directions k (numbered letter_x k) past)
          ∙ numbered-typed letter_x k refl low
    ]

thing_noun-typed : (size k : ℕ) → size ≤ 120 → can_be_typed 5 (thing_noun size k) ≡ true
thing_noun-typed size k small =
    let low : 7 + k % (size + 30) < 260 = omega arith in noun-typed (7 + k % (size + 30)) low

verb-typed : (k : ℕ) → k < 260 → can_be_typed 5 (verb k) ≡ true
unfolding verb
verb-typed k low =
    either 5 (k == 0) _ _ refl
    (either 5 (k == 1) _ _ refl (either 5 (k == 2) _ _ refl
    (either 5 (k == 10) _ _ refl
    (either 5 (k == 18) _ _ refl (numbered-typed letter_v k refl low)))))

-- ---- lines

-- a line of a made game, whichever its form, can be typed
command-typed : (form : Form) (size : ℕ) (g : Lcg) → 8 ≤ size → size ≤ 120
    → can_be_typed 120 (command form size g) ≡ true
command-typed Direction size g some few =
    let below = pick-below g 0 6 (omega arith) in
    let low : 1 + pick g 0 6 < 260 = omega arith in
    wider 5 120 (noun (1 + pick g 0 6)) (omega arith) (noun-typed (1 + pick g 0 6) low)
command-typed GetItem size g some few =
    let item = thing_noun size (pick g 0 (2 * size)) in
    wider 9 120 (codes "get " ++ item) (omega arith)
    (joined 4 5 (codes "get ") item refl (thing_noun-typed size (pick g 0 (2 * size)) few))
command-typed DropAll size g some few = refl
command-typed VerbAndItem size g some few =
    let below = pick-below g 0 7 (omega arith) in
    let low : 3 + pick g 0 7 < 260 = omega arith in
    let item = thing_noun size (pick g 1 (2 * size)) in
    let chosen = verb (3 + pick g 0 7) in
    wider 11 120 (chosen ++ codes " " ++ item) (omega arith)
    (joined 6 5 (chosen ++ codes " ") item
    (joined 5 1 chosen (codes " ") (verb-typed (3 + pick g 0 7) low) refl)
    (thing_noun-typed size (pick g 1 (2 * size)) few))

all_typed : (line : ℕ → List ℕ) (a n : ℕ) → ((k : ℕ) → IsTyped (line k))
    → AllByRecursion IsTyped (map line (range_with_len a n))
all_typed line a zero h = tt
all_typed line a (suc n) h = (h a, all_typed line (a + 1) n h)

pub made_lines_are_typed : MadeLinesAreTyped
made_lines_are_typed n some few =
    all_typed (λ k. typed_line n k (after (picks_before line_picks k) (at_lines n))) 0 (10 * n)
    (λ k. typed (command (form_of k) n (after (picks_before line_picks k) (at_lines n)))
    (command-typed (form_of k) n (after (picks_before line_picks k) (at_lines n)) some few))
