-- The words of a line.
use Rattle.std.proofs.Common.{◌≡◌, ◌∙◌, arith, ℕ, zero, suc, ◌+◌, ◌≤◌, ◌==◌, ◌||◌, Bool, true, false, not, ◌&&◌, cond, if◌then◌else◌, List, [], ◌∷◌, length, take, drop, Some, None, refl, sym, ap, drop-drop, zero-add, length-take}
use Rattle.std.specs.List.{list_all, prefix_len}
use Rattle.std.specs.Char.{is_ascii_graphic, is_ascii_uppercase}
use Rattle.std.proofs.lemmas.Bool.{and_parts}
use Rattle.std.proofs.lemmas.List.{length-drop}
use Rattle.std.proofs.lemmas.List.Sums.{prefix_len-le-length}
use Rattle.adv_io.specs.Text.{space}
use Rattle.adv_io.specs.TypedLine.{is_line_byte}
use Rattle.scott_rules.specs.Commands.{is_space, span_of, word_after, word_or_none, split, typed_noun}
use Rattle.trans_words.proofs.Matching.{is_word_byte, is_word}

abbrev pub in_word : ℕ → Bool
in_word byte = not (is_space byte)

-- how many spaces a list begins with, and how many bytes that are none
abbrev pub spaces : List ℕ → ℕ
spaces xs = prefix_len is_space xs

abbrev pub word_size : List ℕ → ℕ
word_size xs = prefix_len in_word xs

-- ---- the bytes of words

all_after : (p : ℕ → Bool) (xs : List ℕ) (n : ℕ) → list_all p xs ≡ true
    → list_all p (drop n xs) ≡ true
all_after p xs zero h = h
all_after p [] (suc n) h = refl
all_after p (x ∷ xs) (suc n) h = all_after p xs n (and_parts (p x) (list_all p xs) h).1

-- a byte of a line that is no space is printable and no capital letter
in_word_is : (b : ℕ) → is_line_byte b ≡ true → in_word b ≡ true → is_word_byte b ≡ true
in_word_is b line other = from (b == space) other line where
  from : (t : Bool) → not t ≡ true
      → t || (is_ascii_graphic b && not (is_ascii_uppercase b)) ≡ true → is_word_byte b ≡ true
  from true h k = cc
  from false h k = k

-- what is taken of typed bytes up to the end of the word is a word
word_bytes : (xs : List ℕ) → list_all is_line_byte xs ≡ true
    → is_word (take (word_size xs) xs) ≡ true
word_bytes [] h = refl
word_bytes (x ∷ xs) h = from (in_word x) refl (word_bytes xs parts.1) where
  parts : (is_line_byte x ≡ true) × (list_all is_line_byte xs ≡ true)
  parts = and_parts (is_line_byte x) (list_all is_line_byte xs) h

  from : (t : Bool) → in_word x ≡ t → is_word (take (word_size xs) xs) ≡ true
      → is_word (take (cond t (1 + word_size xs) 0) (x ∷ xs)) ≡ true
  from true is more =
      let one_more : 1 + word_size xs ≡ suc (word_size xs) = omega arith in
      rw one_more (rw (in_word_is x parts.0 is, more) refl)
  from false is more = refl

-- where no word follows the spaces, nothing does
nothing_left : (xs : List ℕ) → word_size (drop (spaces xs) xs) ≡ 0 → drop (spaces xs) xs ≡ []
nothing_left [] h = refl
nothing_left (x ∷ xs) h = from (is_space x) refl (nothing_left xs) h where
  from : (t : Bool) → is_space x ≡ t
      → (word_size (drop (spaces xs) xs) ≡ 0 → drop (spaces xs) xs ≡ [])
      → word_size (drop (cond t (1 + spaces xs) 0) (x ∷ xs)) ≡ 0
      → drop (cond t (1 + spaces xs) 0) (x ∷ xs) ≡ []
  from true is more none =
      let one_more : 1 + spaces xs ≡ suc (spaces xs) = omega arith in
      rw one_more (more (ap (λ (n : ℕ). word_size (drop n (x ∷ xs))) (sym one_more) ∙ none))
  from false is more none = absurd (some none) where
    some : word_size (x ∷ xs) ≡ 0 → ⊥
    some e = omega (arith, e, ap (λ (t : Bool). cond (not t) (1 + word_size xs) 0) is)

pub is_zero : (n : ℕ) → (n == 0) ≡ true → n ≡ 0
is_zero n h = grind (arith, h)

-- ---- the two words of a line, by their places

module _ (line : List ℕ) (lower : list_all is_line_byte line ≡ true) where
  -- where the first word begins and how long it is, and the second one
  abbrev pub start : ℕ
  start = spaces line

  abbrev pub size : ℕ
  size = word_size (drop start line)

  abbrev pub later : ℕ
  later = (start + size) + spaces (drop (start + size) line)

  abbrev pub later_size : ℕ
  later_size = word_size (drop later line)

  abbrev pub word : List ℕ
  word = take size (drop start line)

  abbrev pub noun : List ℕ
  noun = take later_size (drop later line)

  pub first_is : (split line).first ≡ span_of start size
  first_is = ap (λ (n : ℕ). span_of n (word_size (drop n line))) (zero-add start)

  -- the second word of the line is the one after the first and the spaces that follow it
  pub second_is : (split line).second ≡ span_of later later_size
  second_is = ap (word_after line) first_is ∙ from (size == 0) refl where
    none : drop start line ≡ [] → drop later line ≡ []
    none h =
        let place : later ≡ start + (size + spaces (drop (start + size) line)) = omega arith in
        ap (λ (n : ℕ). drop n line) place
        ∙ sym (drop-drop (size + spaces (drop (start + size) line)) start line)
        ∙ ap (drop (size + spaces (drop (start + size) line))) h
        ∙ nothing (size + spaces (drop (start + size) line)) where
          nothing : (n : ℕ) → drop {A = ℕ} n [] ≡ []
          nothing zero = refl
          nothing (suc n) = refl

    from : (t : Bool) → (size == 0) ≡ t
        → word_after line (if t then None else Some (start, size)) ≡ span_of later later_size
    from true is = sym (ap (λ (xs : List ℕ). span_of later (word_size xs))
        (none (nothing_left line (is_zero size is))))
    from false is = refl

  -- the bytes of a span
  pub span_bytes : (at n : ℕ) → word_or_none line (span_of at n) ≡ take n (drop at line)
  span_bytes at n = from (n == 0) refl where
    from : (t : Bool) → (n == 0) ≡ t
        → word_or_none line (if t then None else Some (at, n)) ≡ take n (drop at line)
    from true is = sym (ap (λ (n : ℕ). take n (drop at line)) (is_zero n is))
    from false is = refl

  pub noun_is : typed_noun line ≡ noun
  noun_is = ap (word_or_none line) second_is ∙ span_bytes later later_size

  -- ---- the words stand in the line

  within : (p : ℕ → Bool) (at : ℕ) → at ≤ length line
      → at + prefix_len p (drop at line) ≤ length line
  within p at few =
      omega (arith, few, prefix_len-le-length p (drop at line), length-drop at line)

  pub start_within : start ≤ length line
  start_within = prefix_len-le-length is_space line

  pub word_within : start + size ≤ length line
  word_within = within in_word start start_within

  pub later_within : later ≤ length line
  later_within = within is_space (start + size) word_within

  pub noun_within : later + later_size ≤ length line
  noun_within = within in_word later later_within

  -- and are as long as they are
  whole : (at n : ℕ) → at + n ≤ length line → length (take n (drop at line)) ≡ n
  whole at n few = omega (arith, length-take n (drop at line), length-drop at line, few)

  pub word_long : length word ≡ size
  word_long = whole start size word_within

  pub noun_long : length noun ≡ later_size
  noun_long = whole later later_size noun_within

  pub word_typed : is_word word ≡ true
  word_typed = word_bytes (drop start line) (all_after is_line_byte line start lower)

  pub noun_typed : is_word noun ≡ true
  noun_typed = word_bytes (drop later line) (all_after is_line_byte line later lower)
