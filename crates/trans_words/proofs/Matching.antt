-- A word that is typed has the letters of an entry exactly where the rules say that it matches.
use Rattle.std.proofs.Common.{◌≡◌, ◌∙◌, arith, ℕ, zero, suc, ◌-◌, ◌≤◌, nat_eq, Bool, true, false, not, ◌&&◌, if◌then◌else◌, List, [], ◌∷◌, ◌++◌, map, length, take, replicate, bytes_eq, refl, sym, ap, true≢false}
use Rattle.std.specs.List.{list_all, AllByRecursion}
use Rattle.std.specs.Char.{is_ascii_graphic, is_ascii_uppercase, to_ascii_lowercase}
use Rattle.std.proofs.lemmas.Bool.{and_parts}
use Rattle.std.proofs.lemmas.List.{length-append, length-map, length-replicate}
use Rattle.std.proofs.lemmas.Slice.Eq.{bytes_eq-Decides}
use Rattle.inform_logic.specs.Stages.{plus}
use Rattle.inform_logic.proofs.Steps.{plus_is}
use Rattle.scott_rules.specs.Words.{is_typed, spelling}
use Rattle.scott_vocab.specs.Keys.{letters}
use Rattle.trans_specs.specs.Tables.{filled_up, printed_letters, entry_letters}
use Rattle.trans_specs.specs.Standing.{IsPrintable}

-- a printable byte that is no capital letter
abbrev pub is_word_byte : ℕ → Bool
is_word_byte byte = is_ascii_graphic byte && not (is_ascii_uppercase byte)

abbrev pub is_word : List ℕ → Bool
is_word word = list_all is_word_byte word

-- the letters of an entry are those of a word, and where the word ends before them, 0 is next
abbrev pub agree : List ℕ → List ℕ → Bool
agree [] word = true
agree (x ∷ xs) [] = nat_eq x 0
agree (x ∷ xs) (b ∷ word) = nat_eq b x && agree xs word

-- ---- bytes

-- the bytes of a word can be printed
pub all_printable : (word : List ℕ) → is_word word ≡ true → AllByRecursion IsPrintable word
all_printable [] h = tt
all_printable (b ∷ word) h = (
  (and_parts (is_ascii_graphic b) (not (is_ascii_uppercase b)) parts.0).0,
  all_printable word parts.1,
) where
  parts : (is_word_byte b ≡ true) × (is_word word ≡ true)
  parts = and_parts (is_word_byte b) (is_word word) h

graphic_some : (b : ℕ) → is_ascii_graphic b ≡ true → nat_eq b 0 ≡ false
graphic_some b h = grind arith

typed_graphic : (b : ℕ) → is_word_byte b ≡ true → is_ascii_graphic b ≡ true
typed_graphic b h = (and_parts (is_ascii_graphic b) (not (is_ascii_uppercase b)) h).0

typed_some : (b : ℕ) → is_word_byte b ≡ true → nat_eq b 0 ≡ false
typed_some b h = graphic_some b (typed_graphic b h)

typed_lower : (b : ℕ) → is_word_byte b ≡ true → to_ascii_lowercase b ≡ b
typed_lower b h = grind (arith, (and_parts (is_ascii_graphic b) (not (is_ascii_uppercase b)) h).1)

same_turned : (a b : ℕ) → nat_eq a b ≡ nat_eq b a
same_turned a b = grind arith

-- ---- words

-- the first bytes of a typed word are in lower case
lower_is : (n : ℕ) (word : List ℕ) → is_word word ≡ true
    → map to_ascii_lowercase (take n word) ≡ take n word
lower_is zero word h = refl
lower_is (suc n) [] h = refl
lower_is (suc n) (b ∷ word) h =
    ap (λ (x : ℕ). x ∷ map to_ascii_lowercase (take n word)) (typed_lower b parts.0)
    ∙ ap (λ (xs : List ℕ). b ∷ xs) (lower_is n word parts.1) where
      parts : (is_word_byte b ≡ true) × (is_word word ≡ true)
      parts = and_parts (is_word_byte b) (is_word word) h

-- and printable
first_graphic : (n : ℕ) (word : List ℕ) → is_word word ≡ true
    → list_all is_ascii_graphic (take n word) ≡ true
first_graphic zero word h = refl
first_graphic (suc n) [] h = refl
first_graphic (suc n) (b ∷ word) h =
    rw (typed_graphic b parts.0, first_graphic n word parts.1) refl where
      parts : (is_word_byte b ≡ true) × (is_word word ≡ true)
      parts = and_parts (is_word_byte b) (is_word word) h

-- ---- the letters of an entry, which are filled up with 0

-- no byte of a word is 0
zeros_agree : (n : ℕ) (word : List ℕ) → is_word word ≡ true
    → agree (replicate n 0) word ≡ bytes_eq [] (take n word)
zeros_agree zero word h = refl
zeros_agree (suc n) [] h = refl
zeros_agree (suc n) (b ∷ word) h = ap (λ (t : Bool). t && agree (replicate n 0) word)
    (typed_some b (and_parts (is_word_byte b) (is_word word) h).0)

-- letters that are filled up with zeros agree with a word exactly where the word, cut to that
-- length, is these letters
key_agrees : (key word : List ℕ) (n : ℕ) → list_all is_ascii_graphic key ≡ true
    → is_word word ≡ true
    → agree (key ++ replicate n 0) word ≡ bytes_eq key (take (plus (length key) n) word)
key_agrees [] word n graphic h = zeros_agree n word h
key_agrees (x ∷ key) [] n graphic h = graphic_some x
    (and_parts (is_ascii_graphic x) (list_all is_ascii_graphic key) graphic).0
key_agrees (x ∷ key) (b ∷ word) n graphic h =
    ap (λ (t : Bool). t && agree (key ++ replicate n 0) word) (same_turned b x)
    ∙ ap (λ (t : Bool). nat_eq x b && t) (key_agrees key word n
    (and_parts (is_ascii_graphic x) (list_all is_ascii_graphic key) graphic).1
    (and_parts (is_word_byte b) (is_word word) h).1)

few_letters : (size : ℕ) (word : List ℕ) → length (letters size word) ≤ size
few_letters size word = omega (
  arith,
  length-map (take size word) to_ascii_lowercase,
  taken size word,
) where
  taken : (n : ℕ) (xs : List ℕ) → length (take n xs) ≤ n
  taken zero xs = omega arith
  taken (suc n) [] = omega arith
  taken (suc n) (x ∷ xs) = omega (arith, taken n xs)

-- as many letters as count stand for an entry
pub letters_long : (size : ℕ) (entry : List ℕ) → length (entry_letters size entry) ≡ size
letters_long size entry = from (list_all is_ascii_graphic (letters size (spelling entry))) where
  key : List ℕ
  key = letters size (spelling entry)

  from : (b : Bool) → length (if b then filled_up size key else replicate size 0) ≡ size
  from true = omega (
    arith,
    few_letters size (spelling entry),
    length-append key (replicate (size - length key) 0),
    length-replicate {A = ℕ} (size - length key) 0,
  )
  from false = length-replicate {A = ℕ} size 0

-- ---- the bridge to the rules

module _ (size : ℕ) (some : 1 ≤ size) (b : ℕ) (rest : List ℕ) (typed : is_word (b ∷ rest) ≡ true)
  where
    abbrev word : List ℕ
    word = b ∷ rest

    by_key : (key : List ℕ) → length key ≤ size
        → agree (printed_letters size key) word ≡ bytes_eq key (take size word)
    by_key key few = from (list_all is_ascii_graphic key) refl where
      whole : plus (length key) (size - length key) ≡ size
      whole = omega (arith, few, plus_is (length key) (size - length key))

      from : (t : Bool) → list_all is_ascii_graphic key ≡ t
          → agree (if t then filled_up size key else replicate size 0) word
          ≡ bytes_eq key (take size word)
      from true graphic = key_agrees key word (size - length key) graphic typed
          ∙ ap (λ (n : ℕ). bytes_eq key (take n word)) whole
      from false graphic = zeros_agree size word typed ∙ some_first size some
          ∙ sym (differ (bytes_eq key (take size word)) refl) where
            some_first : (n : ℕ) → 1 ≤ n → bytes_eq [] (take n word) ≡ false
            some_first zero one = absurd (omega (arith, one))
            some_first (suc n) one = refl

            differ : (t : Bool) → bytes_eq key (take size word) ≡ t → t ≡ false
            differ false e = refl
            differ true e = absurd (true≢false (sym (ap (list_all is_ascii_graphic)
                ((bytes_eq-Decides key (take size word)).0 e)
                ∙ first_graphic size word typed) ∙ graphic))

    -- the letters of an entry are those of a word exactly where the word is typed so
    pub agrees_is : (entry : List ℕ)
        → agree (entry_letters size entry) word ≡ is_typed size (spelling entry) word
    agrees_is entry = by_key (letters size (spelling entry)) (few_letters size (spelling entry))
        ∙ sym (ap (bytes_eq (letters size (spelling entry))) (lower_is size word typed))
        ∙ there (spelling entry) where
          there : (text : List ℕ)
              → bytes_eq (letters size text) (map to_ascii_lowercase (take size word))
              ≡ is_typed size text word
          there [] = none size some where
            none : (n : ℕ) → 1 ≤ n
                → bytes_eq (letters n []) (map to_ascii_lowercase (take n word)) ≡ false
            none zero one = absurd (omega (arith, one))
            none (suc n) one = refl
          there (x ∷ text) = refl
