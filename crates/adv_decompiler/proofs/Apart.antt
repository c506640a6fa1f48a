-- Tokens that can be written, and stand so far apart that each can be read again.
use Rattle.std.proofs.Common.{◌≡◌, ℕ, ◌+◌, ◌≤◌, ◌<◌, inl, inr, ◌&&◌, ◌||◌, Bool, true, false, eqb, leb, List, [], ◌∷◌, ◌++◌, length, refl, sym, ap, subst, arith}
use Rattle.std.specs.Prelude.{flat_map}
use Rattle.std.specs.List.{list_all, AllByRecursion}
use Rattle.std.specs.Char.{is_ascii_alphabetic}
use Rattle.std.proofs.lemmas.Bool.{and_parts, and_from, or_cases, eqb-true}
use Rattle.scott_types.specs.Limits.{is_file_text, is_number}
use Rattle.source_reader.specs.declared.tokens.Token.{Token}
use Rattle.source_reader.specs.declared.tokens.Token.TheVariants as token
use Rattle.source_reader.specs.Tokens.{is_word_byte}
use Rattle.adv_decompiler.specs.Layout.{Lead, joined, spaced, below, Chunk}
use Rattle.adv_decompiler.specs.Plain.{lines_from}

-- ---- tests of a token

-- the marks of the language: ( ) , : ; { }
abbrev pub is_symbol : ℕ → Bool
is_symbol b = eqb b 40 || (eqb b 41 || (eqb b 44 || (eqb b 58 || (eqb b 59 || (eqb b 123 || eqb b 125)))))

abbrev pub is_spelled_word : List ℕ → Bool
is_spelled_word [] = false
is_spelled_word (b ∷ bytes) = is_ascii_alphabetic b && (list_all is_word_byte bytes && leb (length (b ∷ bytes)) 32)

abbrev pub is_written : Token → Bool
is_written (token.Number z) = is_number z
is_written (token.Quoted text) = is_file_text text
is_written (token.Word word) = is_spelled_word word
is_written (token.Mark b) = is_symbol b
is_written token.End = false

abbrev pub is_a_mark : Token → Bool
is_a_mark (token.Mark b) = true
is_a_mark _ = false

abbrev pub is_led : Lead → Bool
is_led joined = false
is_led spaced = true
is_led below = true

-- whether a chunk ends any token before it
abbrev pub opens : Chunk → Bool
opens c = is_led c.lead || is_a_mark c.token

-- each token can be written, and ends the one before it, unless that is a mark; free tells that
-- nothing before needs an end
abbrev pub laid : Bool → List Chunk → Bool
laid free [] = true
laid free (c ∷ chunks) = is_written c.token && ((opens c || free) && laid (is_a_mark c.token) chunks)

-- ---- lists of chunks, one after another

pub or_true : (b : Bool) → (b || true) ≡ true
or_true true = refl
or_true false = refl

pub laid-free : (free : Bool) (chunks : List Chunk) → laid false chunks ≡ true → laid free chunks ≡ true
laid-free false chunks h = h
laid-free true [] h = refl
laid-free true (c ∷ chunks) h =
    let one = and_parts (is_written c.token) _ h in
    let two = and_parts (opens c || false) (laid (is_a_mark c.token) chunks) one.1 in
    and_from _ _ one.0 (and_from _ _ (or_true (opens c)) two.1)

pub laid-append : (free : Bool) (xs ys : List Chunk) → laid free xs ≡ true → laid false ys ≡ true → laid free (xs ++ ys) ≡ true
laid-append free [] ys h k = laid-free free ys k
laid-append free (c ∷ xs) ys h k =
    let one = and_parts (is_written c.token) _ h in
    let two = and_parts (opens c || free) (laid (is_a_mark c.token) xs) one.1 in
    and_from _ _ one.0 (and_from _ _ two.0 (laid-append (is_a_mark c.token) xs ys two.1 k))

pub laid-lines : {X : Type 0} (P : X → Type 0) (line : ℕ → X → List Chunk) (most : ℕ)
    → ((k : ℕ) (x : X) → k < most → P x → laid false (line k x) ≡ true)
    → (xs : List X) (k : ℕ) → k + length xs ≤ most → AllByRecursion P xs → laid false (lines_from line k xs) ≡ true
laid-lines P line most each [] k few all = refl
laid-lines P line most each (x ∷ xs) k few all =
    laid-append false (line k x) (lines_from line (k + 1) xs) (each k x (omega arith) all.0)
    (laid-lines P line most each xs (k + 1) (omega arith) all.1)

-- the same of a list without numbers
pub flat-lines : {X : Type 0} (f : X → List Chunk) (xs : List X) (k : ℕ) → flat_map f xs ≡ lines_from (λ j x. f x) k xs
flat-lines f [] k = refl
flat-lines f (x ∷ xs) k = ap (λ (ys : List Chunk). f x ++ ys) (flat-lines f xs (k + 1))

-- what a test says of each
pub all-by : {X : Type 0} (ok : X → Bool) (xs : List X) → list_all ok xs ≡ true → AllByRecursion (λ x. ok x ≡ true) xs
all-by ok [] h = tt
all-by ok (x ∷ xs) h = let parts = and_parts (ok x) (list_all ok xs) h in (parts.0, all-by ok xs parts.1)

-- what holds of each mark of the language
pub by_symbol : (P : ℕ → Type 0) → P 40 → P 41 → P 44 → P 58 → P 59 → P 123 → P 125 → (b : ℕ) → is_symbol b ≡ true → P b
by_symbol P p40 p41 p44 p58 p59 p123 p125 b h =
    let is : (n : ℕ) → P n → eqb b n ≡ true → P b = λ n p e. subst P (sym (eqb-true b n e)) p in
    elim (or_cases (eqb b 40) _ h) [
      | inl e ↦ is 40 p40 e
      | inr h ↦ elim (or_cases (eqb b 41) _ h) [
        | inl e ↦ is 41 p41 e
        | inr h ↦ elim (or_cases (eqb b 44) _ h) [
          | inl e ↦ is 44 p44 e
          | inr h ↦ elim (or_cases (eqb b 58) _ h) [
            | inl e ↦ is 58 p58 e
            | inr h ↦ elim (or_cases (eqb b 59) _ h) [
              | inl e ↦ is 59 p59 e
              | inr h ↦ elim (or_cases (eqb b 123) _ h) [ inl e ↦ is 123 p123 e | inr e ↦ is 125 p125 e ]
            ]
          ]
        ]
      ]
    ]
