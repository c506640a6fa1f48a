-- A symbol or a word that stands next, and opens nothing and closes nothing.
use Rattle.std.proofs.Common.{◌≡◌, ℕ, ◌≤◌, ◌<◌, Bool, true, false, List, [], ◌∷◌, length, drop, Some, Ok, refl, sym, ap, subst, ◌∙◌, arith}
use Rattle.inform_lexemes.specs.declared.symbols.Symbol.{Symbol}
use Rattle.inform_lexemes.specs.declared.keywords.Keyword.{Keyword}
use Rattle.inform_lexemes.specs.Lexemes.{Lexeme, Word, Number, Character, Sign, is_sign, is_word, is_number, is_character}
use Rattle.inform_lexemes.proofs.Told.{symbols_told, keywords_told}
use Rattle.inform_grammar.specs.Lexemes.{heads, is_opener, is_closer}
use Rattle.inform_grammar.specs.Reading.{Input, input, step, reads, within_limit}
use Rattle.inform_grammar.proofs.Steps.{done-here}
use Rattle.inform_lexer.specs.declared.glances.Glance.TheVariants as g
use Rattle.inform_parser.specs.Glances.{first_glance}
use Rattle.inform_parser.specs.Reading.{read, ReadsSome, Passes, StandsNext}
use Rattle.inform_parser.specs.Nexts.{next_of}

passed_as : (xs : List Lexeme) (n : ℕ) (x : Lexeme) (test : Lexeme → Bool) → test x ≡ true → is_opener x ≡ false → is_closer x ≡ false
    → read (next_of test) (input n (x ∷ xs)) ≡ Ok (x, input n xs)
unfolding read reads step
passed_as xs n x test passes opens closes = rw passes (rw opens (rw closes (done-here within_limit xs x n)))

passed_next : (xs : List Lexeme) (n : ℕ) (x : Lexeme) (test : Lexeme → Bool) → ((y : Lexeme) → test y ≡ true → y ≡ x) → heads test xs ≡ true
    → is_opener x ≡ false → is_closer x ≡ false → read (next_of test) (input n xs) ≡ Ok (x, input n (drop 1 xs))
passed_next [] n x test told e opens closes = absurd (cc)
passed_next (y ∷ ys) n x test told e opens closes =
    let same : y ≡ x = told y e in
    subst (λ (z : Lexeme). read (next_of test) (input n (z ∷ ys)) ≡ Ok (x, input n ys)) (sym same)
    (passed_as ys n x test (subst (λ (z : Lexeme). test z ≡ true) same e) opens closes)

sign_passed : (s : Input) (a : Symbol) → heads (is_sign a) s.rest ≡ true → is_opener (Sign a) ≡ false → is_closer (Sign a) ≡ false
    → read (next_of (is_sign a)) s ≡ Ok (Sign a, input s.opened (drop 1 s.rest))
sign_passed s a e opens closes = passed_next s.rest s.opened (Sign a) (is_sign a) (symbols_told a) e opens closes

word_passed : (s : Input) (a : Keyword) → heads (is_word a) s.rest ≡ true → is_opener (Word a) ≡ false
    → read (next_of (is_word a)) s ≡ Ok (Word a, input s.opened (drop 1 s.rest))
word_passed s a e opens = passed_next s.rest s.opened (Word a) (is_word a) (keywords_told a) e opens refl

-- something stands next
some_next : (test : Lexeme → Bool) (xs : List Lexeme) → heads test xs ≡ true → 1 ≤ length xs
some_next test [] e = absurd (cc)
some_next test (x ∷ xs) e = omega arith

pub sign_there : (xs : List Lexeme) (a : Symbol) → heads (is_sign a) xs ≡ true → 1 ≤ length xs
sign_there xs a e = some_next (is_sign a) xs e

pub word_there : (xs : List Lexeme) (a : Keyword) → heads (is_word a) xs ≡ true → 1 ≤ length xs
word_there xs a e = some_next (is_word a) xs e

fewer_left : (xs : List Lexeme) → 1 ≤ length xs → length (drop 1 xs) < length xs
fewer_left [] some = absurd (omega arith)
fewer_left (x ∷ xs) some = omega arith

pub sign_passes : (s after : Input) (a : Symbol) → heads (is_sign a) s.rest ≡ true → is_opener (Sign a) ≡ false → is_closer (Sign a) ≡ false
    → after ≡ input s.opened (drop 1 s.rest) → Passes (is_sign a) (Sign a) s after
sign_passes s after a e opens closes same =
    subst (λ (after : Input). Passes (is_sign a) (Sign a) s after) (sym same)
    (record { gives = sign_passed s a e opens closes; taken = fewer_left s.rest (sign_there s.rest a e) })

pub word_passes : (s after : Input) (a : Keyword) → heads (is_word a) s.rest ≡ true → is_opener (Word a) ≡ false
    → after ≡ input s.opened (drop 1 s.rest) → Passes (is_word a) (Word a) s after
word_passes s after a e opens same =
    subst (λ (after : Input). Passes (is_word a) (Word a) s after) (sym same)
    (record { gives = word_passed s a e opens; taken = fewer_left s.rest (word_there s.rest a e) })

-- what is known to stand next
module _ {T : Type 0} (view : T → Lexeme) (s after : Input) (x : T) (first : StandsNext (view x) s) where
  pub stands_there : 1 ≤ length s.rest
  stands_there = omega (arith, ap (λ (xs : List Lexeme). length xs) first)

  pub stands_read : (test : Lexeme → Bool) → test (view x) ≡ true → is_opener (view x) ≡ false → is_closer (view x) ≡ false
      → after ≡ input s.opened (drop 1 s.rest) → ReadsSome view (next_of test) s (Ok x) after
  stands_read test passes opens closes same = record {
    gives = ap (λ (xs : List Lexeme). read (next_of test) (input s.opened xs)) first ∙ passed_as (drop 1 s.rest) s.opened (view x) test passes opens closes
        ∙ ap (λ (after : Input). Ok (view x, after)) (sym same);
    ahead = omega (arith, ap (λ (xs : List Lexeme). length xs) first, ap (λ (s : Input). length s.rest) same);
    taken = omega (arith, ap (λ (xs : List Lexeme). length xs) first, ap (λ (s : Input). length s.rest) same);
  }

pub ruleset passed = (sign_there, word_there)

-- ---- numbers and characters

number_by : (xs : List Lexeme) (n m : ℕ) → first_glance xs ≡ Some (g.Number m) → read (next_of is_number) (input n xs) ≡ Ok (Number m, input n (drop 1 xs))
number_by (Number x ∷ xs) n m e =
    let same : x ≡ m = cc in
    subst (λ (y : ℕ). read (next_of is_number) (input n (Number x ∷ xs)) ≡ Ok (Number y, input n xs)) same (passed_as xs n (Number x) is_number refl refl refl)
number_by _ n m e = absurd (cc)

pub number_passed : (s : Input) (m : ℕ) → first_glance s.rest ≡ Some (g.Number m) → read (next_of is_number) s ≡ Ok (Number m, input s.opened (drop 1 s.rest))
number_passed s m e = number_by s.rest s.opened m e

pub number_there : (xs : List Lexeme) → heads is_number xs ≡ true → 1 ≤ length xs
number_there xs e = some_next is_number xs e

-- a number is seen where one stands
pub number_seen : (xs : List Lexeme) → heads is_number xs ≡ true → ((m : ℕ) → first_glance xs ≡ Some (g.Number m) → ⊥) → ⊥
number_seen [] e h = absurd (cc)
number_seen (Number x ∷ xs) e h = h x refl
number_seen (_ ∷ xs) e h = absurd (cc)

character_by : (xs : List Lexeme) (n m : ℕ) → first_glance xs ≡ Some (g.Character m)
    → read (next_of is_character) (input n xs) ≡ Ok (Character m, input n (drop 1 xs))
character_by (Character x ∷ xs) n m e =
    let same : x ≡ m = cc in
    subst (λ (y : ℕ). read (next_of is_character) (input n (Character x ∷ xs)) ≡ Ok (Character y, input n xs)) same
    (passed_as xs n (Character x) is_character refl refl refl)
character_by _ n m e = absurd (cc)

pub character_passed : (s : Input) (m : ℕ) → first_glance s.rest ≡ Some (g.Character m)
    → read (next_of is_character) s ≡ Ok (Character m, input s.opened (drop 1 s.rest))
character_passed s m e = character_by s.rest s.opened m e

pub character_there : (xs : List Lexeme) → heads is_character xs ≡ true → 1 ≤ length xs
character_there xs e = some_next is_character xs e

pub character_seen : (xs : List Lexeme) → heads is_character xs ≡ true → ((m : ℕ) → first_glance xs ≡ Some (g.Character m) → ⊥) → ⊥
character_seen [] e h = absurd (cc)
character_seen (Character x ∷ xs) e h = h x refl
character_seen (_ ∷ xs) e h = absurd (cc)

pub ruleset passed_kinds = (number_passed, number_there, number_seen, character_passed, character_there, character_seen)
