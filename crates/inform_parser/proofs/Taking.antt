-- A lexeme that passes a test and is taken.
use Rattle.std.proofs.Common.{◌≡◌, ℕ, zero, suc, ◌-◌, Bool, true, false, List, [], ◌∷◌, drop, Ok, Err, refl, sym, ap, subst, ◌∙◌, arith}
use Rattle.inform_lexemes.specs.declared.symbols.Symbol.{Symbol}
use Rattle.inform_lexemes.specs.declared.keywords.Keyword.{Keyword}
use Rattle.inform_lexemes.specs.Lexemes.{Lexeme, Word, Sign, is_sign, is_word}
use Rattle.inform_lexemes.proofs.Told.{symbols_told, keywords_told}
use Rattle.inform_grammar.specs.Faults.{Unexpected, fault}
use Rattle.inform_grammar.specs.Lexemes.{heads, any_lexeme, one_less}
use Rattle.inform_grammar.specs.Plan.{Plan, done, refuse, next, take}
use Rattle.inform_grammar.specs.Reading.{Input, input, Answer, step, reads}
use Rattle.inform_grammar.proofs.Binding.{and_then}
use Rattle.inform_parser.specs.declared.stops.Stop.{Stop}
use Rattle.std.specs.Prelude.{Result}
use Rattle.inform_parser.specs.Reading.{read, StopsAt, Gives, ReadsSome}
use Rattle.inform_parser.specs.Nexts.{next_of, any_next}
use Rattle.inform_parser.proofs.Steps.{read-done, read-then, stops-then}

pub less_by_one : (n : ℕ) → one_less n ≡ n - 1
less_by_one zero = refl
less_by_one (suc n) = omega arith

-- what stands next, after it was taken
abbrev pub kept : Lexeme → Unit {0} → Input → Answer Lexeme
kept x _ s = Ok (x, s)

-- ---- a lexeme that passes a test is taken as any is

passed_as : (xs ys : List Lexeme) (n : ℕ) (x : Lexeme) (test : Lexeme → Bool) → xs ≡ x ∷ ys → test x ≡ true
    → read (next_of test) (input n xs) ≡ read (take any_lexeme (done x)) (input n xs)
unfolding read reads step
passed_as xs ys n x test e h = rw e (rw h refl)

keeps : (x : Lexeme) (r : Answer (Unit {0})) → and_then r (λ _ s. read (done x) s) ≡ and_then r (kept x)
keeps x (Ok y) = read-done x y.1
keeps x (Err fault) = refl

-- what stands next stops, or is this
abbrev pub Taken : (Lexeme → Bool) → Lexeme → Input → Type 0
Taken test x s = read (next_of test) s ≡ and_then (read any_next s) (kept x)

passes : (s : Input) (ys : List Lexeme) (x : Lexeme) (test : Lexeme → Bool) → s.rest ≡ x ∷ ys → test x ≡ true
    → read (next_of test) s ≡ and_then (read any_next s) (kept x)
passes s ys x test e h =
    passed_as s.rest ys s.opened x test e h ∙ read-then (λ _. done x) any_next s ∙ keeps x (read any_next s)

-- what doesn't pass can't stand there
fails_at : {X : Type 0} (xs : List Lexeme) (n : ℕ) (test : Lexeme → Bool) (k : Lexeme → Plan X) → heads test xs ≡ false
    → read (next test k refuse) (input n xs) ≡ Err (fault Unexpected xs)
unfolding read reads step
fails_at [] n test k e = refl
fails_at (x ∷ xs) n test k e = rw e refl

pub fails : {X : Type 0} (s : Input) (test : Lexeme → Bool) (k : Lexeme → Plan X) → heads test s.rest ≡ false → read (next test k refuse) s ≡ Err (fault Unexpected s.rest)
fails s test k e = fails_at s.rest s.opened test k e

-- ---- symbols and words

told_first : (test : Lexeme → Bool) (x : Lexeme) (xs : List Lexeme) → ((y : Lexeme) → test y ≡ true → y ≡ x) → heads test xs ≡ true → xs ≡ x ∷ drop 1 xs
told_first test x [] told e = absurd (cc)
told_first test x (y ∷ ys) told e = ap (λ z. z ∷ ys) (told y e)

same_first : (test : Lexeme → Bool) (x : Lexeme) (xs : List Lexeme) → xs ≡ x ∷ drop 1 xs → heads test xs ≡ true → test x ≡ true
same_first test x xs e h = subst (λ xs. heads test xs ≡ true) e h

after_any : (test : Lexeme → Bool) (x : Lexeme) (s mid : Input) → Taken test x s → read any_next s ≡ Ok (tt, mid) → read (next_of test) s ≡ Ok (x, mid)
after_any test x s mid e h = e ∙ ap (λ r. and_then r (kept x)) h

stops_any : (test : Lexeme → Bool) (x : Lexeme) (s after : Input) (stop : Stop) → Taken test x s → StopsAt after stop (read any_next s) → StopsAt after stop (read (next_of test) s)
stops_any test x s after stop e h =
    subst (λ r. StopsAt after stop r) (sym e) (stops-then after stop (kept x) (read any_next s) h)

sign_told : (s : Input) (a : Symbol) → heads (is_sign a) s.rest ≡ true → Taken (is_sign a) (Sign a) s
sign_told s a h =
    let e = told_first (is_sign a) (Sign a) s.rest (symbols_told a) h in
    passes s (drop 1 s.rest) (Sign a) (is_sign a) e (same_first (is_sign a) (Sign a) s.rest e h)

word_told : (s : Input) (a : Keyword) → heads (is_word a) s.rest ≡ true → Taken (is_word a) (Word a) s
word_told s a h =
    let e = told_first (is_word a) (Word a) s.rest (keywords_told a) h in
    passes s (drop 1 s.rest) (Word a) (is_word a) e (same_first (is_word a) (Word a) s.rest e h)

-- a symbol or a word that stands next is read as any lexeme is
known : (test : Lexeme → Bool) (x : Lexeme) (s after : Input) (r : Result (Unit {0}) Stop) → Taken test x s
    → Gives (λ _. tt) any_next s r after → Gives (λ _. x) (next_of test) s r after
known test x s after (Ok y) e h = after_any test x s after e h
known test x s after (Err stop) e h = stops_any test x s after stop e h

pub sign_read : (s after : Input) (r : Result (Unit {0}) Stop) (a : Symbol) → heads (is_sign a) s.rest ≡ true → ReadsSome (λ _. tt) any_next s r after
    → ReadsSome (λ _. Sign a) (next_of (is_sign a)) s r after
sign_read s after r a e h = record { gives = known (is_sign a) (Sign a) s after r (sign_told s a e) h.gives; ahead = h.ahead; taken = h.taken }

pub word_read : (s after : Input) (r : Result (Unit {0}) Stop) (a : Keyword) → heads (is_word a) s.rest ≡ true → ReadsSome (λ _. tt) any_next s r after
    → ReadsSome (λ _. Word a) (next_of (is_word a)) s r after
word_read s after r a e h = record { gives = known (is_word a) (Word a) s after r (word_told s a e) h.gives; ahead = h.ahead; taken = h.taken }
