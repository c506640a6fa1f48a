-- Reading moves the place by as many bytes as it takes.
use Rattle.std.proofs.Common.{◌≡◌, ℕ, ◌+◌, ◌-◌, ◌*◌, Bool, true, false, cond, eqb, leb, ltb, List, [], ◌∷◌, ◌++◌, length, Result, Ok, Err, ℤ, refl, subst, arith}
use Rattle.std.proofs.lemmas.Bool.{cond_both}
use Rattle.std.specs.Char.{is_ascii_digit}
use Rattle.adv_io.specs.Text.{is_whitespace}
use Rattle.adv_text.specs.Spelling.{greatest}
use Rattle.adv_text.specs.Reading.{Input, input, Fault, no_number, big_number, no_quote, long_string, past_whitespace, past_sign, digits_at, amount_at, number_at, keep, inside_at, opening_at, quoted_at, SameEnd}

-- a reading that gives a value ends as far from the end as it should
abbrev Counts : {X : Type 0} → ℕ → List ℕ → Result (X × Input) Fault → Type 0
Counts at bytes (Ok x) = SameEnd (input at bytes) x.1
Counts at bytes (Err fault) = Unit {0}

one_on : {X : Type 0} (at b : ℕ) (bytes : List ℕ) (r : Result (X × Input) Fault) → Counts (at + 1) bytes r → Counts at (b ∷ bytes) r
one_on at b bytes (Ok x) h = omega (arith, h)
one_on at b bytes (Err fault) h = tt

past_whitespace-count : (at : ℕ) (bytes : List ℕ) → SameEnd (input at bytes) (past_whitespace at bytes)
past_whitespace-count at [] = refl
past_whitespace-count at (b ∷ bytes) =
    cond_both (is_whitespace b) _ _ (λ s. SameEnd (input at (b ∷ bytes)) s) (λ e. omega (arith, past_whitespace-count (at + 1) bytes)) (λ e. refl)

digits_count : (negative : Bool) (start n at : ℕ) (bytes : List ℕ) → Counts at bytes (digits_at negative start n at bytes)
digits_count negative start n at [] = refl
digits_count negative start n at (b ∷ bytes) =
    let more = digits_at negative start (n * 10 + (b - 48)) (at + 1) bytes in
    cond_both (is_ascii_digit b) _ _ (λ r. Counts at (b ∷ bytes) r)
    (λ d. cond_both (leb (n * 10 + (b - 48)) (greatest negative)) more (Err (big_number start)) (λ r. Counts at (b ∷ bytes) r)
    (λ t. one_on at b bytes more (digits_count negative start (n * 10 + (b - 48)) (at + 1) bytes)) (λ t. tt))
    (λ d. refl)

amount_count : (negative : Bool) (start at : ℕ) (bytes : List ℕ) → Counts at bytes (amount_at negative start at bytes)
amount_count negative start at [] = tt
amount_count negative start at (b ∷ bytes) =
    let more = digits_at negative start (b - 48) (at + 1) bytes in
    cond_both (is_ascii_digit b) more (Err (no_number start)) (λ r. Counts at (b ∷ bytes) r)
    (λ d. one_on at b bytes more (digits_count negative start (b - 48) (at + 1) bytes)) (λ d. tt)

abbrev from_sign : ℕ → Bool × Input → Result (ℤ × Input) Fault
from_sign start sign = amount_at sign.0 start sign.1.at sign.1.rest

sign_count : (start at : ℕ) (bytes : List ℕ) → Counts at bytes (from_sign start (past_sign at bytes))
sign_count start at [] = tt
sign_count start at (b ∷ bytes) =
    let here = amount_count false start at (b ∷ bytes) in
    let P : Bool × Input → Type 0 = λ sign. Counts at (b ∷ bytes) (from_sign start sign) in
    cond_both (eqb b 45) _ _ P (λ e. one_on at b bytes (amount_at true start (at + 1) bytes) (amount_count true start (at + 1) bytes))
    (λ e. cond_both (eqb b 43) _ _ P (λ f. one_on at b bytes (amount_at false start (at + 1) bytes) (amount_count false start (at + 1) bytes)) (λ f. here))

-- after the whitespace
later : {X : Type 0} (s start : Input) (r : Result (X × Input) Fault) → SameEnd s start → Counts start.at start.rest r → Counts s.at s.rest r
later s start (Ok x) e h = omega (arith, e, h)
later s start (Err fault) e h = tt

number_count : (s : Input) → Counts s.at s.rest (number_at s)
unfolding number_at
number_count s =
    let start = past_whitespace s.at s.rest in
    later s start (from_sign start.at (past_sign start.at start.rest)) (past_whitespace-count s.at s.rest) (sign_count start.at start.at start.rest)

keep_count : (opened : ℕ) (kept : List ℕ) (b at : ℕ) (bytes : List ℕ) (go_on : List ℕ → Result (List ℕ × Input) Fault)
    → ((k : List ℕ) → Counts at bytes (go_on k)) → Counts at bytes (keep opened kept b go_on)
keep_count opened kept b at bytes go_on h =
    cond_both (ltb (length kept) 4096) (go_on (kept ++ b ∷ [])) (Err (long_string opened)) (λ r. Counts at bytes r) (λ t. h (kept ++ b ∷ [])) (λ t. tt)

-- inside a string the place moves by as many bytes as are taken
inside_count : (opened : ℕ) (held : Bool) (kept : List ℕ) (at : ℕ) (bytes : List ℕ) → Counts at bytes (inside_at opened held kept at bytes)
inside_count opened true kept at [] = refl
inside_count opened false kept at [] = tt
inside_count opened true kept at (b ∷ bytes) =
    let P : Result (List ℕ × Input) Fault → Type 0 = λ r. Counts at (b ∷ bytes) r in
    cond_both (eqb b 34) _ _ P
    (λ e. keep_count opened kept 34 at (b ∷ bytes) (λ k. inside_at opened false k (at + 1) bytes)
    (λ k. one_on at b bytes (inside_at opened false k (at + 1) bytes) (inside_count opened false k (at + 1) bytes)))
    (λ e. refl)
inside_count opened false kept at (b ∷ bytes) =
    let P : Result (List ℕ × Input) Fault → Type 0 = λ r. Counts at (b ∷ bytes) r in
    cond_both (eqb b 34) _ _ P
    (λ e. one_on at b bytes (inside_at opened true kept (at + 1) bytes) (inside_count opened true kept (at + 1) bytes))
    (λ e. cond_both (eqb b 13) _ _ P
    (λ f. one_on at b bytes (inside_at opened false kept (at + 1) bytes) (inside_count opened false kept (at + 1) bytes))
    (λ f. keep_count opened kept (cond (eqb b 96) 34 b) at (b ∷ bytes) (λ k. inside_at opened false k (at + 1) bytes)
    (λ k. one_on at b bytes (inside_at opened false k (at + 1) bytes) (inside_count opened false k (at + 1) bytes))))

opening_count : (at : ℕ) (bytes : List ℕ) → Counts at bytes (opening_at at bytes)
opening_count at [] = tt
opening_count at (b ∷ bytes) =
    let more = inside_at at false [] (at + 1) bytes in
    cond_both (eqb b 34) more (Err (no_quote at)) (λ r. Counts at (b ∷ bytes) r)
    (λ e. one_on at b bytes more (inside_count at false [] (at + 1) bytes)) (λ e. tt)

string_count : (s : Input) → Counts s.at s.rest (quoted_at s)
unfolding quoted_at
string_count s =
    let start = past_whitespace s.at s.rest in
    later s start (opening_at start.at start.rest) (past_whitespace-count s.at s.rest) (opening_count start.at start.rest)

counted : {X : Type 0} (s after : Input) (x : X) (r : Result (X × Input) Fault) → Counts s.at s.rest r → r ≡ Ok (x, after) → SameEnd s after
counted {X = X} s after x r h e = subst (λ (t : Result (X × Input) Fault). Counts s.at s.rest t) e h

pub number_ends : (s after : Input) (z : ℤ) → number_at s ≡ Ok (z, after) → SameEnd s after
number_ends s after z e = counted s after z (number_at s) (number_count s) e

pub string_ends : (s after : Input) (text : List ℕ) → quoted_at s ≡ Ok (text, after) → SameEnd s after
string_ends s after text e = counted s after text (quoted_at s) (string_count s) e
