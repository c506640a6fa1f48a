-- How far a run goes where what stands first and what follows it are known.
use Rattle.std.proofs.Common.{◌≡◌, ℕ, zero, suc, ◌^◌, ◌&&◌, ◌||◌, ◌+◌, ◌≤◌, ◌<◌, Bool, true, false, cond, List, [], ◌∷◌, ◌++◌, length, take, refl, ap, ◌∙◌, arith}
use Rattle.std.specs.Char.{digit_value}
use Rattle.std.specs.List.{prefix_len, list_all, list_any}
use Rattle.std.specs.Fmt.{decimal}
use Rattle.std.specs.Str.Parse.{AllDigits, digits_value}
use Rattle.std.proofs.lemmas.Bool.{and_parts, or_parts, not-true, lt-ltb}
use Rattle.std.proofs.lemmas.Fmt.{decimal_is_IsNumeral}
use Rattle.inform_lexer.specs.Bytes.{is_break, is_comment_byte, is_digit_in}

-- a run has all of these bytes, and none after them
pub front : (p : ℕ → Bool) (xs ys : List ℕ) → list_all p xs ≡ true → prefix_len p ys ≡ 0 → prefix_len p (xs ++ ys) ≡ length xs
front p [] ys all stops = stops
front p (x ∷ xs) ys all stops =
    let parts = and_parts (p x) (list_all p xs) all in
    ap (λ (b : Bool). cond b (1 + prefix_len p (xs ++ ys)) 0) parts.0 ∙ ap (λ (n : ℕ). 1 + n) (front p xs ys parts.1 stops) ∙ omega arith

-- it has none where the first byte doesn't belong to it
pub stops_at : (p : ℕ → Bool) (y : ℕ) (ys : List ℕ) → p y ≡ false → prefix_len p (y ∷ ys) ≡ 0
stops_at p y ys differs = ap (λ (b : Bool). cond b (1 + prefix_len p ys) 0) differs

pub all_of : (p q : ℕ → Bool) (xs : List ℕ) → ((x : ℕ) → p x ≡ true → q x ≡ true) → list_all p xs ≡ true → list_all q xs ≡ true
all_of p q [] each all = refl
all_of p q (x ∷ xs) each all =
    let parts = and_parts (p x) (list_all p xs) all in
    ap (λ (b : Bool). b && list_all q xs) (each x parts.0) ∙ all_of p q xs each parts.1

-- ---- decimals

digits_pass : (ds : List ℕ) → AllDigits 10 ds → list_all (is_digit_in 10) ds ≡ true
digits_pass [] all = refl
digits_pass (d ∷ ds) all = ap (λ (b : Bool). b && list_all (is_digit_in 10) ds) (lt-ltb (digit_value d) 10 all.0) ∙ digits_pass ds all.1

pub decimal_digits : (n : ℕ) → n < 2 ^ 64 → list_all (is_digit_in 10) (decimal n) ≡ true
decimal_digits n small = digits_pass (decimal n) (decimal_is_IsNumeral n small).0.1

pub decimal_some : (n : ℕ) → n < 2 ^ 64 → 1 ≤ length (decimal n)
decimal_some n small = omega (arith, (decimal_is_IsNumeral n small).0.0)

pub decimal_value : (n : ℕ) → n < 2 ^ 64 → digits_value 10 (decimal n) ≡ n
decimal_value n small = (decimal_is_IsNumeral n small).1

-- ---- breaks

pub no_break : (bytes : List ℕ) → list_all is_comment_byte bytes ≡ true → list_any is_break bytes ≡ false
no_break [] all = refl
no_break (b ∷ bytes) all =
    let parts = and_parts (is_comment_byte b) (list_all is_comment_byte bytes) all in
    ap (λ (c : Bool). c || list_any is_break bytes) (not-true (is_break b) parts.0) ∙ no_break bytes parts.1

pub no_break_before : (n : ℕ) (bytes : List ℕ) → list_any is_break bytes ≡ false → list_any is_break (take n bytes) ≡ false
no_break_before zero bytes none = refl
no_break_before (suc n) [] none = refl
no_break_before (suc n) (b ∷ bytes) none =
    let parts = or_parts (is_break b) (list_any is_break bytes) none in
    ap (λ (c : Bool). c || list_any is_break (take n bytes)) parts.0 ∙ no_break_before n bytes parts.1
