-- Bytes of a string that are kept as they are, many at a time.
use Rattle.std.proofs.Common.{◌≡◌, ◌∙◌, ℕ, zero, suc, ◌+◌, ◌≤◌, ◌<◌, Bool, true, false, cond, List, [], ◌∷◌, ◌++◌, length, take, drop, get_or, Result, Err, refl, sym, ap, subst, arith, append_assoc, length-append}
use Rattle.std.proofs.lemmas.List.{append-nil}
use Rattle.std.proofs.lemmas.List.Sums.{prefix_len_stops}
use Rattle.std.proofs.lemmas.Bool.Decides.{nat_tests}
use Rattle.std.specs.List.{prefix_len}
use Rattle.adv_text.specs.Spelling.{is_plain}
use Rattle.adv_text.proofs.Strings.{plain_byte}
use Rattle.adv_text.specs.declared.faults.TextFault.{TextFault}
use Rattle.adv_text.specs.declared.faults.TextFault.TheVariants as answer
use Rattle.std.specs.Prelude.{◌==◌, nat_lt}
use Rattle.adv_text.specs.Reading.{Input, Fault, long_string, keep, inside_at, IsLong, Stands}

-- the first so many bytes are kept as they are
abbrev pub ArePlain : List ℕ → ℕ → Type 0
ArePlain bytes n = (k : ℕ) → k < n → is_plain (get_or bytes k 0) ≡ true

tail-plain : (b : ℕ) (bytes : List ℕ) (n : ℕ) → ArePlain (b ∷ bytes) (suc n) → ArePlain bytes n
tail-plain b bytes n plain k within = plain (suc k) (omega arith)

-- they are kept at once, where there is room for them
pub run-kept : (opened : ℕ) (kept bytes : List ℕ) (n at : ℕ) → n ≤ length bytes → ArePlain bytes n → length kept + n ≤ 4096
    → inside_at opened false kept at bytes ≡ inside_at opened false (kept ++ take n bytes) (at + n) (drop n bytes)
run-kept opened kept bytes zero at within plain room =
    ap (λ more. inside_at opened false more at bytes) (sym (append-nil kept)) ∙ ap (λ place. inside_at opened false (kept ++ []) place bytes) (omega arith)
run-kept opened kept [] (suc n) at within plain room = absurd (omega arith)
run-kept opened kept (b ∷ bytes) (suc n) at within plain room =
    let fits : nat_lt (length kept) 4096 ≡ true = grind arith in
    let longer : length (kept ++ b ∷ []) + n ≤ 4096 = omega (arith, length-append kept (b ∷ [])) in
    plain_byte opened kept at b bytes (plain 0 (omega arith))
    ∙ ap (λ t. cond t (inside_at opened false (kept ++ b ∷ []) (at + 1) bytes) (Err (long_string opened))) fits
    ∙ run-kept opened (kept ++ b ∷ []) bytes n (at + 1) (omega arith) (tail-plain b bytes n plain) longer
    ∙ ap (λ more. inside_at opened false more (at + 1 + n) (drop n bytes)) (append_assoc kept (b ∷ []) (take n bytes))
    ∙ ap (λ place. inside_at opened false (kept ++ b ∷ take n bytes) place (drop n bytes)) (omega arith)

-- and where there isn't, the string is too long
pub run-long : (opened : ℕ) (kept bytes : List ℕ) (n at : ℕ) → n ≤ length bytes → ArePlain bytes n → length kept ≤ 4096 → 4096 < length kept + n
    → inside_at opened false kept at bytes ≡ Err (long_string opened)
run-long opened kept bytes zero at within plain short long = absurd (omega arith)
run-long opened kept [] (suc n) at within plain short long = absurd (omega arith)
run-long opened kept (b ∷ bytes) (suc n) at within plain short long =
    plain_byte opened kept at b bytes (plain 0 (omega arith))
    ∙ by_room (nat_lt (length kept) 4096) refl
    (λ fits. run-long opened (kept ++ b ∷ []) bytes n (at + 1) (omega arith) (tail-plain b bytes n plain) (omega (arith, length-append kept (b ∷ []), fits)) (omega (arith, length-append kept (b ∷ []), long)))
  where
    by_room : (room : Bool) → nat_lt (length kept) 4096 ≡ room → (length kept < 4096 → inside_at opened false (kept ++ b ∷ []) (at + 1) bytes ≡ Err (long_string opened))
        → cond room (inside_at opened false (kept ++ b ∷ []) (at + 1) bytes) (Err (long_string opened)) ≡ Err (long_string opened)
    by_room false is further = refl
    by_room true is further = further (grind (arith, nat_tests, is))

-- where the first byte is plain and there is one, one at least is kept
pub first-counts : (bytes : List ℕ) → 1 ≤ length bytes → is_plain (get_or bytes 0 0) ≡ true → 1 ≤ prefix_len is_plain bytes
first-counts bytes some plain = by_size (prefix_len is_plain bytes) refl
  where
    by_size : (n : ℕ) → prefix_len is_plain bytes ≡ n → 1 ≤ n
    by_size zero is =
        let none : prefix_len is_plain bytes < length bytes = omega arith in
        let stops = prefix_len_stops is_plain bytes 0 none in
        let here : is_plain (get_or bytes 0 0) ≡ false = subst (λ k. is_plain (get_or bytes k 0) ≡ false) is stops in
        absurd cc
    by_size (suc n) is = omega arith

-- ---- one byte that has no room

no_room : (opened : ℕ) (kept : List ℕ) (b : ℕ) (next : List ℕ → Result (List ℕ × Input) Fault) → 4096 < length kept + 1 → keep opened kept b next ≡ Err (long_string opened)
no_room opened kept b next long =
    let full : nat_lt (length kept) 4096 ≡ false = grind (arith, nat_tests) in
    ap (λ t. cond t (next (kept ++ b ∷ [])) (Err (long_string opened))) full

-- a second quote
pub quote-long : (opened : ℕ) (kept : List ℕ) (at b : ℕ) (rest : List ℕ) → b ≡ 34 → 4096 < length kept + 1 → inside_at opened true kept at (b ∷ rest) ≡ Err (long_string opened)
quote-long opened kept at b rest is long = rw is (no_room opened kept 34 (λ more. inside_at opened false more (at + 1) rest) long)

-- a grave accent
pub accent-long : (opened : ℕ) (kept : List ℕ) (at b : ℕ) (rest : List ℕ) → (b ≡ 34 → ⊥) → (b ≡ 13 → ⊥) → 4096 < length kept + 1 → inside_at opened false kept at (b ∷ rest) ≡ Err (long_string opened)
accent-long opened kept at b rest no_quote no_return long =
    let a : (b == 34) ≡ false = grind (arith, nat_tests, no_quote) in
    let c : (b == 13) ≡ false = grind (arith, nat_tests, no_return) in
    rw (a, c) (no_room opened kept (cond (b == 96) 34 b) (λ more. inside_at opened false more (at + 1) rest) long)

-- a fault for a string that is too long stands where reading gives it
pub long-stands : {X : Type 0} (fault : TextFault) (opened size : ℕ) (read : Result X Fault) → IsLong fault opened size → (4096 < size → read ≡ Err (long_string opened)) → Stands fault read
long-stands (answer.NoNumber at) opened size read is expected = absurd is
long-stands (answer.BigNumber at) opened size read is expected = absurd is
long-stands (answer.NoQuote at) opened size read is expected = absurd is
long-stands (answer.OpenString at) opened size read is expected = absurd is
long-stands (answer.LongString at) opened size read is expected = expected is.1 ∙ ap (λ place. Err (long_string place)) (sym is.0)
long-stands answer.Memory opened size read is expected = tt
