-- A plain string after one byte of whitespace is read at once.
use Rattle.std.proofs.Common.{◌≡◌, ◌∙◌, ℕ, suc, ◌+◌, ◌≤◌, true, false, List, [], ◌∷◌, length, take, drop, get_or, Ok, refl, sym, ap, subst, arith}
use Rattle.std.proofs.lemmas.Bool.{ne_eqb}
use Rattle.std.proofs.lemmas.List.{drop_more, length-take-le}
use Rattle.std.proofs.lemmas.List.Sums.{prefix_len_passes}
use Rattle.std.specs.List.{prefix_len}
use Rattle.adv_io.specs.Text.{is_whitespace}
use Rattle.adv_text.specs.Spelling.{is_plain}
use Rattle.adv_text.specs.Reading.{input, inside_at, quoted_at}
use Rattle.adv_text.proofs.Pieces.{ArePlain, run-kept}

-- a quote that isn't the first of two ends the string
quote_ends : (opened at : ℕ) (kept : List ℕ) (q b : ℕ) (rest : List ℕ) → q ≡ 34 → (b ≡ 34 → ⊥) → inside_at opened false kept at (q ∷ b ∷ rest) ≡ Ok (kept, input (at + 1) (b ∷ rest))
quote_ends opened at kept q b rest quote single = rw (quote, ne_eqb b 34 single) refl

-- n plain bytes stand before it
inside_ends : (opened at : ℕ) (bytes : List ℕ) (n : ℕ) → n ≡ prefix_len is_plain bytes → n + 2 ≤ length bytes → get_or bytes n 0 ≡ 34 → (get_or bytes (n + 1) 0 ≡ 34 → ⊥) → n ≤ 4096
    → inside_at opened false [] at bytes ≡ Ok (take n bytes, input (at + (n + 1)) (drop (n + 1) bytes))
inside_ends opened at bytes n is room quote single short =
    let plain : ArePlain bytes n = λ k within. prefix_len_passes is_plain bytes k 0 (omega (arith, within, is)) in
    let after : drop (n + 1) bytes ≡ get_or bytes (n + 1) 0 ∷ drop (n + 1 + 1) bytes = drop_more bytes (n + 1) 0 (omega (arith, room)) in
    run-kept opened [] bytes n at (omega (arith, room)) plain (omega (arith, short))
    ∙ ap (inside_at opened false (take n bytes) (at + n)) (drop_more bytes n 0 (omega (arith, room)))
    ∙ ap (λ rest. inside_at opened false (take n bytes) (at + n) (get_or bytes n 0 ∷ rest)) after
    ∙ quote_ends opened (at + n) (take n bytes) (get_or bytes n 0) (get_or bytes (n + 1) 0) (drop (n + 1 + 1) bytes) quote single
    ∙ ap (λ rest. Ok (take n bytes, input (at + n + 1) rest)) (sym after)
    ∙ ap (λ (place : ℕ). Ok (take n bytes, input place (drop (n + 1) bytes))) (omega arith)

-- after a byte of whitespace and a quote the inside begins
opens_inside : (b q at : ℕ) (bytes : List ℕ) → is_whitespace b ≡ true → q ≡ 34 → quoted_at (input at (b ∷ q ∷ bytes)) ≡ inside_at (at + 1) false [] (at + 1 + 1) bytes
unfolding quoted_at
opens_inside b q at bytes space opens = rw (space, opens) refl

-- after one byte of whitespace, up to 4,096 plain bytes between quotes are the text of a string
read_after : (bytes : List ℕ) (n : ℕ) → 2 ≤ length bytes → is_whitespace (get_or bytes 0 0) ≡ true → get_or bytes 1 0 ≡ 34
    → n ≡ prefix_len is_plain (drop 2 bytes) → n + 2 ≤ length (drop 2 bytes) → get_or (drop 2 bytes) n 0 ≡ 34 → (get_or (drop 2 bytes) (n + 1) 0 ≡ 34 → ⊥) → n ≤ 4096
    → (at : ℕ) → quoted_at (input at bytes) ≡ Ok (take n (drop 2 bytes), input (at + (n + 3)) (drop (n + 3) bytes))
read_after [] n some space opens is room quote single short at = absurd (omega (arith, some))
read_after (b ∷ []) n some space opens is room quote single short at = absurd (omega (arith, some))
read_after (b ∷ q ∷ bytes) n some space opens is room quote single short at =
    let further : suc (suc (n + 1)) ≡ n + 3 = omega arith in
    opens_inside b q at bytes space opens
    ∙ inside_ends (at + 1) (at + 1 + 1) bytes n is room quote single short
    ∙ ap (λ (place : ℕ). Ok (take n bytes, input place (drop (n + 1) bytes))) (omega arith)
    ∙ ap (λ (k : ℕ). Ok (take n bytes, input (at + (n + 3)) (drop k (b ∷ q ∷ bytes)))) further

-- the bytes inside, of which n are plain, are those after the space and the quote
pub record Closed (inside : List ℕ) (n : ℕ) : Type 0 where
  pub plain : n ≡ prefix_len is_plain inside
  pub room : n + 2 ≤ length inside
  pub quote : get_or inside n 0 ≡ 34
  pub single : get_or inside (n + 1) 0 ≡ 34 → ⊥
  pub short : n ≤ 4096

pub plain_read : (bytes inside : List ℕ) (n : ℕ) → inside ≡ drop 2 bytes → 2 ≤ length bytes → is_whitespace (get_or bytes 0 0) ≡ true → get_or bytes 1 0 ≡ 34 → Closed inside n
    → (at : ℕ) → quoted_at (input at bytes) ≡ Ok (take n inside, input (at + (length (take n inside) + 3)) (drop (length (take n inside) + 3) bytes))
plain_read bytes inside n same some space opens closed at =
    let h : Closed (drop 2 bytes) n = subst (λ (l : List ℕ). Closed l n) same closed in
    let size : length (take n inside) ≡ n = length-take-le n inside (omega (arith, closed.room)) in
    rw size (subst (λ (l : List ℕ). quoted_at (input at bytes) ≡ Ok (take n l, input (at + (n + 3)) (drop (n + 3) bytes))) (sym same)
    (read_after bytes n some space opens h.plain h.room h.quote h.single h.short at))
