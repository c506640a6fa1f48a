-- What stands after whitespace is what reading finds there.
use Rattle.std.proofs.Common.{◌≡◌, ℕ, suc, ◌+◌, Bool, true, false, cond, List, [], ◌∷◌, refl, sym, ap, ◌∙◌, arith, add-zero}
use Rattle.adv_io.specs.Text.{is_whitespace}
use Rattle.adv_text.specs.Spelling.{AfterWhitespace, here, space}
use Rattle.adv_text.specs.Reading.{Input, input, past_whitespace}

-- where the whitespace ends, and that what stands there stands after it
pub record Skipped (P : List ℕ → Type 0) (at : ℕ) (bytes : List ℕ) (s : Input) : Type 0 where
  pub count : ℕ
  pub place : s.at ≡ at + count
  pub after : P s.rest → AfterWhitespace P count bytes

-- one byte more before it, whitespace or not
skip : (P : List ℕ → Type 0) (at b : ℕ) (bytes : List ℕ) (s : Input) (t : Bool) → is_whitespace b ≡ t
    → Skipped P (at + 1) bytes s → Skipped P at (b ∷ bytes) (cond t s (input at (b ∷ bytes)))
skip P at b bytes s true e h = record { count = suc h.count; place = omega (arith, h.place); after = λ p. space e (h.after p) }
skip P at b bytes s false e h = record { count = 0; place = omega arith; after = λ p. here p }

pub skipped : (P : List ℕ → Type 0) (at : ℕ) (bytes : List ℕ) → Skipped P at bytes (past_whitespace at bytes)
skipped P at [] = record { count = 0; place = omega arith; after = λ p. here p }
skipped P at (b ∷ bytes) = skip P at b bytes (past_whitespace (at + 1) bytes) (is_whitespace b) refl (skipped P (at + 1) bytes)

-- P doesn't hold where a byte of whitespace stands first
abbrev pub NoWhitespaceFirst : (List ℕ → Type 0) → Type 0
NoWhitespaceFirst P = (b : ℕ) (bytes : List ℕ) → P (b ∷ bytes) → is_whitespace b ≡ false

stays : (P : List ℕ → Type 0) → NoWhitespaceFirst P → (at : ℕ) (bytes : List ℕ) → P bytes → past_whitespace at bytes ≡ input at bytes
stays P first at [] p = refl
stays P first at (b ∷ bytes) p = rw (first b bytes p) refl

-- what stands after whitespace is where it ends
pub found : (P : List ℕ → Type 0) → NoWhitespaceFirst P → (at : ℕ) {k : ℕ} {bytes : List ℕ} → AfterWhitespace P k bytes
    → (text : List ℕ) × P text × (past_whitespace at bytes ≡ input (at + k) text)
found P first at (here {bytes = bytes} p) = (bytes, p, stays P first at bytes p ∙ ap (λ n. input n bytes) (sym (add-zero at)))
found P first at (space {k = k} {b = b} {bytes = bytes} e h) =
    let more = found P first (at + 1) h in
    let n : (at + 1) + k ≡ at + suc k = omega arith in
    (more.0, more.1, rw e (more.2 ∙ ap (λ (m : ℕ). input m more.0) n))

-- no whitespace stands first
abbrev pub NoWhitespace : List ℕ → Type 0
NoWhitespace [] = Unit {0}
NoWhitespace (b ∷ bytes) = is_whitespace b ≡ false

ends : (at b : ℕ) (bytes : List ℕ) (s : Input) (t : Bool) → is_whitespace b ≡ t → NoWhitespace s.rest → NoWhitespace (cond t s (input at (b ∷ bytes))).rest
ends at b bytes s true e h = h
ends at b bytes s false e h = e

-- no whitespace stands where the whitespace ends
pub NoWhitespace-past_whitespace : (at : ℕ) (bytes : List ℕ) → NoWhitespace (past_whitespace at bytes).rest
NoWhitespace-past_whitespace at [] = tt
NoWhitespace-past_whitespace at (b ∷ bytes) = ends at b bytes (past_whitespace (at + 1) bytes) (is_whitespace b) refl (NoWhitespace-past_whitespace (at + 1) bytes)
