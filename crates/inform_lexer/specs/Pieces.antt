-- A text as pieces, one after the other. What the first piece is depends on the bytes, on
-- their place and on what is known there; so a way to take it is a function, the step.
use Rattle.std.specs.Prelude.{ℕ, zero, suc, ◌≡◌, ◌+◌, List, [], ◌∷◌, ◌++◌, drop, Result, Ok, Err}

pub record Piece (S X : Type 0) : Type 0 where
  pub gives : List X  -- what it stands for
  pub more : ℕ  -- how many bytes it has after its first one
  pub next : S  -- what is known where it ends

-- ---- which bytes are pieces

-- the bytes at a place are pieces, which stand for these
pub data Pieces {S X F : Type 0} (step : S → ℕ → List ℕ → Result (Piece S X) F) : S → ℕ → List ℕ
    → List X → Type 0 where
  none : {s : S} {at : ℕ} → Pieces step s at [] []
  first : {s : S} {at b : ℕ} {bytes : List ℕ} {xs : List X} (p : Piece S X)
      → step s at (b ∷ bytes) ≡ Ok p
      → Pieces step p.next (at + 1 + p.more) (drop p.more bytes) xs
      → Pieces step s at (b ∷ bytes) (p.gives ++ xs)

-- after some pieces stands what is none, for this reason
pub data Breaks {S X F : Type 0} (step : S → ℕ → List ℕ → Result (Piece S X) F) : S → ℕ → List ℕ → F
    → Type 0 where
  here : {s : S} {at b : ℕ} {bytes : List ℕ} {f : F} → step s at (b ∷ bytes) ≡ Err f
      → Breaks step s at (b ∷ bytes) f
  later : {s : S} {at b : ℕ} {bytes : List ℕ} {f : F} (p : Piece S X)
      → step s at (b ∷ bytes) ≡ Ok p
      → Breaks step p.next (at + 1 + p.more) (drop p.more bytes) f
      → Breaks step s at (b ∷ bytes) f

-- ---- reading them

abbrev pub added : {X F : Type 0} → List X → Result (List X) F → Result (List X) F
added xs (Ok ys) = Ok (xs ++ ys)
added xs (Err f) = Err f

abbrev pub after_piece : {S X F : Type 0} → Result (Piece S X) F → (Piece S X → Result (List X) F)
    → Result (List X) F
after_piece (Ok p) rest = added p.gives (rest p)
after_piece (Err f) rest = Err f

-- what the pieces stand for, or the first reason; so many bytes of the piece before are still to be
-- passed
abbrev pub cut : {S X F : Type 0} → (S → ℕ → List ℕ → Result (Piece S X) F) → ℕ → S → ℕ → List ℕ
    → Result (List X) F
cut step passing s at [] = Ok []
cut step zero s at (b ∷ bytes) =
    after_piece (step s at (b ∷ bytes)) (λ p. cut step p.more p.next (at + 1) bytes)
cut step (suc passing) s at (b ∷ bytes) = cut step passing s (at + 1) bytes
