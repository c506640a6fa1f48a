-- Pieces are read one by one.
use Rattle.std.proofs.Common.{◌≡◌, ℕ, zero, suc, ◌+◌, ◌≤◌, ◌<◌, List, [], ◌∷◌, ◌++◌, length, drop, get_or, Result, Ok, Err, refl, sym, ap, ◌∙◌, arith, append_assoc, drop-cons}
use Rattle.std.proofs.lemmas.List.{drop-drop, drop_all}
use Rattle.inform_lexer.specs.Pieces.{Piece, added, after_piece, cut}

module _ {S X F : Type 0} (step : S → ℕ → List ℕ → Result (Piece S X) F) where
  -- the rest of a piece is passed
  pub skipped : (n : ℕ) (s : S) (at : ℕ) (bytes : List ℕ) → cut step n s at bytes ≡ cut step 0 s (at + n) (drop n bytes)
  skipped zero s at bytes = ap (λ (k : ℕ). cut step 0 s k bytes) (omega arith)
  skipped (suc n) s at [] = refl
  skipped (suc n) s at (b ∷ bytes) =
      let there : at + 1 + n ≡ at + suc n = omega arith in
      skipped n s (at + 1) bytes ∙ ap (λ (k : ℕ). cut step 0 s k (drop n bytes)) there

  -- a piece is read, and then the others
  pub piece_read : (s : S) (at b : ℕ) (bytes : List ℕ) (p : Piece S X) → step s at (b ∷ bytes) ≡ Ok p
      → cut step 0 s at (b ∷ bytes) ≡ added p.gives (cut step 0 p.next (at + 1 + p.more) (drop p.more bytes))
  piece_read s at b bytes p is =
      ap (λ (r : Result (Piece S X) F). after_piece r (λ p. cut step p.more p.next (at + 1) bytes)) is
      ∙ ap (λ (r : Result (List X) F). added p.gives r) (skipped p.more p.next (at + 1) bytes)

  pub piece_refused : (s : S) (at b : ℕ) (bytes : List ℕ) (f : F) → step s at (b ∷ bytes) ≡ Err f → cut step 0 s at (b ∷ bytes) ≡ Err f
  piece_refused s at b bytes f is = ap (λ (r : Result (Piece S X) F). after_piece r (λ p. cut step p.more p.next (at + 1) bytes)) is

  -- ---- the same at a place of a whole text

  first_byte : (whole : List ℕ) (at : ℕ) → at < length whole → drop at whole ≡ get_or whole at 0 ∷ drop (suc at) whole
  first_byte whole at inside = drop-cons whole at 0 inside

  rest_after : (whole : List ℕ) (at more : ℕ) → drop more (drop (suc at) whole) ≡ drop (at + 1 + more) whole
  rest_after whole at more =
      let same : suc at + more ≡ at + 1 + more = omega arith in
      drop-drop more (suc at) whole ∙ ap (λ (n : ℕ). drop n whole) same

  pub goes_on : (whole : List ℕ) (at : ℕ) (s : S) (p : Piece S X) → at < length whole → step s at (drop at whole) ≡ Ok p
      → cut step 0 s at (drop at whole) ≡ added p.gives (cut step 0 p.next (at + 1 + p.more) (drop (at + 1 + p.more) whole))
  goes_on whole at s p inside is =
      let split = first_byte whole at inside in
      let there : step s at (get_or whole at 0 ∷ drop (suc at) whole) ≡ Ok p = ap (λ (bytes : List ℕ). step s at bytes) (sym split) ∙ is in
      ap (λ (bytes : List ℕ). cut step 0 s at bytes) split
      ∙ piece_read s at (get_or whole at 0) (drop (suc at) whole) p there
      ∙ ap (λ (bytes : List ℕ). added p.gives (cut step 0 p.next (at + 1 + p.more) bytes)) (rest_after whole at p.more)

  pub stops : (whole : List ℕ) (at : ℕ) (s : S) (f : F) → at < length whole → step s at (drop at whole) ≡ Err f → cut step 0 s at (drop at whole) ≡ Err f
  stops whole at s f inside is =
      let split = first_byte whole at inside in
      let there : step s at (get_or whole at 0 ∷ drop (suc at) whole) ≡ Err f = ap (λ (bytes : List ℕ). step s at bytes) (sym split) ∙ is in
      ap (λ (bytes : List ℕ). cut step 0 s at bytes) split ∙ piece_refused s at (get_or whole at 0) (drop (suc at) whole) f there

  pub ends : (whole : List ℕ) (at : ℕ) (s : S) → length whole ≤ at → cut step 0 s at (drop at whole) ≡ Ok []
  ends whole at s past = ap (λ (bytes : List ℕ). cut step 0 s at bytes) (drop_all at whole past)

-- what was given before is in front of it
pub added_twice : {X F : Type 0} (xs ys : List X) (r : Result (List X) F) → added xs (added ys r) ≡ added (xs ++ ys) r
added_twice xs ys (Ok zs) = ap Ok (sym (append_assoc xs ys zs))
added_twice xs ys (Err f) = refl

pub added_none : {X F : Type 0} (r : Result (List X) F) → added [] r ≡ r
added_none (Ok xs) = refl
added_none (Err f) = refl
