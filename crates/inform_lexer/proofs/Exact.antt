-- Reading pieces gives exactly what they stand for, or exactly where it breaks.
use Rattle.std.proofs.Common.{◌≡◌, ℕ, zero, suc, ◌+◌, List, [], ◌∷◌, ◌++◌, drop, Result, Ok, Err, ◌⊎◌, inl, inr, refl, ap, subst, ◌∙◌, arith}
use Rattle.inform_lexer.specs.declared.kinds.Token.{Token}
use Rattle.inform_lexer.specs.declared.faults.LexFault.{LexFault}
use Rattle.inform_lexer.specs.Pieces.{Piece, Pieces, none, first, Breaks, here, later, added, after_piece, cut}
use Rattle.inform_lexer.specs.Tokens.{token_step, Spelled, Faulty, lexed}
use Rattle.inform_lexer.specs.Laws.{TokensAreExact, FaultIsExact, TokensOrFault, NeverBoth, OneTokenList, OneFault}
use Rattle.inform_lexer.proofs.Cutting.{piece_read, piece_refused}

module _ {S X F : Type 0} (step : S → ℕ → List ℕ → Result (Piece S X) F) where
  -- ---- what is there is read

  pub pieces_read : (s : S) (at : ℕ) (bytes : List ℕ) (xs : List X) → Pieces step s at bytes xs → cut step 0 s at bytes ≡ Ok xs
  pieces_read s at _ _ none = refl
  pieces_read s at _ _ (first {b = b} {bytes = bytes} {xs = xs} p is rest) =
      piece_read step s at b bytes p is
      ∙ ap (λ (r : Result (List X) F). added p.gives r) (pieces_read p.next (at + 1 + p.more) (drop p.more bytes) xs rest)

  pub break_read : (s : S) (at : ℕ) (bytes : List ℕ) (f : F) → Breaks step s at bytes f → cut step 0 s at bytes ≡ Err f
  break_read s at _ _ (here {b = b} {bytes = bytes} {f = f} is) = piece_refused step s at b bytes f is
  break_read s at _ _ (later {b = b} {bytes = bytes} {f = f} p is rest) =
      piece_read step s at b bytes p is
      ∙ ap (λ (r : Result (List X) F). added p.gives r) (break_read p.next (at + 1 + p.more) (drop p.more bytes) f rest)

  -- ---- what is read is there, once the rest of a piece is passed

  passed : (s : S) (at n : ℕ) (bytes : List ℕ) (xs : List X) → Pieces step s (at + 1 + n) bytes xs → Pieces step s (at + suc n) bytes xs
  passed s at n bytes xs pieces = let same : at + 1 + n ≡ at + suc n = omega arith in subst (λ (k : ℕ). Pieces step s k bytes xs) same pieces

  passed_break : (s : S) (at n : ℕ) (bytes : List ℕ) (f : F) → Breaks step s (at + 1 + n) bytes f → Breaks step s (at + suc n) bytes f
  passed_break s at n bytes f pieces = let same : at + 1 + n ≡ at + suc n = omega arith in subst (λ (k : ℕ). Breaks step s k bytes f) same pieces

  at_once : (s : S) (at : ℕ) (bytes : List ℕ) (xs : List X) → Pieces step s at bytes xs → Pieces step s (at + 0) bytes xs
  at_once s at bytes xs pieces = let same : at ≡ at + 0 = omega arith in subst (λ (k : ℕ). Pieces step s k bytes xs) same pieces

  break_at_once : (s : S) (at : ℕ) (bytes : List ℕ) (f : F) → Breaks step s at bytes f → Breaks step s (at + 0) bytes f
  break_at_once s at bytes f pieces = let same : at ≡ at + 0 = omega arith in subst (λ (k : ℕ). Breaks step s k bytes f) same pieces

  with_rest : (s : S) (at b : ℕ) (bytes : List ℕ) (p : Piece S X) → step s at (b ∷ bytes) ≡ Ok p → (xs : List X) (r : Result (List X) F)
      → added p.gives r ≡ Ok xs → ((ys : List X) → r ≡ Ok ys → Pieces step p.next (at + 1 + p.more) (drop p.more bytes) ys) → Pieces step s at (b ∷ bytes) xs
  with_rest s at b bytes p is xs (Ok ys) e rest =
      let same : p.gives ++ ys ≡ xs = cc in subst (λ (zs : List X). Pieces step s at (b ∷ bytes) zs) same (first p is (rest ys refl))
  with_rest s at b bytes p is xs (Err f) e rest = absurd (cc)

  breaks_later : (s : S) (at b : ℕ) (bytes : List ℕ) (p : Piece S X) → step s at (b ∷ bytes) ≡ Ok p → (f : F) (r : Result (List X) F)
      → added p.gives r ≡ Err f → (r ≡ Err f → Breaks step p.next (at + 1 + p.more) (drop p.more bytes) f) → Breaks step s at (b ∷ bytes) f
  breaks_later s at b bytes p is f (Ok ys) e rest = absurd (cc)
  breaks_later s at b bytes p is f (Err g) e rest = later p is (rest (cc))

  -- bytes that are cut, after so many that are passed over, are pieces that stand for what is given
  pub read_pieces : (n : ℕ) (s : S) (at : ℕ) (bytes : List ℕ) (xs : List X) → cut step n s at bytes ≡ Ok xs → Pieces step s (at + n) (drop n bytes) xs
  read_pieces zero s at [] xs e = let same : [] ≡ xs = cc in subst (λ (zs : List X). Pieces step s (at + 0) [] zs) same none
  read_pieces (suc n) s at [] xs e = let same : [] ≡ xs = cc in subst (λ (zs : List X). Pieces step s (at + suc n) [] zs) same none
  read_pieces (suc n) s at (b ∷ bytes) xs e = passed s at n (drop n bytes) xs (read_pieces n s (at + 1) bytes xs e)
  read_pieces zero s at (b ∷ bytes) xs e = at_once s at (b ∷ bytes) xs (by (step s at (b ∷ bytes)) refl e (λ p ys. read_pieces p.more p.next (at + 1) bytes ys))
    where
      by : (r : Result (Piece S X) F) → step s at (b ∷ bytes) ≡ r → after_piece r (λ p. cut step p.more p.next (at + 1) bytes) ≡ Ok xs
          → ((p : Piece S X) (ys : List X) → cut step p.more p.next (at + 1) bytes ≡ Ok ys → Pieces step p.next (at + 1 + p.more) (drop p.more bytes) ys)
          → Pieces step s at (b ∷ bytes) xs
      by (Ok p) is e rest = with_rest s at b bytes p is xs (cut step p.more p.next (at + 1) bytes) e (rest p)
      by (Err f) is e rest = absurd (cc)

  -- where bytes break that are cut after so many, they break after some pieces, for that reason
  pub read_break : (n : ℕ) (s : S) (at : ℕ) (bytes : List ℕ) (f : F) → cut step n s at bytes ≡ Err f → Breaks step s (at + n) (drop n bytes) f
  read_break zero s at [] f e = absurd (cc)
  read_break (suc n) s at [] f e = absurd (cc)
  read_break (suc n) s at (b ∷ bytes) f e = passed_break s at n (drop n bytes) f (read_break n s (at + 1) bytes f e)
  read_break zero s at (b ∷ bytes) f e = break_at_once s at (b ∷ bytes) f (by (step s at (b ∷ bytes)) refl e (λ p. read_break p.more p.next (at + 1) bytes f))
    where
      by : (r : Result (Piece S X) F) → step s at (b ∷ bytes) ≡ r → after_piece r (λ p. cut step p.more p.next (at + 1) bytes) ≡ Err f
          → ((p : Piece S X) → cut step p.more p.next (at + 1) bytes ≡ Err f → Breaks step p.next (at + 1 + p.more) (drop p.more bytes) f)
          → Breaks step s at (b ∷ bytes) f
      by (Ok p) is e rest = breaks_later s at b bytes p is f (cut step p.more p.next (at + 1) bytes) e (rest p)
      by (Err g) is e rest = let same : g ≡ f = cc in subst (λ (h : F). Breaks step s at (b ∷ bytes) h) same (here is)

-- ---- the tokens of a text

pub tokens_are_exact : TokensAreExact
unfolding lexed
tokens_are_exact bytes tokens = (read_pieces token_step 0 tt 0 bytes tokens, pieces_read token_step tt 0 bytes tokens)

pub fault_is_exact : FaultIsExact
unfolding lexed
fault_is_exact bytes fault = (read_break token_step 0 tt 0 bytes fault, break_read token_step tt 0 bytes fault)

one_answer : (bytes : List ℕ) (r : Result (List Token) LexFault) → lexed bytes ≡ r
    → ((tokens : List Token) × Spelled bytes tokens) ⊎ ((fault : LexFault) × Faulty bytes fault)
one_answer bytes (Ok tokens) is = inl (tokens, (tokens_are_exact bytes tokens).0 is)
one_answer bytes (Err fault) is = inr (fault, (fault_is_exact bytes fault).0 is)

pub tokens_or_fault : TokensOrFault
tokens_or_fault bytes = one_answer bytes (lexed bytes) refl

pub never_both : NeverBoth
never_both bytes tokens fault spelled faulty =
    let read : lexed bytes ≡ Ok tokens = (tokens_are_exact bytes tokens).1 spelled in
    let refused : lexed bytes ≡ Err fault = (fault_is_exact bytes fault).1 faulty in cc

pub one_token_list : OneTokenList
one_token_list bytes a b first_list second_list =
    let one : lexed bytes ≡ Ok a = (tokens_are_exact bytes a).1 first_list in
    let two : lexed bytes ≡ Ok b = (tokens_are_exact bytes b).1 second_list in cc

pub one_fault : OneFault
one_fault bytes a b first_fault second_fault =
    let one : lexed bytes ≡ Err a = (fault_is_exact bytes a).1 first_fault in
    let two : lexed bytes ≡ Err b = (fault_is_exact bytes b).1 second_fault in cc
