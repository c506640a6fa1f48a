-- The table is held against the definition at each of the 256 bytes, by computing.
use Rattle.std.proofs.Common.{◌≡◌, ℕ, zero, suc, ◌<◌, Bool, true, false, ◌&&◌, not, nat_eq, get_or, List, refl, arith, inl, inr}
use Rattle.std.specs.Bool.{beq}
use Rattle.std.proofs.lemmas.Bool.{cases_eq}
use Rattle.inform_lexer.specs.declared.bytes.TheConstants.{WORD_BYTES}
use Rattle.inform_lexer.specs.Bytes.{is_word_byte}
use Rattle.inform_lexer.proofs.bytes.is_word_byte.Goals as goal

-- two tests agree on each byte below a number
agree_below : (ℕ → Bool) → (ℕ → Bool) → ℕ → Bool
agree_below p q zero = true
agree_below p q (suc n) = beq (p n) (q n) && agree_below p q n

both : (x y rest : Bool) → (beq x y && rest) ≡ true → (x ≡ y) × (rest ≡ true)
both true true rest e = (refl, e)
both true false rest e = cc
both false true rest e = cc
both false false rest e = (refl, e)

agree_at : (p q : ℕ → Bool) (n : ℕ) → agree_below p q n ≡ true → (b : ℕ) → b < n → p b ≡ q b
unfolding agree_below
agree_at p q zero e b less = absurd (omega arith)
agree_at p q (suc n) e b less =
    let here = both (p n) (q n) (agree_below p q n) e in
    elim (cases_eq b n) [ inl same ↦ rw same here.0 | inr other ↦ agree_at p q n here.1 b (omega arith) ]

-- a comma (44) stands where the byte is none of a word
by_table : (table : List ℕ) (b : ℕ) → b < 256
    → agree_below (λ k. not (nat_eq (get_or table k 0) 44)) is_word_byte 256 ≡ true
    → not (nat_eq (get_or table b 0) 44) ≡ is_word_byte b
by_table table b less e = agree_at _ _ 256 e b less

pub returns : goal.returns
unfolding agree_below
returns c = by_table WORD_BYTES c.args.byte (omega arith) refl
