-- The longest symbol, where fewer than three bytes are left.
use Rattle.std.proofs.Common.{◌≡◌, ℕ, ◌≤◌, ◌<◌, Bool, true, false, cond, List, [], ◌∷◌, length, take, get_or, Option, Some, None, ◌⊎◌, inl, inr, refl, sym, ap, subst, arith}
use Rattle.std.specs.Prelude.{nat_eq, find}
use Rattle.std.specs.Option.{option_or}
use Rattle.std.specs.Cmp.Lexicographic.{pointwise}
use Rattle.std.proofs.lemmas.Slice.Eq.{bytes_eq-Decides}
use Rattle.std.proofs.lemmas.List.{length-take}
use Rattle.inform_lexemes.specs.declared.symbols.Symbol.{Symbol}
use Rattle.inform_lexemes.specs.Symbols.{symbol_text, symbol_spelled}
use Rattle.inform_lexemes.specs.declared.symbols.TheConstants.{SYMBOLS}
use Rattle.inform_lexer.specs.Tokens.{symbol_first}

pub twice : (a b : Option Symbol) → option_or a (option_or a b) ≡ option_or a b
twice None b = refl
twice (Some x) b = refl

pub once : (a : Option Symbol) → option_or a (option_or a a) ≡ a
once None = refl
once (Some x) = refl

pub no_bytes : symbol_spelled [] ≡ None
unfolding symbol_spelled
no_bytes = refl

pub ruleset few_bytes = (twice, once, no_bytes)

pub two_left : (bytes : List ℕ) → 2 ≤ length bytes → length bytes < 3
    → option_or (symbol_spelled (get_or bytes 0 0 ∷ get_or bytes 1 0 ∷ [])) (symbol_spelled (get_or bytes 0 0 ∷ [])) ≡ symbol_first bytes
two_left [] some few = absurd (omega arith)
two_left (b ∷ []) some few = absurd (omega arith)
two_left (b ∷ c ∷ []) some few = sym (twice (symbol_spelled (b ∷ c ∷ [])) (symbol_spelled (b ∷ [])))
two_left (b ∷ c ∷ d ∷ bytes) some few = absurd (omega arith)

-- ---- how long it is

-- what a search finds passes its test
pub found_passes : {X : Type 0} (p : X → Bool) (xs : List X) (x : X) → find p xs ≡ Some x → p x ≡ true
found_passes p [] x e = absurd (cc)
found_passes {X} p (y ∷ ys) x e = by (p y) refl e (found_passes p ys x)
  where
    by : (b : Bool) → p y ≡ b → cond b (Some y) (find p ys) ≡ Some x → (find p ys ≡ Some x → p x ≡ true) → p x ≡ true
    by true passes e later = let same : y ≡ x = cc in subst (λ (z : X). p z ≡ true) same passes
    by false passes e later = later e

pub spelled_text : (text : List ℕ) (s : Symbol) → symbol_spelled text ≡ Some s → text ≡ symbol_text s
unfolding symbol_spelled
spelled_text text s e =
    (bytes_eq-Decides text (symbol_text s)).0 (found_passes (λ (symbol : Symbol). pointwise nat_eq text (symbol_text symbol)) SYMBOLS s e)

either : (a b : Option Symbol) (s : Symbol) → option_or a b ≡ Some s → (a ≡ Some s) ⊎ (b ≡ Some s)
either None b s e = inr e
either (Some x) b s e = inl e

fits : (n : ℕ) (bytes : List ℕ) (s : Symbol) → symbol_spelled (take n bytes) ≡ Some s → length (symbol_text s) ≤ length bytes
fits n bytes s e = omega (arith, ap length (spelled_text (take n bytes) s e), length-take n bytes)

pub symbol_within : (bytes : List ℕ) (s : Symbol) → symbol_first bytes ≡ Some s → length (symbol_text s) ≤ length bytes
symbol_within bytes s e =
    let two = symbol_spelled (take 2 bytes) in
    let one = symbol_spelled (take 1 bytes) in
    elim (either (symbol_spelled (take 3 bytes)) (option_or two one) s e) [
      | inl three ↦ fits 3 bytes s three
      | inr e ↦ elim (either two one s e) [ inl two ↦ fits 2 bytes s two | inr one ↦ fits 1 bytes s one ]
    ]
