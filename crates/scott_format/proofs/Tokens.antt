-- A line of tokens is read by the plan that they fit.
use Rattle.std.proofs.Common.{◌≡◌, ℕ, suc, Bool, List, [], ◌∷◌, ◌++◌, Option, Some, ℤ, inl, refl, sym, ap, subst, ◌∙◌, append_assoc}
use Rattle.std.specs.Prelude.{IsTrue}
use Rattle.adv_io.specs.Text.{is_whitespace}
use Rattle.adv_text.specs.Spelling.{AfterWhitespace, space, NoDigit, NoQuote}
use Rattle.adv_text.specs.Laws.{Fits32}
use Rattle.adv_io.specs.Text.{is_text}
use Rattle.adv_text.specs.Writing.{number_text, quoted_text}
use Rattle.scott_format.specs.Faults.{Fault}
use Rattle.scott_format.specs.Plan.{Plan, check, number, quoted, perhaps, Spelled}
use Rattle.scott_format.specs.Canon.{Token, num, str, token_text, line_text}
use Rattle.scott_format.specs.TextLaws.{TextLaws}

-- fed with the tokens, the plan goes on as another
pub data Feeds (X : Type 0) : Plan X → List Token → Plan X → Type 0 where
  fed : {p : Plan X} → Feeds X p [] p
  checked : {test : Bool} {fault : Fault} {p q : Plan X} {ts : List Token} → IsTrue test → Feeds X p ts q → Feeds X (check test fault p) ts q
  a_number : {z : ℤ} {next : ℤ → Plan X} {q : Plan X} {ts : List Token} → Fits32 z → Feeds X (next z) ts q → Feeds X (number next) (num z ∷ ts) q
  a_string : {t : List ℕ} {next : List ℕ → Plan X} {q : Plan X} {ts : List Token} → IsTrue (is_text t) → Feeds X (next t) ts q → Feeds X (quoted next) (str t ∷ ts) q
  one_perhaps : {z : ℤ} {next : Option ℤ → Plan X} {q : Plan X} {ts : List Token} → Fits32 z → Feeds X (next (Some z)) ts q → Feeds X (perhaps next) (num z ∷ ts) q

-- each token after a byte of whitespace, but the first after a lead, and byte 10
abbrev tokens_text : List ℕ → List Token → List ℕ → List ℕ
tokens_text lead [] rest = 10 ∷ rest
tokens_text lead (t ∷ ts) rest = lead ++ (token_text t ++ tokens_text (32 ∷ []) ts rest)

tokens_text-line : (lead : List ℕ) (t : Token) (ts : List Token) (rest : List ℕ) → tokens_text lead (t ∷ ts) rest ≡ lead ++ (line_text (t ∷ ts) ++ rest)
tokens_text-line lead t [] rest = ap (λ (x : List ℕ). lead ++ x) (sym (append_assoc (token_text t) (10 ∷ []) rest))
tokens_text-line lead t (u ∷ ts) rest =
    ap (λ (x : List ℕ). lead ++ x)
    (ap (λ (x : List ℕ). token_text t ++ x) (tokens_text-line (32 ∷ []) u ts rest) ∙ sym (append_assoc (token_text t) (32 ∷ line_text (u ∷ ts)) rest))

NoDigit-tokens : (ts : List Token) (rest : List ℕ) → NoDigit (tokens_text (32 ∷ []) ts rest)
NoDigit-tokens [] rest = refl
NoDigit-tokens (t ∷ ts) rest = refl

NoQuote-tokens : (ts : List Token) (rest : List ℕ) → NoQuote (tokens_text (32 ∷ []) ts rest)
NoQuote-tokens [] rest = refl
NoQuote-tokens (t ∷ ts) rest = refl

-- at most one space
pub data Lead : List ℕ → Type 0 where
  none : Lead []
  one : {b : ℕ} → IsTrue (is_whitespace b) → Lead (b ∷ [])

after_lead : (P : List ℕ → Type 0) {lead : List ℕ} → Lead lead → (bytes : List ℕ) → (k : ℕ) × AfterWhitespace P k bytes → (k : ℕ) × AfterWhitespace P k (lead ++ bytes)
after_lead P none bytes h = h
after_lead P (one e) bytes h = (suc h.0, space e h.1)

module _ (laws : TextLaws) where
  -- a plan that is fed with tokens spells their text
  tokens_spelled : {X : Type 0} {p q : Plan X} {ts : List Token} (x : X) (lead rest end : List ℕ) → Feeds X p ts q → Lead lead
      → Spelled q x (10 ∷ rest) end → Spelled p x (tokens_text lead ts rest) end
  tokens_spelled x lead rest end fed at h = h
  tokens_spelled x lead rest end (checked e f) at h = (e, tokens_spelled x lead rest end f at h)
  tokens_spelled x lead rest end (a_number {z = z} {ts = ts} fits f) at h =
      let remaining = tokens_text (32 ∷ []) ts rest in (
        z,
        remaining,
        after_lead _ at (number_text z ++ remaining) (laws.written_number_is_spelled z remaining fits (NoDigit-tokens ts rest)),
        tokens_spelled x (32 ∷ []) rest end f (one refl) h,
      )
  tokens_spelled x lead rest end (a_string {t = t} {ts = ts} fits f) at h =
      let remaining = tokens_text (32 ∷ []) ts rest in (
        t,
        remaining,
        after_lead _ at (quoted_text t ++ remaining) (laws.written_string_is_spelled t remaining fits (NoQuote-tokens ts rest)),
        tokens_spelled x (32 ∷ []) rest end f (one refl) h,
      )
  tokens_spelled x lead rest end (one_perhaps {z = z} {ts = ts} fits f) at h =
      let remaining = tokens_text (32 ∷ []) ts rest in
      inl (
        z,
        remaining,
        after_lead _ at (number_text z ++ remaining) (laws.written_number_is_spelled z remaining fits (NoDigit-tokens ts rest)),
        tokens_spelled x (32 ∷ []) rest end f (one refl) h,
      )

  -- the same of a line
  pub line_spelled : {X : Type 0} (p q : Plan X) (t : Token) (ts : List Token) (x : X) (lead rest end : List ℕ) → Feeds X p (t ∷ ts) q → Lead lead
      → Spelled q x (10 ∷ rest) end → Spelled p x (lead ++ (line_text (t ∷ ts) ++ rest)) end
  line_spelled p q t ts x lead rest end f at h =
      subst (λ (b : List ℕ). Spelled p x b end) (tokens_text-line lead t ts rest) (tokens_spelled x lead rest end f at h)
