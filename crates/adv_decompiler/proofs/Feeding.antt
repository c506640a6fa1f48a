-- Tokens that are fed to a plan, wherever they stand; and that bytes of tokens which stand apart
-- are read by it.
use Rattle.std.proofs.Common.{◌≡◌, ℕ, ◌+◌, ◌≤◌, ◌⊎◌, inl, inr, ◌||◌, Bool, true, false, List, [], ◌∷◌, ◌++◌, take, drop, length, ℤ, pos, negsuc, ◌≤ℤ◌, refl, sym, ap, subst, ◌∙◌, append_assoc, arith, length-append}
use Rattle.std.specs.Prelude.{int_le}
use Rattle.std.specs.List.{list_all}
use Rattle.std.proofs.lemmas.Bool.{and_parts, and_from, or_cases}
use Rattle.std.proofs.lemmas.List.{take_at, drop_at}
use Rattle.std.proofs.lemmas.Int.{ints}
use Rattle.adv_io.specs.Text.{newline, is_text, is_text_byte}
use Rattle.adv_text.specs.Reading.{Input, input}
use Rattle.adv_text.specs.Spelling.{NoDigit, NoQuote}
use Rattle.adv_text.specs.Laws.{Fits32, WrittenNumberIsSpelled, WrittenStringIsSpelled}
use Rattle.scott_types.specs.Limits.{is_file_text, is_file_byte, is_number}
use Rattle.source_reader.specs.declared.tokens.Token.{Token}
use Rattle.source_reader.specs.declared.tokens.Token.TheVariants as token
use Rattle.source_reader.specs.Tokens.{gap, past_gap, begins_digit, Spells, TokenTo}
use Rattle.source_reader.specs.Plan.{Plan, done, refuse, next, ◌>>=◌, Spelled}
use Rattle.adv_decompiler.specs.Layout.{Lead, joined, spaced, below, lead_text, Chunk, chunk, token_text, text_of}
use Rattle.adv_decompiler.proofs.Apart.{is_symbol, is_written, is_a_mark, is_led, opens, laid, by_symbol}
use Rattle.adv_decompiler.proofs.FirstBytes.{Ends, ends-digit, lead-gap, number-kind, word-kind, mark-kind, word-size, word-short}

-- ---- feeding

-- fed with the tokens of these chunks, wherever they stand, the plan ends with a value of which P
-- holds
abbrev pub Fed : {X : Type 0} → Plan X → List Chunk → (X → Type 0) → Type 0
Fed (done x) [] P = P x
Fed (done x) (c ∷ chunks) P = ⊥
Fed (refuse at) chunks P = ⊥
Fed (next more) [] P = ⊥
Fed (next more) (c ∷ chunks) P = (at : ℕ) → Fed (more at c.token) chunks P

-- one plan after another, fed with one list after another
pub fed_then : {X Y : Type 0} (Q : X → Type 0) (P : Y → Type 0) (p : Plan X) (f : X → Plan Y) (xs ys : List Chunk)
    → Fed p xs Q → ((x : X) → Q x → Fed (f x) ys P) → Fed (p >>= f) (xs ++ ys) P
fed_then Q P (done x) f [] ys h more = more x h
fed_then Q P (done x) f (c ∷ xs) ys h more = absurd h
fed_then Q P (refuse at) f xs ys h more = absurd h
fed_then Q P (next q) f [] ys h more = absurd h
fed_then Q P (next q) f (c ∷ xs) ys h more = λ at. fed_then Q P (q at c.token) f xs ys (h at) more

-- the same, where nothing is read after the first
pub fed_done : {X Y : Type 0} (Q : X → Type 0) (P : Y → Type 0) (p : Plan X) (g : X → Y) (xs : List Chunk)
    → Fed p xs Q → ((x : X) → Q x → P (g x)) → Fed (p >>= λ x. done (g x)) xs P
fed_done Q P (done x) g [] h more = more x h
fed_done Q P (done x) g (c ∷ xs) h more = absurd h
fed_done Q P (refuse at) g xs h more = absurd h
fed_done Q P (next q) g [] h more = absurd h
fed_done Q P (next q) g (c ∷ xs) h more = λ at. fed_done Q P (q at c.token) g xs (h at) more

-- of a value more may be known
pub fed_weaken : {X : Type 0} (Q P : X → Type 0) (p : Plan X) (xs : List Chunk) → ((x : X) → Q x → P x) → Fed p xs Q → Fed p xs P
fed_weaken Q P (done x) [] more h = more x h
fed_weaken Q P (done x) (c ∷ xs) more h = absurd h
fed_weaken Q P (refuse at) xs more h = absurd h
fed_weaken Q P (next q) [] more h = absurd h
fed_weaken Q P (next q) (c ∷ xs) more h = λ at. fed_weaken Q P (q at c.token) xs more (h at)

-- ---- texts that can be written

kept_bytes : (text : List ℕ) → list_all is_file_byte text ≡ true → list_all is_text_byte text ≡ true
kept_bytes [] h = refl
kept_bytes (b ∷ text) h =
    let parts = and_parts (is_file_byte b) (list_all is_file_byte text) h in
    and_from _ _ (and_parts _ (is_text_byte b) parts.0).1 (kept_bytes text parts.1)

pub kept_text : (text : List ℕ) → is_file_text text ≡ true → is_text text ≡ true
kept_text text h = let parts = and_parts _ (list_all is_file_byte text) h in and_from _ _ parts.0 (kept_bytes text parts.1)

le_from : (a b : ℤ) → int_le a b ≡ true → a ≤ℤ b
le_from a b e = grind (arith, ints)

number_fits : (z : ℤ) → is_number z ≡ true → Fits32 z
number_fits z e = let h = and_parts (int_le (negsuc 2147483647) z) (int_le z (pos 2147483647)) e in (le_from (negsuc 2147483647) z h.0, le_from z (pos 2147483647) h.1)

-- ---- from tokens to bytes

-- what is known of numbers and strings that were written
pub record WrittenLaws : Type 0 where
  pub number : WrittenNumberIsSpelled
  pub string : WrittenStringIsSpelled

-- a token ends here: it is a mark, or what follows ends it
abbrev EndsHere : Token → List ℕ → Type 0
EndsHere t bytes = (is_a_mark t ≡ true) ⊎ Ends bytes

no_digit : (bytes : List ℕ) → begins_digit bytes ≡ false → NoDigit bytes
no_digit [] h = tt
no_digit (b ∷ bytes) h = h

no_quote : (bytes : List ℕ) → Ends bytes → NoQuote bytes
no_quote [] h = tt
no_quote (b ∷ bytes) h = h.1

no_mark : (t : Token) (bytes : List ℕ) → is_a_mark t ≡ false → EndsHere t bytes → Ends bytes
no_mark t bytes e (inl is) = absurd (cc)
no_mark t bytes e (inr h) = h

symbol-ends : (b : ℕ) (bytes : List ℕ) → is_symbol b ≡ true → Ends (b ∷ bytes)
symbol-ends b bytes h = by_symbol (λ b. Ends (b ∷ bytes)) (refl, refl) (refl, refl) (refl, refl) (refl, refl) (refl, refl) (refl, refl) (refl, refl) b h

-- the bytes of a chunk that opens end the token before it
chunk-ends : (lead : Lead) (t : Token) (bytes : List ℕ) → is_written t ≡ true → (is_led lead || is_a_mark t) ≡ true → Ends (lead_text lead ++ (token_text t ++ bytes))
chunk-ends spaced t bytes w h = (refl, refl)
chunk-ends below t bytes w h = (refl, refl)
chunk-ends joined (token.Mark b) bytes w h = symbol-ends b bytes w
chunk-ends joined (token.Number z) bytes w h = absurd (cc)
chunk-ends joined (token.Quoted text) bytes w h = absurd (cc)
chunk-ends joined (token.Word word) bytes w h = absurd (cc)
chunk-ends joined token.End bytes w h = absurd (cc)

-- the text of chunks, and the line feed that ends it
abbrev pub ended : List Chunk → List ℕ
ended chunks = text_of chunks ++ newline ∷ []

ended-cons : (c : Chunk) (chunks : List Chunk) → ended (c ∷ chunks) ≡ lead_text c.lead ++ (token_text c.token ++ ended chunks)
ended-cons c chunks =
    append_assoc (lead_text c.lead ++ token_text c.token) (text_of chunks) (newline ∷ [])
    ∙ append_assoc (lead_text c.lead) (token_text c.token) (ended chunks)

ends_here : (t : Token) (chunks : List Chunk) → laid (is_a_mark t) chunks ≡ true → EndsHere t (ended chunks)
ends_here t [] h = inr (refl, refl)
ends_here t (c ∷ chunks) h =
    let one = and_parts (is_written c.token) _ h in
    let two = and_parts (opens c || is_a_mark t) _ one.1 in
    elim (or_cases (opens c) (is_a_mark t) two.0) [
      | inr is ↦ inl is
      | inl o ↦ inr (subst Ends (sym (ended-cons c chunks)) (chunk-ends c.lead c.token (ended chunks) one.0 o))
    ]

module _ (laws : WrittenLaws) where
  -- the bytes that are written of a token spell it, where it ends after them
  spells : (t : Token) (bytes : List ℕ) → is_written t ≡ true → EndsHere t bytes → Spells t (token_text t ++ bytes) bytes
  spells (token.Number z) bytes w h =
      let ends = no_mark (token.Number z) bytes refl h in
      (number-kind z bytes w, laws.number z bytes (number_fits z w) (no_digit bytes (ends-digit bytes ends)))
  spells (token.Quoted text) bytes w h =
      (refl, laws.string text bytes (kept_text text w) (no_quote bytes (no_mark (token.Quoted text) bytes refl h)))
  spells (token.Word word) bytes w h =
      let size = word-size word bytes w (no_mark (token.Word word) bytes refl h) in
      let short : length word ≤ 32 = word-short word w in (
        word-kind word bytes w,
        rw size short,
        sym (ap (λ (n : ℕ). take n (word ++ bytes)) size ∙ take_at word bytes (length word) refl),
        sym (ap (λ (n : ℕ). drop n (word ++ bytes)) size ∙ drop_at word bytes (length word) refl),
      )
  spells (token.Mark b) bytes w h = (mark-kind b bytes w, refl, refl)
  spells token.End bytes w h = absurd (cc)

  abbrev Read : {X : Type 0} → Plan X → (X → Type 0) → Input → Type 0
  Read {X} p P s = (x : X) × (after : Input) × Spelled p x s after × P x

  -- what is fed to a plan and stands apart is read by it
  read_chunk : {X : Type 0} (P : X → Type 0) (more : ℕ → Token → Plan X) (lead : Lead) (t : Token) (bytes : List ℕ) (at : ℕ)
      → is_written t ≡ true → EndsHere t bytes
      → Read (more (at + length (lead_text lead)) t) P (input (at + length (lead_text lead) + length (token_text t)) bytes)
      → Read (next more) P (input at (lead_text lead ++ (token_text t ++ bytes)))
  read_chunk {X} P more lead t bytes at w ends read =
      let start : Input = input at (lead_text lead ++ (token_text t ++ bytes)) in
      let there : Input = input (at + length (lead_text lead)) (token_text t ++ bytes) in
      let behind : Input = input (at + length (lead_text lead) + length (token_text t)) bytes in
      let gone : gap false start.rest ≡ length (lead_text lead) = lead-gap lead t bytes w in
      let past : past_gap start ≡ there =
      ap (λ (n : ℕ). input (at + n) (drop n start.rest)) gone
      ∙ ap (λ (rest : List ℕ). input (at + length (lead_text lead)) rest) (drop_at (lead_text lead) (token_text t ++ bytes) (length (lead_text lead)) refl) in
      let to : TokenTo there t behind = (spells t bytes w ends, omega (arith, length-append (token_text t) bytes)) in
      subst (λ (s : Input). (x : X) × (after : Input) × ((u : Token) × (rest : Input) × TokenTo s u rest × Spelled (more s.at u) x rest after) × P x)
      (sym past) (read.0, read.1, (t, behind, to, read.2), read.3)

  read_end : {X : Type 0} (P : X → Type 0) (p : Plan X) (s : Input) → Fed p [] P → Read p P s
  read_end P (done x) s h = (x, s, (refl, refl), h)
  read_end P (refuse at) s h = absurd h
  read_end P (next more) s h = absurd h

  -- the end of a text, after its last line feed
  read_last : {X : Type 0} (P : X → Type 0) (p : Plan X) (at : ℕ) → Fed p (chunk below token.End ∷ []) P → Read p P (input at (newline ∷ []))
  read_last P (done x) at h = absurd h
  read_last P (refuse place) at h = absurd h
  read_last P (next more) at h =
      let last = read_end P (more (at + 1) token.End) (input (at + 1) []) (h (at + 1)) in
      (last.0, last.1, (token.End, input (at + 1) [], ((refl, refl), refl), last.2), last.3)

  -- a text whose tokens stand apart is read to its end by a plan that they feed
  pub read_fed : {X : Type 0} (P : X → Type 0) (p : Plan X) (chunks : List Chunk) (free : Bool) (at : ℕ)
      → Fed p (chunks ++ chunk below token.End ∷ []) P → laid free chunks ≡ true → Read p P (input at (ended chunks))
  read_fed P p [] free at h l = read_last P p at h
  read_fed P (done x) (c ∷ chunks) free at h l = absurd h
  read_fed P (refuse place) (c ∷ chunks) free at h l = absurd h
  read_fed P (next more) (c ∷ chunks) free at h l =
      let one = and_parts (is_written c.token) _ l in
      let two = and_parts (opens c || free) (laid (is_a_mark c.token) chunks) one.1 in
      subst (λ (bytes : List ℕ). Read (next more) P (input at bytes)) (sym (ended-cons c chunks))
      (read_chunk P more c.lead c.token (ended chunks) at one.0 (ends_here c.token chunks two.1)
      (read_fed P (more (at + length (lead_text c.lead)) c.token) chunks (is_a_mark c.token) (at + length (lead_text c.lead) + length (token_text c.token))
      (h (at + length (lead_text c.lead))) two.1))
