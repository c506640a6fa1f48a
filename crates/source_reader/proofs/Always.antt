-- What holds of each value that a plan can give.
use Rattle.std.proofs.Common.{◌≡◌, ℕ, zero, suc, true, false, leb, List, [], ◌∷◌, drop, length, refl, sym, subst}
use Rattle.std.specs.Prelude.{IsTrue}
use Rattle.std.specs.List.{list_all}
use Rattle.std.proofs.lemmas.Bool.{and_parts, and_from}
use Rattle.adv_text.specs.Laws.{is_byte, AreBytes, StringIsText, NumberLeavesBytes, StringLeavesBytes}
use Rattle.adv_io.specs.Text.{is_text_byte as is_kept_byte}
use Rattle.adv_text.specs.Reading.{Input}
use Rattle.scott_types.specs.Limits.{is_file_text, is_file_byte}
use Rattle.source_reader.specs.declared.tokens.Token.{Token}
use Rattle.source_reader.specs.declared.tokens.Token.TheVariants as token
use Rattle.source_reader.specs.Tokens.{gap, past_gap, word_size, TokenTo}
use Rattle.source_reader.specs.Plan.{Plan, done, refuse, next, ◌>>=◌, Spelled}

-- what holds of each token of a text
abbrev pub Fits : Token → Type 0
Fits (token.Quoted text) = IsTrue (is_file_text text)
Fits _ = Unit {0}

-- P holds of each value, whatever tokens are read
abbrev pub Always : {X : Type 0} → Plan X → (X → Type 0) → Type 0
Always (done x) P = P x
Always (refuse at) P = Unit {0}
Always (next more) P = (at : ℕ) (t : Token) → Fits t → Always (more at t) P

pub Always-then : {X Y : Type 0} (Q : X → Type 0) (P : Y → Type 0) (f : X → Plan Y) (p : Plan X)
    → Always p Q → ((x : X) → Q x → Always (f x) P) → Always (p >>= f) P
Always-then Q P f (done x) h more = more x h
Always-then Q P f (refuse at) h more = tt
Always-then Q P f (next q) h more = λ at t fits. Always-then Q P f (q at t) (h at t fits) more

-- nothing is known of the value
abbrev pub Anything : {X : Type 0} → X → Type 0
Anything x = Unit {0}

pub Always-anything : {X : Type 0} (p : Plan X) → Always p Anything
Always-anything (done x) = tt
Always-anything (refuse at) = tt
Always-anything (next q) = λ at t fits. Always-anything (q at t)

-- the same, where nothing has to be known of the first value
pub Always-after : {X Y : Type 0} (P : Y → Type 0) (f : X → Plan Y) (p : Plan X) → ((x : X) → Always (f x) P) → Always (p >>= f) P
Always-after P f p more = Always-then Anything P f p (Always-anything p) (λ x known. more x)

-- ---- bytes of a text

-- a text of bytes that a string can give is one of a database
is_file_text-bytes : (t : List ℕ) → list_all is_byte t ≡ true → list_all is_kept_byte t ≡ true → list_all is_file_byte t ≡ true
is_file_text-bytes [] of_bytes kept = refl
is_file_text-bytes (b ∷ t) of_bytes kept =
    let byte = and_parts (is_byte b) (list_all is_byte t) of_bytes in
    let one = and_parts (is_kept_byte b) (list_all is_kept_byte t) kept in
    and_from _ _ (and_from _ _ byte.0 one.0) (is_file_text-bytes t byte.1 one.1)

-- what follows some bytes are bytes
AreBytes-drop : (n : ℕ) (bytes : List ℕ) → AreBytes bytes → AreBytes (drop n bytes)
AreBytes-drop zero bytes h = h
AreBytes-drop (suc n) [] h = refl
AreBytes-drop (suc n) (b ∷ bytes) h = AreBytes-drop n bytes (and_parts (is_byte b) (list_all is_byte bytes) h).1

-- what is known of the bytes in numbers and strings
pub record ByteLaws : Type 0 where
  pub string_is_text : StringIsText
  pub number_leaves_bytes : NumberLeavesBytes
  pub string_leaves_bytes : StringLeavesBytes

module _ (laws : ByteLaws) where
  token_fits : (s after : Input) (t : Token) → AreBytes s.rest → TokenTo s t after → Fits t
  token_fits s after (token.Number z) all h = tt
  token_fits s after (token.Quoted text) all h =
      let left = laws.string_leaves_bytes text s.rest after.rest h.0.1 all in
      let kept = and_parts (leb (length text) 4096) (list_all is_kept_byte text) (laws.string_is_text text s.rest after.rest h.0.1) in
      and_from _ _ kept.0 (is_file_text-bytes text left.0 kept.1)
  token_fits s after (token.Word w) all h = tt
  token_fits s after (token.Mark b) all h = tt
  token_fits s after token.End all h = tt

  token_leaves : (s after : Input) (t : Token) → AreBytes s.rest → TokenTo s t after → AreBytes after.rest
  token_leaves s after (token.Number z) all h = laws.number_leaves_bytes z s.rest after.rest h.0.1 all
  token_leaves s after (token.Quoted text) all h = (laws.string_leaves_bytes text s.rest after.rest h.0.1 all).1
  token_leaves s after (token.Word w) all h =
      subst (λ (b : List ℕ). AreBytes b) (sym h.0.3) (AreBytes-drop (word_size s.rest) s.rest all)
  token_leaves s after (token.Mark b) all h = subst (λ (b : List ℕ). AreBytes b) (sym h.0.2) (AreBytes-drop 1 s.rest all)
  token_leaves s after token.End all h = subst (λ (b : List ℕ). AreBytes b) (sym h.0.1) all

  -- what holds always holds of what bytes spell
  pub always : {X : Type 0} (P : X → Type 0) (p : Plan X) (x : X) (s after : Input) → Always p P → Spelled p x s after → AreBytes s.rest → P x
  always P (done y) x s after h spelled all = subst P spelled.0 h
  always P (refuse at) x s after h spelled all = absurd spelled
  always P (next more) x s after h spelled all =
      let past = AreBytes-drop (gap false s.rest) s.rest all in
      let fits = token_fits (past_gap s) spelled.1 spelled.0 past spelled.2 in
      always P (more (past_gap s).at spelled.0) x spelled.1 after (h (past_gap s).at spelled.0 fits) spelled.3
      (token_leaves (past_gap s) spelled.1 spelled.0 past spelled.2)
