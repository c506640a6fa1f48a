-- Tokens are read exactly where they are spelled, and refused exactly where a fault of theirs
-- stands.
use Rattle.std.proofs.Common.{◌≡◌, ℕ, ◌+◌, ◌≤◌, ◌<◌, Bool, true, false, cond, leb, List, [], ◌∷◌, take, drop, length, ℤ, Result, Ok, Err, refl, sym, ap, subst, ◌∙◌, arith, length-drop}
use Rattle.std.proofs.lemmas.Bool.Decides.{nat_tests}
use Rattle.std.proofs.lemmas.List.Sums.{prefix_len-le-length}
use Rattle.adv_text.specs.Spelling.{BigNumber, NoNumber, NoString, Opened, Unclosed, Overlong}
use Rattle.adv_text.specs.Spelling.{here as at_front}
use Rattle.adv_text.specs.Reading.{Input, input, SameEnd, number_at, quoted_at}
use Rattle.adv_text.specs.Reading.{Fault as OwnFault}
use Rattle.adv_text.specs.Reading.{no_number as none_own, big_number as big_own, no_quote as no_quote_own, open_string as open_own, long_string as long_own}
use Rattle.adv_text.specs.Laws.{NumberIsSpelled, SpelledNumberIsRead, NumberFaultIsExact, StringIsSpelled, SpelledStringIsRead, StringFaultIsExact, NumberEnds, StringEnds, NumberFault, StringFault}
use Rattle.source_reader.specs.declared.tokens.Token.{Token}
use Rattle.source_reader.specs.declared.tokens.Token.TheVariants as token
use Rattle.source_reader.specs.Faults.{Fault, unexpected, big_number, open_string, long_string, long_name}
use Rattle.source_reader.specs.Tokens.{Kind, nothing, digits, quote, letter, other, kind_of, word_size, TokenTo, TokenFault, number_token, string_fault, quoted_token, token_of, token_at}
use Rattle.source_reader.specs.Laws.{TokenIsExact, TokenFaultIsExact}
use Rattle.source_reader.proofs.FirstBytes.{at_number, at_quote, number_stands, string_stands}

-- what is known of numbers and strings
pub record TextLaws : Type 0 where
  pub number_is_spelled : NumberIsSpelled
  pub spelled_number_is_read : SpelledNumberIsRead
  pub number_fault_is_exact : NumberFaultIsExact
  pub number_ends : NumberEnds
  pub string_is_spelled : StringIsSpelled
  pub spelled_string_is_read : SpelledStringIsRead
  pub string_fault_is_exact : StringFaultIsExact
  pub string_ends : StringEnds

abbrev pub read : Token → Input → Result (Token × Input) Fault
read t after = Ok (t, after)

abbrev pub refused : Fault → Result (Token × Input) Fault
refused fault = Err fault

one_refusal : (f g : Fault) → refused f ≡ refused g → f ≡ g
one_refusal f g e = cc

-- an input is known by its rest and the end
pub same_spot : (s a b : Input) → a.rest ≡ b.rest → SameEnd s a → SameEnd s b → a ≡ b
same_spot s a b rest ends_a ends_b =
    let sizes : length a.rest ≡ length b.rest = ap length rest in
    let at : a.at ≡ b.at = omega (arith, sizes, ends_a, ends_b) in
    λ i. record { at = at i; rest = rest i }

-- what is read is spelled, where the same is spelled
moved : (s : Input) (t u : Token) (a b : Input) → read t a ≡ read u b → TokenTo s t a → TokenTo s u b
moved s t u a b e h = let same : (t, a) ≡ (u, b) = cc in subst (λ (x : Token × Input). TokenTo s x.0 x.1) same h

some_byte : (bytes : List ℕ) → kind_of bytes ≡ other → 1 ≤ length bytes
some_byte [] e = absurd (cc)
some_byte (b ∷ bytes) e = omega arith

mark_ends : (s : Input) → kind_of s.rest ≡ other → SameEnd s (input (s.at + 1) (drop 1 s.rest))
mark_ends s e = let some : 1 ≤ length s.rest = some_byte s.rest e in omega (arith, length-drop 1 s.rest)

word_ends : (s : Input) → SameEnd s (input (s.at + word_size s.rest) (drop (word_size s.rest) s.rest))
word_ends s = let few : word_size s.rest ≤ length s.rest = prefix_len-le-length _ s.rest in omega (arith, length-drop (word_size s.rest) s.rest)

-- ---- words

word_read : (s after : Input) (t : Token) (fits : Bool) → leb (word_size s.rest) 32 ≡ fits → kind_of s.rest ≡ letter
    → cond fits (read (token.Word (take (word_size s.rest) s.rest)) (input (s.at + word_size s.rest) (drop (word_size s.rest) s.rest))) (refused (long_name s.at)) ≡ read t after
    → TokenTo s t after
word_read s after t true is e h =
    let small : word_size s.rest ≤ 32 = grind (arith, nat_tests, is) in moved s _ t _ after h ((e, small, refl, refl), word_ends s)
word_read s after t false is e h = absurd (cc)

word_refused : (s : Input) (fault : Fault) (fits : Bool) → leb (word_size s.rest) 32 ≡ fits → kind_of s.rest ≡ letter
    → cond fits (read (token.Word (take (word_size s.rest) s.rest)) (input (s.at + word_size s.rest) (drop (word_size s.rest) s.rest))) (refused (long_name s.at)) ≡ refused fault
    → TokenFault s fault
word_refused s fault true is e h = absurd (cc)
word_refused s fault false is e h =
    let long : 32 < word_size s.rest = grind (arith, nat_tests, is) in
    let same : long_name s.at ≡ fault = one_refusal (long_name s.at) fault h in
    subst (λ (f : Fault). TokenFault s f) same (e, long, refl)

module _ (laws : TextLaws) where
  -- ---- numbers and strings that are spelled up to an input are read up to it

  number_to : (s after : Input) (z : ℤ) → TokenTo s (token.Number z) after → number_at s ≡ Ok (z, after)
  number_to s after z to =
      let r = laws.spelled_number_is_read s z after.rest to.0.1 in
      r.2 ∙ ap (λ (a : Input). Ok (z, a)) (same_spot s r.0 after r.1 (laws.number_ends s r.0 z r.2) to.1)

  string_to : (s after : Input) (text : List ℕ) → TokenTo s (token.Quoted text) after → quoted_at s ≡ Ok (text, after)
  string_to s after text to =
      let r = laws.spelled_string_is_read s text after.rest to.0.1 in
      r.2 ∙ ap (λ (a : Input). Ok (text, a)) (same_spot s r.0 after r.1 (laws.string_ends s r.0 text r.2) to.1)

  -- ---- what is read is spelled

  number_read : (s after : Input) (t : Token) (r : Result (ℤ × Input) OwnFault) → number_at s ≡ r → kind_of s.rest ≡ digits
      → number_token s.at r ≡ read t after → TokenTo s t after
  number_read s after t (Ok x) is e h =
      moved s (token.Number x.0) t x.1 after h ((e, laws.number_is_spelled s x.1 x.0 is), laws.number_ends s x.1 x.0 is)
  number_read s after t (Err own) is e h = absurd (cc)

  string_read : (s after : Input) (t : Token) (r : Result (List ℕ × Input) OwnFault) → quoted_at s ≡ r → kind_of s.rest ≡ quote
      → quoted_token s.at r ≡ read t after → TokenTo s t after
  string_read s after t (Ok x) is e h =
      moved s (token.Quoted x.0) t x.1 after h ((e, laws.string_is_spelled s x.1 x.0 is), laws.string_ends s x.1 x.0 is)
  string_read s after t (Err own) is e h = absurd (cc)

  read_spelled : (k : Kind) (s after : Input) (t : Token) → kind_of s.rest ≡ k → token_of k s ≡ read t after → TokenTo s t after
  read_spelled nothing s after t e h = moved s token.End t s after h ((e, refl), refl)
  read_spelled digits s after t e h = number_read s after t (number_at s) refl e h
  read_spelled quote s after t e h = string_read s after t (quoted_at s) refl e h
  read_spelled letter s after t e h = word_read s after t (leb (word_size s.rest) 32) refl e h
  read_spelled other s after t e h = moved s _ t _ after h ((e, refl, refl), mark_ends s e)

  -- ---- what is spelled is read

  -- a token that is spelled up to an input is read up to it
  spelled_read : (s after : Input) (t : Token) → TokenTo s t after → token_at s ≡ read t after
  unfolding token_at
  spelled_read s after (token.Number z) h =
      ap (λ (k : Kind). token_of k s) h.0.0 ∙ ap (λ (r : Result (ℤ × Input) OwnFault). number_token s.at r) (number_to s after z h)
  spelled_read s after (token.Quoted text) h =
      ap (λ (k : Kind). token_of k s) h.0.0 ∙ ap (λ (r : Result (List ℕ × Input) OwnFault). quoted_token s.at r) (string_to s after text h)
  spelled_read s after (token.Word w) h =
      let size = word_size s.rest in
      let fits : leb size 32 ≡ true = grind (arith, nat_tests, h.0.1) in
      let end = same_spot s (input (s.at + size) (drop size s.rest)) after (sym h.0.3) (word_ends s) h.1 in
      ap (λ (k : Kind). token_of k s) h.0.0
      ∙ ap (λ (b : Bool). cond b (read (token.Word (take size s.rest)) (input (s.at + size) (drop size s.rest))) (refused (long_name s.at))) fits
      ∙ ap (λ (word : List ℕ). read (token.Word word) (input (s.at + size) (drop size s.rest))) (sym h.0.2)
      ∙ ap (λ (a : Input). read (token.Word w) a) end
  spelled_read s after (token.Mark b) h =
      let end = same_spot s (input (s.at + 1) (drop 1 s.rest)) after (sym h.0.2) (mark_ends s h.0.0) h.1 in
      ap (λ (k : Kind). token_of k s) h.0.0
      ∙ ap (λ (c : ℕ). read (token.Mark c) (input (s.at + 1) (drop 1 s.rest))) (sym h.0.1)
      ∙ ap (λ (a : Input). read (token.Mark b) a) end
  spelled_read s after token.End h =
      ap (λ (k : Kind). token_of k s) h.0.0 ∙ ap (λ (a : Input). read token.End a) (same_spot s s after (sym h.0.1) refl h.1)

  -- ---- a fault that is answered stands

  big : (s : Input) (own : OwnFault) → kind_of s.rest ≡ digits → NumberFault s own → BigNumber s.rest
  big s (none_own place) e h = absurd (number_stands s.rest e (at_number NoNumber h.0 s.rest e h.1).1)
  big s (big_own place) e h = (at_number BigNumber h.0 s.rest e h.1).1
  big s (no_quote_own place) e h = absurd h
  big s (open_own place) e h = absurd h
  big s (long_own place) e h = absurd h

  number_refused : (s : Input) (fault : Fault) (r : Result (ℤ × Input) OwnFault) → number_at s ≡ r → kind_of s.rest ≡ digits
      → number_token s.at r ≡ refused fault → TokenFault s fault
  number_refused s fault (Ok x) is e h = absurd (cc)
  number_refused s fault (Err own) is e h =
      let same : big_number s.at ≡ fault = one_refusal (big_number s.at) fault h in
      subst (λ (f : Fault). TokenFault s f) same (e, big s own e ((laws.number_fault_is_exact s own).0 is), refl)

  string_stops : (s : Input) (own : OwnFault) → kind_of s.rest ≡ quote → StringFault s own → TokenFault s (string_fault s.at own)
  string_stops s (none_own place) e h = absurd h
  string_stops s (big_own place) e h = absurd h
  string_stops s (no_quote_own place) e h = absurd (string_stands s.rest e (at_quote NoString h.0 s.rest e h.1).1)
  string_stops s (open_own place) e h = (e, (at_quote (Opened Unclosed) h.0 s.rest e h.1).1, refl)
  string_stops s (long_own place) e h = (e, (at_quote (Opened Overlong) h.0 s.rest e h.1).1, refl)

  string_refused : (s : Input) (fault : Fault) (r : Result (List ℕ × Input) OwnFault) → quoted_at s ≡ r → kind_of s.rest ≡ quote
      → quoted_token s.at r ≡ refused fault → TokenFault s fault
  string_refused s fault (Ok x) is e h = absurd (cc)
  string_refused s fault (Err own) is e h =
      let same : string_fault s.at own ≡ fault = one_refusal (string_fault s.at own) fault h in
      subst (λ (f : Fault). TokenFault s f) same (string_stops s own e ((laws.string_fault_is_exact s own).0 is))

  refused_stands : (k : Kind) (s : Input) (fault : Fault) → kind_of s.rest ≡ k → token_of k s ≡ refused fault → TokenFault s fault
  refused_stands nothing s fault e h = absurd (cc)
  refused_stands digits s fault e h = number_refused s fault (number_at s) refl e h
  refused_stands quote s fault e h = string_refused s fault (quoted_at s) refl e h
  refused_stands letter s fault e h = word_refused s fault (leb (word_size s.rest) 32) refl e h
  refused_stands other s fault e h = absurd (cc)

  -- ---- a fault that stands is answered

  -- a fault of a token that stands at an input is answered there
  stands_refused : (s : Input) (fault : Fault) → TokenFault s fault → token_at s ≡ refused fault
  unfolding token_at
  stands_refused s (unexpected place) h = absurd h
  stands_refused s (big_number place) h =
      let r = (laws.number_fault_is_exact s (big_own (s.at + 0))).1 (0, at_front h.1, refl) in
      ap (λ (k : Kind). token_of k s) h.0 ∙ ap (λ (x : Result (ℤ × Input) OwnFault). number_token s.at x) r
      ∙ ap (λ (p : ℕ). refused (big_number p)) (sym h.2)
  stands_refused s (open_string place) h =
      let r = (laws.string_fault_is_exact s (open_own (s.at + 0))).1 (0, at_front h.1, refl) in
      ap (λ (k : Kind). token_of k s) h.0 ∙ ap (λ (x : Result (List ℕ × Input) OwnFault). quoted_token s.at x) r
      ∙ ap (λ (p : ℕ). refused (open_string p)) (sym h.2)
  stands_refused s (long_string place) h =
      let r = (laws.string_fault_is_exact s (long_own (s.at + 0))).1 (0, at_front h.1, refl) in
      ap (λ (k : Kind). token_of k s) h.0 ∙ ap (λ (x : Result (List ℕ × Input) OwnFault). quoted_token s.at x) r
      ∙ ap (λ (p : ℕ). refused (long_string p)) (sym h.2)
  stands_refused s (long_name place) h =
      let size = word_size s.rest in
      let long : leb size 32 ≡ false = grind (arith, nat_tests, h.1) in
      ap (λ (k : Kind). token_of k s) h.0
      ∙ ap (λ (b : Bool). cond b (read (token.Word (take size s.rest)) (input (s.at + size) (drop size s.rest))) (refused (long_name s.at))) long
      ∙ ap (λ (p : ℕ). refused (long_name p)) (sym h.2)

  -- ---- the laws

  pub token_is_exact : TokenIsExact
  unfolding token_at
  token_is_exact s after t = (read_spelled (kind_of s.rest) s after t refl, spelled_read s after t)

  pub token_fault_is_exact : TokenFaultIsExact
  unfolding token_at
  token_fault_is_exact s fault = (refused_stands (kind_of s.rest) s fault refl, stands_refused s fault)
