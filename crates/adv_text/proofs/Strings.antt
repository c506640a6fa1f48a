-- A string is read exactly where one is spelled.
use Rattle.std.proofs.Common.{◌≡◌, ℕ, ◌+◌, ◌≤◌, ◌<◌, Bool, true, false, cond, ◌||◌, eqb, ltb, ◌⊎◌, inl, inr, List, [], ◌∷◌, ◌++◌, length, Result, Ok, Err, refl, sym, ap, subst, ◌∙◌, append_assoc, arith}
use Rattle.std.proofs.lemmas.Bool.{eqb-true, ltb-true, ltb-false, lt-ltb, or_from, or_parts, not-true, not_from_false}
use Rattle.std.proofs.lemmas.List.{length_push, append-nil, length-append}
use Rattle.adv_io.specs.Text.{is_whitespace}
use Rattle.adv_text.specs.Spelling.{is_plain, Inside, here, plain, two_quotes, grave, return, NoQuote, Opened, Closes, Quoted, NoString, Unclosed, Overlong}
use Rattle.adv_text.specs.Reading.{Input, input, Fault, no_number, big_number, no_quote, open_string, long_string, past_whitespace, keep, inside_at, opening_at, quoted_at}
use Rattle.adv_text.specs.Laws.{StringIsSpelled, SpelledStringIsRead, StringFault, StringFaultIsExact}
use Rattle.adv_text.proofs.Whitespace.{Skipped, skipped, found, NoWhitespace, NoWhitespace-past_whitespace}

-- ---- what is read is so spelled

-- a quote that is held stands before the bytes
abbrev after_held : Bool → List ℕ → List ℕ
after_held true bytes = 34 ∷ bytes
after_held false bytes = bytes

-- what reading inside a string tells, where some of its text is kept already
abbrev InsideTells : ℕ → Bool → List ℕ → List ℕ → Result (List ℕ × Input) Fault → Type 0
InsideTells opened held kept bytes (Ok x) = (more : List ℕ) × (x.0 ≡ kept ++ more) × (length x.0 ≤ 4096) × Inside more (after_held held bytes) (34 ∷ x.1.rest) × NoQuote x.1.rest
InsideTells opened held kept bytes (Err fault) =
    ((fault ≡ open_string opened) × (more : List ℕ) × (length (kept ++ more) ≤ 4096) × Inside more (after_held held bytes) [])
    ⊎ ((fault ≡ long_string opened) × (more rest : List ℕ) × (length (kept ++ more) ≡ 4097) × Inside more (after_held held bytes) rest)

-- the bytes of a piece are kept as one byte more
abbrev KeepsOne : Bool → List ℕ → List ℕ → ℕ → Type 0
KeepsOne held piece bytes b = (text rest : List ℕ) → Inside text bytes rest → Inside (b ∷ text) (after_held held piece) rest

tell_kept : (opened : ℕ) (held : Bool) (kept piece bytes : List ℕ) (b : ℕ) (r : Result (List ℕ × Input) Fault) → KeepsOne held piece bytes b
    → InsideTells opened false (kept ++ b ∷ []) bytes r → InsideTells opened held kept piece r
tell_kept opened held kept piece bytes b (Ok x) step h = (b ∷ h.0, h.1 ∙ append_assoc kept (b ∷ []) h.0, h.2, step h.0 (34 ∷ x.1.rest) h.3, h.4)
tell_kept opened held kept piece bytes b (Err fault) step (inl h) =
    inl (h.0, b ∷ h.1, subst (λ (t : List ℕ). length t ≤ 4096) (append_assoc kept (b ∷ []) h.1) h.2, step h.1 [] h.3)
tell_kept opened held kept piece bytes b (Err fault) step (inr h) =
    inr (h.0, b ∷ h.1, h.2, subst (λ (t : List ℕ). length t ≡ 4097) (append_assoc kept (b ∷ []) h.1) h.3, step h.1 h.2 h.4)

-- a byte is kept, or it is the 4,097th
tell_keep : (opened : ℕ) (held : Bool) (kept piece bytes : List ℕ) (b : ℕ) (go_on : List ℕ → Result (List ℕ × Input) Fault) (t : Bool)
    → ltb (length kept) 4096 ≡ t → length kept ≤ 4096 → KeepsOne held piece bytes b
    → ((more : List ℕ) → length more ≤ 4096 → InsideTells opened false more bytes (go_on more))
    → InsideTells opened held kept piece (cond t (go_on (kept ++ b ∷ [])) (Err (long_string opened)))
tell_keep opened held kept piece bytes b go_on true t short step more =
    let less : length (kept ++ b ∷ []) ≤ 4096 = omega (arith, ltb-true _ _ t, length_push kept b) in
    tell_kept opened held kept piece bytes b (go_on (kept ++ b ∷ [])) step (more (kept ++ b ∷ []) less)
tell_keep opened held kept piece bytes b go_on false t short step more =
    inr (refl, b ∷ [], bytes, omega (arith, ltb-false _ _ t, length_push kept b), step [] bytes here)

-- the same bytes after it, with one less before
tell_moved : (opened : ℕ) (was held : Bool) (kept piece bytes : List ℕ) (r : Result (List ℕ × Input) Fault)
    → ((text rest : List ℕ) → Inside text (after_held held bytes) rest → Inside text (after_held was piece) rest)
    → InsideTells opened held kept bytes r → InsideTells opened was kept piece r
tell_moved opened was held kept piece bytes (Ok x) step h = (h.0, h.1, h.2, step h.0 (34 ∷ x.1.rest) h.3, h.4)
tell_moved opened was held kept piece bytes (Err fault) step (inl h) = inl (h.0, h.1, h.2, step h.1 [] h.3)
tell_moved opened was held kept piece bytes (Err fault) step (inr h) = inr (h.0, h.1, h.2, h.3, step h.1 h.2 h.4)

module _ (opened at : ℕ) (kept bytes : List ℕ) (short : length kept ≤ 4096)
    (more : (held : Bool) (kept : List ℕ) → length kept ≤ 4096 → InsideTells opened held kept bytes (inside_at opened held kept (at + 1) bytes)) where
  -- a byte that keeps one more
  keeps : (held : Bool) (b kept_byte : ℕ) → KeepsOne held (b ∷ bytes) bytes kept_byte
      → InsideTells opened held kept (b ∷ bytes) (keep opened kept kept_byte (λ k. inside_at opened false k (at + 1) bytes))
  keeps held b kept_byte step =
      tell_keep opened held kept (b ∷ bytes) bytes kept_byte (λ k. inside_at opened false k (at + 1) bytes) (ltb (length kept) 4096) refl short step
      (λ k less. more false k less)

  -- whatever byte comes next inside a string, what is read is spelled so, or its fault stands
  byte_tells : (b : ℕ) (held q r g : Bool) → eqb b 34 ≡ q → eqb b 13 ≡ r → eqb b 96 ≡ g
      → InsideTells opened held kept (b ∷ bytes)
      (cond q (cond held (keep opened kept 34 (λ k. inside_at opened false k (at + 1) bytes)) (inside_at opened true kept (at + 1) bytes))
      (cond held (Ok (kept, input at (b ∷ bytes)))
      (cond r (inside_at opened false kept (at + 1) bytes) (keep opened kept (cond g 34 b) (λ k. inside_at opened false k (at + 1) bytes)))))
  byte_tells b true true r g q-is r-is g-is =
      keeps true b 34 (λ text rest h. subst (λ (c : ℕ). Inside (34 ∷ text) (34 ∷ c ∷ bytes) rest) (sym (eqb-true b 34 q-is)) (two_quotes h))
  byte_tells b false true r g q-is r-is g-is =
      tell_moved opened false true kept (b ∷ bytes) bytes (inside_at opened true kept (at + 1) bytes)
      (λ text rest h. subst (λ (c : ℕ). Inside text (c ∷ bytes) rest) (sym (eqb-true b 34 q-is)) h) (more true kept short)
  byte_tells b true false r g q-is r-is g-is = ([], sym (append-nil kept), short, here, q-is)
  byte_tells b false false true g q-is r-is g-is =
      tell_moved opened false false kept (b ∷ bytes) bytes (inside_at opened false kept (at + 1) bytes)
      (λ text rest h. subst (λ (c : ℕ). Inside text (c ∷ bytes) rest) (sym (eqb-true b 13 r-is)) (return h)) (more false kept short)
  byte_tells b false false false true q-is r-is g-is =
      keeps false b 34 (λ text rest h. subst (λ (c : ℕ). Inside (34 ∷ text) (c ∷ bytes) rest) (sym (eqb-true b 96 g-is)) (grave h))
  byte_tells b false false false false q-is r-is g-is =
      keeps false b b (λ text rest h. plain (not_from_false _ (or_from _ _ q-is (or_from _ _ r-is g-is))) h)

inside_tells : (opened : ℕ) (held : Bool) (kept : List ℕ) (at : ℕ) (bytes : List ℕ) → length kept ≤ 4096
    → InsideTells opened held kept bytes (inside_at opened held kept at bytes)
inside_tells opened true kept at [] short = ([], sym (append-nil kept), short, here, tt)
inside_tells opened false kept at [] short = inl (refl, [], rw append-nil short, here)
inside_tells opened held kept at (b ∷ bytes) short =
    byte_tells opened at kept bytes short (λ h k less. inside_tells opened h k (at + 1) bytes less) b held (eqb b 34) (eqb b 13) (eqb b 96) refl refl refl

-- what reading a string without whitespace says of the bytes
abbrev BytesTell : ℕ → List ℕ → Result (List ℕ × Input) Fault → Type 0
BytesTell start bytes (Ok x) = Opened (Closes x.0 x.1.rest) bytes
BytesTell start bytes (Err fault) =
    ((fault ≡ no_quote start) × NoString bytes) ⊎ (((fault ≡ open_string start) × Opened Unclosed bytes) ⊎ ((fault ≡ long_string start) × Opened Overlong bytes))

tell_opening : (start b : ℕ) (bytes : List ℕ) (r : Result (List ℕ × Input) Fault) (q : Bool) → eqb b 34 ≡ q → is_whitespace b ≡ false
    → InsideTells start false [] bytes r → BytesTell start (b ∷ bytes) (cond q r (Err (no_quote start)))
tell_opening start b bytes (Ok x) true e first h =
    (e, record { inside = subst (λ (t : List ℕ). Inside t bytes (34 ∷ x.1.rest)) (sym h.1) h.3; closed = h.4; short = h.2 })
tell_opening start b bytes (Err fault) true e first (inl h) = inr (inl (h.0, (e, record { text = h.1; inside = h.3; short = h.2 })))
tell_opening start b bytes (Err fault) true e first (inr h) = inr (inr (h.0, (e, record { text = h.1; rest = h.2; inside = h.4; long = h.3 })))
tell_opening start b bytes r false e first h = inl (refl, (first, e))

bytes_tell : (at : ℕ) (bytes : List ℕ) → NoWhitespace bytes → BytesTell at bytes (opening_at at bytes)
bytes_tell at [] first = inl (refl, tt)
bytes_tell at (b ∷ bytes) first =
    tell_opening at b bytes (inside_at at false [] (at + 1) bytes) (eqb b 34) refl first (inside_tells at false [] (at + 1) bytes (omega arith))

-- what reading gives: a spelling, or a fault with its place
abbrev StringTells : Input → Result (List ℕ × Input) Fault → Type 0
StringTells s (Ok x) = Quoted x.0 s.rest x.1.rest
StringTells s (Err fault) = StringFault s fault

tell_after : (s start : Input) (r : Result (List ℕ × Input) Fault) → ((P : List ℕ → Type 0) → Skipped P s.at s.rest start)
    → BytesTell start.at start.rest r → StringTells s r
tell_after s start (Ok x) whitespace h = let k = whitespace (Opened (Closes x.0 x.1.rest)) in (k.count, k.after h)
tell_after s start (Err fault) whitespace (inl h) =
    let k = whitespace NoString in subst (λ (f : Fault). StringFault s f) (sym h.0) (k.count, k.after h.1, k.place)
tell_after s start (Err fault) whitespace (inr (inl h)) =
    let k = whitespace (Opened Unclosed) in subst (λ (f : Fault). StringFault s f) (sym h.0) (k.count, k.after h.1, k.place)
tell_after s start (Err fault) whitespace (inr (inr h)) =
    let k = whitespace (Opened Overlong) in subst (λ (f : Fault). StringFault s f) (sym h.0) (k.count, k.after h.1, k.place)

string_tells : (s : Input) → StringTells s (quoted_at s)
unfolding quoted_at
string_tells s =
    let start = past_whitespace s.at s.rest in
    tell_after s start (opening_at start.at start.rest) (λ P. skipped P s.at s.rest) (bytes_tell start.at start.rest (NoWhitespace-past_whitespace s.at s.rest))

pub string_is_spelled : StringIsSpelled
string_is_spelled s after text e = subst (λ (r : Result (List ℕ × Input) Fault). StringTells s r) e (string_tells s)

-- ---- what is so spelled is read

kept_more : (kept text : List ℕ) (b n : ℕ) → length (kept ++ b ∷ text) ≤ n → length ((kept ++ b ∷ []) ++ text) ≤ n
kept_more kept text b n h = rw append_assoc h

-- reading goes through the inside of a string
abbrev GoesOn : ℕ → List ℕ → ℕ → List ℕ → List ℕ → List ℕ → Type 0
GoesOn opened kept at bytes text rest = (later : ℕ) × (inside_at opened false kept at bytes ≡ inside_at opened false (kept ++ text) later rest)

-- a byte is kept where there is room
keeps_byte : (opened : ℕ) (kept : List ℕ) (b : ℕ) (go_on : List ℕ → Result (List ℕ × Input) Fault) → length kept < 4096
    → keep opened kept b go_on ≡ go_on (kept ++ b ∷ [])
keeps_byte opened kept b go_on room = rw (lt-ltb _ _ room) refl

-- a reading gives this text, and leaves this rest
abbrev Reads : List ℕ → List ℕ → Result (List ℕ × Input) Fault → Type 0
Reads text rest r = (after : Input) × (after.rest ≡ rest) × (r ≡ Ok (text, after))

module _ (opened : ℕ) where
  -- what is kept of a plain byte, and what isn't
  pub plain_byte : (kept : List ℕ) (at b : ℕ) (bytes : List ℕ) → is_plain b ≡ true
      → inside_at opened false kept at (b ∷ bytes) ≡ keep opened kept b (λ k. inside_at opened false k (at + 1) bytes)
  plain_byte kept at b bytes e =
      let no_quote_or = or_parts (eqb b 34) (eqb b 13 || eqb b 96) (not-true _ e) in
      let others = or_parts (eqb b 13) (eqb b 96) no_quote_or.1 in
      rw (no_quote_or.0, others.0, others.1) refl

  -- the byte that is kept, and the text after it
  one_more : (kept : List ℕ) (at after b : ℕ) (bytes piece text rest : List ℕ) → length (kept ++ b ∷ text) ≤ 4096
      → inside_at opened false kept at piece ≡ keep opened kept b (λ k. inside_at opened false k after bytes)
      → GoesOn opened (kept ++ b ∷ []) after bytes text rest → GoesOn opened kept at piece (b ∷ text) rest
  one_more kept at after b bytes piece text rest fits e h =
      let room : length kept < 4096 = omega (arith, length-append kept (b ∷ text), fits) in (
        h.0,
        e ∙ keeps_byte opened kept b (λ k. inside_at opened false k after bytes) room ∙ h.1
            ∙ ap (λ (k : List ℕ). inside_at opened false k h.0 rest) (append_assoc kept (b ∷ []) text),
      )

  -- bytes that spell a text inside a string are kept as that text, while it has at most 4,096 bytes
  goes_on : {text bytes rest : List ℕ} → Inside text bytes rest → (kept : List ℕ) (at : ℕ) → length (kept ++ text) ≤ 4096 → GoesOn opened kept at bytes text rest
  goes_on (here {rest = rest}) kept at fits = (at, ap (λ (k : List ℕ). inside_at opened false k at rest) (sym (append-nil kept)))
  goes_on (plain {b = b} {text = text} {bytes = bytes} {rest = rest} e h) kept at fits =
      one_more kept at (at + 1) b bytes (b ∷ bytes) text rest fits (plain_byte kept at b bytes e)
      (goes_on h (kept ++ b ∷ []) (at + 1) (kept_more kept text b 4096 fits))
  goes_on (two_quotes {text = text} {bytes = bytes} {rest = rest} h) kept at fits =
      one_more kept at ((at + 1) + 1) 34 bytes (34 ∷ 34 ∷ bytes) text rest fits refl
      (goes_on h (kept ++ 34 ∷ []) ((at + 1) + 1) (kept_more kept text 34 4096 fits))
  goes_on (grave {text = text} {bytes = bytes} {rest = rest} h) kept at fits =
      one_more kept at (at + 1) 34 bytes (96 ∷ bytes) text rest fits refl
      (goes_on h (kept ++ 34 ∷ []) (at + 1) (kept_more kept text 34 4096 fits))
  goes_on (return h) kept at fits = goes_on h kept (at + 1) fits

  -- a byte is kept, or it is the one too many
  too_many : (kept : List ℕ) (b : ℕ) (go_on : List ℕ → Result (List ℕ × Input) Fault) (t : Bool) → ltb (length kept) 4096 ≡ t
      → (length (kept ++ b ∷ []) ≤ 4096 → go_on (kept ++ b ∷ []) ≡ Err (long_string opened)) → keep opened kept b go_on ≡ Err (long_string opened)
  too_many kept b go_on true e more = keeps_byte opened kept b go_on (ltb-true _ _ e) ∙ more (omega (arith, ltb-true _ _ e, length_push kept b))
  too_many kept b go_on false e more = rw e refl

  -- bytes that spell more than 4,096 bytes inside a string are answered as one that is too long
  grows_long : {text bytes rest : List ℕ} → Inside text bytes rest → (kept : List ℕ) (at : ℕ) → length kept ≤ 4096 → 4096 < length (kept ++ text)
      → inside_at opened false kept at bytes ≡ Err (long_string opened)
  grows_long here kept at short long = let e = ap length (append-nil kept) in absurd (omega (arith, e))
  grows_long (plain {b = b} {text = text} {bytes = bytes} e h) kept at short long =
      plain_byte kept at b bytes e ∙ too_many kept b (λ k. inside_at opened false k (at + 1) bytes) _ refl
      (λ less. grows_long h (kept ++ b ∷ []) (at + 1) less (rw append_assoc long))
  grows_long (two_quotes {text = text} {bytes = bytes} h) kept at short long =
      too_many kept 34 (λ k. inside_at opened false k ((at + 1) + 1) bytes) _ refl
      (λ less. grows_long h (kept ++ 34 ∷ []) ((at + 1) + 1) less (rw append_assoc long))
  grows_long (grave {text = text} {bytes = bytes} h) kept at short long =
      too_many kept 34 (λ k. inside_at opened false k (at + 1) bytes) _ refl
      (λ less. grows_long h (kept ++ 34 ∷ []) (at + 1) less (rw append_assoc long))
  grows_long (return h) kept at short long = grows_long h kept (at + 1) short long

  closes : (kept : List ℕ) (at : ℕ) (rest : List ℕ) → NoQuote rest
      → Reads kept rest (inside_at opened false kept at (34 ∷ rest))
  closes kept at [] h = (input (at + 1) [], refl, refl)
  closes kept at (b ∷ rest) h = (input (at + 1) (b ∷ rest), refl, rw h refl)

-- after an opening quote reading goes on inside
opens : (P : List ℕ → Type 0) (at : ℕ) (bytes : List ℕ) → Opened P bytes
    → (inside : List ℕ) × P inside × (opening_at at bytes ≡ inside_at at false [] (at + 1) inside)
opens P at [] h = absurd h
opens P at (b ∷ bytes) h = (bytes, h.1, rw h.0 refl)

-- no whitespace stands where a string opens
NoWhitespace-opened : (P : List ℕ → Type 0) (b : ℕ) (bytes : List ℕ) → Opened P (b ∷ bytes) → is_whitespace b ≡ false
NoWhitespace-opened P b bytes h = subst (λ (c : ℕ). is_whitespace c ≡ false) (sym (eqb-true b 34 h.0)) refl

-- what is read from the first byte after the whitespace on
abbrev from_whitespace : Input → Result (List ℕ × Input) Fault
from_whitespace start = opening_at start.at start.rest

pub spelled_string_is_read : SpelledStringIsRead
unfolding quoted_at
spelled_string_is_read s text rest h =
    let P : List ℕ → Type 0 = Closes text rest in
    let f = found (Opened P) (NoWhitespace-opened P) s.at h.1 in
    let place = s.at + h.0 in
    let o = opens P place f.0 f.1 in
    let through = goes_on place o.1.inside [] (place + 1) o.1.short in
    let end = closes place text through.0 rest o.1.closed in
    subst (λ (start : Input). Reads text rest (from_whitespace start)) (sym f.2) (end.0, end.1, o.2 ∙ through.1 ∙ end.2)

-- a fault that stands where a string is to be read is answered
exact : (s : Input) (fault : Fault) → StringFault s fault → quoted_at s ≡ Err fault
unfolding quoted_at
exact s (no_number place) h = absurd h
exact s (big_number place) h = absurd h
exact s (no_quote place) h =
    let f = found NoString (λ b bytes p. p.0) s.at h.1 in
    rw h.2 (subst (λ (start : Input). from_whitespace start ≡ Err (no_quote (s.at + h.0))) (sym f.2) (misses (s.at + h.0) f.0 f.1))
  where
    misses : (at : ℕ) (bytes : List ℕ) → NoString bytes → opening_at at bytes ≡ Err (no_quote at)
    misses at [] n = refl
    misses at (b ∷ bytes) n = rw n.1 refl
exact s (open_string place) h =
    let f = found (Opened Unclosed) (NoWhitespace-opened Unclosed) s.at h.1 in
    let o = opens Unclosed (s.at + h.0) f.0 f.1 in
    let through = goes_on (s.at + h.0) o.1.inside [] (s.at + h.0 + 1) o.1.short in
    rw h.2 (subst (λ (start : Input). from_whitespace start ≡ Err (open_string (s.at + h.0))) (sym f.2) (o.2 ∙ through.1))
exact s (long_string place) h =
    let f = found (Opened Overlong) (NoWhitespace-opened Overlong) s.at h.1 in
    let o = opens Overlong (s.at + h.0) f.0 f.1 in
    let long = grows_long (s.at + h.0) o.1.inside [] (s.at + h.0 + 1) (omega arith) (omega (arith, o.1.long)) in
    rw h.2 (subst (λ (start : Input). from_whitespace start ≡ Err (long_string (s.at + h.0))) (sym f.2) (o.2 ∙ long))

pub string_fault_is_exact : StringFaultIsExact
string_fault_is_exact s fault =
    (λ e. subst (λ (r : Result (List ℕ × Input) Fault). StringTells s r) e (string_tells s), exact s fault)
