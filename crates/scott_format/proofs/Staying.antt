-- What a plan reads of the first bytes of a file stays when more follow.
use Rattle.std.proofs.Common.{◌≡◌, ℕ, ◌+◌, ◌≤◌, ◌<◌, Bool, true, false, ltb, inl, inr, List, length, ℤ, Result, Ok, Err, refl, sym, ap, subst, ◌∙◌, arith}
use Rattle.std.specs.Prelude.{not}
use borrow.Author.Tests.{ltb-true}
use Rattle.adv_text.specs.Reading.{Input, SameEnd, with_more, number_at, quoted_at, no_number, big_number, no_quote, open_string, long_string}
use Rattle.adv_text.specs.Reading.{Fault as TextFault}
use Rattle.adv_text.specs.Laws.{NumberFault, StringFault, IsSettled, Stays}
use Rattle.scott_format.specs.Faults.{Fault, text, limit, no_start, negative_action, fault_answer}
use Rattle.scott_format.specs.Plan.{Plan, done, check, number, quoted, perhaps, onward, run}
use Rattle.scott_format.specs.Pieces.{may_end, settles, IsContent, IsSteady}
use Rattle.scott_format.specs.TextLaws.{TextLaws}
use Rattle.scott_format.proofs.Exact.{value_is, check-ok, onward-ok}
use Rattle.scott_format.proofs.Wrongs.{check-err, onward-err}
use Rattle.scott_format.proofs.Leaving.{Leaves, number_leaves, string_leaves, some_big, some_long}

is_false : (b : Bool) → not b ≡ true → b ≡ false
is_false true e = absurd cc
is_false false e = refl

abbrev Settles : Fault → Input → Type 0
Settles fault s = settles (fault_answer fault) s ≡ true

-- ---- faults at a later input

-- a settled fault is settled at a later input
settled_on : (fault : Fault) (s after : Input) → SameEnd s after → Leaves 34 s.rest after.rest → Settles fault s → Settles fault after
settled_on (text (no_number at)) s after same left h = ap (λ e. ltb (at + 1) e) same ∙ h
settled_on (text (big_number at)) s after same left h = refl
settled_on (text (no_quote at)) s after same left h = ap (λ e. ltb at e) same ∙ h
settled_on (text (open_string at)) s after same left h = h
settled_on (text (long_string at)) s after same left h = refl
settled_on (limit field value) s after same left h = ap (λ b. not (may_end b)) (left.1 (is_false _ h)).1 ∙ h
settled_on (no_start value) s after same left h = ap (λ b. not (may_end b)) (left.1 (is_false _ h)).1 ∙ h
settled_on (negative_action k) s after same left h = ap (λ b. not (may_end b)) (left.1 (is_false _ h)).1 ∙ h

-- a fault of the text is settled as the laws of the text have it
settled_text : (own : TextFault) (s : Input) → Settles (text own) s → IsSettled (s.at + length s.rest) own
settled_text (no_number at) s h = ltb-true _ _ h
settled_text (big_number at) s h = tt
settled_text (no_quote at) s h = ltb-true _ _ h
settled_text (open_string at) s h = absurd cc
settled_text (long_string at) s h = tt

-- a settled fault of a number or a string needs a byte
some_number : (own : TextFault) (s : Input) → NumberFault s own → Settles (text own) s → 0 < length s.rest
some_number (no_number at) s h settled = let less : at + 1 < s.at + length s.rest = ltb-true _ _ settled in omega (arith, h.2)
some_number (big_number at) s h settled = some_big h.0 s.rest h.1
some_number (no_quote at) s h settled = absurd h
some_number (open_string at) s h settled = absurd h
some_number (long_string at) s h settled = absurd h

some_string : (own : TextFault) (s : Input) → StringFault s own → Settles (text own) s → 0 < length s.rest
some_string (no_number at) s h settled = absurd h
some_string (big_number at) s h settled = absurd h
some_string (no_quote at) s h settled = let less : at < s.at + length s.rest = ltb-true _ _ settled in omega (arith, h.2)
some_string (open_string at) s h settled = absurd cc
some_string (long_string at) s h settled = some_long h.0 s.rest h.1

module _ (laws : TextLaws) where
  number_left : (s after : Input) (z : ℤ) → number_at s ≡ Ok (z, after) → Leaves 34 s.rest after.rest
  number_left s after z e = number_leaves z s.rest after.rest (laws.number_is_spelled s after z e)

  string_left : (s after : Input) (t : List ℕ) → quoted_at s ≡ Ok (t, after) → Leaves 34 s.rest after.rest
  string_left s after t e = string_leaves t s.rest after.rest (laws.string_is_spelled s after t e)

  -- ---- values

  -- no more is left than there was
  left_by : {X : Type 0} (p : Plan X) (s after : Input) (x : X) → IsSteady p → run p s ≡ Ok (x, after) → length after.rest ≤ length s.rest
  left_by {X = X} (done y) s after x steady e = let same : s ≡ after = ap (λ (r : X × Input). r.1) (value_is (y, s) (x, after) e) in omega (arith, ap (λ (t : Input). length t.rest) same)
  left_by (check test fault p) s after x steady e = left_by p s after x steady.1 (check-ok test fault (run p s) (x, after) e).1
  left_by (number next) s after x steady e =
      let h = onward-ok (number_at s) (λ z mid. run (next z) mid) (x, after) e in
      omega (arith, (number_left s h.1 h.0 h.2).0, left_by (next h.0) h.1 after x (steady h.0) h.3)
  left_by (quoted next) s after x steady e =
      let h = onward-ok (quoted_at s) (λ t mid. run (next t) mid) (x, after) e in
      omega (arith, (string_left s h.1 h.0 h.2).0, left_by (next h.0) h.1 after x (steady h.0) h.3)
  left_by (perhaps next) s after x steady e = absurd steady

  -- the end stays where it is
  pub ends_by : {X : Type 0} (p : Plan X) (s after : Input) (x : X) → IsSteady p → run p s ≡ Ok (x, after) → SameEnd s after
  ends_by {X = X} (done y) s after x steady e = ap (λ (r : X × Input). r.1.at + length r.1.rest) (sym (value_is (y, s) (x, after) e))
  ends_by (check test fault p) s after x steady e = ends_by p s after x steady.1 (check-ok test fault (run p s) (x, after) e).1
  ends_by (number next) s after x steady e =
      let h = onward-ok (number_at s) (λ z mid. run (next z) mid) (x, after) e in
      ends_by (next h.0) h.1 after x (steady h.0) h.3 ∙ laws.number_ends s h.1 h.0 h.2
  ends_by (quoted next) s after x steady e =
      let h = onward-ok (quoted_at s) (λ t mid. run (next t) mid) (x, after) e in
      ends_by (next h.0) h.1 after x (steady h.0) h.3 ∙ laws.string_ends s h.1 h.0 h.2
  ends_by (perhaps next) s after x steady e = absurd steady

  module _ (more : List ℕ) where
    number_on : (s mid : Input) (z : ℤ) → number_at s ≡ Ok (z, mid) → 0 < length mid.rest → number_at (with_more s more) ≡ Ok (z, with_more mid more)
    number_on s mid z e some =
        subst (λ (r : Result (ℤ × Input) TextFault). Stays more (s.at + length s.rest) r (number_at (with_more s more))) e (laws.number_stays s more) some

    string_on : (s mid : Input) (t : List ℕ) → quoted_at s ≡ Ok (t, mid) → 0 < length mid.rest → quoted_at (with_more s more) ≡ Ok (t, with_more mid more)
    string_on s mid t e some =
        subst (λ (r : Result (List ℕ × Input) TextFault). Stays more (s.at + length s.rest) r (quoted_at (with_more s more))) e (laws.string_stays s more) some

    number_off : (s : Input) (own : TextFault) → number_at s ≡ Err own → Settles (text own) s → number_at (with_more s more) ≡ Err own
    number_off s own e settled =
        subst (λ (r : Result (ℤ × Input) TextFault). Stays more (s.at + length s.rest) r (number_at (with_more s more))) e (laws.number_stays s more) (settled_text own s settled)

    string_off : (s : Input) (own : TextFault) → quoted_at s ≡ Err own → Settles (text own) s → quoted_at (with_more s more) ≡ Err own
    string_off s own e settled =
        subst (λ (r : Result (List ℕ × Input) TextFault). Stays more (s.at + length s.rest) r (quoted_at (with_more s more))) e (laws.string_stays s more) (settled_text own s settled)

    -- a value stays where a byte follows it
    pub value_stays : {X : Type 0} (p : Plan X) (s after : Input) (x : X) → IsSteady p → run p s ≡ Ok (x, after) → 0 < length after.rest
        → run p (with_more s more) ≡ Ok (x, with_more after more)
    value_stays {X = X} (done y) s after x steady e some = ap (λ (r : X × Input). Ok (r.0, with_more r.1 more)) (value_is (y, s) (x, after) e)
    value_stays (check test fault p) s after x steady e some =
        let h = check-ok test fault (run p s) (x, after) e in
        rw h.0 (value_stays p s after x steady.1 h.1 some)
    value_stays (number next) s after x steady e some =
        let h = onward-ok (number_at s) (λ z mid. run (next z) mid) (x, after) e in
        let left = left_by (next h.0) h.1 after x (steady h.0) h.3 in
        ap (λ r. onward r (λ z mid. run (next z) mid)) (number_on s h.1 h.0 h.2 (omega (arith, left, some))) ∙ value_stays (next h.0) h.1 after x (steady h.0) h.3 some
    value_stays (quoted next) s after x steady e some =
        let h = onward-ok (quoted_at s) (λ t mid. run (next t) mid) (x, after) e in
        let left = left_by (next h.0) h.1 after x (steady h.0) h.3 in
        ap (λ r. onward r (λ z mid. run (next z) mid)) (string_on s h.1 h.0 h.2 (omega (arith, left, some))) ∙ value_stays (next h.0) h.1 after x (steady h.0) h.3 some
    value_stays (perhaps next) s after x steady e some = absurd steady

  -- ---- faults

  -- a settled fault of the text needs a byte
  some_text : {X : Type 0} (p : Plan X) (s : Input) (own : TextFault) → IsSteady p → run p s ≡ Err (text own) → Settles (text own) s → 0 < length s.rest
  some_text (done y) s own steady e settled = absurd cc
  some_text (check test fault p) s own steady e settled =
      elim (check-err test fault (text own) (run p s) e) [
        | inl h ↦ absurd (subst IsContent (sym h.1) steady.0)
        | inr h ↦ some_text p s own steady.1 h.1 settled
      ]
  some_text (number next) s own steady e settled =
      elim (onward-err (number_at s) (λ z mid. run (next z) mid) (text own) e) [
        | inl h ↦
            let same : own ≡ h.0 = cc in
            some_number own s ((laws.number_fault_is_exact s own).0 (h.1 ∙ ap (λ f. Err f) (sym same))) settled
        | inr h ↦
            let left = number_left s h.1 h.0 h.2 in
            let some = some_text (next h.0) h.1 own (steady h.0) h.3 (settled_on (text own) s h.1 (laws.number_ends s h.1 h.0 h.2) left settled) in
            omega (arith, some, left.0)
      ]
  some_text (quoted next) s own steady e settled =
      elim (onward-err (quoted_at s) (λ t mid. run (next t) mid) (text own) e) [
        | inl h ↦
            let same : own ≡ h.0 = cc in
            some_string own s ((laws.string_fault_is_exact s own).0 (h.1 ∙ ap (λ f. Err f) (sym same))) settled
        | inr h ↦
            let left = string_left s h.1 h.0 h.2 in
            let some = some_text (next h.0) h.1 own (steady h.0) h.3 (settled_on (text own) s h.1 (laws.string_ends s h.1 h.0 h.2) left settled) in
            omega (arith, some, left.0)
      ]
  some_text (perhaps next) s own steady e settled = absurd steady

  -- where a settled fault comes after a number or a string, a byte stands there
  some_between : {X : Type 0} (p : Plan X) (s mid : Input) (fault : Fault) → IsSteady p → SameEnd s mid → Leaves 34 s.rest mid.rest → run p mid ≡ Err fault → Settles fault s → 0 < length mid.rest
  some_between p s mid (text own) steady same left e settled = some_text p mid own steady e (settled_on (text own) s mid same left settled)
  some_between p s mid (limit field value) steady same left e settled = (left.1 (is_false _ settled)).0
  some_between p s mid (no_start value) steady same left e settled = (left.1 (is_false _ settled)).0
  some_between p s mid (negative_action k) steady same left e settled = (left.1 (is_false _ settled)).0

  module _ (more : List ℕ) where
    -- a settled fault stays
    pub fault_stays : {X : Type 0} (p : Plan X) (s : Input) (fault : Fault) → IsSteady p → run p s ≡ Err fault → Settles fault s → run p (with_more s more) ≡ Err fault
    fault_stays (done y) s fault steady e settled = absurd cc
    fault_stays (check test own p) s fault steady e settled =
        elim (check-err test own fault (run p s) e) [
          | inl h ↦ rw (h.0, h.1) refl
          | inr h ↦ rw h.0 (fault_stays p s fault steady.1 h.1 settled)
        ]
    fault_stays (number next) s fault steady e settled =
        elim (onward-err (number_at s) (λ z mid. run (next z) mid) fault e) [
          | inl h ↦
              let own = subst (λ (f : Fault). Settles f s) h.2 settled in
              ap (λ r. onward r (λ z mid. run (next z) mid)) (number_off more s h.0 h.1 own) ∙ ap (λ f. Err f) (sym h.2)
          | inr h ↦
              let left = number_left s h.1 h.0 h.2 in
              let same = laws.number_ends s h.1 h.0 h.2 in
              let some = some_between (next h.0) s h.1 fault (steady h.0) same left h.3 settled in
              ap (λ r. onward r (λ z mid. run (next z) mid)) (number_on more s h.1 h.0 h.2 some)
              ∙ fault_stays (next h.0) h.1 fault (steady h.0) h.3 (settled_on fault s h.1 same left settled)
        ]
    fault_stays (quoted next) s fault steady e settled =
        elim (onward-err (quoted_at s) (λ t mid. run (next t) mid) fault e) [
          | inl h ↦
              let own = subst (λ (f : Fault). Settles f s) h.2 settled in
              ap (λ r. onward r (λ z mid. run (next z) mid)) (string_off more s h.0 h.1 own) ∙ ap (λ f. Err f) (sym h.2)
          | inr h ↦
              let left = string_left s h.1 h.0 h.2 in
              let same = laws.string_ends s h.1 h.0 h.2 in
              let some = some_between (next h.0) s h.1 fault (steady h.0) same left h.3 settled in
              ap (λ r. onward r (λ z mid. run (next z) mid)) (string_on more s h.1 h.0 h.2 some)
              ∙ fault_stays (next h.0) h.1 fault (steady h.0) h.3 (settled_on fault s h.1 same left settled)
        ]
    fault_stays (perhaps next) s fault steady e settled = absurd steady
