-- What a reading that gives what the definition reads says of spellings and faults.
use Rattle.std.proofs.Common.{◌≡◌, ℕ, ◌⊎◌, inl, inr, ◌↔◌, List, Result, Ok, Err, ℤ, refl, sym, ap, subst, ◌∙◌}
use Rattle.std.specs.Prelude.{IfOk, IfErr, OnOk}
use Rattle.adv_io.specs.Answers.{IsErrOr}
use Rattle.std.specs.Global.{Vec}
use Rattle.adv_text.specs.declared.faults.TextFault.{TextFault}
use Rattle.adv_text.specs.declared.faults.TextFault.TheVariants as answer
use Rattle.adv_text.specs.Spelling.{Number, Quoted}
use Rattle.adv_text.specs.Reading.{Input, Fault, no_number, big_number, no_quote, open_string, long_string, SameEnd, number_at, quoted_at, fault_answer, Stands, IsFaultOf, IsText}
use Rattle.adv_text.specs.Laws.{NumberFault, StringFault}
use Rattle.adv_text.proofs.Places.{number_ends, string_ends}
use Rattle.adv_text.proofs.Numbers.{number_is_spelled, spelled_number_is_read, number_fault_is_exact}
use Rattle.adv_text.proofs.Strings.{string_is_spelled, spelled_string_is_read, string_fault_is_exact}

-- a fault of the program stands for one of reading
fault_of : {X : Type 0} (fault : TextFault) (read : Result X Fault) → IsFaultOf fault read → (f : Fault) × (fault ≡ fault_answer f) × (read ≡ Err f)
fault_of (answer.NoNumber at) read e = (no_number at, refl, e)
fault_of (answer.BigNumber at) read e = (big_number at, refl, e)
fault_of (answer.NoQuote at) read e = (no_quote at, refl, e)
fault_of (answer.OpenString at) read e = (open_string at, refl, e)
fault_of (answer.LongString at) read e = (long_string at, refl, e)
fault_of answer.Memory read e = absurd e

-- the same, or memory ran out
fault_or_memory : {X : Type 0} (fault : TextFault) (read : Result X Fault) → Stands fault read
    → (fault ≡ answer.Memory) ⊎ ((f : Fault) × (fault ≡ fault_answer f) × (read ≡ Err f))
fault_or_memory (answer.NoNumber at) read e = inr (no_number at, refl, e)
fault_or_memory (answer.BigNumber at) read e = inr (big_number at, refl, e)
fault_or_memory (answer.NoQuote at) read e = inr (no_quote at, refl, e)
fault_or_memory (answer.OpenString at) read e = inr (open_string at, refl, e)
fault_or_memory (answer.LongString at) read e = inr (long_string at, refl, e)
fault_or_memory answer.Memory read e = inl refl

-- faults with one answer are the same
abbrev fault_answered : TextFault → Fault → Fault
fault_answered (answer.NoNumber at) other = no_number at
fault_answered (answer.BigNumber at) other = big_number at
fault_answered (answer.NoQuote at) other = no_quote at
fault_answered (answer.OpenString at) other = open_string at
fault_answered (answer.LongString at) other = long_string at
fault_answered answer.Memory other = other

fault_answered-fault_answer : (f other : Fault) → fault_answered (fault_answer f) other ≡ f
fault_answered-fault_answer (no_number at) other = refl
fault_answered-fault_answer (big_number at) other = refl
fault_answered-fault_answer (no_quote at) other = refl
fault_answered-fault_answer (open_string at) other = refl
fault_answered-fault_answer (long_string at) other = refl

answered_once : (f g : Fault) → fault_answer f ≡ fault_answer g → f ≡ g
answered_once f g e = sym (fault_answered-fault_answer f f) ∙ ap (λ (t : TextFault). fault_answered t f) e ∙ fault_answered-fault_answer g f

-- a reading is not both a value and a fault, and it is one value and one fault
both : {X : Type 0} {read : Result X Fault} (x : X) (f : Fault) → read ≡ Ok x → read ≡ Err f → ⊥
both x f e g = cc

one_value : {X : Type 0} {read : Result X Fault} (x y : X) → read ≡ Ok x → read ≡ Ok y → x ≡ y
one_value x y e g = cc

one_fault : {X : Type 0} {read : Result X Fault} (f g : Fault) → read ≡ Err f → read ≡ Err g → f ≡ g
one_fault f g e h = cc

abbrev failed : (X : Type 0) → TextFault → Result X TextFault
failed X fault = Err fault

err_is : {X : Type 0} (f g : TextFault) → failed X f ≡ failed X g → f ≡ g
err_is f g e = cc

-- ---- numbers

module _ (s after : Input) where
  pub number_spelled : (r : Result ℤ TextFault) → IfOk r (λ z. number_at s ≡ Ok (z, after)) → IfOk r (λ z. Number z s.rest after.rest)
  number_spelled (Ok z) e = number_is_spelled s after z e
  number_spelled (Err fault) e = tt

  pub number_ends_there : (r : Result ℤ TextFault) → IfOk r (λ z. number_at s ≡ Ok (z, after)) → OnOk r (SameEnd s after)
  number_ends_there (Ok z) e = number_ends s after z e
  number_ends_there (Err fault) e = tt

  pub number_only : (r : Result ℤ TextFault) → IfOk r (λ z. number_at s ≡ Ok (z, after)) → IfErr r (λ fault. IsFaultOf fault (number_at s))
      → (z : ℤ) (rest : List ℕ) → Number z s.rest rest → (r ≡ Ok z) × (after.rest ≡ rest)
  number_only (Ok y) e f z rest h =
      let read = spelled_number_is_read s z rest h in
      let same = one_value (y, after) (z, read.0) e read.2 in
      (ap (λ (p : ℤ × Input). Ok p.0) same, ap (λ (p : ℤ × Input). p.1.rest) same ∙ read.1)
  number_only (Err fault) e f z rest h =
      let read = spelled_number_is_read s z rest h in
      let g = fault_of fault (number_at s) f in
      absurd (both (z, read.0) g.0 read.2 g.2)

  pub number_exact : (r : Result ℤ TextFault) → IfOk r (λ z. number_at s ≡ Ok (z, after)) → IfErr r (λ fault. IsFaultOf fault (number_at s))
      → (fault : Fault) → (r ≡ Err (fault_answer fault)) ↔ NumberFault s fault
  number_exact (Ok y) e f fault =
      (λ h. absurd (cc), λ h. absurd (both (y, after) fault e ((number_fault_is_exact s fault).1 h)))
  number_exact (Err given) e f fault =
      let g = fault_of given (number_at s) f in (
        λ h. (number_fault_is_exact s fault).0 (subst (λ (t : Fault). number_at s ≡ Err t) (answered_once g.0 fault (sym g.1 ∙ err_is {X = ℤ} given (fault_answer fault) h)) g.2),
        λ h. ap (λ (t : TextFault). Err t) (g.1 ∙ ap fault_answer (one_fault g.0 fault g.2 ((number_fault_is_exact s fault).1 h))),
      )

  -- ---- strings

  pub string_spelled : (r : Result (Vec ℕ) TextFault) → IfOk r (λ text. quoted_at s ≡ Ok (text.items, after)) → IfOk r (λ text. Quoted text.items s.rest after.rest)
  string_spelled (Ok text) e = string_is_spelled s after text.items e
  string_spelled (Err fault) e = tt

  pub string_ends_there : (r : Result (Vec ℕ) TextFault) → IfOk r (λ text. quoted_at s ≡ Ok (text.items, after)) → OnOk r (SameEnd s after)
  string_ends_there (Ok text) e = string_ends s after text.items e
  string_ends_there (Err fault) e = tt

  -- the text of a string that is spelled is given, and its rest is left, unless memory ran out
  pub string_only : (r : Result (Vec ℕ) TextFault) → IfOk r (λ text. quoted_at s ≡ Ok (text.items, after)) → IfErr r (λ fault. Stands fault (quoted_at s))
      → (text rest : List ℕ) → Quoted text s.rest rest → IsText r text × OnOk r (after.rest ≡ rest)
  string_only (Ok v) e f text rest h =
      let read = spelled_string_is_read s text rest h in
      let same = one_value (v.items, after) (text, read.0) e read.2 in
      (ap (λ (p : List ℕ × Input). p.0) same, ap (λ (p : List ℕ × Input). p.1.rest) same ∙ read.1)
  string_only (Err fault) e f text rest h =
      let read = spelled_string_is_read s text rest h in
      elim (fault_or_memory fault (quoted_at s) f) [
        | inl is_memory ↦ (is_memory, tt)
        | inr g ↦ absurd (both (text, read.0) g.0 read.2 g.2)
      ]

  -- a fault that is given stands where the string was to be read
  pub string_exact : (r : Result (Vec ℕ) TextFault) → IfErr r (λ fault. Stands fault (quoted_at s)) → (fault : Fault) → r ≡ Err (fault_answer fault) → StringFault s fault
  string_exact (Ok v) f fault h = absurd (cc)
  string_exact (Err given) f fault h =
      (string_fault_is_exact s fault).0 (stands fault (subst (λ (t : TextFault). Stands t (quoted_at s)) (err_is {X = Vec ℕ} given (fault_answer fault) h) f))
    where
      stands : (g : Fault) → Stands (fault_answer g) (quoted_at s) → quoted_at s ≡ Err g
      stands (no_number at) e = e
      stands (big_number at) e = e
      stands (no_quote at) e = e
      stands (open_string at) e = e
      stands (long_string at) e = e

  pub string_expected : (r : Result (Vec ℕ) TextFault) → IfOk r (λ text. quoted_at s ≡ Ok (text.items, after)) → IfErr r (λ fault. Stands fault (quoted_at s))
      → (fault : Fault) → StringFault s fault → IsErrOr answer.Memory r (fault_answer fault)
  string_expected (Ok v) e f fault h = absurd (both (v.items, after) fault e ((string_fault_is_exact s fault).1 h))
  string_expected (Err given) e f fault h =
      elim (fault_or_memory given (quoted_at s) f) [
        | inl is_memory ↦ inr (ap (λ (t : TextFault). Err t) is_memory)
        | inr g ↦ inl (ap (λ (t : TextFault). Err t) (g.1 ∙ ap fault_answer (one_fault g.0 fault g.2 ((string_fault_is_exact s fault).1 h))))
      ]
