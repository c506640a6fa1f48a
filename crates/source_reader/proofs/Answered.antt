-- What a reading says of texts and faults.
use Rattle.std.proofs.Common.{◌≡◌, ℕ, suc, ◌<◌, ◌⊎◌, inl, inr, List, [], ◌∷◌, get_or, Result, Ok, Err, refl, sym, ap, subst, ◌∙◌}
use Rattle.std.specs.Prelude.{IfOk, MatchResult}
use Rattle.adv_io.specs.Answers.{IsErrOr}
use Rattle.std.proofs.lemmas.Bool.{and_from, lt-ltb}
use Rattle.adv_text.specs.Laws.{AreBytes}
use Rattle.adv_text.specs.Reading.{Input, input}
use Rattle.source_reader.specs.declared.tree.Source.{Source}
use Rattle.source_reader.specs.declared.faults.SourceFault.{SourceFault}
use Rattle.source_reader.specs.declared.faults.SourceFault.TheVariants as answer
use Rattle.source_reader.specs.Faults.{Fault, unexpected, big_number, open_string, long_string, long_name, fault_answer, Stands, Reads}
use Rattle.source_reader.specs.Plan.{run}
use Rattle.source_reader.specs.Text.{source, value_of, source_in, SourceText, TextFault, IsSource}
use Rattle.source_reader.specs.WellFormed.{WellFormed}
use Rattle.source_reader.specs.Laws.{TokenIsExact, TokenFaultIsExact, TextOrFault, NeverBoth, OneSource, OneFault, SourceIn, FaultIn, TextIsWellFormed}
use Rattle.source_reader.proofs.Exact.{one_value, one_fault, not_both, run-spelled, spelled-run, run-faulty, faulty-run}

-- bytes by their places are bytes of a list
pub bytes_are : (bytes : List ℕ) → ((i : ℕ) → get_or bytes i 0 < 256) → AreBytes bytes
bytes_are [] h = refl
bytes_are (b ∷ bytes) h = and_from _ _ (lt-ltb b 256 (h 0)) (bytes_are bytes (λ i. h (suc i)))

-- what was read is well formed
pub well_formed : TextIsWellFormed → (bytes : List ℕ) → AreBytes bytes → (r : Result Source SourceFault)
    → IfOk r (λ tree. SourceText bytes tree) → IfOk r (λ tree. WellFormed tree)
well_formed law bytes all (Ok tree) h = law bytes tree all h
well_formed law bytes all (Err fault) h = tt

-- the fault that stands is known
stands : {A : Type 0} (fault : Fault) (r : Result A Fault) → Stands (fault_answer fault) r → r ≡ Err fault
stands (unexpected at) r e = e
stands (big_number at) r e = e
stands (open_string at) r e = e
stands (long_string at) r e = e
stands (long_name at) r e = e

-- a fault of the program is Memory, or stands for one of reading
fault_or_memory : {A : Type 0} (fault : SourceFault) (r : Result A Fault) → Stands fault r → (fault ≡ answer.Memory) ⊎ ((f : Fault) × (fault ≡ fault_answer f) × (r ≡ Err f))
fault_or_memory (answer.Unexpected at) r e = inr (unexpected at, refl, e)
fault_or_memory (answer.BigNumber at) r e = inr (big_number at, refl, e)
fault_or_memory (answer.OpenString at) r e = inr (open_string at, refl, e)
fault_or_memory (answer.LongString at) r e = inr (long_string at, refl, e)
fault_or_memory (answer.LongName at) r e = inr (long_name at, refl, e)
fault_or_memory answer.Memory r e = inl refl

-- what was read as a value was read up to an input; and a fault is what was read
value_back : {X : Type 0} (r : Result (X × Input) Fault) (x : X) → value_of r ≡ Ok x → (after : Input) × (r ≡ Ok (x, after))
value_back (Ok read) x e = let same : read.0 ≡ x = cc in (read.1, ap (λ y. Ok (y, read.1)) same)
value_back (Err fault) x e = absurd cc

fault_back : {X : Type 0} (r : Result (X × Input) Fault) (fault : Fault) → value_of r ≡ Err fault → r ≡ Err fault
fault_back (Ok read) fault e = absurd cc
fault_back (Err other) fault e = let same : other ≡ fault = cc in ap Err same

-- a fault of the program that stands for what was read stands for its value
stands_value : {X : Type 0} (fault : SourceFault) (r : Result (X × Input) Fault) → Stands fault r → Stands fault (value_of r)
stands_value (answer.Unexpected at) r e = ap value_of e
stands_value (answer.BigNumber at) r e = ap value_of e
stands_value (answer.OpenString at) r e = ap value_of e
stands_value (answer.LongString at) r e = ap value_of e
stands_value (answer.LongName at) r e = ap value_of e
stands_value answer.Memory r e = tt

abbrev failed : SourceFault → Result Source SourceFault
failed fault = Err fault

err_is : (f g : SourceFault) → failed f ≡ failed g → f ≡ g
err_is f g e = cc

either : (r : Result (Source × Input) Fault) → ((x : Source × Input) × (r ≡ Ok x)) ⊎ ((fault : Fault) × (r ≡ Err fault))
either (Ok x) = inl (x, refl)
either (Err fault) = inr (fault, refl)

module _ (exact : TokenIsExact) (faults : TokenFaultIsExact) where
  -- ---- the laws

  text_of : (bytes : List ℕ) (tree : Source) (after : Input) → run source (input 0 bytes) ≡ Ok (tree, after) → SourceText bytes tree
  text_of bytes tree after e = (after, run-spelled exact faults source (input 0 bytes) after tree e)

  read_of : (bytes : List ℕ) (tree : Source) → SourceText bytes tree → (after : Input) × (run source (input 0 bytes) ≡ Ok (tree, after))
  read_of bytes tree h = (h.0, spelled-run exact faults source (input 0 bytes) h.0 tree h.1)

  pub text_or_fault : TextOrFault
  text_or_fault bytes =
      elim (either (run source (input 0 bytes))) [
        | inl h ↦ inl (h.0.0, text_of bytes h.0.0 h.0.1 h.1)
        | inr h ↦ inr (h.0, run-faulty exact faults source (input 0 bytes) h.0 h.1)
      ]

  pub never_both : NeverBoth
  never_both bytes tree fault h f =
      let r = read_of bytes tree h in not_both (tree, r.0) fault r.1 (faulty-run exact faults source (input 0 bytes) fault f)

  pub one_source : OneSource
  one_source bytes a b h k =
      let r = read_of bytes a h in
      let q = read_of bytes b k in
      ap (λ (x : Source × Input). x.0) (one_value (a, r.0) (b, q.0) r.1 q.1)

  pub one_text_fault : OneFault
  one_text_fault bytes a b h k =
      one_fault a b (faulty-run exact faults source (input 0 bytes) a h) (faulty-run exact faults source (input 0 bytes) b k)

  pub source_is : SourceIn
  unfolding source_in
  source_is bytes tree = (
    λ e. let r = value_back (run source (input 0 bytes)) tree e in text_of bytes tree r.0 r.1,
    λ h. ap value_of (read_of bytes tree h).1,
  )

  pub fault_is : FaultIn
  unfolding source_in
  fault_is bytes fault = (
    λ e. run-faulty exact faults source (input 0 bytes) fault (fault_back (run source (input 0 bytes)) fault e),
    λ h. ap value_of (faulty-run exact faults source (input 0 bytes) fault h),
  )

  -- ---- what an answer tells

  module _ (bytes : List ℕ) (after : Input) where
    pub found : (r : Result Source SourceFault) → Reads (run source (input 0 bytes)) r after → IfOk r (λ tree. SourceText bytes tree)
    found (Ok tree) e = text_of bytes tree after e
    found (Err fault) e = tt

    pub only : (r : Result Source SourceFault) → Reads (run source (input 0 bytes)) r after → (tree : Source) → SourceText bytes tree → IsSource r tree
    only (Ok given) e tree h =
        let q = read_of bytes tree h in
        ap (λ (x : Source × Input). x.0) (one_value (given, after) (tree, q.0) e q.1)
    only (Err fault) e tree h =
        let q = read_of bytes tree h in
        elim (fault_or_memory fault (run source (input 0 bytes)) e) [ inl is_memory ↦ is_memory | inr f ↦ absurd (not_both (tree, q.0) f.0 q.1 f.2) ]

    pub refused : (r : Result Source SourceFault) → Reads (run source (input 0 bytes)) r after → (fault : Fault) → r ≡ Err (fault_answer fault) → TextFault bytes fault
    refused (Ok tree) e fault is = absurd (cc)
    refused (Err given) e fault is =
        let same : Stands (fault_answer fault) (run source (input 0 bytes)) =
        subst (λ (f : SourceFault). Stands f (run source (input 0 bytes))) (err_is given (fault_answer fault) is) e in
        run-faulty exact faults source (input 0 bytes) fault (stands fault (run source (input 0 bytes)) same)

    pub expected : (r : Result Source SourceFault) → Reads (run source (input 0 bytes)) r after → (fault : Fault) → TextFault bytes fault → IsErrOr answer.Memory r (fault_answer fault)
    expected (Ok tree) e fault h = absurd (not_both (tree, after) fault e (faulty-run exact faults source (input 0 bytes) fault h))
    expected (Err given) e fault h =
        elim (fault_or_memory given (run source (input 0 bytes)) e) [
          | inl is_memory ↦ inr (ap failed is_memory)
          | inr f ↦ inl (ap failed (f.1 ∙ ap fault_answer (one_fault f.0 fault f.2 (faulty-run exact faults source (input 0 bytes) fault h))))
        ]

-- an answer is what the bytes read as
pub as_read : (bytes : List ℕ) (after : Input) (r : Result Source SourceFault) → Reads (run source (input 0 bytes)) r after
    → MatchResult r (λ tree. source_in bytes ≡ Ok tree) (λ fault. Stands fault (source_in bytes))
unfolding source_in
as_read bytes after (Ok tree) e = ap value_of e
as_read bytes after (Err fault) e = stands_value fault (run source (input 0 bytes)) e
