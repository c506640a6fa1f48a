-- What a reading says of texts and faults.
use Rattle.std.proofs.Common.{◌≡◌, ℕ, suc, ◌⊎◌, inl, inr, ◌<◌, List, [], ◌∷◌, get_or, Result, Ok, Err, refl, sym, ap, subst, ◌∙◌}
use Rattle.std.specs.Prelude.{IfOk, IfErr, MatchResult}
use Rattle.adv_io.specs.Answers.{IsErrOr}
use Rattle.std.proofs.lemmas.Bool.{and_from, lt-ltb}
use Rattle.adv_text.specs.Laws.{AreBytes}
use Rattle.adv_text.specs.Reading.{Input, input, no_number, big_number, no_quote, open_string, long_string}
use Rattle.scott_types.specs.Database.{Database}
use Rattle.scott_types.specs.Limits.{KeepsLimits}
use Rattle.scott_types.specs.declared.databases.Db.{Db}
use Rattle.scott_format.specs.declared.faults.FormatFault.{FormatFault}
use Rattle.scott_format.specs.declared.faults.FormatFault.TheVariants as answer
use Rattle.scott_format.specs.Faults.{Fault, text, limit, no_start, negative_action, fault_answer}
use Rattle.scott_format.specs.Plan.{run}
use Rattle.scott_format.specs.File.{file, IsReadFrom, DatText, DatFault, value_of, database_in}
use Rattle.scott_format.specs.Reading.{Stands, IsDb}
use Rattle.scott_format.specs.Laws.{TextOrFault, NeverBoth, OneDatabase, TextKeepsLimits, DatabaseIn, FaultIn}
use Rattle.scott_format.specs.TextLaws.{TextLaws}
use Rattle.scott_format.proofs.Exact.{value_is, one_fault, run-spelled, spelled-run}
use Rattle.scott_format.proofs.Always.{always}
use Rattle.scott_format.proofs.Kept.{file_keeps}

-- bytes by their places are bytes of a list
pub bytes_are : (bytes : List ℕ) → ((i : ℕ) → get_or bytes i 0 < 256) → AreBytes bytes
bytes_are [] h = refl
bytes_are (b ∷ bytes) h = and_from _ _ (lt-ltb b 256 (h 0)) (bytes_are bytes (λ i. h (suc i)))

-- a reading is not both a value and a fault
both : {A : Type 0} {r : Result A Fault} (x : A) (fault : Fault) → r ≡ Ok x → r ≡ Err fault → ⊥
both x fault e f = cc

-- the fault that stands is known
pub stands : {A : Type 0} (fault : Fault) (r : Result A Fault) → Stands (fault_answer fault) r → r ≡ Err fault
stands (text (no_number at)) r e = e
stands (text (big_number at)) r e = e
stands (text (no_quote at)) r e = e
stands (text (open_string at)) r e = e
stands (text (long_string at)) r e = e
stands (limit field value) r e = e
stands (no_start value) r e = e
stands (negative_action k) r e = e

-- a fault of the program is Memory, or stands for one of the format
pub fault_or_memory : {A : Type 0} (fault : FormatFault) (r : Result A Fault) → Stands fault r → (fault ≡ answer.Memory) ⊎ ((f : Fault) × (fault ≡ fault_answer f) × (r ≡ Err f))
fault_or_memory (answer.NoNumber at) r e = inr (text (no_number at), refl, e)
fault_or_memory (answer.BigNumber at) r e = inr (text (big_number at), refl, e)
fault_or_memory (answer.NoQuote at) r e = inr (text (no_quote at), refl, e)
fault_or_memory (answer.OpenString at) r e = inr (text (open_string at), refl, e)
fault_or_memory (answer.LongString at) r e = inr (text (long_string at), refl, e)
fault_or_memory (answer.Limit field value) r e = inr (limit field value, refl, e)
fault_or_memory (answer.NoStart value) r e = inr (no_start value, refl, e)
fault_or_memory (answer.NegativeAction k) r e = inr (negative_action k, refl, e)
fault_or_memory answer.Memory r e = inl refl

-- a fault stands for a reading without the input after it
pub stands_value : {X : Type 0} (fault : FormatFault) (r : Result (X × Input) Fault) → Stands fault r → Stands fault (value_of r)
stands_value (answer.NoNumber at) r e = ap value_of e
stands_value (answer.BigNumber at) r e = ap value_of e
stands_value (answer.NoQuote at) r e = ap value_of e
stands_value (answer.OpenString at) r e = ap value_of e
stands_value (answer.LongString at) r e = ap value_of e
stands_value (answer.Limit field value) r e = ap value_of e
stands_value (answer.NoStart value) r e = ap value_of e
stands_value (answer.NegativeAction k) r e = ap value_of e
stands_value answer.Memory r e = tt

-- a value without the input is a value with one
pub value_back : {X : Type 0} (r : Result (X × Input) Fault) (x : X) → value_of r ≡ Ok x → (after : Input) × (r ≡ Ok (x, after))
value_back (Ok read) x e = let same : read.0 ≡ x = cc in (read.1, ap (λ y. Ok (y, read.1)) same)
value_back (Err fault) x e = absurd cc

pub fault_back : {X : Type 0} (r : Result (X × Input) Fault) (fault : Fault) → value_of r ≡ Err fault → r ≡ Err fault
fault_back (Ok read) fault e = absurd cc
fault_back (Err own) fault e = let same : own ≡ fault = cc in ap Err same

abbrev failed : FormatFault → Result Db FormatFault
failed fault = Err fault

err_is : (f g : FormatFault) → failed f ≡ failed g → f ≡ g
err_is f g e = cc

-- ---- the laws

either : (r : Result (Database × Input) Fault) → ((x : Database × Input) × (r ≡ Ok x)) ⊎ ((fault : Fault) × (r ≡ Err fault))
either (Ok x) = inl (x, refl)
either (Err fault) = inr (fault, refl)

module _ (laws : TextLaws) where
  -- a reading from the start that gave a database tells its text
  text_of : (bytes : List ℕ) (db : Database) (after : Input) → run file (input 0 bytes) ≡ Ok (db, after) → DatText bytes db
  text_of bytes db after e = (after.rest, run-spelled laws file (input 0 bytes) after db e)

  -- a text is read as its database
  read_of : (bytes : List ℕ) (db : Database) → DatText bytes db → (after : Input) × (run file (input 0 bytes) ≡ Ok (db, after))
  read_of bytes db h = let r = spelled-run laws file (input 0 bytes) db h.0 h.1 in (r.0, r.2)

  pub text_or_fault : TextOrFault
  text_or_fault bytes =
      elim (either (run file (input 0 bytes))) [
        | inl h ↦ inl (h.0.0, text_of bytes h.0.0 h.0.1 h.1)
        | inr h ↦ inr h
      ]

  pub never_both : NeverBoth
  never_both bytes db fault h f = let r = read_of bytes db h in both (db, r.0) fault r.1 f

  pub one_database : OneDatabase
  one_database bytes a b h k =
      let r = read_of bytes a h in
      let q = read_of bytes b k in
      ap (λ (x : Database × Input). x.0) (value_is (a, r.0) (b, q.0) (sym r.1 ∙ q.1))

  pub text_keeps_limits : TextKeepsLimits
  text_keeps_limits bytes db all h = always laws _ file db bytes h.0 file_keeps h.1 all

  -- parts that were read keep the limits
  pub parts_keep : (bytes : List ℕ) (db : Database) (after : Input) → AreBytes bytes → run file (input 0 bytes) ≡ Ok (db, after) → KeepsLimits db
  parts_keep bytes db after all e = text_keeps_limits bytes db all (text_of bytes db after e)

  pub database_is : DatabaseIn
  unfolding database_in
  database_is bytes db = (
    λ e. let r = value_back (run file (input 0 bytes)) db e in text_of bytes db r.0 r.1,
    λ h. ap value_of (read_of bytes db h).1,
  )

  -- ---- what an answer tells

  module _ (bytes : List ℕ) where
    pub found : (r : Result Db FormatFault) → IfOk r (λ db. IsReadFrom bytes db) → IfOk r (λ db. DatText bytes db)
    found (Ok db) value = text_of bytes db value.0 value.1
    found (Err fault) value = tt

    pub only : (r : Result Db FormatFault) → IfOk r (λ db. IsReadFrom bytes db) → IfErr r (λ fault. Stands fault (run file (input 0 bytes)))
        → (db : Database) → DatText bytes db → IsDb r db
    only (Ok given) value faulty db h =
        let q = read_of bytes db h in
        ap (λ (x : Database × Input). x.0) (value_is (given, value.0) (db, q.0) (sym value.1 ∙ q.1))
    only (Err fault) value faulty db h =
        let q = read_of bytes db h in
        elim (fault_or_memory fault (run file (input 0 bytes)) faulty) [ inl is_memory ↦ is_memory | inr f ↦ absurd (both (db, q.0) f.0 q.1 f.2) ]

    pub exact : (r : Result Db FormatFault) → IfErr r (λ fault. Stands fault (run file (input 0 bytes))) → (fault : Fault) → r ≡ Err (fault_answer fault) → DatFault bytes fault
    exact (Ok db) faulty fault e = absurd (cc)
    exact (Err given) faulty fault e =
        stands fault (run file (input 0 bytes)) (subst (λ (f : FormatFault). Stands f (run file (input 0 bytes))) (err_is given (fault_answer fault) e) faulty)

    pub expected : (r : Result Db FormatFault) → IfOk r (λ db. IsReadFrom bytes db) → IfErr r (λ fault. Stands fault (run file (input 0 bytes)))
        → (fault : Fault) → DatFault bytes fault → IsErrOr answer.Memory r (fault_answer fault)
    expected (Ok db) value faulty fault h = absurd (both (db, value.0) fault value.1 h)
    expected (Err given) value faulty fault h =
        elim (fault_or_memory given (run file (input 0 bytes)) faulty) [
          | inl is_memory ↦ inr (ap failed is_memory)
          | inr f ↦ inl (ap failed (f.1 ∙ ap fault_answer (one_fault f.0 fault f.2 h)))
        ]

pub fault_is : FaultIn
unfolding database_in
fault_is bytes fault = (λ e. fault_back (run file (input 0 bytes)) fault e, λ e. ap value_of e)

-- an answer is what the bytes read as
pub as_read : (bytes : List ℕ) (r : Result Db FormatFault) → IfOk r (λ db. IsReadFrom bytes db) → IfErr r (λ fault. Stands fault (run file (input 0 bytes)))
    → MatchResult r (λ db. database_in bytes ≡ Ok db) (λ fault. Stands fault (database_in bytes))
unfolding database_in
as_read bytes (Ok db) value faulty = ap value_of value.1
as_read bytes (Err fault) value faulty = stands_value fault (run file (input 0 bytes)) faulty
