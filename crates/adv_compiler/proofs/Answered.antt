-- What an answer says of what is meant.
use Rattle.std.proofs.Common.{◌≡◌, ℕ, ◌⊎◌, inl, inr, Result, Ok, Err, refl, sym, ap, subst, ◌∙◌}
use Rattle.std.specs.Prelude.{IfOk}
use Rattle.adv_io.specs.Answers.{IsErrOr}
use Rattle.scott_types.specs.Database.{Database}
use Rattle.scott_types.specs.declared.databases.Db.{Db}
use Rattle.adv_compiler.specs.declared.faults.CompileFault.{CompileFault}
use Rattle.adv_compiler.specs.declared.faults.CompileFault.TheVariants as answer
use Rattle.adv_compiler.specs.Faults.{Fault, unnamed, twice, too_many_conditions, too_many_opcodes, limit, fault_answer, Stands, Meets}
use Rattle.adv_compiler.specs.Meaning.{IsDb}

-- the fault that stands is known
stands : {A : Type 0} (fault : Fault) (r : Result A Fault) → Stands (fault_answer fault) r → r ≡ Err fault
stands (unnamed at) r e = e
stands (twice at) r e = e
stands (too_many_conditions at) r e = e
stands (too_many_opcodes at) r e = e
stands (limit at value) r e = e

-- a fault of the program is Memory, or stands for one that is meant
fault_or_memory : {A : Type 0} (fault : CompileFault) (r : Result A Fault) → Stands fault r → (fault ≡ answer.Memory) ⊎ ((f : Fault) × (fault ≡ fault_answer f) × (r ≡ Err f))
fault_or_memory (answer.Unnamed at) r e = inr (unnamed at, refl, e)
fault_or_memory (answer.Twice at) r e = inr (twice at, refl, e)
fault_or_memory (answer.TooManyConditions at) r e = inr (too_many_conditions at, refl, e)
fault_or_memory (answer.TooManyOpcodes at) r e = inr (too_many_opcodes at, refl, e)
fault_or_memory (answer.Limit at value) r e = inr (limit at value, refl, e)
fault_or_memory answer.Memory r e = inl refl

abbrev failed : CompileFault → Result Db CompileFault
failed fault = Err fault

err_is : (f g : CompileFault) → failed f ≡ failed g → f ≡ g
err_is f g e = cc

one_value : {A : Type 0} {r : Result A Fault} (x y : A) → r ≡ Ok x → r ≡ Ok y → x ≡ y
one_value x y e h = cc

one_fault : {A : Type 0} {r : Result A Fault} (f g : Fault) → r ≡ Err f → r ≡ Err g → f ≡ g
one_fault f g e h = cc

not_both : {A : Type 0} {r : Result A Fault} (x : A) (fault : Fault) → r ≡ Ok x → r ≡ Err fault → ⊥
not_both x fault e f = cc

module _ (meant : Result Database Fault) where
  pub found : (r : Result Db CompileFault) → Meets meant r → IfOk r (λ db. meant ≡ Ok db)
  found (Ok db) e = e
  found (Err fault) e = tt

  pub only : (r : Result Db CompileFault) → Meets meant r → (db : Database) → meant ≡ Ok db → IsDb r db
  only (Ok given) e db h = one_value given db e h
  only (Err fault) e db h =
      elim (fault_or_memory fault meant e) [ inl is_memory ↦ is_memory | inr f ↦ absurd (not_both db f.0 h f.2) ]

  pub exact : (r : Result Db CompileFault) → Meets meant r → (fault : Fault) → r ≡ Err (fault_answer fault) → meant ≡ Err fault
  exact (Ok db) e fault is = absurd (cc)
  exact (Err given) e fault is =
      stands fault meant (subst (λ (f : CompileFault). Stands f meant) (err_is given (fault_answer fault) is) e)

  pub expected : (r : Result Db CompileFault) → Meets meant r → (fault : Fault) → meant ≡ Err fault → IsErrOr answer.Memory r (fault_answer fault)
  expected (Ok db) e fault h = absurd (not_both db fault e h)
  expected (Err given) e fault h =
      elim (fault_or_memory given meant e) [
        | inl is_memory ↦ inr (ap failed is_memory)
        | inr f ↦ inl (ap failed (f.1 ∙ ap fault_answer (one_fault f.0 fault f.2 h)))
      ]
