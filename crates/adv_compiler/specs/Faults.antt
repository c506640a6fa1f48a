-- Why a source stands for no database.
use Rattle.std.specs.Prelude.{ℕ, ℤ, ◌≡◌, Option, Some, None, Result, Ok, Err}
use Rattle.adv_io.specs.Answers.{IsExpected}
use Rattle.adv_compiler.specs.declared.faults.CompileFault.{CompileFault}
use Rattle.adv_compiler.specs.declared.faults.CompileFault.TheVariants as answer

-- what is wrong, and at which place
pub data Fault : Type 0 where
  unnamed : ℕ → Fault
  twice : ℕ → Fault
  too_many_conditions : ℕ → Fault
  too_many_opcodes : ℕ → Fault
  limit : ℕ → ℤ → Fault

-- the program's fault for a fault of a source
abbrev pub fault_answer : Fault → CompileFault
fault_answer (unnamed at) = answer.Unnamed at
fault_answer (twice at) = answer.Twice at
fault_answer (too_many_conditions at) = answer.TooManyConditions at
fault_answer (too_many_opcodes at) = answer.TooManyOpcodes at
fault_answer (limit at value) = answer.Limit at value

-- one thing is meant, and then another that may depend on it; the first fault is the fault of both
infixl 10 ◌>>=◌
abbrev pub ◌>>=◌ : {X Y : Type 0} → Result X Fault → (X → Result Y Fault) → Result Y Fault
(Ok x) >>= f = f x
(Err fault) >>= f = Err fault

-- ---- what the program answers

-- the fault of a source that an answer of the program is; want of memory is none
abbrev pub fault_of : CompileFault → Option Fault
fault_of (answer.Unnamed at) = Some (unnamed at)
fault_of (answer.Twice at) = Some (twice at)
fault_of (answer.TooManyConditions at) = Some (too_many_conditions at)
fault_of (answer.TooManyOpcodes at) = Some (too_many_opcodes at)
fault_of (answer.Limit at value) = Some (limit at value)
fault_of answer.Memory = None

-- a fault of the program is the one that is meant, unless memory ran out
abbrev pub Stands : {X : Type 0} → CompileFault → Result X Fault → Type 0
Stands fault meant = IsExpected fault_of fault meant

-- a function gives what is meant, seen by view
abbrev pub Gives : {X Y : Type 0} → (X → Y) → Result Y Fault → Result X CompileFault → Type 0
Gives view meant (Ok x) = meant ≡ Ok (view x)
Gives view meant (Err fault) = Stands fault meant

-- the same, of a value as it is
abbrev pub Meets : {X : Type 0} → Result X Fault → Result X CompileFault → Type 0
Meets meant r = Gives (λ x. x) meant r
