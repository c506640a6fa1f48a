-- Why a program isn't accepted. Want of memory is no fault of a program.
use Rattle.std.specs.Prelude.{ℕ, Bool, if◌then◌else◌, List, [], ◌∷◌, Option, Some, None}
use Rattle.std.specs.Option.{option_or}
use Rattle.inform_names.specs.declared.faults.NameFault.{NameFault}
use Rattle.inform_names.specs.declared.faults.NameFault.TheVariants as f

-- what is wrong, and with which name or number
pub data Fault : Type 0 where
  twice : List ℕ → Fault
  missing : List ℕ → Fault
  wrong_kind : List ℕ → Fault
  too_many_locals : List ℕ → Fault
  too_many_arguments : List ℕ → Fault
  wide_number : ℕ → Fault
  wrong_size : List ℕ → Fault
  outside : List ℕ → Fault
  too_deep : List ℕ → Fault
  main_locals : Fault
  no_main : Fault

-- a fault where a test says so
abbrev pub fault_if : Bool → Fault → Option Fault
fault_if wrong fault = if wrong then Some fault else None

-- the first fault of some places
abbrev pub first_of : List (Option Fault) → Option Fault
first_of [] = None
first_of (x ∷ xs) = option_or x (first_of xs)

-- the fault that an answer of the program tells; want of memory is none
abbrev pub fault_of : NameFault → Option Fault
fault_of (f.Twice name) = Some (twice name)
fault_of (f.Missing name) = Some (missing name)
fault_of (f.Kind name) = Some (wrong_kind name)
fault_of (f.TooManyLocals name) = Some (too_many_locals name)
fault_of (f.TooManyArguments name) = Some (too_many_arguments name)
fault_of (f.WideNumber n) = Some (wide_number n)
fault_of (f.Size name) = Some (wrong_size name)
fault_of (f.Outside name) = Some (outside name)
fault_of (f.TooDeep name) = Some (too_deep name)
fault_of f.MainLocals = Some main_locals
fault_of f.NoMain = Some no_main
fault_of f.Memory = None

-- and back
abbrev pub fault_answer : Fault → NameFault
fault_answer (twice name) = f.Twice name
fault_answer (missing name) = f.Missing name
fault_answer (wrong_kind name) = f.Kind name
fault_answer (too_many_locals name) = f.TooManyLocals name
fault_answer (too_many_arguments name) = f.TooManyArguments name
fault_answer (wide_number n) = f.WideNumber n
fault_answer (wrong_size name) = f.Size name
fault_answer (outside name) = f.Outside name
fault_answer (too_deep name) = f.TooDeep name
fault_answer main_locals = f.MainLocals
fault_answer no_main = f.NoMain
