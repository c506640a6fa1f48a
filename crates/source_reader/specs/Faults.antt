-- Why a text is no source.
use Rattle.std.specs.Prelude.{ℕ, ◌≡◌, Option, Some, None, Result, Ok, Err}
use Rattle.adv_io.specs.Answers.{IsExpected}
use Rattle.adv_text.specs.Reading.{Input}
use Rattle.source_reader.specs.declared.faults.SourceFault.{SourceFault}
use Rattle.source_reader.specs.declared.faults.SourceFault.TheVariants as answer

-- what is wrong, and at which place
pub data Fault : Type 0 where
  unexpected : ℕ → Fault
  big_number : ℕ → Fault
  open_string : ℕ → Fault
  long_string : ℕ → Fault
  long_name : ℕ → Fault

-- the program's fault for a fault of reading
abbrev pub fault_answer : Fault → SourceFault
fault_answer (unexpected at) = answer.Unexpected at
fault_answer (big_number at) = answer.BigNumber at
fault_answer (open_string at) = answer.OpenString at
fault_answer (long_string at) = answer.LongString at
fault_answer (long_name at) = answer.LongName at

-- the fault of reading that an answer of the program is; want of memory is none
abbrev pub fault_of : SourceFault → Option Fault
fault_of (answer.Unexpected at) = Some (unexpected at)
fault_of (answer.BigNumber at) = Some (big_number at)
fault_of (answer.OpenString at) = Some (open_string at)
fault_of (answer.LongString at) = Some (long_string at)
fault_of (answer.LongName at) = Some (long_name at)
fault_of answer.Memory = None

-- a fault of the program is the one that reading gives, unless memory ran out
abbrev pub Stands : {X : Type 0} → SourceFault → Result X Fault → Type 0
Stands fault read = IsExpected fault_of fault read

-- a function answers what is read, and leaves the input after it
abbrev pub Reads : {X : Type 0} → Result (X × Input) Fault → Result X SourceFault → Input → Type 0
Reads read (Ok x) after = read ≡ Ok (x, after)
Reads read (Err fault) after = Stands fault read
