-- What a function of the reader answers, held to a plan.
use Rattle.std.specs.Prelude.{◌≡◌, Option, Some, None, Result, Ok, Err}
use Rattle.adv_io.specs.Answers.{IsExpected}
use Rattle.adv_text.specs.Reading.{Input, no_number, big_number, no_quote, open_string, long_string}
use Rattle.scott_format.specs.declared.faults.FormatFault.{FormatFault}
use Rattle.scott_format.specs.declared.faults.FormatFault.TheVariants as answer
use Rattle.scott_types.specs.Database.{Database}
use Rattle.scott_types.specs.declared.databases.Db.{Db}
use Rattle.scott_format.specs.Faults.{Fault, text, limit, no_start, negative_action}
use Rattle.scott_format.specs.Plan.{Plan, run}

-- the fault of the format that an answer of the program is; want of memory is none
abbrev pub fault_of : FormatFault → Option Fault
fault_of (answer.NoNumber at) = Some (text (no_number at))
fault_of (answer.BigNumber at) = Some (text (big_number at))
fault_of (answer.NoQuote at) = Some (text (no_quote at))
fault_of (answer.OpenString at) = Some (text (open_string at))
fault_of (answer.LongString at) = Some (text (long_string at))
fault_of (answer.Limit field value) = Some (limit field value)
fault_of (answer.NoStart value) = Some (no_start value)
fault_of (answer.NegativeAction k) = Some (negative_action k)
fault_of answer.Memory = None

-- a fault of the program is the one that the plan reaches, unless memory ran out
abbrev pub Stands : {X : Type 0} → FormatFault → Result X Fault → Type 0
Stands fault read = IsExpected fault_of fault read

-- from an input to another, a function gives what the plan reads, seen by view
abbrev pub Gives : {X Y : Type 0} → (X → Y) → Plan Y → Input → Result X FormatFault → Input → Type 0
Gives view plan s (Ok x) after = run plan s ≡ Ok (view x, after)
Gives view plan s (Err fault) after = Stands fault (run plan s)

-- the same, of a value as it is
abbrev pub Follows : {X : Type 0} → Plan X → Input → Result X FormatFault → Input → Type 0
Follows plan s r after = Gives (λ x. x) plan s r after

-- the database was read, unless memory ran out
abbrev pub IsDb : Result Db FormatFault → Database → Type 0
IsDb (Ok read) db = read ≡ db
IsDb (Err fault) db = fault ≡ answer.Memory
