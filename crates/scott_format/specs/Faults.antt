-- Why a text is no database.
use Rattle.std.specs.Prelude.{ℕ, ℤ}
use Rattle.adv_text.specs.Reading.{Fault as TextFault}
use Rattle.adv_text.specs.Reading.{no_number, big_number, no_quote, open_string, long_string}
use Rattle.adv_text.specs.declared.faults.TextFault.{TextFault as TextAnswer}
use Rattle.adv_text.specs.declared.faults.TextFault.TheVariants as given
use Rattle.scott_format.specs.declared.faults.Field.{Field}
use Rattle.scott_format.specs.declared.faults.FormatFault.{FormatFault}
use Rattle.scott_format.specs.declared.faults.FormatFault.TheVariants as answer

-- what is wrong: a number or a string, or a number out of the limits of its place
pub data Fault : Type 0 where
  text : TextFault → Fault
  limit : Field → ℤ → Fault
  no_start : ℤ → Fault
  negative_action : ℕ → Fault

-- the program's fault for a fault of the format
abbrev pub fault_answer : Fault → FormatFault
fault_answer (text (no_number at)) = answer.NoNumber at
fault_answer (text (big_number at)) = answer.BigNumber at
fault_answer (text (no_quote at)) = answer.NoQuote at
fault_answer (text (open_string at)) = answer.OpenString at
fault_answer (text (long_string at)) = answer.LongString at
fault_answer (limit field value) = answer.Limit field value
fault_answer (no_start value) = answer.NoStart value
fault_answer (negative_action k) = answer.NegativeAction k

-- the fault of the format for a fault of its text
abbrev pub of_text : TextAnswer → FormatFault
of_text (given.NoNumber at) = answer.NoNumber at
of_text (given.BigNumber at) = answer.BigNumber at
of_text (given.NoQuote at) = answer.NoQuote at
of_text (given.OpenString at) = answer.OpenString at
of_text (given.LongString at) = answer.LongString at
of_text given.Memory = answer.Memory
