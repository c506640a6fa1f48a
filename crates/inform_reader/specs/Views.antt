-- Faults as the program holds them.
use Rattle.std.specs.Prelude.{◌≡◌, ℕ, Result, Err}
use Rattle.inform_grammar.specs.Faults as kind
use Rattle.inform_parser.specs.declared.faults.ParseFault.{ParseFault}
use Rattle.inform_parser.specs.declared.faults.ParseFault.TheVariants as p
use Rattle.inform_names.specs.Faults as names
use Rattle.inform_texts.specs.Faults.{NoTokens, NoSentence}
use Rattle.inform_reader.specs.declared.faults.ProgramFault.{ProgramFault}
use Rattle.inform_reader.specs.declared.faults.ProgramFault.TheVariants as f
use Rattle.inform_reader.specs.Reading.{Fault, NoProgram, NotAccepted}

abbrev pub sentence_answer : kind.FaultKind → ℕ → ParseFault
sentence_answer kind.Unexpected at = p.Unexpected at
sentence_answer kind.Mixed at = p.Mixed at
sentence_answer kind.TooDeep at = p.TooDeep at

-- a fault, as it is answered
abbrev pub fault_answer : Fault → ProgramFault
fault_answer (NoProgram (NoTokens fault)) = f.NoTokens fault
fault_answer (NoProgram (NoSentence kind at)) = f.NoSentence (sentence_answer kind at)
fault_answer (NotAccepted fault) = f.NotAccepted (names.fault_answer fault)

-- what was answered is the fault that is expected; want of memory may come in place of anything
abbrev pub Tells : {X : Type 0} → ProgramFault → Result X Fault → Type 0
Tells f.Memory expected = Unit {0}
Tells answer expected = (fault : Fault) × (expected ≡ Err fault) × (answer ≡ fault_answer fault)
