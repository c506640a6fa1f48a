-- The worked examples hold by computing.
use Rattle.std.proofs.Common.{refl}
use Rattle.std.specs.Fmt.{digits}
use Rattle.inform_lexer.specs.Written.{string_text, written, text_of}
use Rattle.inform_printer.specs.Printing.{printed}
use Rattle.inform_printer.specs.Worked.{ChainsPrinted, OperandsPrinted, ConditionsPrinted, ElsePrinted, CasesPrinted, TextsPrinted, ProgramPrinted}

pub chains_printed : ChainsPrinted
unfolding written text_of digits
chains_printed = (refl, refl, refl)

pub operands_printed : OperandsPrinted
unfolding written text_of digits
operands_printed = (refl, refl, refl, refl)

pub conditions_printed : ConditionsPrinted
unfolding written text_of
conditions_printed = (refl, refl)

pub else_printed : ElsePrinted
unfolding written text_of
else_printed = (refl, refl)

pub cases_printed : CasesPrinted
unfolding written text_of digits
cases_printed = refl

pub texts_printed : TextsPrinted
unfolding string_text written text_of digits
texts_printed = (refl, refl)

pub program_printed : ProgramPrinted
unfolding printed written text_of digits
program_printed = refl
