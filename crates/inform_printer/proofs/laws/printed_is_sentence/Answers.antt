use Rattle.inform_printer.proofs.ShownPrograms.{printed_is_sentence as law}
use Rattle.inform_printer.proofs.laws.printed_is_sentence.Goals as goal

pub returns : goal.returns
returns c = law
