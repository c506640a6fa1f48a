use Rattle.inform_printer.proofs.ReadBack.{printed_reads_back as law}
use Rattle.inform_printer.proofs.laws.printed_reads_back.Goals as goal

pub returns : goal.returns
returns c = law c.text_reads_back.ensures
