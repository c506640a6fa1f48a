use Rattle.inform_reader.proofs.Answers.{sentence_told}
use Rattle.inform_reader.proofs.reading.read_tree.Goals as goal

pub returns-in_default : goal.returns-in_default
returns-in_default c = record {
  found = tt;
  fault = λ width.
      sentence_told c.fault_in.ensures c.args.bytes.now width c.args.found.items c.requires c.in-Err.fault c.in_default.not-Memory
      c.in-Err.ensures.fault;
}
