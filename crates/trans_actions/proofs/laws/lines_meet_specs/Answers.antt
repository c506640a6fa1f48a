use Rattle.trans_actions.proofs.LinesMet.{lines_meet_specs as law}
use Rattle.trans_actions.proofs.laws.lines_meet_specs.Goals as goal

pub returns : goal.returns
returns c = law (record {
  opcode_fits = c.opcode_fits.ensures;
  globals_written = c.globals_written.ensures;
  entries_written = c.entries_written.ensures;
  their_words = c.numbers_are_their_words.ensures;
  have_words = c.lines_have_words.ensures;
}) c.lines_are_numbered.ensures
