use Rattle.scott_tool.proofs.program.reading_laws.Goals as goal

pub returns : goal.returns
returns c = record {
  database = c.database_in.ensures;
  database_fault = c.fault_in.ensures;
  source = c.source_in.ensures;
  source_fault = c.fault_in-2.ensures;
  program = c.program_in.ensures;
  program_fault = c.fault_in-3.ensures;
  position = c.text_is_read.ensures;
  bad_line = c.bad_line_is_found.ensures;
  steps = c.steps_are_shown.ensures;
  counts_stay = c.counts_stay.ensures;
  lines_alike = c.lines_count_alike.ensures;
}
