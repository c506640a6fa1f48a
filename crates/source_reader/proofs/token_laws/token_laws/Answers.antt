use Rattle.source_reader.proofs.TokenReading.{token_is_exact as read_exactly, token_fault_is_exact as refused_exactly}
use Rattle.source_reader.proofs.token_laws.token_laws.Goals as goal

pub returns-clause-token_is_exact : goal.returns-clause-token_is_exact
returns-clause-token_is_exact c =
    read_exactly (record {
      number_is_spelled = c.number_is_spelled.ensures;
      spelled_number_is_read = c.spelled_number_is_read.ensures;
      number_fault_is_exact = c.number_fault_is_exact.ensures;
      number_ends = c.number_ends.ensures;
      string_is_spelled = c.string_is_spelled.ensures;
      spelled_string_is_read = c.spelled_string_is_read.ensures;
      string_fault_is_exact = c.string_fault_is_exact.ensures;
      string_ends = c.string_ends.ensures;
    })

pub returns-clause-token_fault_is_exact : goal.returns-clause-token_fault_is_exact
returns-clause-token_fault_is_exact c =
    refused_exactly (record {
      number_is_spelled = c.number_is_spelled.ensures;
      spelled_number_is_read = c.spelled_number_is_read.ensures;
      number_fault_is_exact = c.number_fault_is_exact.ensures;
      number_ends = c.number_ends.ensures;
      string_is_spelled = c.string_is_spelled.ensures;
      spelled_string_is_read = c.spelled_string_is_read.ensures;
      string_fault_is_exact = c.string_fault_is_exact.ensures;
      string_ends = c.string_ends.ensures;
    })
