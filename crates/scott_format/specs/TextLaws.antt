-- What is known of numbers and strings.
use Rattle.adv_text.specs.Laws.{NumberIsSpelled, SpelledNumberIsRead, NumberFaultIsExact, StringIsSpelled, SpelledStringIsRead, StringFaultIsExact, NumberEnds, StringEnds, NumberFits, StringIsText, NumberLeavesBytes, StringLeavesBytes, NumberStays, StringStays, WrittenNumberIsSpelled, WrittenStringIsSpelled}

pub record TextLaws : Type 0 where
  pub number_is_spelled : NumberIsSpelled
  pub spelled_number_is_read : SpelledNumberIsRead
  pub number_fault_is_exact : NumberFaultIsExact
  pub string_is_spelled : StringIsSpelled
  pub spelled_string_is_read : SpelledStringIsRead
  pub string_fault_is_exact : StringFaultIsExact
  pub number_ends : NumberEnds
  pub string_ends : StringEnds
  pub number_fits : NumberFits
  pub string_is_text : StringIsText
  pub number_leaves_bytes : NumberLeavesBytes
  pub string_leaves_bytes : StringLeavesBytes
  pub number_stays : NumberStays
  pub string_stays : StringStays
  pub written_number_is_spelled : WrittenNumberIsSpelled
  pub written_string_is_spelled : WrittenStringIsSpelled
