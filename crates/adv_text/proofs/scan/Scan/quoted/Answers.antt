use Rattle.adv_text.proofs.Answered.{string_spelled, string_only, string_ends_there, string_exact, string_expected}
use Rattle.adv_text.proofs.scan.Scan.quoted.Goals as goal

pub returns-clause-spelled : goal.returns-clause-spelled
returns-clause-spelled c = string_spelled c.args.self.now c.next_string.new.self c.next_string.result c.next_string.ensures.value

pub returns-clause-only : goal.returns-clause-only
returns-clause-only c = string_only c.args.self.now c.next_string.new.self c.next_string.result c.next_string.ensures.value c.next_string.ensures.fault

pub returns-clause-exact : goal.returns-clause-exact
returns-clause-exact c = string_exact c.args.self.now c.next_string.new.self c.next_string.result c.next_string.ensures.fault

pub returns-clause-expected : goal.returns-clause-expected
returns-clause-expected c = string_expected c.args.self.now c.next_string.new.self c.next_string.result c.next_string.ensures.value c.next_string.ensures.fault

pub returns-clause-place : goal.returns-clause-place
returns-clause-place c = string_ends_there c.args.self.now c.next_string.new.self c.next_string.result c.next_string.ensures.value
