use Rattle.adv_text.proofs.Answered.{number_spelled, number_only, number_ends_there, number_exact}
use Rattle.adv_text.proofs.scan.Scan.number.Goals as goal

pub returns-clause-spelled : goal.returns-clause-spelled
returns-clause-spelled c = number_spelled c.args.self.now c.next_number.new.self c.next_number.result c.next_number.ensures.value

pub returns-clause-only : goal.returns-clause-only
returns-clause-only c = number_only c.args.self.now c.next_number.new.self c.next_number.result c.next_number.ensures.value c.next_number.ensures.fault

pub returns-clause-exact : goal.returns-clause-exact
returns-clause-exact c = number_exact c.args.self.now c.next_number.new.self c.next_number.result c.next_number.ensures.value c.next_number.ensures.fault

pub returns-clause-place : goal.returns-clause-place
returns-clause-place c = number_ends_there c.args.self.now c.next_number.new.self c.next_number.result c.next_number.ensures.value
