use Rattle.std.proofs.Common.{◌≡◌, ◌+◌, length}
use Rattle.adv_text.specs.Reading.{past_whitespace}
use Rattle.adv_text.proofs.scan.Scan.after_whitespace.Given as goal

abbrev pub invariant-loop-rest : goal.invariant-loop-rest
invariant-loop-rest l = record {
  place : l.at + length l.rest ≡ l.fn.self.at + length l.fn.self.rest;
  same : past_whitespace l.at l.rest ≡ past_whitespace l.fn.self.at l.fn.self.rest;
}

abbrev pub decreases-loop-rest : goal.decreases-loop-rest
decreases-loop-rest l = length l.rest
