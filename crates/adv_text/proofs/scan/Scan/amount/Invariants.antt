use Rattle.std.proofs.Common.{◌≡◌, ◌+◌, ◌≤◌, length}
use Rattle.adv_text.specs.Spelling.{greatest}
use Rattle.adv_text.specs.Reading.{digits_at, amount_at}
use Rattle.adv_text.proofs.scan.Scan.amount.Given as goal

abbrev pub invariant-loop-rest : goal.invariant-loop-rest
invariant-loop-rest l = record {
  place : l.at + length l.rest ≡ l.fn.self.at + length l.fn.self.rest;
  fits : l.amount ≤ greatest l.negative;
  same : digits_at l.negative l.start l.amount l.at l.rest ≡ amount_at l.negative l.start l.fn.self.at l.fn.self.rest;
}

abbrev pub decreases-loop-rest : goal.decreases-loop-rest
decreases-loop-rest l = length l.rest
