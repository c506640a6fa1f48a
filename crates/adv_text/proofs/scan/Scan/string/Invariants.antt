use Rattle.std.proofs.Common.{◌≡◌, ◌+◌, ◌≤◌, length}
use Rattle.adv_text.specs.Reading.{inside_at, opening_at}
use Rattle.adv_text.proofs.scan.Scan.string.Given as goal

abbrev pub invariant-loop-text : goal.invariant-loop-text
invariant-loop-text l = record {
  short : length l.text.items ≤ 4096;
  place : l.at + length l.rest ≡ l.fn.self.at + length l.fn.self.rest;
  same : inside_at l.fn.self.at l.held l.text.items l.at l.rest ≡ opening_at l.fn.self.at l.fn.self.rest;
}

abbrev pub decreases-loop-text : goal.decreases-loop-text
decreases-loop-text l = length l.rest
