use Rattle.std.proofs.Common.{◌≡◌, ◌≤◌, ◌+◌, length}
use Rattle.adv_draws.specs.Run.{draw_of, draw_after}
use Rattle.adv_draws.proofs.RunLemmas.{run_at}
use Rattle.adv_draws.proofs.runs.any_draw.Given as goal

-- the number so far fits, and goes on to the run's draw
abbrev pub invariant-loop-byte : goal.invariant-loop-byte
invariant-loop-byte l = record {
  small : l.number ≤ 1207;
  goes_on : draw_after l.number (run_at l.text l.byte-index) ≡ draw_of (run_at l.text 0);
  counted : l.size ≡ l.byte-index;
  longer : l.size + length (run_at l.text l.byte-index) ≡ length (run_at l.text 0);
}
