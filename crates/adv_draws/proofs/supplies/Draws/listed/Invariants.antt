use Rattle.std.proofs.Common.{◌≡◌, ◌-◌, ◌+◌, ◌≤◌, length, drop}
use Rattle.adv_draws.specs.Run.{AllDraws, runs_after}
use Rattle.adv_draws.specs.Listed.{followed_by, draws_of, listed_draws}
use Rattle.adv_draws.proofs.supplies.Draws.listed.Given as goal

-- the draws so far and those of the rest are those of the text
abbrev pub invariant-loop-offset : goal.invariant-loop-offset
invariant-loop-offset l = record {
  goes_on : followed_by l.draws.items (draws_of (runs_after 32 l.offset (drop l.offset l.bytes))) ≡ listed_draws l.bytes;
  drawn : AllDraws l.draws.items;
  within : l.offset ≤ length l.bytes + 1;
}

-- each step goes further into the text
abbrev pub decreases-loop-offset : goal.decreases-loop-offset
decreases-loop-offset l = length l.bytes + 1 - l.offset
