-- That what declines a step declines what comes of it.
use Rattle.std.proofs.Common.{Option, Some, None, Result, ap}
use Rattle.scott_tool.specs.Steps.{◌>>=◌}
use Rattle.scott_tool.specs.Refusal.{Refusal, Unfit, no_request, unread, too_long, unfit, unwritten}
use Rattle.scott_tool.specs.Obeying.{Declines}

-- the first step is declined
pub declined-first : {X Y : Type 0} (expected : Result X Unfit) (next : X → Result Y Unfit)
    (refusal : Option Refusal) → Declines expected refusal → Declines (expected >>= next) refusal
declined-first expected next None d = tt
declined-first expected next (Some no_request) d = absurd d
declined-first expected next (Some (unread name)) d = absurd d
declined-first expected next (Some (too_long name limit)) d = absurd d
declined-first expected next (Some (unfit u)) d = ap (λ r. r >>= next) d
declined-first expected next (Some (unwritten name)) d = absurd d
