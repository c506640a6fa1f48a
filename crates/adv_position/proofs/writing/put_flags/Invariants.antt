use Rattle.std.proofs.Common.{◌≡◌, ◌++◌, map, take}
use Rattle.adv_position.specs.Numbers.{bit}
use Rattle.adv_position.specs.Text.{spaced}
use Rattle.adv_position.proofs.writing.put_flags.Given as goal

-- the flags so far are written
abbrev pub invariant-loop-flag : goal.invariant-loop-flag
invariant-loop-flag l =
    l.out.items ≡ l.initial.out.items ++ spaced (map bit (take l.flag-index l.flags))
