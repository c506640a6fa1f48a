use Rattle.std.proofs.Common.{◌≡◌, ◌++◌, drop, map}
use Rattle.trans_specs.specs.Tables.{bit}
use Rattle.trans_data.proofs.state_tables.flags.Given as goal

-- what was made of those before, and what is to be made of those to come, are all
abbrev pub invariant-loop-flag : goal.invariant-loop-flag
invariant-loop-flag l =
    map bit l.flags ≡ l.numbers.items ++ map bit (drop l.flag-index l.flags)
