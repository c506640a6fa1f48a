use Rattle.std.proofs.Common.{◌≡◌, ◌++◌, drop, map}
use Rattle.trans_specs.specs.Directives.{written}
use Rattle.trans_data.proofs.entries.written_entries.Given as goal

-- what was made of those before, and what is to be made of those to come, are all
abbrev pub invariant-loop-number : goal.invariant-loop-number
invariant-loop-number l =
    map written l.numbers ≡ l.entries.items ++ map written (drop l.number-index l.numbers)
