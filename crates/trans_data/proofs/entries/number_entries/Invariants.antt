use Rattle.std.proofs.Common.{◌≡◌, ◌++◌, drop, map}
use Rattle.inform_tree.specs.declared.values.Const.TheVariants as k
use Rattle.trans_data.proofs.entries.number_entries.Given as goal

-- what was made of those before, and what is to be made of those to come, are all
abbrev pub invariant-loop-number : goal.invariant-loop-number
invariant-loop-number l =
    map k.Number l.numbers ≡ l.entries.items ++ map k.Number (drop l.number-index l.numbers)
