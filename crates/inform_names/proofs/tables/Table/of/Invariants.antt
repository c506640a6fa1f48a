use Rattle.std.proofs.Common.{◌≡◌, drop, map}
use Rattle.inform_tree.specs.Programs.{directive_of}
use Rattle.inform_names.specs.Meanings.{meanings, meanings_from}
use Rattle.inform_names.specs.Tables.{found_in}
use Rattle.inform_names.proofs.tables.Table.of.Given as goal

abbrev pub invariant-loop-at : goal.invariant-loop-at
invariant-loop-at l = meanings_from l.width (found_in l.table) l.at
    (map directive_of (drop l.at l.directive-items))
    ≡ meanings l.width (map directive_of l.directive-items)
