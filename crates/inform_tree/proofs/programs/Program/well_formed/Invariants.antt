use Rattle.std.proofs.Common.{◌≡◌, drop}
use Rattle.std.specs.Prelude.{map}
use Rattle.inform_tree.specs.Programs.{directive_of}
use Rattle.inform_tree.specs.Formed.{is_well_formed}
use Rattle.inform_tree.proofs.programs.Program.well_formed.Given as goal

abbrev pub invariant-loop-directive : goal.invariant-loop-directive
invariant-loop-directive l = is_well_formed (map directive_of l.directive-items) ≡ is_well_formed (map directive_of (drop l.directive-index l.directive-items))
