use Rattle.std.proofs.Common.{◌≡◌, [], map, take, unwrap_or}
use Rattle.inform_tree.specs.Programs.{directive_of}
use Rattle.inform_names.specs.Views.{names_of}
use Rattle.inform_meaning.specs.Programs.{array_in}
use Rattle.inform_worlds.proofs.openings.first_arrays.Given as goal

abbrev pub invariant-loop-directive : goal.invariant-loop-directive
invariant-loop-directive l =
    (l.directive-items ≡ l.names.accepted.now.program.directives.items)
    × (map (λ entries. entries.items) l.arrays.items
    ≡ map (λ x. unwrap_or (array_in l.names.accepted.now.width (names_of l.names.accepted.now) (directive_of x)) []) (take l.directive-index l.directive-items))
