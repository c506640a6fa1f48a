use Rattle.std.proofs.Common.{map}
use Rattle.inform_tree.specs.Programs.{directive_of, program_of}
use Rattle.inform_simplify.proofs.Kept.{DirectivesKept}
use Rattle.inform_simplify.proofs.program.simplified_program.Given as goal

abbrev pub invariant-loop-directive : goal.invariant-loop-directive
invariant-loop-directive l = DirectivesKept l.width (program_of l.fn.old) (map directive_of l.kept.items) (map directive_of l.directive-iterator.rest.items)
