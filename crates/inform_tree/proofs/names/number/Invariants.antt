use Rattle.std.proofs.Common.{◌≡◌, length}
use Rattle.inform_tree.specs.Names.{with_bytes, name_number}
use Rattle.inform_tree.proofs.names.number.Given as goal

-- what is left of the bytes goes before what the number tells
abbrev pub invariant-loop-rest : goal.invariant-loop-rest
invariant-loop-rest l = name_number l.bytes ≡ with_bytes l.rest l.number

abbrev pub decreases-loop-rest : goal.decreases-loop-rest
decreases-loop-rest l = length l.rest
