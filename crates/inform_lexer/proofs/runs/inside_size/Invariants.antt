use Rattle.std.proofs.Common.{◌≡◌, ◌+◌, length}
use Rattle.std.specs.List.{prefix_len}
use Rattle.inform_lexer.specs.Bytes.{is_inside}
use Rattle.inform_lexer.proofs.runs.inside_size.Given as goal

-- the inside goes on from here
abbrev pub invariant-loop-rest : goal.invariant-loop-rest
invariant-loop-rest l = record {
  whole : l.size + length l.rest ≡ length l.fn.bytes;
  same : prefix_len is_inside l.fn.bytes ≡ l.size + prefix_len is_inside l.rest;
}

abbrev pub decreases-loop-rest : goal.decreases-loop-rest
decreases-loop-rest l = length l.rest
