use Rattle.std.proofs.Common.{◌≡◌, ◌+◌, drop}
use Rattle.std.specs.List.{prefix_len}
use Rattle.inform_lexer.specs.Views.{in_run}
use Rattle.inform_lexer.proofs.runs.Run.size.Given as goal

-- the run goes on from here
abbrev pub invariant-loop-byte : goal.invariant-loop-byte
invariant-loop-byte l = record {
  passed : l.size ≡ l.byte-index;
  same : prefix_len (in_run l.self) l.bytes ≡ l.size + prefix_len (in_run l.self) (drop l.byte-index l.bytes);
}
