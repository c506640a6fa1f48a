use Rattle.std.proofs.Common.{◌≡◌, map, take, length}
use Rattle.adv_io.specs.TypedLine.{line_byte}
use Rattle.adv_io.proofs.lines.Line.of.Given as goal

-- what was kept so far is the line of the bytes so far
abbrev pub invariant-loop-byte : goal.invariant-loop-byte
invariant-loop-byte l = record {
  kept : l.kept.items ≡ map line_byte (take l.byte-index l.byte-items);
  length_is : length l.kept.items ≡ l.byte-index;
}
