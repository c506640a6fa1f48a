use Rattle.std.proofs.Common.{◌≡◌, ◌+◌, false, drop}
use Rattle.source_reader.specs.Tokens.{gap}
use Rattle.source_reader.proofs.scanning.gap.Given as goal

-- so many bytes were passed, and the others are counted from here
abbrev pub invariant-loop-byte : goal.invariant-loop-byte
invariant-loop-byte l = (l.size ≡ l.byte-index) × (gap false l.bytes ≡ l.size + gap l.commented (drop l.byte-index l.bytes))
