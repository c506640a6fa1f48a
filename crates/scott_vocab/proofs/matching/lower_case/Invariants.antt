use Rattle.std.proofs.Common.{◌≡◌, take}
use Rattle.std.specs.Str.{str_to_ascii_lowercase}
use Rattle.scott_vocab.proofs.matching.lower_case.Given as goal

-- the bytes so far are there, in lower case
abbrev pub invariant-loop-byte : goal.invariant-loop-byte
invariant-loop-byte l = l.lower.items ≡ str_to_ascii_lowercase (take l.byte-index l.bytes)
