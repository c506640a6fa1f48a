use Rattle.std.proofs.Common.{◌≡◌, take}
use Rattle.std.specs.Str.{str_to_ascii_lowercase}
use Rattle.scott_vocab.proofs.matching.is_spelled.Given as goal

-- so far they are the same
abbrev pub invariant-loop-i : goal.invariant-loop-i
invariant-loop-i l = take l.i (str_to_ascii_lowercase l.word) ≡ take l.i l.lower
