use Rattle.std.proofs.Common.{◌≡◌, take, map}
use Rattle.std.specs.Char.{to_ascii_lowercase}
use Rattle.inform_lexer.proofs.meanings.write_lower.Given as goal

-- so many bytes are written
abbrev pub invariant-loop-i : goal.invariant-loop-i
invariant-loop-i l = take l.i l.lower ≡ map to_ascii_lowercase (take l.i l.word)
