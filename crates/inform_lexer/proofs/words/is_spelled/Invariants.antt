use Rattle.std.proofs.Common.{◌≡◌, drop, length}
use Rattle.std.specs.Prelude.{nat_eq}
use Rattle.std.specs.Cmp.Lexicographic.{pointwise}
use Rattle.inform_lexer.proofs.words.is_spelled.Given as goal

-- what is left of both is the same where both are
abbrev pub invariant-loop-i : goal.invariant-loop-i
invariant-loop-i l = record {
  long : length l.word ≡ length l.spelling;
  same : pointwise nat_eq l.word l.spelling ≡ pointwise nat_eq (drop l.i l.word) (drop l.i l.spelling);
}
