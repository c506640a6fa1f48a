use Rattle.std.proofs.Common.{◌≡◌, ◌≤◌, ◌-◌, length, drop}
use Rattle.inform_lexer.specs.Pieces.{cut}
use Rattle.inform_lexer.specs.Strings.{string_step, inside_said}
use Rattle.inform_lexer.specs.Views.{refused_at}
use Rattle.inform_lexer.proofs.insides.refused.Given as goal

-- what is refused is refused from here on
abbrev pub invariant-loop-at : goal.invariant-loop-at
invariant-loop-at l = record {
  inside : l.at ≤ length l.inside;
  same : refused_at (cut string_step 0 l.caret l.at (drop l.at l.inside)) ≡ refused_at (inside_said l.inside);
}

abbrev pub decreases-loop-at : goal.decreases-loop-at
decreases-loop-at l = length l.inside - l.at
