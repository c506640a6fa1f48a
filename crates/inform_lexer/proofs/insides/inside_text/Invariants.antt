use Rattle.std.proofs.Common.{◌≡◌, ◌≤◌, ◌-◌, length, drop}
use Rattle.inform_lexer.specs.Pieces.{added, cut}
use Rattle.inform_lexer.specs.Strings.{string_step, inside_said}
use Rattle.inform_lexer.proofs.insides.inside_text.Given as goal

-- what was said so far, and then what is said from here on
abbrev pub invariant-loop-at : goal.invariant-loop-at
invariant-loop-at l = record {
  inside : l.at ≤ length l.inside;
  same : added l.text.items (cut string_step 0 l.caret l.at (drop l.at l.inside)) ≡ inside_said l.inside;
}

abbrev pub decreases-loop-at : goal.decreases-loop-at
decreases-loop-at l = length l.inside - l.at
