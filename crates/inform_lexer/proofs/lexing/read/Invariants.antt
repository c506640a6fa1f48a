use Rattle.std.proofs.Common.{◌≡◌, ◌≤◌, ◌-◌, length, drop}
use Rattle.inform_lexer.specs.Pieces.{added, cut}
use Rattle.inform_lexer.specs.Tokens.{token_step, lexed, InOrder}
use Rattle.inform_lexer.proofs.lexing.read.Given as goal

-- the tokens so far, and then those from here on
abbrev pub invariant-loop-at : goal.invariant-loop-at
invariant-loop-at l = record {
  inside : l.at ≤ length l.bytes;
  same : added l.tokens.items (cut token_step 0 tt l.at (drop l.at l.bytes)) ≡ lexed l.bytes;
  order : InOrder l.at 0 l.tokens.items;
}

abbrev pub decreases-loop-at : goal.decreases-loop-at
decreases-loop-at l = length l.bytes - l.at
