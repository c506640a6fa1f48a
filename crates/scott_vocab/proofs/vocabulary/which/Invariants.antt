use Rattle.std.proofs.Common.{◌≡◌, ◌<◌, IfSome}
use Rattle.scott_rules.specs.Words.{which}
use Rattle.scott_vocab.specs.Found.{which_from}
use Rattle.scott_vocab.proofs.vocabulary.which.Given as goal

-- the answer is what is found from entry k on, and the nearest base entry stands before it
abbrev pub invariant-loop-k : goal.invariant-loop-k
invariant-loop-k l = record {
  found : which_from l.db l.column l.word l.nearest l.k ≡ which l.db l.column l.word;
  before : IfSome l.nearest (λ base. base < l.k);
}
