use Rattle.std.proofs.Common.{◌≡◌, ◌++◌, replicate}
use Rattle.trans_data.proofs.word_tables.with_zeros.Given as goal

-- the zeros so far
abbrev pub invariant-loop : goal.invariant-loop
invariant-loop l = l.all.items ≡ l.initial.all.items ++ replicate l.counter 0
