use Rattle.std.proofs.Common.{◌≡◌, ◌++◌, drop}
use Rattle.trans_data.proofs.word_tables.with_letters.Given as goal

-- the letters before, and those to come, are all
abbrev pub invariant-loop-letter : goal.invariant-loop-letter
invariant-loop-letter l =
    l.initial.all.items ++ l.word ≡ l.all.items ++ drop l.letter-index l.word
