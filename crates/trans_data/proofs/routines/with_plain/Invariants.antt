use Rattle.std.proofs.Common.{◌≡◌, ◌++◌, drop, map}
use Rattle.scott_types.specs.Phrase.{text_of}
use Rattle.trans_data.proofs.routines.with_plain.Given as goal

-- the names so far, and the texts to come, are all of them
abbrev pub invariant-loop-phrase : goal.invariant-loop-phrase
invariant-loop-phrase l =
    map (λ n. n.now) l.initial.names.items ++ map text_of l.phrases
    ≡ map (λ n. n.now) l.names.items ++ map text_of (drop l.phrase-index l.phrases)
