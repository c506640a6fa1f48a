use Rattle.std.proofs.Common.{◌≡◌, drop}
use Rattle.std.specs.Prelude.{nat_eq, find}
use Rattle.std.specs.Cmp.Lexicographic.{pointwise}
use Rattle.inform_lexemes.specs.Keywords.{keyword_text}
use Rattle.inform_lexer.proofs.words.found_in.Given as goal

-- the first one is among those that are left
abbrev pub invariant-loop-keyword : goal.invariant-loop-keyword
invariant-loop-keyword l =
    find (λ keyword. pointwise nat_eq l.word (keyword_text keyword)) l.keywords
    ≡ find (λ keyword. pointwise nat_eq l.word (keyword_text keyword)) (drop l.keyword-index l.keywords)
