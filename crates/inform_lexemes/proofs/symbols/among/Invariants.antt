use Rattle.std.proofs.Common.{◌≡◌, drop}
use Rattle.std.specs.Prelude.{nat_eq, find}
use Rattle.std.specs.Cmp.Lexicographic.{pointwise}
use Rattle.inform_lexemes.specs.Symbols.{symbol_text}
use Rattle.inform_lexemes.proofs.symbols.among.Given as goal

-- none of those before is spelled so
abbrev pub invariant-loop-symbol : goal.invariant-loop-symbol
invariant-loop-symbol l =
    find (λ symbol. pointwise nat_eq l.text (symbol_text symbol)) l.symbols ≡ find (λ symbol. pointwise nat_eq l.text (symbol_text symbol)) (drop l.symbol-index l.symbols)
