use Rattle.std.proofs.Common.{◌≡◌, ◌++◌, List, false, drop}
use Rattle.inform_tree.specs.Values.{arguments_of, terms_of, factors_of}
use Rattle.inform_lexemes.specs.Lexemes.{Lexeme}
use Rattle.inform_lexer.specs.Written.{text_of}
use Rattle.inform_printer.specs.ValueLexemes.{argument_lexemes, term_lexemes, factor_lexemes}
use Rattle.inform_printer.proofs.values.+values.Given as goal

abbrev pub invariant-put_arguments-loop-argument : goal.invariant-put_arguments-loop-argument
invariant-put_arguments-loop-argument l =
    (rest : List Lexeme) → l.out.items ++ text_of
    (argument_lexemes l.later (arguments_of (drop l.argument-index l.argument-items)) rest)
    ≡ l.fn.out.items ++ text_of (argument_lexemes false (arguments_of l.argument-items) rest)

abbrev pub invariant-put_terms-loop-op : goal.invariant-put_terms-loop-op
invariant-put_terms-loop-op l =
    (rest : List Lexeme) → l.out.items ++ text_of
    (term_lexemes (terms_of (drop l.op-index l.op-items)) rest) ≡ l.fn.out.items ++ text_of
    (term_lexemes (terms_of l.op-items) rest)

abbrev pub invariant-put_factors-loop-op : goal.invariant-put_factors-loop-op
invariant-put_factors-loop-op l =
    (rest : List Lexeme) → l.out.items ++ text_of
    (factor_lexemes (factors_of (drop l.op-index l.op-items)) rest) ≡ l.fn.out.items ++ text_of
    (factor_lexemes (factors_of l.op-items) rest)
