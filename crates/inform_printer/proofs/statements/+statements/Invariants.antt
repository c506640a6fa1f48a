use Rattle.std.proofs.Common.{◌≡◌, ◌++◌, List, drop}
use Rattle.inform_tree.specs.Statements.{statements_of, cases_of}
use Rattle.inform_lexemes.specs.Lexemes.{Lexeme}
use Rattle.inform_lexer.specs.Written.{text_of}
use Rattle.inform_printer.specs.StatementLexemes.{statements_lexemes, cases_lexemes}
use Rattle.inform_printer.proofs.statements.+statements.Given as goal

abbrev pub invariant-put_statements-loop-statement : goal.invariant-put_statements-loop-statement
invariant-put_statements-loop-statement l =
    (rest : List Lexeme) → l.out.items ++ text_of
    (statements_lexemes (statements_of (drop l.statement-index l.statement-items)) rest)
    ≡ l.fn.out.items ++ text_of (statements_lexemes (statements_of l.statement-items) rest)

abbrev pub invariant-put_cases-loop-case : goal.invariant-put_cases-loop-case
invariant-put_cases-loop-case l =
    (rest : List Lexeme) → l.out.items ++ text_of
    (cases_lexemes (cases_of (drop l.case-index l.case-items)) rest)
    ≡ l.fn.out.items ++ text_of (cases_lexemes (cases_of l.case-items) rest)
