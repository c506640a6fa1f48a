use Rattle.std.proofs.Common.{List, ◌++◌, ◌∙◌, ap}
use Rattle.inform_tree.specs.declared.statements.Stmt.{Stmt}
use Rattle.inform_tree.specs.declared.statements.Case.{Case}
use Rattle.inform_tree.specs.Statements.{Statement, statements_of, cases_of}
use Rattle.inform_lexemes.specs.Lexemes.{Lexeme}
use Rattle.inform_lexer.specs.Written.{text_of}
use Rattle.inform_printer.specs.StatementLexemes.{statement_lexemes, statements_lexemes, cases_lexemes}
use Rattle.inform_printer.proofs.Loops.{ended}
use Rattle.inform_printer.proofs.Trees.{switch_tree, print_tree}
use Rattle.inform_printer.proofs.statements.+statements.Goals as goal

pub put_statements-returns : goal.put_statements-returns
put_statements-returns t c =
    let shown : List Stmt → List Lexeme → List Lexeme = λ xs. statements_lexemes (statements_of xs) in
    let l = c.loop-statement in
    ended shown shown _ _ l.statement-index _ _ c.loop-statement-test.false
    c.deref-statement-items.ensures.value l.invariant

pub put_cases-returns : goal.put_cases-returns
put_cases-returns t c =
    let shown : List Case → List Lexeme → List Lexeme = λ xs. cases_lexemes (cases_of xs) in
    let l = c.loop-case in
    ended shown shown _ _ l.case-index _ _ c.loop-case-test.false
    c.deref-case-items.ensures.value l.invariant

pub put_statement-returns-in_ok-put_default-in-Some : goal.put_statement-returns-in_ok-put_default-in-Some
put_statement-returns-in_ok-put_default-in-Some t c rest =
    c.in_ok-put_default-in-Some.ensures rest
    ∙ c.in_ok-put_cases-in-Switch.ensures _
    ∙ c.in_ok-put_switch-in-Switch.ensures _
    ∙ ap (λ (x : Statement). c.args.out.now.items ++ text_of (statement_lexemes x rest))
    (switch_tree _ _ _ _ _ c.in-Switch.is c.in-Some.is)

pub put_statement-returns-in_ok-put_sign-in-None : goal.put_statement-returns-in_ok-put_sign-in-None
put_statement-returns-in_ok-put_sign-in-None t c rest =
    c.in_ok-put_sign-in-None.ensures rest
    ∙ c.in_ok-put_cases-in-Switch.ensures _
    ∙ c.in_ok-put_switch-in-Switch.ensures _
    ∙ ap (λ (x : Statement). c.args.out.now.items ++ text_of (statement_lexemes x rest))
    (switch_tree _ _ _ _ _ c.in-Switch.is c.in-None.is)

pub put_statement-returns-in_ok-put_sign-in-Print : goal.put_statement-returns-in_ok-put_sign-in-Print
put_statement-returns-in_ok-put_sign-in-Print t c rest =
    c.in_ok-put_sign-in-Print.ensures rest
    ∙ c.in_ok-put_items-in-Print.ensures _
    ∙ c.in_ok-put_word-in-Print.ensures _
    ∙ ap (λ (x : Statement). c.args.out.now.items ++ text_of (statement_lexemes x rest))
    (print_tree _ _ _ c.in-Print.is c.deref-in-Print.ensures.value)
