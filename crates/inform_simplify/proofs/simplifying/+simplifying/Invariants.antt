use Rattle.std.proofs.Common.{map}
use Rattle.inform_tree.specs.Statements.{statement_of, statements_of, case_of, cases_of}
use Rattle.inform_simplify.proofs.Kept.{StatementsKept, CasesKept}
use Rattle.inform_simplify.proofs.simplifying.+simplifying.Given as goal

abbrev pub invariant-simplified-loop-statement : goal.invariant-simplified-loop-statement
invariant-simplified-loop-statement l = StatementsKept l.width (statements_of l.fn.statements.items) (map statement_of l.kept.items) (statements_of l.statement-iterator.rest.items)

abbrev pub invariant-simplified_cases-loop-case : goal.invariant-simplified_cases-loop-case
invariant-simplified_cases-loop-case l = CasesKept l.width (cases_of l.fn.cases.items) (map case_of l.kept.items) (cases_of l.case-iterator.rest.items)
