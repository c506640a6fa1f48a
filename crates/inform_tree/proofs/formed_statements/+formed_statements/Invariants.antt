use Rattle.std.proofs.Common.{◌≡◌, drop}
use Rattle.inform_tree.specs.Statements.{statements_of, cases_of}
use Rattle.inform_tree.specs.Formed.{are_formed_statements, are_formed_cases}
use Rattle.inform_tree.proofs.formed_statements.+formed_statements.Given as goal

abbrev pub invariant-statements_are_formed-loop-statement : goal.invariant-statements_are_formed-loop-statement
invariant-statements_are_formed-loop-statement l = are_formed_statements (statements_of l.statement-items) ≡ are_formed_statements (statements_of (drop l.statement-index l.statement-items))

abbrev pub invariant-cases_are_formed-loop-case : goal.invariant-cases_are_formed-loop-case
invariant-cases_are_formed-loop-case l = are_formed_cases (cases_of l.case-items) ≡ are_formed_cases (cases_of (drop l.case-index l.case-items))
