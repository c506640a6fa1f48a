use Rattle.std.proofs.Common.{◌≡◌, max, drop}
use Rattle.inform_tree.specs.Statements.{statements_of, cases_of}
use Rattle.inform_tree.specs.Depths.{statements_depth, cases_depth, counted}
use Rattle.inform_tree.proofs.statement_depths.+statement_depths.Given as goal

abbrev pub invariant-depth_of_statements-loop-statement : goal.invariant-depth_of_statements-loop-statement
invariant-depth_of_statements-loop-statement l = counted (statements_depth (statements_of l.statement-items)) ≡ max l.deepest (counted (statements_depth (statements_of (drop l.statement-index l.statement-items))))

abbrev pub invariant-depth_of_cases-loop-case : goal.invariant-depth_of_cases-loop-case
invariant-depth_of_cases-loop-case l = counted (cases_depth (cases_of l.case-items)) ≡ max l.deepest (counted (cases_depth (cases_of (drop l.case-index l.case-items))))
