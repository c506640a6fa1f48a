use Rattle.std.proofs.Common.{arith}
use Rattle.inform_tree.specs.Statements.{statement_of, case_of}
use Rattle.inform_simplify.proofs.Compared.{unlike_long, unlike_at, statements_apart, cases_apart}
use Rattle.inform_simplify.proofs.equal_statements.+statements.Goals as goal

pub statements_are_equal-returns-then-len : goal.statements_are_equal-returns-then-len
statements_are_equal-returns-then-len t c = unlike_long statement_of c.args.xs.now.items c.args.ys.now.items (statements_apart _ _) (λ e. c.if-len.true (omega (arith, c.args.xs.now.ok.0, c.args.ys.now.ok.0)))

pub statements_are_equal-returns-then-not-statement_is_equal : goal.statements_are_equal-returns-then-not-statement_is_equal
statements_are_equal-returns-then-not-statement_is_equal t c = unlike_at statement_of c.args.xs.now.items c.args.ys.now.items _ c.loop-i.i _ _ (statements_apart _ _) c.deref-x-items.ensures.value (omega (arith, c.args.xs.now.ok.0)) c.x-item.is c.index.ensures c.if-not-statement_is_equal.ensures.1

pub cases_are_equal-returns-then-len : goal.cases_are_equal-returns-then-len
cases_are_equal-returns-then-len t c = unlike_long case_of c.args.xs.now.items c.args.ys.now.items (cases_apart _ _) (λ e. c.if-len.true (omega (arith, c.args.xs.now.ok.0, c.args.ys.now.ok.0)))

pub cases_are_equal-returns-then-not-case_is_equal : goal.cases_are_equal-returns-then-not-case_is_equal
cases_are_equal-returns-then-not-case_is_equal t c = unlike_at case_of c.args.xs.now.items c.args.ys.now.items _ c.loop-i.i _ _ (cases_apart _ _) c.deref-x-items.ensures.value (omega (arith, c.args.xs.now.ok.0)) c.x-item.is c.index.ensures c.if-not-case_is_equal.ensures.1
