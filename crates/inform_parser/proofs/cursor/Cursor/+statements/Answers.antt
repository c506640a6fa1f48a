use Rattle.std.proofs.Common.{◌∙◌, sym, ap, map, arith, refl}
use Rattle.inform_tree.specs.Statements.{statement_of}
use Rattle.inform_parser.specs.Parts.{part_of}
use Rattle.inform_parser.proofs.Loops.{goes_on}
use Rattle.inform_parser.proofs.BodySteps.{statement_more, statement_last, part_more, statement_as, block_as, body_as, if_statement_as, while_statement_as, do_statement_as, for_statement_as, for_test_as, for_last_as, switch_as, part_name, part_bare, part_said, part_last}
use Rattle.inform_tree.proofs.Views.{statement_of_if, statement_of_while, statement_of_do, statement_of_for, statement_of_switch, statement_of_switch_with_default}
use Rattle.inform_grammar.specs.StatementRules.{else_after, for_body}
use Rattle.inform_parser.specs.Plans.{statements_in_braces, default_read}
use Rattle.inform_parser.proofs.TreesMade.{statement_of_empty, statement_of_block}
use Rattle.inform_parser.proofs.InTurn.{only, made, same, same_some, known, ended, ended_some, shuts, told, memory, stops, stops_some, follows, follows_some, resumed, passed, there, other, other_some}
use Rattle.inform_grammar.specs.Rules as r
use Rattle.inform_parser.proofs.cursor.Cursor.«+statements».Goals as goal

pub statements-loop-alloc-preserved : goal.statements-loop-alloc-preserved
statements-loop-alloc-preserved t c =
    let l = c.loop-alloc in (
      goes_on r.Statement statement_of l.statements.items c.push.new.self.items c.in_ok-statement.statement l.self c.statement.new.self _
          (statement_more (map statement_of l.statements.items) l.self (sym c.at_statement.ensures ∙ c.loop-alloc-test.true)) c.in_ok-push.ensures.items
          c.in_ok-statement.ensures.gives l.invariant.0,
      omega arith,
    )

pub parts-loop-alloc-preserved : goal.parts-loop-alloc-preserved
parts-loop-alloc-preserved t c =
    let l = c.loop-alloc in (
      goes_on r.Part part_of l.parts.items c.push.new.self.items c.in_ok-part.part l.self c.part.new.self _
          (part_more (map part_of l.parts.items) l.self (sym c.at_part.ensures ∙ c.loop-alloc-test.true)) c.in_ok-push.ensures.items
          c.in_ok-part.ensures.gives l.invariant.0,
      omega arith,
    )

pub default_after-returns-in_err-expect : goal.default_after-returns-in_err-expect
unfolding default_read
default_after-returns-in_err-expect t c = only (passed _ _ (sym c.at_word.ensures ∙ c.if-at_word.true) c.pass_word.ensures (stops _ c.from_residual.result c.from_residual.ensures.1 (only c.in_err-expect.ensures)))

pub default_after-returns-in_err-body : goal.default_after-returns-in_err-body
unfolding default_read
default_after-returns-in_err-body t c = only (passed _ _ (sym c.at_word.ensures ∙ c.if-at_word.true) c.pass_word.ensures (follows _ (only c.in_ok-expect.ensures) (stops _ c.from_residual-in_err-body.result c.from_residual-in_err-body.ensures.1 c.in_err-body.ensures)))

pub default_after-returns-then-at_word : goal.default_after-returns-then-at_word
unfolding default_read
default_after-returns-then-at_word t c = only (passed _ _ (sym c.at_word.ensures ∙ c.if-at_word.true) c.pass_word.ensures (follows _ (only c.in_ok-expect.ensures) (follows _ c.in_ok-body.ensures (told (statement_of_switch_with_default _ _ _) (only c.statement_to.ensures)))))

pub default_after-returns : goal.default_after-returns
unfolding default_read
default_after-returns t c = other _ _ (sym c.at_word.ensures ∙ c.if-at_word.false) (told (statement_of_switch _ _) (only c.statement_to-2.ensures))

pub do_statement-returns-in_err-expect_word : goal.do_statement-returns-in_err-expect_word
do_statement-returns-in_err-expect_word t c = same_some _ (do_statement_as _) (stops_some _ c.from_residual.result c.from_residual.ensures.1 (only c.in_err-expect_word.ensures))

pub do_statement-returns-in_err-body : goal.do_statement-returns-in_err-body
do_statement-returns-in_err-body t c = same_some _ (do_statement_as _) (follows_some _ c.in_ok-expect_word.ensures (stops _ c.from_residual-in_err-body.result c.from_residual-in_err-body.ensures.1 (only c.in_err-body.ensures)))

pub do_statement-returns-in_err-test : goal.do_statement-returns-in_err-test
do_statement-returns-in_err-test t c = same_some _ (do_statement_as _) (follows_some _ c.in_ok-expect_word.ensures (follows _ (only c.in_ok-body.ensures) (stops _ c.from_residual-in_err-test.result c.from_residual-in_err-test.ensures.1 (only c.in_err-test.ensures))))

pub do_statement-returns : goal.do_statement-returns
do_statement-returns t c = same_some _ (do_statement_as _) (follows_some _ c.in_ok-expect_word.ensures (follows _ (only c.in_ok-body.ensures) (follows _ (only c.in_ok-test.ensures) (shuts c.shut.ensures.shut (made _ (rw (statement_of_do, c.into_condition.ensures) refl))))))

pub else_after-returns-in_err-other : goal.else_after-returns-in_err-other
unfolding else_after
else_after-returns-in_err-other t c = only (passed _ _ (sym c.at_word.ensures ∙ c.if-at_word.true) c.pass_word.ensures (stops _ c.from_residual.result c.from_residual.ensures.1 (only c.in_err-other.ensures)))

pub else_after-returns-then-at_word : goal.else_after-returns-then-at_word
unfolding else_after
else_after-returns-then-at_word t c = only (passed _ _ (sym c.at_word.ensures ∙ c.if-at_word.true) c.pass_word.ensures (follows _ (only c.in_ok-other.ensures) (shuts c.shut.ensures.shut (made _ (rw (statement_of_if, c.into_condition.ensures) refl)))))

pub for_body-returns-in_err-head : goal.for_body-returns-in_err-head
unfolding for_body
for_body-returns-in_err-head t c = memory _ _ _ c.from_residual.result c.from_residual.ensures.1 (omega arith)

pub for_body-returns-in_err-body : goal.for_body-returns-in_err-body
unfolding for_body
for_body-returns-in_err-body t c = stops _ c.from_residual-in_err-body.result c.from_residual-in_err-body.ensures.1 (only c.in_err-body.ensures)

pub statements_in_braces-returns-in_err-expect : goal.statements_in_braces-returns-in_err-expect
unfolding statements_in_braces
statements_in_braces-returns-in_err-expect t c = stops_some _ c.from_residual.result c.from_residual.ensures.1 (only c.in_err-expect.ensures)

pub statements_in_braces-returns-in_err-body : goal.statements_in_braces-returns-in_err-body
unfolding statements_in_braces
statements_in_braces-returns-in_err-body t c = follows_some _ c.in_ok-expect.ensures (stops _ c.from_residual-in_err-body.result c.from_residual-in_err-body.ensures.1 c.in_err-body.ensures)

pub statements_in_braces-returns-in_err-expect-2 : goal.statements_in_braces-returns-in_err-expect-2
unfolding statements_in_braces
statements_in_braces-returns-in_err-expect-2 t c = follows_some _ c.in_ok-expect.ensures (follows _ c.in_ok-body.ensures (stops _ c.from_residual-in_err-expect-2.result c.from_residual-in_err-expect-2.ensures.1 (only c.in_err-expect-2.ensures)))

pub statements_in_braces-returns : goal.statements_in_braces-returns
unfolding statements_in_braces
statements_in_braces-returns t c = follows_some _ c.in_ok-expect.ensures (follows _ c.in_ok-body.ensures (follows _ (only c.in_ok-expect-2.ensures) (made _ (refl))))

pub for_statement-returns-in_err-first : goal.for_statement-returns-in_err-first
for_statement-returns-in_err-first t c = same_some _ (for_statement_as _) (stops_some _ c.from_residual.result c.from_residual.ensures.1 (only c.in_err-first.ensures))

pub for_statement-returns-in_err-test : goal.for_statement-returns-in_err-test
for_statement-returns-in_err-test t c = same_some _ (for_statement_as _) (follows_some _ c.in_ok-first.ensures (ended (same _ (for_test_as _ _) (stops _ c.from_residual-in_err-test.result c.from_residual-in_err-test.ensures.1 (only c.in_err-test.ensures)))))

pub for_statement-returns-in_err-last : goal.for_statement-returns-in_err-last
for_statement-returns-in_err-last t c = same_some _ (for_statement_as _) (follows_some _ c.in_ok-first.ensures (ended (same _ (for_test_as _ _) (follows _ (only c.in_ok-test.ensures) (same _ (for_last_as _ _ _) (stops _ c.from_residual-in_err-last.result c.from_residual-in_err-last.ensures.1 (only c.in_err-last.ensures)))))))

pub for_statement-returns : goal.for_statement-returns
for_statement-returns t c = same_some _ (for_statement_as _) (follows_some _ c.in_ok-first.ensures (ended (same _ (for_test_as _ _) (follows _ (only c.in_ok-test.ensures) (same _ (for_last_as _ _ _) (follows _ (only c.in_ok-last.ensures) c.for_body.ensures))))))

pub if_statement-returns-in_err-test : goal.if_statement-returns-in_err-test
if_statement-returns-in_err-test t c = same_some _ (if_statement_as _) (stops_some _ c.from_residual.result c.from_residual.ensures.1 (only c.in_err-test.ensures))

pub if_statement-returns-in_err-body : goal.if_statement-returns-in_err-body
if_statement-returns-in_err-body t c = same_some _ (if_statement_as _) (follows_some _ c.in_ok-test.ensures (stops _ c.from_residual-in_err-body.result c.from_residual-in_err-body.ensures.1 (only c.in_err-body.ensures)))

pub if_statement-returns : goal.if_statement-returns
if_statement-returns t c = same_some _ (if_statement_as _) (follows_some _ c.in_ok-test.ensures (follows _ (only c.in_ok-body.ensures) (ended c.else_after.ensures)))

pub statement-returns-then-at : goal.statement-returns-then-at
statement-returns-then-at t c = same_some _ (statement_as _) (passed _ _ (sym c.at.ensures ∙ c.if-at.true) c.pass.ensures (made _ statement_of_empty))

pub statement-returns-in_err-body : goal.statement-returns-in_err-body
statement-returns-in_err-body t c = same_some _ (statement_as _) (other_some _ _ (sym c.at.ensures ∙ c.if-at.false) (there _ _ (sym c.at-2.ensures ∙ c.if-at-2.true) (same_some _ (block_as _) (stops_some _ c.from_residual.result c.from_residual.ensures.1 (only c.in_err-body.ensures)))))

pub statement-returns-then-at-2 : goal.statement-returns-then-at-2
statement-returns-then-at-2 t c = same_some _ (statement_as _) (other_some _ _ (sym c.at.ensures ∙ c.if-at.false) (there _ _ (sym c.at-2.ensures ∙ c.if-at-2.true) (same_some _ (block_as _) (follows_some _ c.in_ok-body.ensures (made _ (statement_of_block _))))))

pub statement-returns-in_err-name : goal.statement-returns-in_err-name
statement-returns-in_err-name t c = same_some _ (statement_as _) (other_some _ _ (sym c.at.ensures ∙ c.if-at.false) (other_some _ _ (sym c.at-2.ensures ∙ c.if-at-2.false) (there _ _ (sym c.at_name.ensures ∙ c.if-at_name.true) (stops_some _ c.from_residual-in_err-name.result c.from_residual-in_err-name.ensures.1 (only c.in_err-name.ensures)))))

pub statement-returns-then-at_name : goal.statement-returns-then-at_name
statement-returns-then-at_name t c = same_some _ (statement_as _) (other_some _ _ (sym c.at.ensures ∙ c.if-at.false) (other_some _ _ (sym c.at-2.ensures ∙ c.if-at-2.false) (there _ _ (sym c.at_name.ensures ∙ c.if-at_name.true) (follows_some _ c.in_ok-name.ensures (ended (only c.statement_after.ensures))))))

pub statement-returns-then-at_word : goal.statement-returns-then-at_word
statement-returns-then-at_word t c = same_some _ (statement_as _) (other_some _ _ (sym c.at.ensures ∙ c.if-at.false) (other_some _ _ (sym c.at-2.ensures ∙ c.if-at-2.false) (other_some _ _ (sym c.at_name.ensures ∙ c.if-at_name.false) (there _ _ (sym c.at_word.ensures ∙ c.if-at_word.true) c.if_statement.ensures))))

pub statement-returns-then-at_word-2 : goal.statement-returns-then-at_word-2
statement-returns-then-at_word-2 t c = same_some _ (statement_as _) (other_some _ _ (sym c.at.ensures ∙ c.if-at.false) (other_some _ _ (sym c.at-2.ensures ∙ c.if-at-2.false) (other_some _ _ (sym c.at_name.ensures ∙ c.if-at_name.false) (other_some _ _ (sym c.at_word.ensures ∙ c.if-at_word.false) (there _ _ (sym c.at_word-2.ensures ∙ c.if-at_word-2.true) c.while_statement.ensures)))))

pub statement-returns-then-at_word-3 : goal.statement-returns-then-at_word-3
statement-returns-then-at_word-3 t c = same_some _ (statement_as _) (other_some _ _ (sym c.at.ensures ∙ c.if-at.false) (other_some _ _ (sym c.at-2.ensures ∙ c.if-at-2.false) (other_some _ _ (sym c.at_name.ensures ∙ c.if-at_name.false) (other_some _ _ (sym c.at_word.ensures ∙ c.if-at_word.false) (other_some _ _ (sym c.at_word-2.ensures ∙ c.if-at_word-2.false) (there _ _ (sym c.at_word-3.ensures ∙ c.if-at_word-3.true) c.do_statement.ensures))))))

pub statement-returns-then-at_word-4 : goal.statement-returns-then-at_word-4
statement-returns-then-at_word-4 t c = same_some _ (statement_as _) (other_some _ _ (sym c.at.ensures ∙ c.if-at.false) (other_some _ _ (sym c.at-2.ensures ∙ c.if-at-2.false) (other_some _ _ (sym c.at_name.ensures ∙ c.if-at_name.false) (other_some _ _ (sym c.at_word.ensures ∙ c.if-at_word.false) (other_some _ _ (sym c.at_word-2.ensures ∙ c.if-at_word-2.false) (other_some _ _ (sym c.at_word-3.ensures ∙ c.if-at_word-3.false) (there _ _ (sym c.at_word-4.ensures ∙ c.if-at_word-4.true) c.for_statement.ensures)))))))

pub statement-returns-then-at_word-5 : goal.statement-returns-then-at_word-5
statement-returns-then-at_word-5 t c = same_some _ (statement_as _) (other_some _ _ (sym c.at.ensures ∙ c.if-at.false) (other_some _ _ (sym c.at-2.ensures ∙ c.if-at-2.false) (other_some _ _ (sym c.at_name.ensures ∙ c.if-at_name.false) (other_some _ _ (sym c.at_word.ensures ∙ c.if-at_word.false) (other_some _ _ (sym c.at_word-2.ensures ∙ c.if-at_word-2.false) (other_some _ _ (sym c.at_word-3.ensures ∙ c.if-at_word-3.false) (other_some _ _ (sym c.at_word-4.ensures ∙ c.if-at_word-4.false) (passed _ _ (sym c.at_word-5.ensures ∙ c.if-at_word-5.true) c.pass_word.ensures (ended c.switch_after.ensures)))))))))

pub statement-returns : goal.statement-returns
statement-returns t c = same_some _ (statement_as _) (other_some _ _ (sym c.at.ensures ∙ c.if-at.false) (other_some _ _ (sym c.at-2.ensures ∙ c.if-at-2.false) (other_some _ _ (sym c.at_name.ensures ∙ c.if-at_name.false) (other_some _ _ (sym c.at_word.ensures ∙ c.if-at_word.false) (other_some _ _ (sym c.at_word-2.ensures ∙ c.if-at_word-2.false) (other_some _ _ (sym c.at_word-3.ensures ∙ c.if-at_word-3.false) (other_some _ _ (sym c.at_word-4.ensures ∙ c.if-at_word-4.false) (other_some _ _ (sym c.at_word-5.ensures ∙ c.if-at_word-5.false) (ended_some c.simple_statement.ensures)))))))))

pub while_statement-returns-in_err-test : goal.while_statement-returns-in_err-test
while_statement-returns-in_err-test t c = same_some _ (while_statement_as _) (stops_some _ c.from_residual.result c.from_residual.ensures.1 (only c.in_err-test.ensures))

pub while_statement-returns-in_err-body : goal.while_statement-returns-in_err-body
while_statement-returns-in_err-body t c = same_some _ (while_statement_as _) (follows_some _ c.in_ok-test.ensures (stops _ c.from_residual-in_err-body.result c.from_residual-in_err-body.ensures.1 (only c.in_err-body.ensures)))

pub while_statement-returns : goal.while_statement-returns
while_statement-returns t c = same_some _ (while_statement_as _) (follows_some _ c.in_ok-test.ensures (follows _ (only c.in_ok-body.ensures) (shuts c.shut.ensures.shut (made _ (rw (statement_of_while, c.into_condition.ensures) refl)))))

pub parts-returns-in_err-part : goal.parts-returns-in_err-part
parts-returns-in_err-part t c = resumed c.loop-alloc.invariant.0 c.loop-alloc.invariant.1 (same _ (part_more _ _ (sym c.at_part.ensures ∙ c.loop-alloc-test.true)) (stops _ c.from_residual.result c.from_residual.ensures.1 (only c.in_err-part.ensures)))

pub parts-returns-in_err-push : goal.parts-returns-in_err-push
parts-returns-in_err-push t c = memory _ _ _ c.from_residual-in_err-push.result c.from_residual-in_err-push.ensures.1 (omega arith)

pub parts-returns : goal.parts-returns
parts-returns t c = resumed c.loop-alloc.invariant.0 c.loop-alloc.invariant.1 (known (part_last _ _ (sym c.at_part.ensures ∙ c.loop-alloc-test.false)) refl)

pub statements-returns-in_err-statements : goal.statements-returns-in_err-statements
statements-returns-in_err-statements t c = memory _ _ _ c.from_residual.result c.from_residual.ensures.1 (omega arith)

pub statements-returns-in_err-statement : goal.statements-returns-in_err-statement
statements-returns-in_err-statement t c = resumed c.loop-alloc.invariant.0 c.loop-alloc.invariant.1 (same _ (statement_more _ _ (sym c.at_statement.ensures ∙ c.loop-alloc-test.true)) (stops _ c.from_residual-in_err-statement.result c.from_residual-in_err-statement.ensures.1 (only c.in_err-statement.ensures)))

pub statements-returns-in_err-push : goal.statements-returns-in_err-push
statements-returns-in_err-push t c = memory _ _ _ c.from_residual-in_err-push.result c.from_residual-in_err-push.ensures.1 (omega arith)

pub body-returns-then-at : goal.body-returns-then-at
unfolding statements_in_braces
body-returns-then-at t c = same_some _ (body_as _) (there _ _ (sym c.at.ensures ∙ c.if-at.true) c.statements_in_braces.ensures)

pub body-returns-in_err-statement : goal.body-returns-in_err-statement
body-returns-in_err-statement t c = same_some _ (body_as _) (other_some _ _ (sym c.at.ensures ∙ c.if-at.false) (stops_some _ c.from_residual.result c.from_residual.ensures.1 (only c.in_err-statement.ensures)))

pub body-returns-in_err-body : goal.body-returns-in_err-body
body-returns-in_err-body t c = same_some _ (body_as _) (other_some _ _ (sym c.at.ensures ∙ c.if-at.false) (follows_some _ c.in_ok-statement.ensures (memory _ _ _ c.from_residual-in_err-body.result c.from_residual-in_err-body.ensures.1 (omega arith))))

pub body-returns-in_err-push : goal.body-returns-in_err-push
body-returns-in_err-push t c = same_some _ (body_as _) (other_some _ _ (sym c.at.ensures ∙ c.if-at.false) (follows_some _ c.in_ok-statement.ensures (memory _ _ _ c.from_residual-in_err-push.result c.from_residual-in_err-push.ensures.1 (omega arith))))

pub body-returns : goal.body-returns
body-returns t c = same_some _ (body_as _) (other_some _ _ (sym c.at.ensures ∙ c.if-at.false) (follows_some _ c.in_ok-statement.ensures (made _ (rw (c.in_ok-push.ensures.items, c.in_ok-body.ensures.items) refl))))

pub part-returns-in_err-name : goal.part-returns-in_err-name
part-returns-in_err-name t c = same_some _ (part_name _ (sym c.at_name.ensures ∙ c.if-at_name.true)) (stops_some _ c.from_residual.result c.from_residual.ensures.1 (only c.in_err-name.ensures))

pub part-returns-then-at_name : goal.part-returns-then-at_name
part-returns-then-at_name t c = same_some _ (part_name _ (sym c.at_name.ensures ∙ c.if-at_name.true)) (follows_some _ c.in_ok-name.ensures (ended (only c.part_after.ensures)))

pub part-returns-in_err-first : goal.part-returns-in_err-first
part-returns-in_err-first t c = same_some _ (part_bare _ (sym c.at_bare_constant.ensures ∙ c.if-at_bare_constant.true)) (stops_some _ c.from_residual-in_err-first.result c.from_residual-in_err-first.ensures.1 (only c.in_err-first.ensures))

pub part-returns-then-at_bare_constant : goal.part-returns-then-at_bare_constant
part-returns-then-at_bare_constant t c = same_some _ (part_bare _ (sym c.at_bare_constant.ensures ∙ c.if-at_bare_constant.true)) (follows_some _ c.in_ok-first.ensures (ended (only c.head_after.ensures)))

pub part-returns-in_err-statement : goal.part-returns-in_err-statement
part-returns-in_err-statement t c = same_some _ (part_said _ (sym c.at_name.ensures ∙ c.if-at_name.false) (sym c.at_bare_constant.ensures ∙ c.if-at_bare_constant.false)) (stops_some _ c.from_residual-in_err-statement.result c.from_residual-in_err-statement.ensures.1 (only c.in_err-statement.ensures))

pub part-returns : goal.part-returns
part-returns t c = same_some _ (part_said _ (sym c.at_name.ensures ∙ c.if-at_name.false) (sym c.at_bare_constant.ensures ∙ c.if-at_bare_constant.false)) (follows_some _ c.in_ok-statement.ensures (made _ refl))

pub switch_after-returns-in_err-value : goal.switch_after-returns-in_err-value
switch_after-returns-in_err-value t c = same _ (switch_as _) (stops _ c.from_residual.result c.from_residual.ensures.1 (only c.in_err-value.ensures))

pub switch_after-returns-in_err-expect : goal.switch_after-returns-in_err-expect
switch_after-returns-in_err-expect t c = same _ (switch_as _) (follows _ (only c.in_ok-value.ensures) (stops _ c.from_residual-in_err-expect.result c.from_residual-in_err-expect.ensures.1 (only c.in_err-expect.ensures)))

pub switch_after-returns : goal.switch_after-returns
switch_after-returns t c = same _ (switch_as _) (follows _ (only c.in_ok-value.ensures) (follows _ (only c.in_ok-expect.ensures) c.cases_after.ensures))

pub for_body-returns : goal.for_body-returns
unfolding for_body
for_body-returns t c = follows _ (only c.in_ok-body.ensures) (shuts c.shut.ensures.shut (made _ (rw (statement_of_for, c.in_ok-head.ensures.ok, c.condition_if_any.ensures) refl)))

pub statements-returns : goal.statements-returns
statements-returns t c = resumed c.loop-alloc.invariant.0 c.loop-alloc.invariant.1 (known (statement_last _ _ (sym c.at_statement.ensures ∙ c.loop-alloc-test.false)) (ap (map statement_of) c.shrink_to_fit.ensures.items))
