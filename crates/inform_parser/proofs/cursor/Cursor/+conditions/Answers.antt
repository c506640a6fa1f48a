use Rattle.std.proofs.Common.{◌∙◌, sym, ap, refl, map, arith}
use Rattle.inform_tree.specs.Conditions.{Not, condition_of}
use Rattle.inform_grammar.specs.Trees.{Tested}
use Rattle.inform_parser.specs.Plans.{guard_in_brackets}
use Rattle.inform_parser.specs.Guards.{join_of}
use Rattle.inform_parser.proofs.TreesMade.{condition_of_all, condition_of_any, condition_of_not}
use Rattle.inform_parser.proofs.ConditionSteps.{condition_as, member_as, members_after_as, test_as, bracketed_as, tests_and, tests_or, tests_alone, member_more, member_mixed, member_last, members_go_on}
use Rattle.inform_parser.proofs.InTurn.{only, made, same, same_some, known, ended, memory, stops, stops_some, follows, follows_some, resumed, passed, there, other_some}
use Rattle.inform_parser.proofs.cursor.Cursor.«+conditions».Goals as goal

pub guard_in_brackets-returns-in_err-expect : goal.guard_in_brackets-returns-in_err-expect
unfolding guard_in_brackets
guard_in_brackets-returns-in_err-expect t c = stops_some _ c.from_residual.result c.from_residual.ensures.1 (only c.in_err-expect.ensures)

pub guard_in_brackets-returns-in_err-guard : goal.guard_in_brackets-returns-in_err-guard
unfolding guard_in_brackets
guard_in_brackets-returns-in_err-guard t c = follows_some _ c.in_ok-expect.ensures (stops _ c.from_residual-in_err-guard.result c.from_residual-in_err-guard.ensures.1 (only c.in_err-guard.ensures))

pub guard_in_brackets-returns : goal.guard_in_brackets-returns
unfolding guard_in_brackets
guard_in_brackets-returns t c = follows_some _ c.in_ok-expect.ensures (follows _ (only c.in_ok-guard.ensures) (only c.guard_to.ensures))

pub member-returns-in_err-expect : goal.member-returns-in_err-expect
member-returns-in_err-expect t c = same_some _ (member_as _ _ _ c.symbol.ensures) (stops_some _ c.from_residual.result c.from_residual.ensures.1 (only c.in_err-expect.ensures))

pub member-returns-in_err-test : goal.member-returns-in_err-test
member-returns-in_err-test t c = same_some _ (member_as _ _ _ c.symbol.ensures) (follows_some _ c.in_ok-expect.ensures (stops _ c.from_residual-in_err-test.result c.from_residual-in_err-test.ensures.1 (only c.in_err-test.ensures)))

pub member-returns : goal.member-returns
member-returns t c = same_some _ (member_as _ _ _ c.symbol.ensures) (follows_some _ c.in_ok-expect.ensures (follows _ (only c.in_ok-test.ensures) (made _ c.into_condition.ensures)))

pub members-returns-in_err-members : goal.members-returns-in_err-members
members-returns-in_err-members t c = memory _ _ _ c.from_residual.result c.from_residual.ensures.1 (omega arith)

pub members-returns-in_err-push : goal.members-returns-in_err-push
members-returns-in_err-push t c = memory _ _ _ c.from_residual-in_err-push.result c.from_residual-in_err-push.ensures.1 (omega arith)

pub members-returns-in_err-push-2 : goal.members-returns-in_err-push-2
members-returns-in_err-push-2 t c = memory _ _ _ c.from_residual-in_err-push-2.result c.from_residual-in_err-push-2.ensures.1 (omega arith)

pub members-returns-in_err-push-3 : goal.members-returns-in_err-push-3
members-returns-in_err-push-3 t c = memory _ _ _ c.from_residual-in_err-push-3.result c.from_residual-in_err-push-3.ensures.1 (omega arith)

pub members-returns-in_err-member : goal.members-returns-in_err-member
members-returns-in_err-member t c = resumed c.loop-alloc.invariant.0 c.loop-alloc.invariant.1 (same _ (member_more _ _ _ _ c.symbol.ensures (sym c.at.ensures ∙ c.loop-alloc-test.true)) (stops _ c.from_residual-in_err-member.result c.from_residual-in_err-member.ensures.1 (only c.in_err-member.ensures)))

pub members-loop-alloc-preserved : goal.members-loop-alloc-preserved
members-loop-alloc-preserved t c =
    let l = c.loop-alloc in (
      members_go_on (join_of c.args.join) l.members.items c.push-in-loop-alloc.new.self.items c.in_ok-member.member l.self c.member.new.self _
          (member_more (join_of c.args.join) (map condition_of l.members.items) l.self _ c.symbol.ensures (sym c.at.ensures ∙ c.loop-alloc-test.true)) c.in_ok-push-3.ensures.items
          c.in_ok-member.ensures.gives l.invariant.0,
      omega arith,
    )

pub members-returns-then-at : goal.members-returns-then-at
members-returns-then-at t c = resumed c.loop-alloc.invariant.0 c.loop-alloc.invariant.1 (record { gives = member_mixed _ _ _ _ c.other_symbol.ensures (sym c.at-2.ensures ∙ c.if-at.true); ahead = omega arith })

pub members-returns : goal.members-returns
members-returns t c = resumed c.loop-alloc.invariant.0 c.loop-alloc.invariant.1 (known (member_last _ _ _ _ c.other_symbol.ensures _ c.symbol.ensures (sym c.at.ensures ∙ c.loop-alloc-test.false) (sym c.at-2.ensures ∙ c.if-at.false)) refl)

pub test-returns-in_err-inside : goal.test-returns-in_err-inside
test-returns-in_err-inside t c = same_some _ (test_as _) (passed _ _ (sym c.at.ensures ∙ c.if-at.true) c.pass.ensures (stops _ c.from_residual.result c.from_residual.ensures.1 (only c.in_err-inside.ensures)))

pub test-returns-in_err-inside-2 : goal.test-returns-in_err-inside-2
test-returns-in_err-inside-2 t c = same_some _ (test_as _) (passed _ _ (sym c.at.ensures ∙ c.if-at.true) c.pass.ensures (follows _ (only c.in_ok-inside.ensures) (memory _ _ _ c.from_residual-in_err-inside-2.result c.from_residual-in_err-inside-2.ensures.1 (omega arith))))

pub test-returns-then-at : goal.test-returns-then-at
test-returns-then-at t c = same_some _ (test_as _) (passed _ _ (sym c.at.ensures ∙ c.if-at.true) c.pass.ensures (follows _ (only c.in_ok-inside.ensures) (made _ (ap Tested (condition_of_not _ ∙ ap Not (ap condition_of c.in_ok-inside-2.ensures.ok ∙ c.into_condition.ensures))))))

pub test-returns-in_err-inside-3 : goal.test-returns-in_err-inside-3
test-returns-in_err-inside-3 t c = same_some _ (test_as _) (other_some _ _ (sym c.at.ensures ∙ c.if-at.false) (there _ _ (sym c.at-2.ensures ∙ c.if-at-2.true) (same_some _ (bracketed_as _) (stops_some _ c.from_residual-in_err-inside-3.result c.from_residual-in_err-inside-3.ensures.1 (only c.in_err-inside-3.ensures)))))

pub test-returns-then-at-2 : goal.test-returns-then-at-2
test-returns-then-at-2 t c = same_some _ (test_as _) (other_some _ _ (sym c.at.ensures ∙ c.if-at.false) (there _ _ (sym c.at-2.ensures ∙ c.if-at-2.true) (same_some _ (bracketed_as _) (follows_some _ c.in_ok-inside-3.ensures (ended c.bracket_after.ensures)))))

pub test-returns-in_err-value : goal.test-returns-in_err-value
test-returns-in_err-value t c = same_some _ (test_as _) (other_some _ _ (sym c.at.ensures ∙ c.if-at.false) (other_some _ _ (sym c.at-2.ensures ∙ c.if-at-2.false) (stops_some _ c.from_residual-in_err-value.result c.from_residual-in_err-value.ensures.1 (only c.in_err-value.ensures))))

pub test-returns : goal.test-returns
test-returns t c = same_some _ (test_as _) (other_some _ _ (sym c.at.ensures ∙ c.if-at.false) (other_some _ _ (sym c.at-2.ensures ∙ c.if-at-2.false) (follows_some _ c.in_ok-value.ensures (ended c.relation_after.ensures))))

pub guard-returns-in_err-first : goal.guard-returns-in_err-first
guard-returns-in_err-first t c = same_some _ (condition_as _) (stops_some _ c.from_residual.result c.from_residual.ensures.1 (only c.in_err-first.ensures))

pub guard-returns-in_err-second : goal.guard-returns-in_err-second
guard-returns-in_err-second t c = same_some _ (condition_as _) (follows_some _ c.in_ok-first.ensures (ended (same _ (tests_and _ _ (sym c.at.ensures ∙ c.if-at.true)) (stops _ c.from_residual-in_err-second.result c.from_residual-in_err-second.ensures.1 (only c.in_err-second.ensures)))))

pub guard-returns-in_err-members : goal.guard-returns-in_err-members
guard-returns-in_err-members t c = same_some _ (condition_as _) (follows_some _ c.in_ok-first.ensures (ended (same _ (tests_and _ _ (sym c.at.ensures ∙ c.if-at.true)) (follows _ (only c.in_ok-second.ensures) (same _ (members_after_as _ _ _ _ _ c.into_condition.ensures) (stops _ c.from_residual-in_err-members.result c.from_residual-in_err-members.ensures.1 c.in_err-members.ensures))))))

pub guard-returns-then-at : goal.guard-returns-then-at
guard-returns-then-at t c = same_some _ (condition_as _) (follows_some _ c.in_ok-first.ensures (ended (same _ (tests_and _ _ (sym c.at.ensures ∙ c.if-at.true)) (follows _ (only c.in_ok-second.ensures) (same _ (members_after_as _ _ _ _ _ c.into_condition.ensures) (follows _ c.in_ok-members.ensures (made _ (ap Tested (condition_of_all _)))))))))

pub guard-returns-in_err-second-2 : goal.guard-returns-in_err-second-2
guard-returns-in_err-second-2 t c = same_some _ (condition_as _) (follows_some _ c.in_ok-first.ensures (ended (same _ (tests_or _ _ (sym c.at-2.ensures ∙ c.if-at-2.true)) (stops _ c.from_residual-in_err-second-2.result c.from_residual-in_err-second-2.ensures.1 (only c.in_err-second-2.ensures)))))

pub guard-returns-in_err-members-2 : goal.guard-returns-in_err-members-2
guard-returns-in_err-members-2 t c = same_some _ (condition_as _) (follows_some _ c.in_ok-first.ensures (ended (same _ (tests_or _ _ (sym c.at-2.ensures ∙ c.if-at-2.true)) (follows _ (only c.in_ok-second-2.ensures) (same _ (members_after_as _ _ _ _ _ c.into_condition-then-at-2.ensures) (stops _ c.from_residual-in_err-members-2.result c.from_residual-in_err-members-2.ensures.1 c.in_err-members-2.ensures))))))

pub guard-returns-then-at-2 : goal.guard-returns-then-at-2
guard-returns-then-at-2 t c = same_some _ (condition_as _) (follows_some _ c.in_ok-first.ensures (ended (same _ (tests_or _ _ (sym c.at-2.ensures ∙ c.if-at-2.true)) (follows _ (only c.in_ok-second-2.ensures) (same _ (members_after_as _ _ _ _ _ c.into_condition-then-at-2.ensures) (follows _ c.in_ok-members-2.ensures (made _ (ap Tested (condition_of_any _)))))))))

pub guard-returns : goal.guard-returns
guard-returns t c = same_some _ (condition_as _) (follows_some _ c.in_ok-first.ensures (ended (known (tests_alone _ _ (sym c.at.ensures ∙ c.if-at.false) (sym c.at-2.ensures ∙ c.if-at-2.false)) refl)))
