use Rattle.std.proofs.Common.{◌≡◌, ◌∙◌, ◌+◌, ◌-◌, ◌*◌, ◌≤◌, Some, None, pos, [], ◌∷◌, map, true, false, to_z, of_z, w32, rules, sym, ap, refl, subst, arith}
use Rattle.inform_tree.specs.Values as v
use Rattle.inform_tree.specs.Values.{expression_of, arguments_of, terms_of, factors_of}
use Rattle.inform_tree.specs.Conditions as d
use Rattle.inform_tree.specs.Conditions.{condition_of, conditions_of}
use Rattle.inform_tree.specs.Statements as s
use Rattle.inform_tree.specs.Statements.{assignment_if_any, condition_if_any, print_item_of, statement_of, statements_of, cases_of}
use Rattle.inform_tree.specs.Depths.{optional_depth, assignment_depth, statement_depth, statements_depth, conditions_depth, terms_depth, factors_depth, arguments_depth, items_depth}
use Rattle.inform_tree.proofs.Views.{statement_of_while}
use Rattle.inform_interpreter.proofs.Trees.{statement_of_empty, statement_of_break, statement_of_continue, statement_of_quit, statement_of_rtrue, statement_of_rfalse, statement_of_new_line, statement_of_read, expression_of_number, expression_of_char, expression_of_name, expression_of_entry, some_depth}
use Rattle.inform_meaning.specs.Words.{low_byte, summed, multiplied, number_word, word_negation, compares}
use Rattle.inform_meaning.specs.Frames as f
use Rattle.inform_meaning.specs.Meaning.{on_product, eval_product}
use Rattle.inform_meaning.specs.Statements.{while_loop}
use Rattle.inform_meaning.specs.Worlds.{Routine, scope_of, with_argument}
use Rattle.inform_worlds.specs.Views.{world_of}
use Rattle.inform_interpreter.specs.declared.interpreters.Interpreter.{Interpreter}
use Rattle.inform_meaning.specs.declared.traps.Trap.TheVariants as kinds
use Rattle.inform_worlds.specs.Scopes.{values_of}
use Rattle.inform_moves.specs.Heights.{loop_height}
use Rattle.inform_frames.specs.Frames.{loop_of, default_of}
use Rattle.inform_interpreter.specs.Interpreters.{program_of, calls_of, place_of, waiting_in, stop_in, left_by}
use Rattle.inform_interpreter.specs.Doing.{begun, wanted, decided, then_handed, meant, Does}
use Rattle.inform_interpreter.specs.Leading.{config_at}
use Rattle.inform_interpreter.specs.Parts.{turn_body, turn_change, called, called_with, altered_if_any, tested_if_any, acted}
use Rattle.inform_interpreter.proofs.Arms.{leaves, leaves-as, uses, uses-as, picks, follows, uses-at-once, decides-at-once, comes-nowhere, more-frames, branch-true, branch-false, all-true, all-false, any-true, any-false, quits, says-does, next-begins, next-wants, next-decides, then-does, then-gives, then-as, same-part, does-as, steps-then, waits-for-step, does-meant, turn-once, turn-begins, body-goes-on, body-goes-on-early, body-ends, said-on, said-not, no-room, none-called}
use Rattle.inform_interpreter.proofs.Doing.{gives-here, traps, ticked, comes-normal, comes-comes}
use Rattle.inform_interpreter.proofs.Entering.{called-does}
use Rattle.inform_interpreter.proofs.Printing.{text-said, text-not, number-next, number-left, char-next, char-left}
use Rattle.std.specs.Fmt.{signed_decimal}
use Rattle.inform_interpreter.proofs.interpreters.Interpreter.«+parts».Goals as goal

pub entry-returns-in-Ok : goal.entry-returns-in-Ok
entry-returns-in-Ok g t c =
    λ words. uses (begun (f.Evals (expression_of c.args.index.now))) (f.IndexOf c.args.name.now) (omega arith) (search rules) c.in-Ok.ensures (c.fetch.ensures _ _)

pub entry-returns-in-Err : goal.entry-returns-in-Err
entry-returns-in-Err g t c =
    λ words. leaves (begun (f.Evals (expression_of c.args.index.now))) (f.Wants (f.IndexOf c.args.name.now)) tt refl tt tt (omega arith) (omega arith) c.leave.ensures.exit c.in-Err.ensures c.leave.ensures.joins

pub negation-returns-in-Ok : goal.negation-returns-in-Ok
negation-returns-in-Ok g t c =
    let whole : to_z w32 (of_z w32 c.neg.result) ≡ c.neg.result = search rules in
    let value : to_z w32 (of_z w32 c.in-Ok.a) ≡ c.in-Ok.a = search rules in
    uses-at-once (begun (f.Evals (expression_of c.args.operand.now))) f.Negates refl tt c.in-Ok.ensures
    (λ k. ap (λ a. (f.Value a, k)) (sym (whole ∙ c.neg.ensures
    ∙ ap (λ w. word_negation w (to_z w32 (of_z w32 c.in-Ok.a))) c.width.ensures
    ∙ ap (word_negation (program_of c.eval.new.self).width) value)))

pub negation-returns-in-Err : goal.negation-returns-in-Err
negation-returns-in-Err g t c =
    leaves (begun (f.Evals (expression_of c.args.operand.now))) (f.Wants f.Negates) tt refl tt tt (omega arith) (omega arith) c.leave.ensures.exit c.in-Err.ensures c.leave.ensures.joins

pub random-returns-in-Ok : goal.random-returns-in-Ok
random-returns-in-Ok g t c =
    let value : to_z w32 (of_z w32 c.in-Ok.n) ≡ c.in-Ok.n = search rules in
    uses (begun (f.Evals (expression_of c.args.limit.now))) f.RangeOf (omega arith) value c.in-Ok.ensures (c.random_to.ensures _)

pub random-returns-in-Err : goal.random-returns-in-Err
random-returns-in-Err g t c =
    leaves (begun (f.Evals (expression_of c.args.limit.now))) (f.Wants f.RangeOf) tt refl tt tt (omega arith) (omega arith) c.leave.ensures.exit c.in-Err.ensures c.leave.ensures.joins

pub sum-returns-in-Ok : goal.sum-returns-in-Ok
sum-returns-in-Ok g t c =
    uses (begun (f.Evals (expression_of c.args.first.now))) (f.SumFrom (terms_of c.args.xs.now)) (omega arith) (search rules) c.in-Ok.ensures c.sum_from.ensures

pub sum-returns-in-Err : goal.sum-returns-in-Err
sum-returns-in-Err g t c =
    leaves (begun (f.Evals (expression_of c.args.first.now))) (f.Wants (f.SumFrom (terms_of c.args.xs.now))) tt refl tt tt (omega arith) (omega arith) c.leave.ensures.exit c.in-Err.ensures c.leave.ensures.joins

pub product-returns-in-Ok : goal.product-returns-in-Ok
product-returns-in-Ok g t c =
    uses (begun (f.Evals (expression_of c.args.first.now))) (f.ProductFrom (factors_of c.args.xs.now)) (omega arith) (search rules) c.in-Ok.ensures c.product_from.ensures

pub product-returns-in-Err : goal.product-returns-in-Err
product-returns-in-Err g t c =
    leaves (begun (f.Evals (expression_of c.args.first.now))) (f.Wants (f.ProductFrom (factors_of c.args.xs.now))) tt refl tt tt (omega arith) (omega arith) c.leave.ensures.exit c.in-Err.ensures c.leave.ensures.joins

pub right_of-returns-in-Ok : goal.right_of-returns-in-Ok
right_of-returns-in-Ok g t c =
    let left : to_z w32 (of_z w32 c.args.left) ≡ c.args.left = search rules in
    let value : to_z w32 (of_z w32 c.in-Ok.b) ≡ c.in-Ok.b = search rules in
    uses-at-once (begun (f.Evals (expression_of c.args.right.now))) (f.RightOf c.args.relation c.args.left) refl tt c.in-Ok.ensures
    (λ k. ap (λ b. (f.Truth b, k)) (sym (c.compares.ensures
    ∙ ap (λ a. compares c.args.relation a (to_z w32 (of_z w32 c.in-Ok.b))) left
    ∙ ap (compares c.args.relation c.args.left) value)))

pub right_of-returns-in-Err : goal.right_of-returns-in-Err
right_of-returns-in-Err g t c =
    let left : to_z w32 (of_z w32 c.args.left) ≡ c.args.left = search rules in
    leaves-as (begun (f.Evals (expression_of c.args.right.now))) (f.Wants (f.RightOf c.args.relation c.args.left)) _ (ap (λ a. f.Wants (f.RightOf c.args.relation a)) left) tt refl tt tt (omega arith) (omega arith) c.leave.ensures.exit c.in-Err.ensures c.leave.ensures.joins

pub compare-returns-in-Ok : goal.compare-returns-in-Ok
compare-returns-in-Ok g t c =
    uses (begun (f.Evals (expression_of c.args.left.now))) (f.LeftOf c.args.relation (expression_of c.args.right.now)) (omega arith) (search rules) c.in-Ok.ensures c.right_of.ensures

pub compare-returns-in-Err : goal.compare-returns-in-Err
compare-returns-in-Err g t c =
    leaves (begun (f.Evals (expression_of c.args.left.now))) (f.Wants (f.LeftOf c.args.relation (expression_of c.args.right.now))) tt refl tt tt (omega arith) (omega arith) c.leave.ensures.exit c.in-Err.ensures c.leave.ensures.joins

pub nonzero-returns-in-Ok : goal.nonzero-returns-in-Ok
nonzero-returns-in-Ok g t c =
    uses-at-once (begun (f.Evals (expression_of c.args.x.now))) f.IsNonzero refl tt c.in-Ok.ensures (λ k. search rules)

pub nonzero-returns-in-Err : goal.nonzero-returns-in-Err
nonzero-returns-in-Err g t c =
    leaves (begun (f.Evals (expression_of c.args.x.now))) (f.Wants f.IsNonzero) tt refl tt tt (omega arith) (omega arith) c.leave.ensures.exit c.in-Err.ensures c.leave.ensures.joins

pub negated-returns-in-Ok : goal.negated-returns-in-Ok
negated-returns-in-Ok g t c =
    decides-at-once (begun (f.Tests (condition_of c.args.x.now))) f.Flips refl tt c.in-Ok.ensures (λ k. refl)

pub negated-returns-in-Err : goal.negated-returns-in-Err
negated-returns-in-Err g t c =
    leaves (begun (f.Tests (condition_of c.args.x.now))) (f.Decides f.Flips) tt refl tt tt (omega arith) (omega arith) c.leave.ensures.exit c.in-Err.ensures c.leave.ensures.joins

pub set-returns-in-Ok : goal.set-returns-in-Ok
set-returns-in-Ok g t c =
    let value : to_z w32 (of_z w32 c.in-Ok.a) ≡ c.in-Ok.a = search rules in
    uses (begun (f.Evals (expression_of c.args.x.now))) (f.Sets c.args.name.now) (omega arith) value c.in-Ok.ensures (c.assign.ensures _ _)

pub set-returns-in-Err : goal.set-returns-in-Err
set-returns-in-Err g t c =
    leaves (begun (f.Evals (expression_of c.args.x.now))) (f.Wants (f.Sets c.args.name.now)) tt refl tt tt (omega arith) (omega arith) c.leave.ensures.exit c.in-Err.ensures c.leave.ensures.joins

pub store_at-returns-in-Ok : goal.store_at-returns-in-Ok
store_at-returns-in-Ok g t c =
    let value : to_z w32 (of_z w32 c.in-Ok.a) ≡ c.in-Ok.a = search rules in
    let index : to_z w32 (of_z w32 c.args.index) ≡ c.args.index = search rules in
    uses-as (begun (f.Evals (expression_of c.args.x.now))) (f.Stores c.args.name.now c.args.words c.args.index) (f.Stores c.args.name.now c.args.words (to_z w32 (of_z w32 c.args.index))) (omega arith) (ap (f.Stores c.args.name.now c.args.words) index) value c.in-Ok.ensures (c.store.ensures _ _)

pub store_at-returns-in-Err : goal.store_at-returns-in-Err
store_at-returns-in-Err g t c =
    let index : to_z w32 (of_z w32 c.args.index) ≡ c.args.index = search rules in
    leaves-as (begun (f.Evals (expression_of c.args.x.now))) (f.Wants (f.Stores c.args.name.now c.args.words c.args.index)) _ (ap (λ i. f.Wants (f.Stores c.args.name.now c.args.words i)) index) tt refl tt tt (omega arith) (omega arith) c.leave.ensures.exit c.in-Err.ensures c.leave.ensures.joins

pub set_entry-returns-in-Ok : goal.set_entry-returns-in-Ok
set_entry-returns-in-Ok g t c =
    uses (begun (f.Evals (expression_of c.args.index.now))) (f.PlaceOf c.args.name.now c.args.words (expression_of c.args.x.now)) (omega arith) (search rules) c.in-Ok.ensures c.store_at.ensures

pub set_entry-returns-in-Err : goal.set_entry-returns-in-Err
set_entry-returns-in-Err g t c =
    leaves (begun (f.Evals (expression_of c.args.index.now))) (f.Wants (f.PlaceOf c.args.name.now c.args.words (expression_of c.args.x.now))) tt refl tt tt (omega arith) (omega arith) c.leave.ensures.exit c.in-Err.ensures c.leave.ensures.joins

pub call_alone-returns-in-Ok : goal.call_alone-returns-in-Ok
call_alone-returns-in-Ok g t c =
    uses-at-once (called_with c.args.name.now [] (arguments_of c.args.xs.now)) f.Forgets refl tt c.in-Ok.ensures (λ k. refl)

pub call_alone-returns-in-Err : goal.call_alone-returns-in-Err
call_alone-returns-in-Err g t c =
    leaves (called_with c.args.name.now [] (arguments_of c.args.xs.now)) (f.Wants f.Forgets) tt refl tt tt (omega arith) (omega arith) c.leave.ensures.exit c.in-Err.ensures c.leave.ensures.joins

pub branch-returns-in-Ok-true : goal.branch-returns-in-Ok-true
branch-returns-in-Ok-true g t c =
    picks (begun (f.Tests (condition_of c.args.test.now))) (f.Branches (statements_of c.args.body.now.items) (statements_of c.args.other.now.items)) true (begun (f.Blocks (statements_of c.args.body.now.items))) (omega arith) c.in-Ok-true.field-0-test (branch-true (statements_of c.args.body.now.items) (statements_of c.args.other.now.items)) c.in-Ok-true.ensures (rw (c.deref.ensures.value) at c.block.ensures)

pub branch-returns-in-Ok-false : goal.branch-returns-in-Ok-false
branch-returns-in-Ok-false g t c =
    picks (begun (f.Tests (condition_of c.args.test.now))) (f.Branches (statements_of c.args.body.now.items) (statements_of c.args.other.now.items)) false (begun (f.Blocks (statements_of c.args.other.now.items))) (omega arith) c.in-Ok-false.field-0-test (branch-false (statements_of c.args.body.now.items) (statements_of c.args.other.now.items)) c.in-Ok-false.ensures (rw (c.deref-in-Ok-false.ensures.value) at c.block-in-Ok-false.ensures)

pub branch-returns-in-Err : goal.branch-returns-in-Err
branch-returns-in-Err g t c =
    leaves (begun (f.Tests (condition_of c.args.test.now))) (f.Decides (f.Branches (statements_of c.args.body.now.items) (statements_of c.args.other.now.items))) tt refl tt tt (omega arith) (omega arith) c.leave.ensures.exit c.in-Err.ensures c.leave.ensures.joins

pub give-returns-in-Ok : goal.give-returns-in-Ok
give-returns-in-Ok g t c =
    let value : to_z w32 (of_z w32 c.in-Ok.a) ≡ c.in-Ok.a = search rules in
    rw (c.in-Some.is, value) (uses-at-once (begun (f.Evals (expression_of c.in-Some.value))) f.Gives refl tt c.in-Ok.ensures (λ k. refl))

pub give-returns-in-Err : goal.give-returns-in-Err
give-returns-in-Err g t c =
    rw (c.in-Some.is) (leaves (begun (f.Evals (expression_of c.in-Some.value))) (f.Wants f.Gives) tt refl tt tt (omega arith) (omega arith) c.leave.ensures.exit c.in-Err.ensures c.leave.ensures.joins)

pub switch-returns-in-Ok : goal.switch-returns-in-Ok
switch-returns-in-Ok g t c =
    rw (← c.default_if_any-rest.ensures) (uses (begun (f.Evals (expression_of c.args.value.now))) (f.Picks (cases_of c.args.cases.now.items) (default_of c.default_if_any-rest.result)) (omega arith) (search rules) c.in-Ok.ensures c.pick.ensures)

pub switch-returns-in-Err : goal.switch-returns-in-Err
switch-returns-in-Err g t c =
    rw (← c.default_if_any-rest.ensures) (leaves (begun (f.Evals (expression_of c.args.value.now))) (f.Wants (f.Picks (cases_of c.args.cases.now.items) (default_of c.default_if_any-rest.result))) tt refl tt tt (omega arith) (omega arith) c.leave.ensures.exit c.in-Err.ensures c.leave.ensures.joins)

pub block-statements-init : goal.block-statements-init
block-statements-init g t c =
    (comes-nowhere (begun (f.Blocks (statements_of c.args.xs.now))) c.args.self.now (g.C.Console.seen c.args.console.now) c.args.draws.now c.requires.idle, omega arith)

pub block-statements-preserved : goal.block-statements-preserved
block-statements-preserved g t c =
    let l = c.statements in
    let is = c.in-Some.ensures.some in (
      next-begins (begun (f.Due (statement_of c.in-Some.x.now))) l.invariant.0 (f.Blocks (statements_of c.in-Some.others.now)) tt
          (ap (λ xs. begun (f.Blocks (statements_of xs))) is) c.in-Ok.ensures,
      omega (arith, l.invariant.1, ap (λ xs. statements_depth (statements_of xs)) is),
    )

pub block-returns-in-Err : goal.block-returns-in-Err
block-returns-in-Err g t c =
    let l = c.statements in
    let is = c.in-Some.ensures.some in
    let deep = ap (λ xs. statements_depth (statements_of xs)) is in
    then-does (begun (f.Blocks (statements_of l.rest.now))) (ap (λ xs. begun (f.Blocks (statements_of xs))) is) (omega (arith, l.invariant.1)) l.invariant.0
    (leaves {h = 2 * statements_depth (statements_of c.args.xs.now) + 1} (begun (f.Due (statement_of c.in-Some.x.now))) (f.Begins (f.Blocks (statements_of c.in-Some.others.now))) tt refl tt tt (omega (arith, l.invariant.1, deep)) (omega (arith, l.invariant.1, deep)) c.leave.ensures.exit c.in-Err.ensures c.leave.ensures.joins)

pub block-returns-in_default : goal.block-returns-in_default
block-returns-in_default g t c =
    let l = c.statements in
    then-gives (begun (f.Blocks (statements_of l.rest.now))) refl tt l.invariant.0
    (λ k. ap (λ xs. meant (begun (f.Blocks (statements_of xs))) l.self k) c.in_default.ensures.none)

pub all-members-init : goal.all-members-init
all-members-init g t c =
    (comes-nowhere (begun (f.Tests (d.All (conditions_of c.args.xs.now)))) c.args.self.now (g.C.Console.seen c.args.console.now) c.args.draws.now c.requires.idle, omega arith)

pub all-members-preserved : goal.all-members-preserved
all-members-preserved g t c =
    let l = c.members in
    let is = c.in-Some.ensures.some in (
      same-part (begun (f.Tests (d.All (conditions_of c.in-Some.others.now)))) (next-decides (begun (f.Tests (condition_of c.in-Some.x.now))) l.invariant.0 (f.AllOf (conditions_of c.in-Some.others.now)) (ap (λ xs. begun (f.Tests (d.All (conditions_of xs)))) is) (rw (c.in-Ok-true.field-0-test) at c.in-Ok-true.ensures)) (all-true (conditions_of c.in-Some.others.now)),
      omega (arith, l.invariant.1, ap (λ xs. conditions_depth (conditions_of xs)) is),
    )

pub all-returns-in-Ok-false : goal.all-returns-in-Ok-false
all-returns-in-Ok-false g t c =
    let l = c.members in
    let is = c.in-Some.ensures.some in
    then-gives (decided (f.AllOf (conditions_of c.in-Some.others.now)) false) refl tt (next-decides (begun (f.Tests (condition_of c.in-Some.x.now))) l.invariant.0 (f.AllOf (conditions_of c.in-Some.others.now)) (ap (λ xs. begun (f.Tests (d.All (conditions_of xs)))) is) (rw (c.in-Ok-false.field-0-test) at c.in-Ok-false.ensures))
    (λ k. ap (λ part. meant part c.test.new.self k) (all-false (conditions_of c.in-Some.others.now)))

pub all-returns-in-Err : goal.all-returns-in-Err
all-returns-in-Err g t c =
    let l = c.members in
    let is = c.in-Some.ensures.some in
    let deep = ap (λ xs. conditions_depth (conditions_of xs)) is in
    then-does (begun (f.Tests (d.All (conditions_of l.rest.now)))) (ap (λ xs. begun (f.Tests (d.All (conditions_of xs)))) is) (omega (arith, l.invariant.1)) l.invariant.0
    (leaves {h = conditions_depth (conditions_of c.args.xs.now) + 1} (begun (f.Tests (condition_of c.in-Some.x.now))) (f.Decides (f.AllOf (conditions_of c.in-Some.others.now))) tt refl tt tt (omega (arith, l.invariant.1, deep)) (omega (arith, l.invariant.1, deep)) c.leave.ensures.exit c.in-Err.ensures c.leave.ensures.joins)

pub all-returns-in_default : goal.all-returns-in_default
all-returns-in_default g t c =
    let l = c.members in
    then-gives (begun (f.Tests (d.All (conditions_of l.rest.now)))) refl tt l.invariant.0
    (λ k. ap (λ xs. meant (begun (f.Tests (d.All (conditions_of xs)))) l.self k) c.in_default.ensures.none)

pub any-members-init : goal.any-members-init
any-members-init g t c =
    (comes-nowhere (begun (f.Tests (d.Any (conditions_of c.args.xs.now)))) c.args.self.now (g.C.Console.seen c.args.console.now) c.args.draws.now c.requires.idle, omega arith)

pub any-members-preserved : goal.any-members-preserved
any-members-preserved g t c =
    let l = c.members in
    let is = c.in-Some.ensures.some in (
      same-part (begun (f.Tests (d.Any (conditions_of c.in-Some.others.now)))) (next-decides (begun (f.Tests (condition_of c.in-Some.x.now))) l.invariant.0 (f.AnyOf (conditions_of c.in-Some.others.now)) (ap (λ xs. begun (f.Tests (d.Any (conditions_of xs)))) is) (rw (c.in-Ok-false.field-0-test) at c.in-Ok-false.ensures)) (any-false (conditions_of c.in-Some.others.now)),
      omega (arith, l.invariant.1, ap (λ xs. conditions_depth (conditions_of xs)) is),
    )

pub any-returns-in-Ok-true : goal.any-returns-in-Ok-true
any-returns-in-Ok-true g t c =
    let l = c.members in
    let is = c.in-Some.ensures.some in
    then-gives (decided (f.AnyOf (conditions_of c.in-Some.others.now)) true) refl tt (next-decides (begun (f.Tests (condition_of c.in-Some.x.now))) l.invariant.0 (f.AnyOf (conditions_of c.in-Some.others.now)) (ap (λ xs. begun (f.Tests (d.Any (conditions_of xs)))) is) (rw (c.in-Ok-true.field-0-test) at c.in-Ok-true.ensures))
    (λ k. ap (λ part. meant part c.test.new.self k) (any-true (conditions_of c.in-Some.others.now)))

pub any-returns-in-Err : goal.any-returns-in-Err
any-returns-in-Err g t c =
    let l = c.members in
    let is = c.in-Some.ensures.some in
    let deep = ap (λ xs. conditions_depth (conditions_of xs)) is in
    then-does (begun (f.Tests (d.Any (conditions_of l.rest.now)))) (ap (λ xs. begun (f.Tests (d.Any (conditions_of xs)))) is) (omega (arith, l.invariant.1)) l.invariant.0
    (leaves {h = conditions_depth (conditions_of c.args.xs.now) + 1} (begun (f.Tests (condition_of c.in-Some.x.now))) (f.Decides (f.AnyOf (conditions_of c.in-Some.others.now))) tt refl tt tt (omega (arith, l.invariant.1, deep)) (omega (arith, l.invariant.1, deep)) c.leave.ensures.exit c.in-Err.ensures c.leave.ensures.joins)

pub any-returns-in_default : goal.any-returns-in_default
any-returns-in_default g t c =
    let l = c.members in
    then-gives (begun (f.Tests (d.Any (conditions_of l.rest.now)))) refl tt l.invariant.0
    (λ k. ap (λ xs. meant (begun (f.Tests (d.Any (conditions_of xs)))) l.self k) c.in_default.ensures.none)

pub sum_from-terms-init : goal.sum_from-terms-init
sum_from-terms-init g t c =
    (comes-nowhere (wanted (f.SumFrom (terms_of c.args.xs.now)) (to_z w32 (of_z w32 c.args.first))) c.args.self.now (g.C.Console.seen c.args.console.now) c.args.draws.now c.requires.idle, omega arith)

pub sum_from-returns-in_default : goal.sum_from-returns-in_default
sum_from-returns-in_default g t c =
    let l = c.terms in
    let first : to_z w32 (of_z w32 c.args.first) ≡ c.args.first = search rules in
    does-as (ap (wanted (f.SumFrom (terms_of c.args.xs.now))) (sym first)) (then-gives (wanted (f.SumFrom (terms_of l.rest.now)) (to_z w32 l.sum-bits)) refl tt l.invariant.0
    (λ k. ap (λ xs. meant (wanted (f.SumFrom (terms_of xs)) (to_z w32 l.sum-bits)) l.self k) c.in_default.ensures.none))

pub product_from-factors-init : goal.product_from-factors-init
product_from-factors-init g t c =
    (comes-nowhere (wanted (f.ProductFrom (factors_of c.args.xs.now)) (to_z w32 (of_z w32 c.args.first))) c.args.self.now (g.C.Console.seen c.args.console.now) c.args.draws.now c.requires.idle, omega arith)

pub product_from-returns-in_default : goal.product_from-returns-in_default
product_from-returns-in_default g t c =
    let l = c.factors in
    let first : to_z w32 (of_z w32 c.args.first) ≡ c.args.first = search rules in
    does-as (ap (wanted (f.ProductFrom (factors_of c.args.xs.now))) (sym first)) (then-gives (wanted (f.ProductFrom (factors_of l.rest.now)) (to_z w32 l.product-bits)) refl tt l.invariant.0
    (λ k. ap (λ xs. meant (wanted (f.ProductFrom (factors_of xs)) (to_z w32 l.product-bits)) l.self k) c.in_default.ensures.none))

pub act-returns-in_default : goal.act-returns-in_default
act-returns-in_default g t c = c.act_any.ensures

pub test-returns-in_default : goal.test-returns-in_default
test-returns-in_default g t c = c.test_any.ensures

pub act_any-returns-in-Empty : goal.act_any-returns-in-Empty
act_any-returns-in-Empty g t c =
    let is : statement_of c.args.x.now ≡ s.Empty = ap statement_of c.in-Empty.is ∙ statement_of_empty in
    gives-here _ (acted (statement_of c.args.x.now)) (f.Normal) c.args.self.now refl tt c.requires.idle
    (λ lines draws n past. ap (λ x. meant (acted x) c.args.self.now (config_at (place_of c.args.self.now lines draws) n past)) is) (g.C.Console.seen c.args.console.now) c.args.draws.now

pub act_any-returns-in-Break : goal.act_any-returns-in-Break
act_any-returns-in-Break g t c =
    let is : statement_of c.args.x.now ≡ s.Break = ap statement_of c.in-Break.is ∙ statement_of_break in
    gives-here _ (acted (statement_of c.args.x.now)) (f.Breaks) c.args.self.now refl tt c.requires.idle
    (λ lines draws n past. ap (λ x. meant (acted x) c.args.self.now (config_at (place_of c.args.self.now lines draws) n past)) is) (g.C.Console.seen c.args.console.now) c.args.draws.now

pub act_any-returns-in-Continue : goal.act_any-returns-in-Continue
act_any-returns-in-Continue g t c =
    let is : statement_of c.args.x.now ≡ s.Continue = ap statement_of c.in-Continue.is ∙ statement_of_continue in
    gives-here _ (acted (statement_of c.args.x.now)) (f.Continues) c.args.self.now refl tt c.requires.idle
    (λ lines draws n past. ap (λ x. meant (acted x) c.args.self.now (config_at (place_of c.args.self.now lines draws) n past)) is) (g.C.Console.seen c.args.console.now) c.args.draws.now

pub act_any-returns-in-Rtrue : goal.act_any-returns-in-Rtrue
act_any-returns-in-Rtrue g t c =
    let is : statement_of c.args.x.now ≡ s.Rtrue = ap statement_of c.in-Rtrue.is ∙ statement_of_rtrue in
    gives-here _ (acted (statement_of c.args.x.now)) (f.Returns (pos 1)) c.args.self.now refl tt c.requires.idle
    (λ lines draws n past. ap (λ x. meant (acted x) c.args.self.now (config_at (place_of c.args.self.now lines draws) n past)) is) (g.C.Console.seen c.args.console.now) c.args.draws.now

pub act_any-returns-in-Rfalse : goal.act_any-returns-in-Rfalse
act_any-returns-in-Rfalse g t c =
    let is : statement_of c.args.x.now ≡ s.Rfalse = ap statement_of c.in-Rfalse.is ∙ statement_of_rfalse in
    gives-here _ (acted (statement_of c.args.x.now)) (f.Returns (pos 0)) c.args.self.now refl tt c.requires.idle
    (λ lines draws n past. ap (λ x. meant (acted x) c.args.self.now (config_at (place_of c.args.self.now lines draws) n past)) is) (g.C.Console.seen c.args.console.now) c.args.draws.now

pub act_any-returns-in-Quit : goal.act_any-returns-in-Quit
act_any-returns-in-Quit g t c =
    let is : statement_of c.args.x.now ≡ s.Quit = ap statement_of c.in-Quit.is ∙ statement_of_quit in
    subst (λ e. Does (2 * statement_depth (statement_of c.args.x.now)) (acted (statement_of c.args.x.now)) c.args.self.now c.quit.new.self (g.C.Console.seen c.args.console.now) (g.C.Console.seen c.args.console.now) c.args.draws.now c.args.draws.now e)
    (sym (ap (left_by c.quit.new.self) c.quit.ensures.exit ∙ ap (λ i. stop_in (waiting_in c.quit.new.self) i.stopped) c.quit.ensures.over))
    (quits (2 * statement_depth (statement_of c.args.x.now)) (acted (statement_of c.args.x.now)) c.args.self.now c.quit.new.self (g.C.Console.seen c.args.console.now) c.args.draws.now c.quit.ensures.over c.requires.idle
    (λ k. ap (λ x. meant (acted x) c.args.self.now k) is))

pub act_any-returns-in-While : goal.act_any-returns-in-While
act_any-returns-in-While g t c =
    let is : statement_of c.args.x.now ≡ s.While (condition_of c.in-While.test) (statements_of c.in-While.body.items) = ap statement_of c.in-While.is ∙ statement_of_while c.in-While.test c.in-While.body in
    let l = while_loop (condition_of c.in-While.test) (statements_of c.in-While.body.items) in
    let fits : loop_height l ≤ 2 * statement_depth (s.While (condition_of c.in-While.test) (statements_of c.in-While.body.items)) = omega arith in
    rw (is) (more-frames (subst (λ l. loop_height l ≤ 2 * statement_depth (s.While (condition_of c.in-While.test) (statements_of c.in-While.body.items))) (sym c.while_loop.ensures) fits) (does-as (ap (λ l. begun (f.TurnDue l)) (sym c.while_loop.ensures)) c.turns.ensures))

pub act_any-returns-in-NewLine : goal.act_any-returns-in-NewLine
act_any-returns-in-NewLine g t c =
    let is : statement_of c.args.x.now ≡ s.NewLine = ap statement_of c.in-NewLine.is ∙ statement_of_new_line in
    rw (is) (says-does 2 (10 ∷ []) c.say.result c.args.self.now c.say.new.self (g.C.Console.seen c.args.console.now) (g.C.Console.seen c.say.new.console) c.args.draws.now c.requires.idle c.say.ensures)

pub act_any-returns-in-Read : goal.act_any-returns-in-Read
act_any-returns-in-Read g t c =
    let is : statement_of c.args.x.now ≡ s.Read c.in-Read.name c.in-Read.field-1 = ap statement_of c.in-Read.is ∙ statement_of_read c.in-Read.name c.in-Read.field-1 in
    rw (is) (c.read.ensures c.in-Read.field-1 c.args.draws.now)

pub give-returns-in-None : goal.give-returns-in-None
give-returns-in-None g t c =
    rw (c.in-None.is) (gives-here _ (acted (s.Return None)) (f.Returns (pos 1)) c.args.self.now refl tt c.requires.idle (λ lines draws n past. refl) (g.C.Console.seen c.args.console.now) c.args.draws.now)

pub test_if_any-returns-in-None : goal.test_if_any-returns-in-None
test_if_any-returns-in-None g t c =
    rw (c.in-None.is) (gives-here _ (tested_if_any None) (f.Truth true) c.args.self.now refl tt c.requires.idle (λ lines draws n past. refl) (g.C.Console.seen c.args.console.now) c.args.draws.now)

pub alter_if_any-returns-in-None : goal.alter_if_any-returns-in-None
alter_if_any-returns-in-None g t c =
    rw (c.in-None.is) (gives-here _ (altered_if_any None) f.Normal c.args.self.now refl tt c.requires.idle (λ lines draws n past. refl) (g.C.Console.seen c.args.console.now) c.args.draws.now)

pub alter-returns-in-Inc : goal.alter-returns-in-Inc
alter-returns-in-Inc g t c =
    rw (c.in-Inc.is) (more-frames (omega arith) (c.count.ensures _ _))

pub alter-returns-in-Dec : goal.alter-returns-in-Dec
alter-returns-in-Dec g t c =
    rw (c.in-Dec.is) (more-frames (omega arith) (c.count-in-Dec.ensures _ _))

pub eval_any-returns-in-Char : goal.eval_any-returns-in-Char
eval_any-returns-in-Char g t c =
    let is : expression_of c.args.x.now ≡ v.Char c.in-Char.byte = ap expression_of c.in-Char.is ∙ expression_of_char c.in-Char.byte in
    let value : to_z w32 (of_z w32 c.from.result) ≡ pos c.in-Char.byte = search rules in
    gives-here _ (begun (f.Evals (expression_of c.args.x.now))) (f.Value _) c.args.self.now refl tt c.requires.idle
    (λ lines draws n past. let k = config_at (place_of c.args.self.now lines draws) n past in
    ap (λ x. meant (begun (f.Evals x)) c.args.self.now k) is ∙ ap (λ a. (f.Value a, k)) (sym value)) (g.C.Console.seen c.args.console.now) c.args.draws.now

pub eval_any-returns-in-Number : goal.eval_any-returns-in-Number
eval_any-returns-in-Number g t c =
    let whole : to_z w32 (of_z w32 c.number.result) ≡ c.number.result = search rules in
    let is : expression_of c.args.x.now ≡ v.Number c.in-Number.n = ap expression_of c.in-Number.is ∙ expression_of_number c.in-Number.n in
    gives-here _ (begun (f.Evals (expression_of c.args.x.now))) (f.Value _) c.args.self.now refl tt c.requires.idle
    (λ lines draws n past. let k = config_at (place_of c.args.self.now lines draws) n past in
    ap (λ x. meant (begun (f.Evals x)) c.args.self.now k) is ∙ ap (λ a. (f.Value a, k)) (sym (whole ∙ c.number.ensures ∙ ap (λ names. number_word names.accepted.now.width c.in-Number.n) c.names.ensures))) (g.C.Console.seen c.args.console.now) c.args.draws.now

pub eval_any-returns-in-Name : goal.eval_any-returns-in-Name
eval_any-returns-in-Name g t c =
    let whole : to_z w32 (of_z w32 c.value.result) ≡ c.value.result = search rules in
    let is : expression_of c.args.x.now ≡ v.Name c.in-Name.name = ap expression_of c.in-Name.is ∙ expression_of_name c.in-Name.name in
    gives-here _ (begun (f.Evals (expression_of c.args.x.now))) (f.Value _) c.args.self.now refl tt c.requires.idle
    (λ lines draws n past. let k = config_at (place_of c.args.self.now lines draws) n past in
    ap (λ x. meant (begun (f.Evals x)) c.args.self.now k) is ∙ ap (λ a. (f.Value a, k)) (sym (whole ∙ c.value.ensures))) (g.C.Console.seen c.args.console.now) c.args.draws.now

pub eval_any-returns-in-Entry : goal.eval_any-returns-in-Entry
eval_any-returns-in-Entry g t c =
    let is : expression_of c.args.x.now ≡ v.Entry c.in-Entry.name c.in-Entry.field-1 (expression_of c.in-Entry.index.value) = ap expression_of c.in-Entry.is ∙ expression_of_entry c.in-Entry.name c.in-Entry.field-1 c.in-Entry.index in
    rw (is, ← c.deref.ensures) (c.entry.ensures c.in-Entry.field-1)

pub eval-returns-in-Number : goal.eval-returns-in-Number
eval-returns-in-Number g t c =
    let whole : to_z w32 (of_z w32 c.number.result) ≡ c.number.result = search rules in
    let is : expression_of c.args.x.now ≡ v.Number c.in-Number.n = ap expression_of c.in-Number.is ∙ expression_of_number c.in-Number.n in
    gives-here _ (begun (f.Evals (expression_of c.args.x.now))) (f.Value _) c.args.self.now refl tt c.requires.idle
    (λ lines draws n past. let k = config_at (place_of c.args.self.now lines draws) n past in
    ap (λ x. meant (begun (f.Evals x)) c.args.self.now k) is ∙ ap (λ a. (f.Value a, k)) (sym (whole ∙ c.number.ensures ∙ ap (λ names. number_word names.accepted.now.width c.in-Number.n) c.names.ensures))) (g.C.Console.seen c.args.console.now) c.args.draws.now

pub eval-returns-in-Name : goal.eval-returns-in-Name
eval-returns-in-Name g t c =
    let whole : to_z w32 (of_z w32 c.value.result) ≡ c.value.result = search rules in
    let is : expression_of c.args.x.now ≡ v.Name c.in-Name.name = ap expression_of c.in-Name.is ∙ expression_of_name c.in-Name.name in
    gives-here _ (begun (f.Evals (expression_of c.args.x.now))) (f.Value _) c.args.self.now refl tt c.requires.idle
    (λ lines draws n past. let k = config_at (place_of c.args.self.now lines draws) n past in
    ap (λ x. meant (begun (f.Evals x)) c.args.self.now k) is ∙ ap (λ a. (f.Value a, k)) (sym (whole ∙ c.value.ensures))) (g.C.Console.seen c.args.console.now) c.args.draws.now

pub eval-returns-in_default : goal.eval-returns-in_default
eval-returns-in_default g t c = c.eval_any.ensures

pub exec-returns-then-self-eq0 : goal.exec-returns-then-self-eq0
exec-returns-then-self-eq0 g t c =
    waits-for-step (2 * statement_depth (statement_of c.args.x.now)) (f.Begins (f.Due (statement_of c.args.x.now))) (begun (f.Due (statement_of c.args.x.now))) (acted (statement_of c.args.x.now))
    (g.C.Console.seen c.args.console.now) c.args.draws.now (λ k. refl) refl (some_depth (statement_of c.args.x.now)) (omega arith) tt (λ some. absurd (omega (arith, some, c.if-self-eq0.true))) c.wait.ensures.exit c.wait.ensures.waits

pub exec-returns : goal.exec-returns
exec-returns g t c =
    steps-then (f.Begins (f.Due (statement_of c.args.x.now))) (begun (f.Due (statement_of c.args.x.now))) (acted (statement_of c.args.x.now))
    (λ k. refl) refl (omega (arith, c.if-self-eq0.false)) (λ h. tt) c.requires.idle c.act.ensures

pub call-returns-then-self-eq0 : goal.call-returns-then-self-eq0
call-returns-then-self-eq0 g t c =
    waits-for-step 1 (f.Begins (f.CallDue c.args.name.now (values_of c.args.values))) (begun (f.CallDue c.args.name.now (values_of c.args.values))) (called c.args.name.now (values_of c.args.values))
    (g.C.Console.seen c.args.console.now) c.args.draws.now (λ k. refl) refl (omega arith) (omega arith) tt (λ some. absurd (omega (arith, some, c.if-self-eq0.true))) c.wait.ensures.exit c.wait.ensures.waits

pub call-returns-then-self : goal.call-returns-then-self
call-returns-then-self g t c =
    waits-for-step 1 (f.Begins (f.CallDue c.args.name.now (values_of c.args.values))) (begun (f.CallDue c.args.name.now (values_of c.args.values))) (called c.args.name.now (values_of c.args.values))
    (g.C.Console.seen c.args.console.now) c.args.draws.now (λ k. refl) refl (omega arith) (omega arith) tt (λ some. (c.if-self.true, tt)) c.wait-then-self.ensures.exit c.wait-then-self.ensures.waits

pub call-returns-then-self-eq0-2 : goal.call-returns-then-self-eq0-2
call-returns-then-self-eq0-2 g t c =
    steps-then (f.Begins (f.CallDue c.args.name.now (values_of c.args.values))) (begun (f.CallDue c.args.name.now (values_of c.args.values))) (called c.args.name.now (values_of c.args.values))
    (λ k. refl) refl (omega (arith, c.if-self-eq0.false)) (λ h. absurd (search (rules, h, c.if-self.false))) c.requires.idle
    (traps 1 (called c.args.name.now (values_of c.args.values)) kinds.Depth c.trap.result _ c.trap.new.self c.trap.ensures.exit c.trap.ensures.trapped c.requires.idle
    (λ lines draws n past. no-room (program_of c.args.self.now) c.args.self.now.room c.args.name.now (values_of c.args.values) _ c.if-self-eq0-2.true) (g.C.Console.seen c.args.console.now) c.args.draws.now)

pub call-returns-in-None : goal.call-returns-in-None
call-returns-in-None g t c =
    steps-then (f.Begins (f.CallDue c.args.name.now (values_of c.args.values))) (begun (f.CallDue c.args.name.now (values_of c.args.values))) (called c.args.name.now (values_of c.args.values))
    (λ k. refl) refl (omega (arith, c.if-self-eq0.false)) (λ h. absurd (search (rules, h, c.if-self.false))) c.requires.idle
    (gives-here 1 (called c.args.name.now (values_of c.args.values)) (f.Value (pos 0)) _ refl tt c.requires.idle
    (λ lines draws n past. none-called (program_of c.args.self.now) c.args.self.now.room c.args.name.now (values_of c.args.values) _ (omega (arith, c.if-self-eq0-2.false)) c.in-None.ensures.none) (g.C.Console.seen c.args.console.now) c.args.draws.now)

pub call-returns-in-Some : goal.call-returns-in-Some
call-returns-in-Some g t c =
    steps-then (f.Begins (f.CallDue c.args.name.now (values_of c.args.values))) (begun (f.CallDue c.args.name.now (values_of c.args.values))) (called c.args.name.now (values_of c.args.values))
    (λ k. refl) refl (omega (arith, c.if-self-eq0.false)) (λ h. absurd (search (rules, h, c.if-self.false))) c.requires.idle
    (more-frames (omega arith) (c.enter.ensures c.args.name.now c.in-Some.ensures.found))

pub arguments-arguments-init : goal.arguments-arguments-init
arguments-arguments-init g t c =
    (comes-nowhere (called_with c.args.name.now (values_of c.args.known) (arguments_of c.args.xs.now)) c.args.self.now (g.C.Console.seen c.args.console.now) c.args.draws.now c.requires.idle, omega arith)

pub arguments-arguments-preserved : goal.arguments-arguments-preserved
arguments-arguments-preserved g t c =
    let value : to_z w32 (of_z w32 c.in-Ok.a) ≡ c.in-Ok.a = search rules in
    let l = c.arguments in
    let is = c.in-Some.ensures.some in (
      same-part (called_with c.args.name.now (values_of c.with-values.result) (arguments_of c.in-Some.others.now)) (next-wants (begun (f.Evals (expression_of c.in-Some.x.now))) l.invariant.0 (f.Args c.args.name.now (values_of l.values) (arguments_of c.in-Some.others.now)) (ap (λ xs. called_with c.args.name.now (values_of l.values) (arguments_of xs)) is) c.in-Ok.ensures)
          (ap (λ vs. called_with c.args.name.now vs (arguments_of c.in-Some.others.now)) (sym (c.with-values.ensures ∙ ap (with_argument (values_of l.values)) value))),
      omega (arith, l.invariant.1, ap (λ xs. arguments_depth (arguments_of xs)) is),
    )

pub arguments-returns-in-Err : goal.arguments-returns-in-Err
arguments-returns-in-Err g t c =
    let l = c.arguments in
    let is = c.in-Some.ensures.some in
    let deep = ap (λ xs. arguments_depth (arguments_of xs)) is in
    then-does (called_with c.args.name.now (values_of l.values) (arguments_of l.rest.now)) (ap (λ xs. called_with c.args.name.now (values_of l.values) (arguments_of xs)) is) (omega (arith, l.invariant.1)) l.invariant.0
    (leaves {h = arguments_depth (arguments_of c.args.xs.now) + 1} (begun (f.Evals (expression_of c.in-Some.x.now))) (f.Wants (f.Args c.args.name.now (values_of l.values) (arguments_of c.in-Some.others.now))) tt refl tt tt (omega (arith, l.invariant.1, deep)) (omega (arith, l.invariant.1, deep)) c.leave.ensures.exit c.in-Err.ensures c.leave.ensures.joins)

pub arguments-returns-in_default : goal.arguments-returns-in_default
arguments-returns-in_default g t c =
    let l = c.arguments in
    then-does (called_with c.args.name.now (values_of l.values) (arguments_of l.rest.now)) (ap (λ xs. called_with c.args.name.now (values_of l.values) (arguments_of xs)) c.in_default.ensures.none) (omega arith) l.invariant.0 c.call.ensures

pub begin_turn-returns-then-self-eq0-clause-turns : goal.begin_turn-returns-then-self-eq0-clause-turns
begin_turn-returns-then-self-eq0-clause-turns g t c =
    waits-for-step (loop_height (loop_of c.args.l.now)) (f.Begins (f.TurnDue (loop_of c.args.l.now))) (begun (f.TurnDue (loop_of c.args.l.now))) (then_handed (tested_if_any (loop_of c.args.l.now).test) (f.Decides (f.Testing (loop_of c.args.l.now))))
    (g.C.Console.seen c.args.console.now) c.args.draws.now (turn-once (loop_of c.args.l.now) c.args.self.now) refl (omega arith) (omega arith) tt (λ some. absurd (omega (arith, some, c.if-self-eq0.true))) c.wait.ensures.exit c.wait.ensures.waits

pub begin_turn-returns-in-Ok-clause-turns : goal.begin_turn-returns-in-Ok-clause-turns
begin_turn-returns-in-Ok-clause-turns g t c =
    turn-begins (loop_of c.args.l.now) (loop_height (loop_of c.args.l.now)) c.goes_on.result c.goes_on.ensures (ticked (f.Begins (f.TurnDue (loop_of c.args.l.now))) (begun (f.TurnDue (loop_of c.args.l.now))) (then_handed (tested_if_any (loop_of c.args.l.now).test) (f.Decides (f.Testing (loop_of c.args.l.now)))) c.args.self.now _ (g.C.Console.seen c.args.console.now) c.args.draws.now (turn-once (loop_of c.args.l.now) c.args.self.now) refl (omega (arith, c.if-self-eq0.false)) (λ h. tt) c.requires.idle) c.in-Ok.ensures

pub begin_turn-returns-in-Err-clause-turns : goal.begin_turn-returns-in-Err-clause-turns
begin_turn-returns-in-Err-clause-turns g t c =
    then-does (then_handed (tested_if_any (loop_of c.args.l.now).test) (f.Decides (f.Testing (loop_of c.args.l.now)))) refl (omega arith) (ticked (f.Begins (f.TurnDue (loop_of c.args.l.now))) (begun (f.TurnDue (loop_of c.args.l.now))) (then_handed (tested_if_any (loop_of c.args.l.now).test) (f.Decides (f.Testing (loop_of c.args.l.now)))) c.args.self.now _ (g.C.Console.seen c.args.console.now) c.args.draws.now (turn-once (loop_of c.args.l.now) c.args.self.now) refl (omega (arith, c.if-self-eq0.false)) (λ h. tt) c.requires.idle)
    (leaves {h = loop_height (loop_of c.args.l.now)} (tested_if_any (loop_of c.args.l.now).test) (f.Decides (f.Testing (loop_of c.args.l.now))) tt refl tt tt (omega arith) (omega arith) c.leave.ensures.exit c.in-Err.ensures c.leave.ensures.joins)

pub run_body-returns-in-Ok : goal.run_body-returns-in-Ok
run_body-returns-in-Ok g t c =
    body-goes-on (loop_of c.args.l.now) (rw (c.deref.ensures.value) at c.in-Ok.ensures)

pub run_body-returns-in-Continues : goal.run_body-returns-in-Continues
run_body-returns-in-Continues g t c =
    body-goes-on-early (loop_of c.args.l.now) (rw (c.in-Continues.is, c.deref.ensures.value) at c.in-Err.ensures)

pub run_body-returns-in-Breaks : goal.run_body-returns-in-Breaks
run_body-returns-in-Breaks g t c =
    body-ends (loop_of c.args.l.now) (rw (c.in-Breaks.is, c.deref.ensures.value) at c.in-Err.ensures)

pub run_body-returns-in-Returns : goal.run_body-returns-in-Returns
run_body-returns-in-Returns g t c =
    let value : to_z w32 (of_z w32 c.in-Returns.a) ≡ c.in-Returns.a = search rules in
    leaves (begun (f.Blocks (loop_of c.args.l.now).body)) (f.Looping (loop_of c.args.l.now)) tt refl tt tt (omega arith) (omega arith) c.leave.ensures.exit
    (subst (λ a. Does (2 * statements_depth (loop_of c.args.l.now).body + 1) (begun (f.Blocks (loop_of c.args.l.now).body)) c.args.self.now c.block.new.self (g.C.Console.seen c.args.console.now) (g.C.Console.seen c.block.new.console) c.args.draws.now c.block.new.draws (Some (f.Returns a))) (sym value)
    (rw (c.in-Returns.is, c.deref.ensures.value) at c.in-Err.ensures)) c.leave.ensures.joins

pub run_body-returns-in-Stops : goal.run_body-returns-in-Stops
run_body-returns-in-Stops g t c =
    leaves (begun (f.Blocks (loop_of c.args.l.now).body)) (f.Looping (loop_of c.args.l.now)) tt refl tt tt (omega arith) (omega arith) c.leave-in-Stops.ensures.exit (rw (c.in-Stops.is, c.deref.ensures.value) at c.in-Err.ensures) c.leave-in-Stops.ensures.joins

pub change_turn-returns-in-Ok : goal.change_turn-returns-in-Ok
change_turn-returns-in-Ok g t c =
    comes-normal (altered_if_any (loop_of c.args.l.now).change) _ _ _ _ _ _ _ (f.TurnDue (loop_of c.args.l.now)) tt c.in-Ok.ensures

pub change_turn-returns-in-Err : goal.change_turn-returns-in-Err
change_turn-returns-in-Err g t c =
    leaves (altered_if_any (loop_of c.args.l.now).change) (f.Begins (f.TurnDue (loop_of c.args.l.now))) tt refl tt tt (omega arith) (omega arith) c.leave.ensures.exit c.in-Err.ensures c.leave.ensures.joins

pub turns-turning-init : goal.turns-turning-init
turns-turning-init g t c =
    comes-nowhere (begun (f.TurnDue (loop_of c.args.l))) c.args.self.now (g.C.Console.seen c.args.console.now) c.args.draws.now c.requires.idle

pub turns-returns-in-Ok-false : goal.turns-returns-in-Ok-false
turns-returns-in-Ok-false g t c =
    then-does (begun (f.TurnDue (loop_of c.args.l))) refl (omega arith) c.turning.invariant (rw (c.in-Ok-false.field-0-test) at c.in-Ok-false.ensures.turns)

pub turns-returns-in-Err : goal.turns-returns-in-Err
turns-returns-in-Err g t c =
    then-does (begun (f.TurnDue (loop_of c.args.l))) refl (omega arith) c.turning.invariant c.in-Err.ensures.turns

pub turns-returns-in-Ok-false-run_body : goal.turns-returns-in-Ok-false-run_body
turns-returns-in-Ok-false-run_body g t c =
    then-does (turn_body (loop_of c.args.l)) refl (omega arith) (comes-comes _ _ _ _ _ _ _ _ _ _ _ _ c.turning.invariant (rw (c.in-Ok-true.field-0-test) at c.in-Ok-true.ensures.turns)) (rw (c.in-Ok-false-run_body.field-0-test) at c.in-Ok-false-run_body.ensures)

pub turns-returns-in-Err-run_body : goal.turns-returns-in-Err-run_body
turns-returns-in-Err-run_body g t c =
    then-does (turn_body (loop_of c.args.l)) refl (omega arith) (comes-comes _ _ _ _ _ _ _ _ _ _ _ _ c.turning.invariant (rw (c.in-Ok-true.field-0-test) at c.in-Ok-true.ensures.turns)) c.in-Err-run_body.ensures

pub turns-returns-in-Err-change_turn : goal.turns-returns-in-Err-change_turn
turns-returns-in-Err-change_turn g t c =
    then-does (turn_change (loop_of c.args.l)) refl (omega arith) (comes-comes _ _ _ _ _ _ _ _ _ _ _ _ (comes-comes _ _ _ _ _ _ _ _ _ _ _ _ c.turning.invariant (rw (c.in-Ok-true.field-0-test) at c.in-Ok-true.ensures.turns)) (rw (c.in-Ok-true-run_body.field-0-test) at c.in-Ok-true-run_body.ensures)) c.in-Err-change_turn.ensures

pub turns-turning-preserved : goal.turns-turning-preserved
turns-turning-preserved g t c =
    (comes-comes _ _ _ _ _ _ _ _ _ _ _ _ (comes-comes _ _ _ _ _ _ _ _ _ _ _ _ (comes-comes _ _ _ _ _ _ _ _ _ _ _ _ c.turning.invariant (rw (c.in-Ok-true.field-0-test) at c.in-Ok-true.ensures.turns)) (rw (c.in-Ok-true-run_body.field-0-test) at c.in-Ok-true-run_body.ensures)) c.in-Ok.ensures)

pub do_statement-returns-in-Ok-false : goal.do_statement-returns-in-Ok-false
do_statement-returns-in-Ok-false g t c =
    does-as (ap turn_body (sym c.do_loop-l.ensures)) (more-frames (subst (λ l. loop_height l ≤ 2 * statement_depth (s.Do (statements_of c.args.body.now.items) (condition_of c.args.test.now))) (sym c.do_loop-l.ensures) (omega arith)) (rw (c.in-Ok-false.field-0-test) at c.in-Ok-false.ensures))

pub do_statement-returns-in-Ok : goal.do_statement-returns-in-Ok
do_statement-returns-in-Ok g t c =
    does-as (ap turn_body (sym c.do_loop-l.ensures)) (then-does (begun (f.TurnDue (loop_of c.do_loop-l.result))) refl (subst (λ l. loop_height l ≤ 2 * statement_depth (s.Do (statements_of c.args.body.now.items) (condition_of c.args.test.now))) (sym c.do_loop-l.ensures) (omega arith)) (comes-comes _ _ _ _ _ _ _ _ _ _ _ _ (rw (c.in-Ok-true.field-0-test) at c.in-Ok-true.ensures) c.in-Ok.ensures) c.turns.ensures)

pub do_statement-returns-in-Err-change_turn : goal.do_statement-returns-in-Err-change_turn
do_statement-returns-in-Err-change_turn g t c =
    does-as (ap turn_body (sym c.do_loop-l.ensures)) (then-does (turn_change (loop_of c.do_loop-l.result)) refl (subst (λ l. loop_height l ≤ 2 * statement_depth (s.Do (statements_of c.args.body.now.items) (condition_of c.args.test.now))) (sym c.do_loop-l.ensures) (omega arith)) (rw (c.in-Ok-true.field-0-test) at c.in-Ok-true.ensures) c.in-Err-change_turn.ensures)

pub for_statement-returns-in-Ok : goal.for_statement-returns-in-Ok
for_statement-returns-in-Ok g t c =
    does-as (ap (λ l. then_handed (altered_if_any (assignment_if_any c.args.head.now.first)) (f.Begins (f.TurnDue l))) (sym c.for_loop-l.ensures)) (follows (altered_if_any (assignment_if_any c.args.head.now.first)) (f.TurnDue (loop_of c.for_loop-l.result)) tt (subst (λ l. loop_height l ≤ 2 * statement_depth (s.For (assignment_if_any c.args.head.now.first) (condition_if_any c.args.head.now.test) (assignment_if_any c.args.head.now.next) (statements_of c.args.body.now.items))) (sym c.for_loop-l.ensures) (omega arith)) (rw (c.change_if_any.ensures) at c.in-Ok.ensures) c.turns.ensures)

pub for_statement-returns-in-Err : goal.for_statement-returns-in-Err
for_statement-returns-in-Err g t c =
    does-as (ap (λ l. then_handed (altered_if_any (assignment_if_any c.args.head.now.first)) (f.Begins (f.TurnDue l))) (sym c.for_loop-l.ensures)) (leaves (altered_if_any (assignment_if_any c.args.head.now.first)) (f.Begins (f.TurnDue (loop_of c.for_loop-l.result))) tt refl tt tt (subst (λ l. loop_height l ≤ 2 * statement_depth (s.For (assignment_if_any c.args.head.now.first) (condition_if_any c.args.head.now.test) (assignment_if_any c.args.head.now.next) (statements_of c.args.body.now.items))) (sym c.for_loop-l.ensures) (omega arith)) (omega (arith, ap (optional_depth assignment_depth) c.change_if_any.ensures)) c.leave.ensures.exit (rw (c.change_if_any.ensures) at c.in-Err.ensures) c.leave.ensures.joins)

pub turns-turning-smaller : goal.turns-turning-smaller
turns-turning-smaller g t c =
    omega (arith, c.in-Ok-true.ensures.falls, c.run_body.ensures, c.in-Ok.ensures.stays.left, (rw (c.in-Ok-true-run_body.field-0-test) at c.in-Ok-true-run_body.ensures).stays.left)

pub print-items-init : goal.print-items-init
print-items-init g t c =
    (comes-nowhere (begun (f.Prints (map print_item_of c.args.xs.now))) c.args.self.now (g.C.Console.seen c.args.console.now) c.args.draws.now c.requires.idle, omega arith)

pub print-returns-in_default : goal.print-returns-in_default
print-returns-in_default g t c =
    let l = c.items in
    then-gives (begun (f.Prints (map print_item_of l.rest.now))) refl tt l.invariant.0
    (λ k. ap (λ xs. meant (begun (f.Prints (map print_item_of xs))) l.self k) c.in_default.ensures.none)

pub pick-returns-in-None : goal.pick-returns-in-None
pick-returns-in-None g t c =
    let i = c.args.self.now in
    let value : to_z w32 (of_z w32 c.args.a) ≡ c.args.a = search rules in
    let is = rw (c.names.ensures, value) at (c.in-None.ensures.means (calls_of i)) in
    gives-here _ (wanted (f.Picks (cases_of c.args.cases.now.items) (default_of c.args.rest)) c.args.a) f.Normal i refl tt c.requires.idle
    (λ lines draws n past. ap (λ m. m (config_at (place_of i lines draws) n past)) is) (g.C.Console.seen c.args.console.now) c.args.draws.now

pub pick-returns-in-Some : goal.pick-returns-in-Some
pick-returns-in-Some g t c =
    let i = c.args.self.now in
    let value : to_z w32 (of_z w32 c.args.a) ≡ c.args.a = search rules in
    let is = rw (c.names.ensures, value) at (c.in-Some.ensures.means (calls_of i)) in
    does-meant (wanted (f.Picks (cases_of c.args.cases.now.items) (default_of c.args.rest)) c.args.a) (begun (f.Blocks (statements_of c.in-Some.body.now.items)))
    is (more-frames (omega (arith, c.in-Some.ensures.deep)) (rw (c.deref.ensures.value) at c.block.ensures))

pub print-returns-in-Err : goal.print-returns-in-Err
print-returns-in-Err g t c =
    let l = c.items in
    let is = c.in-Some.ensures.some in
    let others = map print_item_of c.in-Some.others.now in
    text-not l.rest.now c.in-Some.others.now c.in-Some.x.now is l.invariant.0 (items_depth (map print_item_of c.args.xs.now) + 1) c.in-Text.text c.in-Text.is (rw (c.bytes.ensures) at c.in-Err.ensures)

pub print-returns-in-Err-say_number : goal.print-returns-in-Err-say_number
print-returns-in-Err-say_number g t c =
    let l = c.items in
    let is = c.in-Some.ensures.some in
    let others = map print_item_of c.in-Some.others.now in
    let value : to_z w32 (of_z w32 c.in-Ok-eval.n) ≡ c.in-Ok-eval.n = search rules in
    said-not (items_depth (map print_item_of c.args.xs.now) + 1) (signed_decimal c.in-Ok-eval.n) (f.Prints others) refl
    (number-next l.rest.now c.in-Some.others.now c.in-Some.x.now is l.invariant.0 c.in-Value.x c.in-Value.is c.in-Ok-eval.ensures) (rw (value) at c.in-Err-say_number.ensures)

pub print-returns-in-Err-eval : goal.print-returns-in-Err-eval
print-returns-in-Err-eval g t c =
    let l = c.items in
    let is = c.in-Some.ensures.some in
    let others = map print_item_of c.in-Some.others.now in
    let deep = ap (λ xs. items_depth (map print_item_of xs)) (is ∙ ap (λ x. x ∷ c.in-Some.others.now) c.in-Value.is) in
    number-left l.rest.now c.in-Some.others.now c.in-Some.x.now is l.invariant.0 c.in-Value.x c.in-Value.is (omega (arith, l.invariant.1, deep)) (omega (arith, l.invariant.1, deep)) c.leave.ensures.exit c.in-Err-eval.ensures c.leave.ensures.joins

pub print-returns-in-Err-say_char : goal.print-returns-in-Err-say_char
print-returns-in-Err-say_char g t c =
    let l = c.items in
    let is = c.in-Some.ensures.some in
    let others = map print_item_of c.in-Some.others.now in
    let value : to_z w32 (of_z w32 c.in-Ok-eval-2.n) ≡ c.in-Ok-eval-2.n = search rules in
    said-not (items_depth (map print_item_of c.args.xs.now) + 1) (low_byte c.in-Ok-eval-2.n ∷ []) (f.Prints others) refl
    (char-next l.rest.now c.in-Some.others.now c.in-Some.x.now is l.invariant.0 c.in-Char.x c.in-Char.is c.in-Ok-eval-2.ensures) (rw (value) at c.in-Err-say_char.ensures)

pub print-returns-in-Err-eval-2 : goal.print-returns-in-Err-eval-2
print-returns-in-Err-eval-2 g t c =
    let l = c.items in
    let is = c.in-Some.ensures.some in
    let others = map print_item_of c.in-Some.others.now in
    let deep = ap (λ xs. items_depth (map print_item_of xs)) (is ∙ ap (λ x. x ∷ c.in-Some.others.now) c.in-Char.is) in
    char-left l.rest.now c.in-Some.others.now c.in-Some.x.now is l.invariant.0 c.in-Char.x c.in-Char.is (omega (arith, l.invariant.1, deep)) (omega (arith, l.invariant.1, deep)) c.leave-in-Err-eval-2.ensures.exit c.in-Err-eval-2.ensures c.leave-in-Err-eval-2.ensures.joins

pub print-items-preserved-in-Ok : goal.print-items-preserved-in-Ok
print-items-preserved-in-Ok g t c =
    let l = c.items in
    let is = c.in-Some.ensures.some in
    let others = map print_item_of c.in-Some.others.now in
    let deep = ap (λ xs. items_depth (map print_item_of xs)) (is ∙ ap (λ x. x ∷ c.in-Some.others.now) c.in-Text.is) in
    (text-said l.rest.now c.in-Some.others.now c.in-Some.x.now is l.invariant.0 c.in-Ok.field-0 c.in-Text.text c.in-Text.is (rw (c.bytes.ensures) at c.in-Ok.ensures), omega (arith, l.invariant.1, deep))

pub print-items-preserved-in-Ok-say_number : goal.print-items-preserved-in-Ok-say_number
print-items-preserved-in-Ok-say_number g t c =
    let l = c.items in
    let is = c.in-Some.ensures.some in
    let others = map print_item_of c.in-Some.others.now in
    let deep = ap (λ xs. items_depth (map print_item_of xs)) (is ∙ ap (λ x. x ∷ c.in-Some.others.now) c.in-Value.is) in
    let value : to_z w32 (of_z w32 c.in-Ok-eval.n) ≡ c.in-Ok-eval.n = search rules in (
      said-on c.in-Ok-say_number.field-0 (signed_decimal c.in-Ok-eval.n) (begun (f.Prints others)) refl
          (number-next l.rest.now c.in-Some.others.now c.in-Some.x.now is l.invariant.0 c.in-Value.x c.in-Value.is c.in-Ok-eval.ensures) (rw (value) at c.in-Ok-say_number.ensures),
      omega (arith, l.invariant.1, deep),
    )

pub print-items-preserved : goal.print-items-preserved
print-items-preserved g t c =
    let l = c.items in
    let is = c.in-Some.ensures.some in
    let others = map print_item_of c.in-Some.others.now in
    let deep = ap (λ xs. items_depth (map print_item_of xs)) (is ∙ ap (λ x. x ∷ c.in-Some.others.now) c.in-Char.is) in
    let value : to_z w32 (of_z w32 c.in-Ok-eval-2.n) ≡ c.in-Ok-eval-2.n = search rules in (
      said-on c.in-Ok-say_char.field-0 (low_byte c.in-Ok-eval-2.n ∷ []) (begun (f.Prints others)) refl
          (char-next l.rest.now c.in-Some.others.now c.in-Some.x.now is l.invariant.0 c.in-Char.x c.in-Char.is c.in-Ok-eval-2.ensures) (rw (value) at c.in-Ok-say_char.ensures),
      omega (arith, l.invariant.1, deep),
    )

pub sum_from-terms-preserved : goal.sum_from-terms-preserved
sum_from-terms-preserved g t c =
    let l = c.terms in
    let is = c.in-Some.ensures.some in
    let first : to_z w32 (of_z w32 c.args.first) ≡ c.args.first = search rules in
    let value : to_z w32 (of_z w32 c.in-Ok.a) ≡ c.in-Ok.a = search rules in
    let width = (program_of c.eval.new.self).width in
    let op = c.in-Some.term.now.0 in
    let others = terms_of c.in-Some.others.now in
    let whole : to_z w32 (of_z w32 c.summed-sum.result) ≡ c.summed-sum.result = search rules in
    let sum : summed width op (to_z w32 l.sum-bits) c.in-Ok.a ≡ to_z w32 (of_z w32 c.summed-sum.result) =
    sym (whole ∙ c.summed-sum.ensures ∙ ap (λ w. summed w op (to_z w32 l.sum-bits) (to_z w32 (of_z w32 c.in-Ok.a))) c.width.ensures
    ∙ ap (summed width op (to_z w32 l.sum-bits)) value) in (
      then-as (wanted (f.SumFrom others) (to_z w32 (of_z w32 c.summed-sum.result)))
          (next-wants (begun (f.Evals (expression_of c.in-Some.term.now.1))) l.invariant.0 (f.SumOnto op (to_z w32 l.sum-bits) others)
          (ap (λ xs. wanted (f.SumFrom (terms_of xs)) (to_z w32 l.sum-bits)) is) c.in-Ok.ensures)
          (ap (λ v. meant (wanted (f.SumFrom others) v) c.eval.new.self) sum),
      omega (arith, l.invariant.1, ap (λ xs. terms_depth (terms_of xs)) is),
    )

pub sum_from-returns-in-Err : goal.sum_from-returns-in-Err
sum_from-returns-in-Err g t c =
    let l = c.terms in
    let is = c.in-Some.ensures.some in
    let first : to_z w32 (of_z w32 c.args.first) ≡ c.args.first = search rules in
    let deep = ap (λ xs. terms_depth (terms_of xs)) is in
    does-as (ap (wanted (f.SumFrom (terms_of c.args.xs.now))) (sym first))
    (then-does (wanted (f.SumFrom (terms_of l.rest.now)) (to_z w32 l.sum-bits)) (ap (λ xs. wanted (f.SumFrom (terms_of xs)) (to_z w32 l.sum-bits)) is) (omega (arith, l.invariant.1)) l.invariant.0
    (leaves {h = terms_depth (terms_of c.args.xs.now) + 1} (begun (f.Evals (expression_of c.in-Some.term.now.1))) (f.Wants (f.SumOnto c.in-Some.term.now.0 (to_z w32 l.sum-bits) (terms_of c.in-Some.others.now))) tt refl tt tt (omega (arith, l.invariant.1, deep)) (omega (arith, l.invariant.1, deep)) c.leave.ensures.exit c.in-Err.ensures c.leave.ensures.joins))

pub product_from-factors-preserved : goal.product_from-factors-preserved
product_from-factors-preserved g t c =
    let l = c.factors in
    let is = c.in-Some.ensures.some in
    let first : to_z w32 (of_z w32 c.args.first) ≡ c.args.first = search rules in
    let value : to_z w32 (of_z w32 c.in-Ok.a) ≡ c.in-Ok.a = search rules in
    let width = (program_of c.eval.new.self).width in
    let op = c.in-Some.factor.now.0 in
    let others = factors_of c.in-Some.others.now in
    let whole : to_z w32 (of_z w32 c.in-Some-multiplied.b) ≡ c.in-Some-multiplied.b = search rules in
    let product : multiplied width op (to_z w32 l.product-bits) c.in-Ok.a ≡ Some (to_z w32 (of_z w32 c.in-Some-multiplied.b)) =
    sym (c.multiplied.ensures ∙ ap (λ w. multiplied w op (to_z w32 l.product-bits) (to_z w32 (of_z w32 c.in-Ok.a))) c.width.ensures
    ∙ ap (multiplied width op (to_z w32 l.product-bits)) value) ∙ c.in-Some-multiplied.is ∙ ap Some (sym whole) in (
      then-as (wanted (f.ProductFrom others) (to_z w32 (of_z w32 c.in-Some-multiplied.b)))
          (next-wants (begun (f.Evals (expression_of c.in-Some.factor.now.1))) l.invariant.0 (f.ProductOnto op (to_z w32 l.product-bits) others)
          (ap (λ xs. wanted (f.ProductFrom (factors_of xs)) (to_z w32 l.product-bits)) is) c.in-Ok.ensures)
          (ap (λ o. on_product o (λ v. eval_product (program_of c.eval.new.self) (calls_of c.eval.new.self) v others)) product),
      omega (arith, l.invariant.1, ap (λ xs. factors_depth (factors_of xs)) is),
    )

pub product_from-returns-in-Err : goal.product_from-returns-in-Err
product_from-returns-in-Err g t c =
    let l = c.factors in
    let is = c.in-Some.ensures.some in
    let first : to_z w32 (of_z w32 c.args.first) ≡ c.args.first = search rules in
    let deep = ap (λ xs. factors_depth (factors_of xs)) is in
    does-as (ap (wanted (f.ProductFrom (factors_of c.args.xs.now))) (sym first))
    (then-does (wanted (f.ProductFrom (factors_of l.rest.now)) (to_z w32 l.product-bits)) (ap (λ xs. wanted (f.ProductFrom (factors_of xs)) (to_z w32 l.product-bits)) is) (omega (arith, l.invariant.1)) l.invariant.0
    (leaves {h = factors_depth (factors_of c.args.xs.now) + 1} (begun (f.Evals (expression_of c.in-Some.factor.now.1))) (f.Wants (f.ProductOnto c.in-Some.factor.now.0 (to_z w32 l.product-bits) (factors_of c.in-Some.others.now))) tt refl tt tt (omega (arith, l.invariant.1, deep)) (omega (arith, l.invariant.1, deep)) c.leave.ensures.exit c.in-Err.ensures c.leave.ensures.joins))

pub product_from-returns-in-None : goal.product_from-returns-in-None
product_from-returns-in-None g t c =
    let l = c.factors in
    let is = c.in-Some.ensures.some in
    let first : to_z w32 (of_z w32 c.args.first) ≡ c.args.first = search rules in
    let value : to_z w32 (of_z w32 c.in-Ok.a) ≡ c.in-Ok.a = search rules in
    let width = (program_of c.eval.new.self).width in
    let op = c.in-Some.factor.now.0 in
    let others = factors_of c.in-Some.others.now in
    let product : multiplied width op (to_z w32 l.product-bits) c.in-Ok.a ≡ None =
    sym (c.multiplied.ensures ∙ ap (λ w. multiplied w op (to_z w32 l.product-bits) (to_z w32 (of_z w32 c.in-Ok.a))) c.width.ensures
    ∙ ap (multiplied width op (to_z w32 l.product-bits)) value) ∙ c.in-None.is in
    let so-far = next-wants (begun (f.Evals (expression_of c.in-Some.factor.now.1))) l.invariant.0 (f.ProductOnto op (to_z w32 l.product-bits) others)
    (ap (λ xs. wanted (f.ProductFrom (factors_of xs)) (to_z w32 l.product-bits)) is) c.in-Ok.ensures in
    does-as (ap (wanted (f.ProductFrom (factors_of c.args.xs.now))) (sym first))
    (then-does (wanted (f.ProductOnto op (to_z w32 l.product-bits) others) c.in-Ok.a) refl (omega arith) so-far
    (traps 0 (wanted (f.ProductOnto op (to_z w32 l.product-bits) others) c.in-Ok.a) kinds.Division c.trap.result c.eval.new.self c.trap.new.self c.trap.ensures.exit c.trap.ensures.trapped so-far.idle
    (λ lines draws n past. ap (λ o. on_product o (λ v. eval_product (program_of c.eval.new.self) (calls_of c.eval.new.self) v others) (config_at (place_of c.eval.new.self lines draws) n past)) product)
    (g.C.Console.seen c.eval.new.console) c.eval.new.draws))

pub enter-returns : goal.enter-returns
enter-returns g t c = λ name found.
    let values = values_of c.args.values.now in
    let r : Routine = record {
      directive = c.args.directive;
      locals = c.args.routine.now.locals.items;
      body = statements_of c.args.routine.now.body.items;
    } in
    let i : Interpreter = record c.args.self.now { world = c.enter.new.self; room = c.args.self.now.room - 1 } in
    let world : world_of i.world ≡ record (world_of c.args.self.now.world) { scope = scope_of r values } =
    c.enter.ensures.world ∙ ap (λ s. record (world_of c.args.self.now.world) { scope = s }) c.of.ensures in
    let mid : Interpreter = c.block-result.new.self in
    let caller = c.scope-caller.ensures in
    rw (c.come_back.ensures.result) (called-does name values r (2 * statements_depth r.body + 1) c.args.self.now i mid c.come_back.new.self
    (g.C.Console.seen c.args.console.now) (g.C.Console.seen c.block-result.new.console) c.args.draws.now c.block-result.new.draws found (λ d. refl)
    world c.enter.ensures.names refl refl (omega (arith, c.requires.some)) (omega (arith, c.requires.shallow))
    (mid.room + 1) refl c.block-result.result (rw (c.deref.ensures.value) at c.block-result.ensures) (rw (caller) at c.come_back.ensures.comes_back))

pub call_of-returns : goal.call_of-returns
call_of-returns g t c = rw (c.none.ensures) at c.arguments.ensures

pub alter_apart-returns : goal.alter_apart-returns
alter_apart-returns g t c = c.alter.ensures
