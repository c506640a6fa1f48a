use Rattle.std.proofs.Common.{ℕ, ◌+◌, ◌*◌, ◌≤◌, max, length, map}
use Rattle.std.specs.Prelude.{option_map}
use Rattle.inform_tree.specs.Depths.{expression_depth, arguments_depth, terms_depth, factors_depth, condition_depth, conditions_depth, assignment_depth, items_depth, statement_depth, statements_depth, optional_depth}
use Rattle.inform_tree.specs.Values.{expression_of, arguments_of, terms_of, factors_of}
use Rattle.inform_tree.specs.Conditions as d
use Rattle.inform_tree.specs.Conditions.{condition_of, conditions_of}
use Rattle.inform_tree.specs.Statements as s
use Rattle.inform_tree.specs.Statements.{assignment_of, assignment_if_any, condition_if_any, print_item_of, statement_of, statements_of, cases_of}
use Rattle.inform_meaning.specs.Frames as f
use Rattle.inform_moves.specs.Heights.{ROUTINE_FRAMES, loop_height, want_height}
use Rattle.inform_worlds.specs.Scopes.{values_of}
use Rattle.inform_frames.specs.Frames.{loop_of, default_of, default_tree}
use Rattle.inform_interpreter.specs.Doing.{begun, wanted, Comes}
use Rattle.inform_interpreter.specs.Parts.{called_with}
use Rattle.inform_interpreter.proofs.interpreters.Interpreter.«+parts».Given as goal

-- how many frames may wait in a part with so many of its own: it falls from a part to those inside
-- it, and, at a call, from the caller to the routine
abbrev most : ℕ → ℕ → ℕ
most room frames = 8 * (frames + ROUTINE_FRAMES * room)

abbrev pub decreases-eval : goal.decreases-eval
decreases-eval g l = most l.self.now.room (expression_depth (expression_of l.x.now)) + 5

abbrev pub decreases-eval_any : goal.decreases-eval_any
decreases-eval_any g l = most l.self.now.room (expression_depth (expression_of l.x.now)) + 4

abbrev pub decreases-entry : goal.decreases-entry
decreases-entry g l = most l.self.now.room (expression_depth (expression_of l.index.now) + 1) + 3

abbrev pub decreases-negation : goal.decreases-negation
decreases-negation g l = most l.self.now.room (expression_depth (expression_of l.operand.now) + 1) + 3

abbrev pub decreases-random : goal.decreases-random
decreases-random g l = most l.self.now.room (expression_depth (expression_of l.limit.now) + 1) + 3

abbrev pub decreases-sum : goal.decreases-sum
decreases-sum g l = most l.self.now.room (max (expression_depth (expression_of l.first.now)) (terms_depth (terms_of l.xs.now)) + 1) + 3

abbrev pub decreases-sum_from : goal.decreases-sum_from
decreases-sum_from g l = most l.self.now.room (terms_depth (terms_of l.xs.now) + 1) + 2

abbrev pub decreases-product : goal.decreases-product
decreases-product g l = most l.self.now.room (max (expression_depth (expression_of l.first.now)) (factors_depth (factors_of l.xs.now)) + 1) + 3

abbrev pub decreases-product_from : goal.decreases-product_from
decreases-product_from g l = most l.self.now.room (factors_depth (factors_of l.xs.now) + 1) + 2

abbrev pub decreases-call_of : goal.decreases-call_of
decreases-call_of g l = most l.self.now.room (arguments_depth (arguments_of l.xs.now) + 1) + 3

abbrev pub decreases-arguments : goal.decreases-arguments
decreases-arguments g l = most l.self.now.room (arguments_depth (arguments_of l.xs.now) + 1) + 2

abbrev pub decreases-call : goal.decreases-call
decreases-call g l = most l.self.now.room (1) + 1

abbrev pub decreases-enter : goal.decreases-enter
decreases-enter g l = most l.self.now.room (1) + 0

abbrev pub decreases-test : goal.decreases-test
decreases-test g l = most l.self.now.room (condition_depth (condition_of l.x.now)) + 5

abbrev pub decreases-test_any : goal.decreases-test_any
decreases-test_any g l = most l.self.now.room (condition_depth (condition_of l.x.now)) + 4

abbrev pub decreases-compare : goal.decreases-compare
decreases-compare g l = most l.self.now.room (max (expression_depth (expression_of l.left.now)) (expression_depth (expression_of l.right.now)) + 1) + 3

abbrev pub decreases-right_of : goal.decreases-right_of
decreases-right_of g l = most l.self.now.room (expression_depth (expression_of l.right.now) + 1) + 2

abbrev pub decreases-nonzero : goal.decreases-nonzero
decreases-nonzero g l = most l.self.now.room (expression_depth (expression_of l.x.now) + 1) + 3

abbrev pub decreases-negated : goal.decreases-negated
decreases-negated g l = most l.self.now.room (condition_depth (condition_of l.x.now) + 1) + 3

abbrev pub decreases-all : goal.decreases-all
decreases-all g l = most l.self.now.room (conditions_depth (conditions_of l.xs.now) + 1) + 3

abbrev pub decreases-any : goal.decreases-any
decreases-any g l = most l.self.now.room (conditions_depth (conditions_of l.xs.now) + 1) + 3

abbrev pub decreases-test_if_any : goal.decreases-test_if_any
decreases-test_if_any g l = most l.self.now.room (optional_depth condition_depth (option_map (λ x. condition_of x.now) l.x)) + 6

abbrev pub decreases-alter : goal.decreases-alter
decreases-alter g l = most l.self.now.room (assignment_depth (assignment_of l.x.now) + 1) + 4

abbrev pub decreases-alter_apart : goal.decreases-alter_apart
decreases-alter_apart g l = most l.self.now.room (assignment_depth (assignment_of l.x.now) + 1) + 5

abbrev pub decreases-set : goal.decreases-set
decreases-set g l = most l.self.now.room (expression_depth (expression_of l.x.now) + 1) + 3

abbrev pub decreases-set_entry : goal.decreases-set_entry
decreases-set_entry g l = most l.self.now.room (max (expression_depth (expression_of l.index.now)) (expression_depth (expression_of l.x.now)) + 1) + 3

abbrev pub decreases-store_at : goal.decreases-store_at
decreases-store_at g l = most l.self.now.room (expression_depth (expression_of l.x.now) + 1) + 2

abbrev pub decreases-alter_if_any : goal.decreases-alter_if_any
decreases-alter_if_any g l = most l.self.now.room (optional_depth assignment_depth (option_map (λ x. assignment_of x.now) l.x) + 1) + 5

abbrev pub decreases-print : goal.decreases-print
decreases-print g l = most l.self.now.room (items_depth (map print_item_of l.xs.now) + 1) + 3

abbrev pub decreases-begin_turn : goal.decreases-begin_turn
decreases-begin_turn g l = most l.self.now.room (loop_height (loop_of l.l.now)) + 1

abbrev pub decreases-run_body : goal.decreases-run_body
decreases-run_body g l = most l.self.now.room (loop_height (loop_of l.l.now)) + 1

abbrev pub decreases-change_turn : goal.decreases-change_turn
decreases-change_turn g l = most l.self.now.room (loop_height (loop_of l.l.now)) + 1

abbrev pub decreases-turns : goal.decreases-turns
decreases-turns g l = most l.self.now.room (loop_height (loop_of l.l)) + 2

abbrev pub decreases-call_alone : goal.decreases-call_alone
decreases-call_alone g l = most l.self.now.room (2 * (arguments_depth (arguments_of l.xs.now) + 1)) + 4

abbrev pub decreases-branch : goal.decreases-branch
decreases-branch g l = most l.self.now.room (2 * statement_depth (s.If (condition_of l.test.now) (statements_of l.body.now.items) (statements_of l.other.now.items))) + 4

abbrev pub decreases-do_statement : goal.decreases-do_statement
decreases-do_statement g l = most l.self.now.room (2 * statement_depth (s.Do (statements_of l.body.now.items) (condition_of l.test.now))) + 4

abbrev pub decreases-for_statement : goal.decreases-for_statement
decreases-for_statement g l = most l.self.now.room (2 * statement_depth (s.For (assignment_if_any l.head.now.first) (condition_if_any l.head.now.test) (assignment_if_any l.head.now.next) (statements_of l.body.now.items))) + 4

abbrev pub decreases-pick : goal.decreases-pick
decreases-pick g l = most l.self.now.room (want_height (f.Picks (cases_of l.cases.now.items) (default_of l.rest))) + 1

abbrev pub decreases-switch : goal.decreases-switch
decreases-switch g l = most l.self.now.room (2 * statement_depth (s.Switch (expression_of l.value.now) (cases_of l.cases.now.items) (default_tree l.rest.now))) + 4

abbrev pub decreases-give : goal.decreases-give
decreases-give g l = most l.self.now.room (2 * statement_depth (s.Return (option_map expression_of l.value.now))) + 4

abbrev pub decreases-act : goal.decreases-act
decreases-act g l = most l.self.now.room (2 * statement_depth (statement_of l.x.now)) + 6

abbrev pub decreases-act_any : goal.decreases-act_any
decreases-act_any g l = most l.self.now.room (2 * statement_depth (statement_of l.x.now)) + 5

abbrev pub decreases-exec : goal.decreases-exec
decreases-exec g l = most l.self.now.room (2 * statement_depth (statement_of l.x.now)) + 7

abbrev pub decreases-block : goal.decreases-block
decreases-block g l = most l.self.now.room (2 * statements_depth (statements_of l.xs.now) + 1) + 0

-- ---- the rest of a list is left, and is no deeper than the whole

abbrev pub invariant-sum_from-terms : goal.invariant-sum_from-terms
invariant-sum_from-terms g l =
    let seen = g.C.Console.seen in
    Comes (wanted (f.SumFrom (terms_of l.fn.xs)) l.fn.first) (wanted (f.SumFrom (terms_of l.rest)) l.sum) l.fn.self l.self (seen l.fn.console) (seen l.console) l.fn.draws l.draws
    × (terms_depth (terms_of l.rest) ≤ terms_depth (terms_of l.fn.xs))

abbrev pub decreases-sum_from-terms : goal.decreases-sum_from-terms
decreases-sum_from-terms g l = length l.rest

abbrev pub invariant-product_from-factors : goal.invariant-product_from-factors
invariant-product_from-factors g l =
    let seen = g.C.Console.seen in
    Comes (wanted (f.ProductFrom (factors_of l.fn.xs)) l.fn.first) (wanted (f.ProductFrom (factors_of l.rest)) l.product) l.fn.self l.self (seen l.fn.console) (seen l.console) l.fn.draws l.draws
    × (factors_depth (factors_of l.rest) ≤ factors_depth (factors_of l.fn.xs))

abbrev pub decreases-product_from-factors : goal.decreases-product_from-factors
decreases-product_from-factors g l = length l.rest

abbrev pub invariant-arguments-arguments : goal.invariant-arguments-arguments
invariant-arguments-arguments g l =
    let seen = g.C.Console.seen in
    Comes (called_with l.fn.name (values_of l.fn.known) (arguments_of l.fn.xs)) (called_with l.fn.name (values_of l.values) (arguments_of l.rest)) l.fn.self l.self (seen l.fn.console) (seen l.console) l.fn.draws l.draws
    × (arguments_depth (arguments_of l.rest) ≤ arguments_depth (arguments_of l.fn.xs))

abbrev pub decreases-arguments-arguments : goal.decreases-arguments-arguments
decreases-arguments-arguments g l = length l.rest

abbrev pub invariant-all-members : goal.invariant-all-members
invariant-all-members g l =
    let seen = g.C.Console.seen in
    Comes (begun (f.Tests (d.All (conditions_of l.fn.xs)))) (begun (f.Tests (d.All (conditions_of l.rest)))) l.fn.self l.self (seen l.fn.console) (seen l.console) l.fn.draws l.draws
    × (conditions_depth (conditions_of l.rest) ≤ conditions_depth (conditions_of l.fn.xs))

abbrev pub decreases-all-members : goal.decreases-all-members
decreases-all-members g l = length l.rest

abbrev pub invariant-any-members : goal.invariant-any-members
invariant-any-members g l =
    let seen = g.C.Console.seen in
    Comes (begun (f.Tests (d.Any (conditions_of l.fn.xs)))) (begun (f.Tests (d.Any (conditions_of l.rest)))) l.fn.self l.self (seen l.fn.console) (seen l.console) l.fn.draws l.draws
    × (conditions_depth (conditions_of l.rest) ≤ conditions_depth (conditions_of l.fn.xs))

abbrev pub decreases-any-members : goal.decreases-any-members
decreases-any-members g l = length l.rest

abbrev pub invariant-print-items : goal.invariant-print-items
invariant-print-items g l =
    let seen = g.C.Console.seen in
    Comes (begun (f.Prints (map print_item_of l.fn.xs))) (begun (f.Prints (map print_item_of l.rest))) l.fn.self l.self (seen l.fn.console) (seen l.console) l.fn.draws l.draws
    × (items_depth (map print_item_of l.rest) ≤ items_depth (map print_item_of l.fn.xs))

abbrev pub decreases-print-items : goal.decreases-print-items
decreases-print-items g l = length l.rest

abbrev pub invariant-block-statements : goal.invariant-block-statements
invariant-block-statements g l =
    let seen = g.C.Console.seen in
    Comes (begun (f.Blocks (statements_of l.fn.xs))) (begun (f.Blocks (statements_of l.rest))) l.fn.self l.self (seen l.fn.console) (seen l.console) l.fn.draws l.draws
    × (statements_depth (statements_of l.rest) ≤ statements_depth (statements_of l.fn.xs))

abbrev pub decreases-block-statements : goal.decreases-block-statements
decreases-block-statements g l = length l.rest

abbrev pub invariant-turns-turning : goal.invariant-turns-turning
invariant-turns-turning g l =
    let seen = g.C.Console.seen in
    Comes (begun (f.TurnDue (loop_of l.fn.l))) (begun (f.TurnDue (loop_of l.fn.l))) l.fn.self l.self (seen l.fn.console) (seen l.console) l.fn.draws l.draws

abbrev pub decreases-turns-turning : goal.decreases-turns-turning
decreases-turns-turning g l = l.self.left
