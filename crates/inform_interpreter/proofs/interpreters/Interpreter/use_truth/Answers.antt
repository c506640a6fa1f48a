use Rattle.std.proofs.Common.{true, false, refl, arith}
use Rattle.inform_tree.specs.Conditions.{conditions_of}
use Rattle.inform_tree.specs.Statements.{statements_of}
use Rattle.inform_meaning.specs.Frames as f
use Rattle.inform_meaning.specs.Frames.{gives}
use Rattle.inform_interpreter.specs.Doing.{decided}
use Rattle.inform_interpreter.proofs.Doing.{gives-here}
use Rattle.inform_interpreter.proofs.Arms.{does-as, more-frames, all-true, all-false, any-true, any-false, branch-true, branch-false}
use Rattle.inform_interpreter.proofs.interpreters.Interpreter.use_truth.Goals as goal

pub returns-then-not-b : goal.returns-then-not-b
returns-then-not-b g c =
    rw (c.in-AllOf.is, c.if-not-b.true) (does-as (all-false (conditions_of c.in-AllOf.xs.now))
    (gives-here _ (λ p call. gives (f.Truth false)) (f.Truth false) c.args.self.now refl tt c.requires.idle (λ lines draws n past. refl) _ _))

pub returns-else-not-b : goal.returns-else-not-b
returns-else-not-b g c =
    rw (c.in-AllOf.is, c.if-not-b.false, c.truth_on.ensures) (does-as (all-true (conditions_of c.in-AllOf.xs.now)) c.all-truth.ensures)

pub returns-then-b : goal.returns-then-b
returns-then-b g c =
    rw (c.in-AnyOf.is, c.if-b.true) (does-as (any-true (conditions_of c.in-AnyOf.xs.now))
    (gives-here _ (λ p call. gives (f.Truth true)) (f.Truth true) c.args.self.now refl tt c.requires.idle (λ lines draws n past. refl) _ _))

pub returns-else-b : goal.returns-else-b
returns-else-b g c =
    rw (c.in-AnyOf.is, c.if-b.false, c.truth_on-in-AnyOf.ensures) (does-as (any-false (conditions_of c.in-AnyOf.xs.now)) c.any-truth.ensures)

pub returns-in-Flips : goal.returns-in-Flips
returns-in-Flips g c =
    rw (c.in-Flips.is) (gives-here _ (decided f.Flips c.args.b) _ c.args.self.now refl tt c.requires.idle (λ lines draws n past. refl) _ _)

pub returns-then-b-2 : goal.returns-then-b-2
returns-then-b-2 g c =
    let body = statements_of c.in-Branches.body.now.items in
    let other = statements_of c.in-Branches.other.now.items in
    rw (c.in-Branches.is, c.if-b-2.true, c.normal_on.ensures)
    (does-as (branch-true body other) (more-frames (omega arith) (rw (c.deref.ensures.value) at c.block-done.ensures)))

pub returns-else-b-2 : goal.returns-else-b-2
returns-else-b-2 g c =
    let body = statements_of c.in-Branches.body.now.items in
    let other = statements_of c.in-Branches.other.now.items in
    rw (c.in-Branches.is, c.if-b-2.false, c.normal_on-in-Branches.ensures)
    (does-as (branch-false body other) (more-frames (omega arith) (rw (c.deref-in-Branches.ensures.value) at c.block-done-in-Branches.ensures)))
