use Rattle.std.proofs.Common.{◌≡◌, ◌∙◌, true, false, refl, sym, arith}
use Rattle.inform_meaning.specs.Frames as f
use Rattle.inform_meaning.specs.Frames.{gives}
use Rattle.inform_meaning.specs.Statements.{loop_goes_on}
use Rattle.inform_frames.specs.Frames.{loop_of}
use Rattle.inform_interpreter.specs.Parts.{turn_change}
use Rattle.inform_interpreter.proofs.Doing.{gives-here}
use Rattle.inform_interpreter.proofs.Arms.{does-as, then-does, tested-true, tested-false}
use Rattle.inform_interpreter.proofs.interpreters.Interpreter.tested.Goals as goal

pub returns-then-not-goes_on : goal.returns-then-not-goes_on
returns-then-not-goes_on g c =
    let ends : loop_goes_on (loop_of c.args.l) c.args.b ≡ false = sym c.goes_on.ensures ∙ c.if-not-goes_on.true in
    does-as (tested-false (loop_of c.args.l) c.args.b ends)
    (gives-here _ (λ p call. gives f.Normal) f.Normal c.args.self.now refl tt c.requires.idle (λ lines draws n past. refl) _ _)

pub returns-in-Ok-true : goal.returns-in-Ok-true
returns-in-Ok-true g c =
    let goes : loop_goes_on (loop_of c.args.l) c.args.b ≡ true = sym c.goes_on.ensures ∙ c.if-not-goes_on.false in
    does-as (tested-true (loop_of c.args.l) c.args.b goes)
    (then-does (turn_change (loop_of c.args.l)) refl (omega arith) (rw (c.in-Ok-true.field-0-test) at c.in-Ok-true.ensures) c.next_turns.ensures)

pub returns-in-Ok-false : goal.returns-in-Ok-false
returns-in-Ok-false g c =
    let goes : loop_goes_on (loop_of c.args.l) c.args.b ≡ true = sym c.goes_on.ensures ∙ c.if-not-goes_on.false in
    does-as (tested-true (loop_of c.args.l) c.args.b goes) (rw (c.in-Ok-false.field-0-test) at c.in-Ok-false.ensures)

pub returns-in-Err : goal.returns-in-Err
returns-in-Err g c =
    let goes : loop_goes_on (loop_of c.args.l) c.args.b ≡ true = sym c.goes_on.ensures ∙ c.if-not-goes_on.false in
    rw (c.left.ensures) (does-as (tested-true (loop_of c.args.l) c.args.b goes) c.in-Err.ensures)
