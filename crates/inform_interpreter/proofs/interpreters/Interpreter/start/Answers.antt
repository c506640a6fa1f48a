use Rattle.std.proofs.Common.{◌≡◌, to_z, of_z, w32, rules}
use Rattle.inform_interpreter.proofs.interpreters.Interpreter.start.Goals as goal

pub returns-in-DrawDue : goal.returns-in-DrawDue
returns-in-DrawDue g c =
    let number : to_z w32 (of_z w32 c.in-DrawDue.n) ≡ c.in-DrawDue.n = search rules in
    rw (c.in-DrawDue.is, c.value_on-in-DrawDue.ensures) (rw (number) at (c.draw-value.ensures (g.C.Console.seen c.args.console.now)))

pub returns-in-LineDue : goal.returns-in-LineDue
returns-in-LineDue g c =
    rw (c.in-LineDue.is, c.normal_on-in-LineDue.ensures) (c.take_line-done.ensures c.args.draws.now)

pub returns-in-Evals : goal.returns-in-Evals
returns-in-Evals g c = rw (c.in-Evals.is, c.value_on.ensures) c.eval-value.ensures

pub returns-in-Tests : goal.returns-in-Tests
returns-in-Tests g c = rw (c.in-Tests.is, c.truth_on.ensures) c.test-truth.ensures

pub returns-in-Alters : goal.returns-in-Alters
returns-in-Alters g c = rw (c.in-Alters.is, c.normal_on.ensures) c.alter_apart-done.ensures

pub returns-in-Due : goal.returns-in-Due
returns-in-Due g c = rw (c.in-Due.is, c.normal_on-in-Due.ensures) c.exec-done.ensures

pub returns-in-Blocks : goal.returns-in-Blocks
returns-in-Blocks g c = rw (c.in-Blocks.is, c.normal_on-in-Blocks.ensures) c.block-done.ensures

pub returns-in-Prints : goal.returns-in-Prints
returns-in-Prints g c = rw (c.in-Prints.is, c.normal_on-in-Prints.ensures) c.print-done.ensures
