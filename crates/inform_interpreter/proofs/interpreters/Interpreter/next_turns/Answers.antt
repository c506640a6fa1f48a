use Rattle.std.proofs.Common.{refl, arith}
use Rattle.inform_meaning.specs.Frames as f
use Rattle.inform_frames.specs.Frames.{loop_of}
use Rattle.inform_interpreter.specs.Doing.{begun}
use Rattle.inform_interpreter.proofs.Arms.{then-does}
use Rattle.inform_interpreter.proofs.interpreters.Interpreter.next_turns.Goals as goal

pub returns-in-Ok : goal.returns-in-Ok
returns-in-Ok g c =
    rw (c.normal_on.ensures) (then-does (begun (f.TurnDue (loop_of c.args.l))) refl (omega arith) c.in-Ok.ensures c.turns-done.ensures)

pub returns-in-Err : goal.returns-in-Err
returns-in-Err g c = rw (c.left.ensures) c.in-Err.ensures
