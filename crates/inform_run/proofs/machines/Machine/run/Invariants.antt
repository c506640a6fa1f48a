use Rattle.std.proofs.Common.{◌≤◌, length}
use Rattle.inform_meaning.specs.Frames.{Normal}
use Rattle.inform_meaning.specs.Runs.{CALL_LIMIT}
use Rattle.inform_moves.specs.Heights.{Fits, calls_open}
use Rattle.inform_moves.specs.Readiness.{IsReady}
use Rattle.inform_worlds.specs.Views.{world_of}
use Rattle.inform_frames.specs.Frames.{signal_of}
use Rattle.inform_frames.specs.Stacks.{stack_of}
use Rattle.inform_interpreter.specs.Doing.{Comes}
use Rattle.inform_run.specs.Machines.{with_room, resumed}
use Rattle.inform_run.proofs.machines.Machine.run.Given as goal

-- the frames that are left go on with what was handed on
abbrev pub invariant-running : goal.invariant-running
invariant-running g l =
    let before = l.initial.self in
    let seen = g.C.Console.seen in
    record {
      fits : Fits (stack_of l.self.stack);
      few : calls_open (stack_of l.self.stack) ≤ CALL_LIMIT;
      ready : IsReady (world_of l.self.interpreter.world) (stack_of l.self.stack);
      comes : Comes (resumed (stack_of before.stack) Normal) (resumed (stack_of l.self.stack) (signal_of l.signal))
          before.interpreter (with_room before.interpreter.room l.self.interpreter)
          (seen l.initial.console) (seen l.console) l.initial.draws l.draws;
    }

-- each frame is taken off
abbrev pub decreases-running : goal.decreases-running
decreases-running g l = length (stack_of l.self.stack)
