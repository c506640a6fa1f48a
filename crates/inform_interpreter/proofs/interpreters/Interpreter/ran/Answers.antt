use Rattle.std.proofs.Common.{refl}
use Rattle.inform_meaning.specs.Frames as f
use Rattle.inform_meaning.specs.Frames.{gives}
use Rattle.inform_frames.specs.Frames.{loop_of}
use Rattle.inform_interpreter.proofs.Doing.{gives-here}
use Rattle.inform_interpreter.proofs.Arms.{does-as, body-normal, body-continues, body-breaks}
use Rattle.inform_interpreter.proofs.Signals.{passes, loop-passes}
use Rattle.inform_interpreter.proofs.interpreters.Interpreter.ran.Goals as goal

pub returns-in-Normal : goal.returns-in-Normal
returns-in-Normal g c = rw (c.in-Normal.is) (does-as (body-normal (loop_of c.args.l)) c.next_turns.ensures)

pub returns-in-Continues : goal.returns-in-Continues
returns-in-Continues g c =
    rw (c.in-Continues.is) (does-as (body-continues (loop_of c.args.l)) c.next_turns-in-Continues.ensures)

pub returns-in-Breaks : goal.returns-in-Breaks
returns-in-Breaks g c =
    rw (c.in-Breaks.is) (does-as (body-breaks (loop_of c.args.l))
    (gives-here _ (λ p call. gives f.Normal) f.Normal c.args.self.now refl tt c.requires.idle (λ lines draws n past. refl) _ _))

pub returns-in_default : goal.returns-in_default
returns-in_default g c =
    passes (f.Looping (loop_of c.args.l)) c.args.signal c.args.self.now c.requires.idle
    (loop-passes (loop_of c.args.l) c.args.signal c.in_default.not-Normal c.in_default.not-Breaks c.in_default.not-Continues) _ _
