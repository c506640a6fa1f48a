use Rattle.std.proofs.Common.{◌∙◌, refl, ap, arith}
use Rattle.inform_meaning.specs.Worlds.{with_line}
use Rattle.inform_worlds.specs.Views.{world_of}
use Rattle.inform_interpreter.proofs.Taking.{takes-line, waits-for-line, line-fails}
use Rattle.inform_interpreter.proofs.interpreters.Interpreter.take_line.Goals as goal

pub returns-in-Ok-Got : goal.returns-in-Ok-Got
returns-in-Ok-Got g c = λ given.
    let seen = g.C.Console.seen in
    takes-line 1 c.args.name.now c.args.self.now _ (seen c.args.console.now) (seen c.take.new.self) given
    c.args.line.now c.take.new.line c.requires.ready.idle refl c.hear.ensures.names
    (c.hear.ensures.room c.requires.room
    ∙ ap (λ line. with_line c.args.name.now line (world_of c.args.self.now.world)) c.bytes.ensures.value)
    (rw c.in-Ok-Got.field-0-is at c.in-Ok-Got.ensures)

pub returns-in-Ok-End : goal.returns-in-Ok-End
returns-in-Ok-End g c = λ given.
    let seen = g.C.Console.seen in
    waits-for-line 1 c.args.name.now (seen c.args.console.now) (seen c.take.new.self) given
    c.args.line.now c.take.new.line (omega arith) c.requires.room c.wait.ensures.exit
    (rw c.in-Ok-End.field-0-is at c.in-Ok-End.ensures) c.wait.ensures.waits

pub returns-in-Err : goal.returns-in-Err
returns-in-Err g c = λ given.
    let seen = g.C.Console.seen in
    line-fails 1 c.args.name.now c.args.self.now _ (seen c.args.console.now) (seen c.take.new.self) given
    c.in-Err.fault c.args.line.now c.take.new.line c.requires.ready.idle refl c.in-Err.ensures
