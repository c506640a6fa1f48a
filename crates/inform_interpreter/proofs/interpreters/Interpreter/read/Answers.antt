use Rattle.std.proofs.Common.{◌∙◌, sym, arith}
use Rattle.inform_tree.specs.Statements as t
use Rattle.inform_meaning.specs.declared.traps.Trap.TheVariants as kinds
use Rattle.inform_meaning.specs.Frames as f
use Rattle.inform_interpreter.specs.Doing.{begun}
use Rattle.inform_interpreter.specs.Parts.{acted}
use Rattle.inform_interpreter.proofs.Arms.{does-here, more-frames}
use Rattle.inform_interpreter.proofs.Doing.{traps}
use Rattle.inform_interpreter.proofs.Taking.{reads-line, line-traps}
use Rattle.inform_interpreter.proofs.interpreters.Interpreter.read.Goals as goal

pub returns-then-has_room : goal.returns-then-has_room
returns-then-has_room g c = λ words given.
    does-here (acted (t.Read c.args.name.now words)) (begun (f.LineDue c.args.name.now))
    (reads-line c.args.name.now words c.args.self.now (sym c.has_room.ensures ∙ c.if-has_room.true))
    (more-frames (omega arith) (c.take_line.ensures given))

pub returns : goal.returns
returns g c = λ words given.
    traps 2 (acted (t.Read c.args.name.now words)) kinds.Line c.trap.result c.args.self.now c.trap.new.self
    c.trap.ensures.exit c.trap.ensures.trapped c.requires.idle
    (line-traps c.args.name.now words c.args.self.now (sym c.has_room.ensures ∙ c.if-has_room.false))
    (g.C.Console.seen c.args.console.now) given
