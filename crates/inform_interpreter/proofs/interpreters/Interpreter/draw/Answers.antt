use Rattle.std.proofs.Common.{◌≡◌, to_z, of_z, w32, rules, refl, arith}
use Rattle.inform_interpreter.proofs.Taking.{draws-one, waits-for-draw}
use Rattle.inform_interpreter.proofs.interpreters.Interpreter.draw.Goals as goal

pub returns-in-Some : goal.returns-in-Some
returns-in-Some c = λ seen.
    let number : to_z w32 (of_z w32 c.args.n) ≡ c.args.n = search rules in
    let value : to_z w32 (of_z w32 c.drawn.result) ≡ c.drawn.result = search rules in
    rw (value, c.drawn.ensures, number) (draws-one 1 c.args.n c.in-Some.draw c.args.self.now seen c.args.draws.now
    c.next.new.self c.requires.idle c.in-Some.ensures.given c.in-Some.ensures.counted)

pub returns-in-None : goal.returns-in-None
returns-in-None c = λ seen.
    let number : to_z w32 (of_z w32 c.args.n) ≡ c.args.n = search rules in
    waits-for-draw 1 c.args.n seen c.args.draws.now c.next.new.self (c.in-None.ensures.none.0 refl)
    c.in-None.ensures.unchanged (omega arith) c.wait.ensures.exit (rw (number) at c.wait.ensures.waits)
