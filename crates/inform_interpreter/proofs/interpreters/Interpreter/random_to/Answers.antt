use Rattle.std.proofs.Common.{◌≡◌, pos, true, false, to_z, of_z, w32, rules}
use Rattle.std.specs.Prelude.{int_lt}
use Rattle.inform_meaning.specs.declared.traps.Trap.TheVariants as t
use Rattle.inform_meaning.specs.Frames as f
use Rattle.inform_interpreter.specs.Leading.{config_at}
use Rattle.inform_interpreter.specs.Interpreters.{place_of}
use Rattle.inform_interpreter.specs.Doing.{wanted}
use Rattle.inform_interpreter.proofs.Doing.{traps}
use Rattle.inform_interpreter.proofs.Arms.{random-traps, random-draws, does-as}
use Rattle.inform_interpreter.proofs.interpreters.Interpreter.random_to.Goals as goal

pub returns-then-n-lt1 : goal.returns-then-n-lt1
returns-then-n-lt1 c = λ seen.
    let i = c.args.self.now in
    let low : int_lt c.args.n (pos 1) ≡ true = search (rules, c.if-n-lt1.true) in
    traps 1 (wanted f.RangeOf c.args.n) t.Random c.trap.result i c.trap.new.self
    c.trap.ensures.exit c.trap.ensures.trapped c.requires.idle
    (λ lines draws n past. random-traps c.args.n low (config_at (place_of i lines draws) n past)) seen c.args.draws.now

pub returns : goal.returns
returns c = λ seen.
    let high : int_lt c.args.n (pos 1) ≡ false = search (rules, c.if-n-lt1.false) in
    let number : to_z w32 (of_z w32 c.args.n) ≡ c.args.n = search rules in
    does-as (random-draws c.args.n high) (rw (number) at (c.draw.ensures seen))
