use Rattle.std.proofs.Common.{◌∙◌, sym, ap, refl}
use Rattle.inform_meaning.specs.Frames as f
use Rattle.inform_meaning.specs.Frames.{within_scope}
use Rattle.inform_worlds.specs.Scopes.{scope_of}
use Rattle.inform_frames.specs.Frames.{signal_of}
use Rattle.inform_interpreter.specs.Leading.{config_at}
use Rattle.inform_interpreter.specs.Interpreters.{program_of, calls_of, place_of}
use Rattle.inform_interpreter.specs.Doing.{handed}
use Rattle.inform_interpreter.proofs.Doing.{gives-world}
use Rattle.inform_interpreter.proofs.Signals.{alone-signal, spent-signal, caller-returns}
use Rattle.inform_interpreter.proofs.interpreters.Interpreter.back.Goals as goal

pub returns : goal.returns
returns c = λ before given.
    let i = c.args.self.now in
    let s = scope_of c.args.caller in
    let signal = c.returned.result in
    gives-world 1 (handed (f.Calling s) (signal_of c.args.signal)) (signal_of signal) i _ before given
    (alone-signal signal) (spent-signal signal _) c.requires.idle refl c.enter.ensures.names refl refl
    (λ lines draws n past. let k = config_at (place_of i lines draws) n past in
    caller-returns s c.args.signal (program_of i) (calls_of i) k
    ∙ ap (λ e. (e, within_scope s k)) (sym c.returned.ensures)
    ∙ ap (λ w. (signal_of signal, record k { world = w })) (sym c.enter.ensures.world))
