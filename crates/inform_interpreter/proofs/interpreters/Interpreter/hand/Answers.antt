use Rattle.std.proofs.Common.{◌≡◌, ◌∙◌, to_z, of_z, w32, rules, sym, ap, refl}
use Rattle.inform_tree.specs.Values.{arguments_of}
use Rattle.inform_meaning.specs.Worlds.{with_argument}
use Rattle.inform_meaning.specs.Frames as f
use Rattle.inform_worlds.specs.Scopes.{values_of}
use Rattle.inform_frames.specs.Frames.{begin_of, want_of, decide_of, loop_of, halt_of, signal_of}
use Rattle.inform_interpreter.specs.Parts.{called_with}
use Rattle.inform_interpreter.proofs.Doing.{value-part, truth-part, normal-part}
use Rattle.inform_interpreter.proofs.Arms.{does-as}
use Rattle.inform_interpreter.proofs.Signals.{hands-on, passes, begins-passes, wants-passes, decides-passes, main-halts, over-halts}
use Rattle.inform_interpreter.proofs.interpreters.Interpreter.hand.Goals as goal

pub returns-in-Normal : goal.returns-in-Normal
returns-in-Normal g c =
    rw (c.in-Begins.is, c.in-Normal.is) (does-as (normal-part (begin_of c.in-Begins.begin)) c.start.ensures)

pub returns-in_default : goal.returns-in_default
returns-in_default g c =
    rw (c.in-Begins.is) (passes (f.Begins (begin_of c.in-Begins.begin)) c.args.signal c.args.self.now c.requires.ready.idle
    (begins-passes (begin_of c.in-Begins.begin) c.args.signal c.in_default.not-Normal) (g.C.Console.seen c.args.console.now) c.args.draws.now)

pub returns-in-Normal-signal : goal.returns-in-Normal-signal
returns-in-Normal-signal g c =
    rw (c.in-CallDue.is, c.in-Normal-signal.is, c.value_on.ensures) (does-as (normal-part (f.CallDue c.in-CallDue.name.now (values_of c.in-CallDue.values))) c.call-value.ensures)

pub returns-in_default-signal : goal.returns-in_default-signal
returns-in_default-signal g c =
    rw (c.in-CallDue.is) (passes (f.Begins (f.CallDue c.in-CallDue.name.now (values_of c.in-CallDue.values))) c.args.signal c.args.self.now c.requires.ready.idle
    (begins-passes (f.CallDue c.in-CallDue.name.now (values_of c.in-CallDue.values)) c.args.signal c.in_default-signal.not-Normal) (g.C.Console.seen c.args.console.now) c.args.draws.now)

pub returns-in-Value : goal.returns-in-Value
returns-in-Value g c =
    let value : to_z w32 (of_z w32 c.in-Value.a) ≡ c.in-Value.a = search rules in
    rw (c.in-Wants.is, c.in-Value.is) (does-as (value-part (want_of c.in-Wants.want) c.in-Value.a) (rw (value) at c.use_value.ensures))

pub returns-in_default-signal-2 : goal.returns-in_default-signal-2
returns-in_default-signal-2 g c =
    rw (c.in-Wants.is) (passes (f.Wants (want_of c.in-Wants.want)) c.args.signal c.args.self.now c.requires.ready.idle
    (wants-passes (want_of c.in-Wants.want) c.args.signal c.in_default-signal-2.not-Value) (g.C.Console.seen c.args.console.now) c.args.draws.now)

pub returns-in-Value-signal : goal.returns-in-Value-signal
returns-in-Value-signal g c =
    let value : to_z w32 (of_z w32 c.in-Value-signal.a) ≡ c.in-Value-signal.a = search rules in
    rw (c.in-Args.is, c.in-Value-signal.is, c.value_on-in-Value-signal.ensures)
    (does-as (value-part (f.Args c.in-Args.name.now (values_of c.in-Args.values) (arguments_of c.in-Args.xs.now)) c.in-Value-signal.a
    ∙ ap (λ vs. called_with c.in-Args.name.now vs (arguments_of c.in-Args.xs.now))
    (sym (c.with.ensures ∙ ap (with_argument (values_of c.in-Args.values)) value))) c.arguments-value.ensures)

pub returns-in_default-signal-3 : goal.returns-in_default-signal-3
returns-in_default-signal-3 g c =
    rw (c.in-Args.is) (passes (f.Wants (f.Args c.in-Args.name.now (values_of c.in-Args.values) (arguments_of c.in-Args.xs.now))) c.args.signal c.args.self.now c.requires.ready.idle
    (wants-passes (f.Args c.in-Args.name.now (values_of c.in-Args.values) (arguments_of c.in-Args.xs.now)) c.args.signal c.in_default-signal-3.not-Value) (g.C.Console.seen c.args.console.now) c.args.draws.now)

pub returns-in-Truth : goal.returns-in-Truth
returns-in-Truth g c =
    rw (c.in-Decides.is, c.in-Truth.is) (does-as (truth-part (decide_of c.in-Decides.decide) c.in-Truth.b) c.use_truth.ensures)

pub returns-in_default-signal-4 : goal.returns-in_default-signal-4
returns-in_default-signal-4 g c =
    rw (c.in-Decides.is) (passes (f.Decides (decide_of c.in-Decides.decide)) c.args.signal c.args.self.now c.requires.ready.idle
    (decides-passes (decide_of c.in-Decides.decide) c.args.signal c.in_default-signal-4.not-Truth) (g.C.Console.seen c.args.console.now) c.args.draws.now)

pub returns-in-Normal-signal-2 : goal.returns-in-Normal-signal-2
returns-in-Normal-signal-2 g c =
    rw (c.in-TurnDue.is, c.in-Normal-signal-2.is, c.normal_on.ensures) (does-as (normal-part (f.TurnDue (loop_of c.in-TurnDue.l))) c.turns-done.ensures)

pub returns-in_default-signal-5 : goal.returns-in_default-signal-5
returns-in_default-signal-5 g c =
    rw (c.in-TurnDue.is) (passes (f.Begins (f.TurnDue (loop_of c.in-TurnDue.l))) c.args.signal c.args.self.now c.requires.ready.idle
    (begins-passes (f.TurnDue (loop_of c.in-TurnDue.l)) c.args.signal c.in_default-signal-5.not-Normal) (g.C.Console.seen c.args.console.now) c.args.draws.now)

pub returns-in-Truth-signal : goal.returns-in-Truth-signal
returns-in-Truth-signal g c =
    rw (c.in-Testing.is, c.in-Truth-signal.is) (does-as (truth-part (f.Testing (loop_of c.in-Testing.l)) c.in-Truth-signal.b) c.tested.ensures)

pub returns-in_default-signal-6 : goal.returns-in_default-signal-6
returns-in_default-signal-6 g c =
    rw (c.in-Testing.is) (passes (f.Decides (f.Testing (loop_of c.in-Testing.l))) c.args.signal c.args.self.now c.requires.ready.idle
    (decides-passes (f.Testing (loop_of c.in-Testing.l)) c.args.signal c.in_default-signal-6.not-Truth) (g.C.Console.seen c.args.console.now) c.args.draws.now)

pub returns-in-Main : goal.returns-in-Main
returns-in-Main g c =
    rw (c.in-Main.is, c.halt_of.ensures)
    (hands-on f.Main (signal_of c.args.signal) (f.Halts (f.halt_of (signal_of c.args.signal))) c.args.self.now refl tt c.requires.ready.idle
    (main-halts c.args.signal) (g.C.Console.seen c.args.console.now) c.args.draws.now)

pub returns-in-Over : goal.returns-in-Over
returns-in-Over g c =
    rw (c.in-Over.is)
    (hands-on (f.Over (halt_of c.in-Over.halt)) (signal_of c.args.signal) (f.Halts (halt_of c.in-Over.halt)) c.args.self.now refl tt c.requires.ready.idle
    (over-halts (halt_of c.in-Over.halt) c.args.signal) (g.C.Console.seen c.args.console.now) c.args.draws.now)

pub returns-in-Looping : goal.returns-in-Looping
returns-in-Looping g c = rw (c.in-Looping.is) c.ran.ensures
