-- What a frame does with the outcome of its part, as a run goes on.
use Rattle.std.proofs.Common.{◌≡◌, ℕ, ℤ, Bool, [], Some, refl}
use Rattle.adv_draws.specs.Supply.{Supply}
use Rattle.adv_io.specs.Console.{ConsoleView}
use Rattle.inform_meaning.specs.Worlds.{Program, Scope, Config}
use Rattle.inform_meaning.specs.Frames as f
use Rattle.inform_meaning.specs.Frames.{Begin, Want, Decide, Loop, Frame, Outcome, on_normal, on_value, on_truth, on_body, on_return, on_main, on_over, returned, within_scope}
use Rattle.inform_meaning.specs.Meaning.{Calls}
use Rattle.inform_meaning.specs.Runs.{hand}
use Rattle.inform_frames.specs.Frames.{signal_of}
use Rattle.inform_frames.specs.Stacks.{stack_of}
use Rattle.inform_frames.specs.declared.signals.Signal.{Signal}
use Rattle.inform_frames.specs.declared.signals.Signal.TheVariants as g
use Rattle.inform_interpreter.specs.declared.interpreters.Interpreter.{Interpreter}
use Rattle.inform_interpreter.specs.Leading.{config_at}
use Rattle.inform_interpreter.specs.Interpreters.{program_of, calls_of, place_of}
use Rattle.inform_interpreter.specs.Doing.{WaitsAlone, IsSpentRight, Does, handed}
use Rattle.inform_interpreter.proofs.Doing.{gives-here}

-- ---- signals: none of them waits

pub alone-signal : (signal : Signal) → WaitsAlone (Some (signal_of signal)) []
alone-signal (g.Value a) = refl
alone-signal (g.Truth b) = refl
alone-signal g.Normal = refl
alone-signal (g.Returns a) = refl
alone-signal g.Breaks = refl
alone-signal g.Continues = refl
alone-signal (g.Halts halt) = refl

pub spent-signal : (signal : Signal) (i : Interpreter) → IsSpentRight (Some (signal_of signal)) i
spent-signal (g.Value a) i = tt
spent-signal (g.Truth b) i = tt
spent-signal g.Normal i = tt
spent-signal (g.Returns a) i = tt
spent-signal g.Breaks i = tt
spent-signal g.Continues i = tt
spent-signal (g.Halts halt) i = tt

-- ---- frames that hand on an outcome at once

-- after an outcome a frame hands on another one, and nothing else is done
abbrev pub HandsOn : Frame → Outcome → Outcome → Type 0
HandsOn fr e given = (p : Program) (call : Calls) (c : Config) → hand p call fr e c ≡ (given, c)

-- it passes the outcome on as it is
abbrev pub Passes : Frame → Outcome → Type 0
Passes fr e = HandsOn fr e e

pub hands-on : {h : ℕ} (fr : Frame) (e e' : Outcome) (i : Interpreter) → WaitsAlone (Some e') []
    → IsSpentRight (Some e') i → stack_of i.waiting ≡ [] → HandsOn fr e e'
    → (seen : ConsoleView) (given : Supply) → Does h (handed fr e) i i seen seen given given (Some e')
hands-on {h = h} fr e e' i alone spent idle is seen given =
    gives-here h (handed fr e) e' i alone spent idle
    (λ lines draws n past. is (program_of i) (calls_of i) (config_at (place_of i lines draws) n past))
    seen given

pub passes : {h : ℕ} (fr : Frame) (signal : Signal) (i : Interpreter) → stack_of i.waiting ≡ []
    → Passes fr (signal_of signal) → (seen : ConsoleView) (given : Supply)
    → Does h (handed fr (signal_of signal)) i i seen seen given given (Some (signal_of signal))
passes fr signal i idle is seen given =
    hands-on fr (signal_of signal) (signal_of signal) i (alone-signal signal) (spent-signal signal i)
    idle is seen given

pub begins-passes : (b : Begin) (signal : Signal) → (signal ≡ g.Normal → ⊥)
    → Passes (f.Begins b) (signal_of signal)
unfolding on_normal
begins-passes b (g.Value a) never p call c = refl
begins-passes b (g.Truth t) never p call c = refl
begins-passes b g.Normal never p call c = absurd (never refl)
begins-passes b (g.Returns a) never p call c = refl
begins-passes b g.Breaks never p call c = refl
begins-passes b g.Continues never p call c = refl
begins-passes b (g.Halts halt) never p call c = refl

pub wants-passes : (w : Want) (signal : Signal) → ((a : ℤ) → signal ≡ g.Value a → ⊥)
    → Passes (f.Wants w) (signal_of signal)
unfolding on_value
wants-passes w (g.Value a) never p call c = absurd (never a refl)
wants-passes w (g.Truth t) never p call c = refl
wants-passes w g.Normal never p call c = refl
wants-passes w (g.Returns a) never p call c = refl
wants-passes w g.Breaks never p call c = refl
wants-passes w g.Continues never p call c = refl
wants-passes w (g.Halts halt) never p call c = refl

pub decides-passes : (d : Decide) (signal : Signal) → ((t : Bool) → signal ≡ g.Truth t → ⊥)
    → Passes (f.Decides d) (signal_of signal)
unfolding on_truth
decides-passes d (g.Value a) never p call c = refl
decides-passes d (g.Truth t) never p call c = absurd (never t refl)
decides-passes d g.Normal never p call c = refl
decides-passes d (g.Returns a) never p call c = refl
decides-passes d g.Breaks never p call c = refl
decides-passes d g.Continues never p call c = refl
decides-passes d (g.Halts halt) never p call c = refl

pub loop-passes : (l : Loop) (signal : Signal) → (signal ≡ g.Normal → ⊥) → (signal ≡ g.Breaks → ⊥)
    → (signal ≡ g.Continues → ⊥) → Passes (f.Looping l) (signal_of signal)
unfolding on_body
loop-passes l (g.Value a) normal breaks continues p call c = refl
loop-passes l (g.Truth t) normal breaks continues p call c = refl
loop-passes l g.Normal normal breaks continues p call c = absurd (normal refl)
loop-passes l (g.Returns a) normal breaks continues p call c = refl
loop-passes l g.Breaks normal breaks continues p call c = absurd (breaks refl)
loop-passes l g.Continues normal breaks continues p call c = absurd (continues refl)
loop-passes l (g.Halts halt) normal breaks continues p call c = refl

-- ---- the ends of routines and of runs

pub main-halts : (signal : Signal)
    → HandsOn f.Main (signal_of signal) (f.Halts (f.halt_of (signal_of signal)))
unfolding on_main
main-halts (g.Value a) p call c = refl
main-halts (g.Truth t) p call c = refl
main-halts g.Normal p call c = refl
main-halts (g.Returns a) p call c = refl
main-halts g.Breaks p call c = refl
main-halts g.Continues p call c = refl
main-halts (g.Halts halt) p call c = refl

pub over-halts : (halt : f.Halt) (signal : Signal)
    → HandsOn (f.Over halt) (signal_of signal) (f.Halts halt)
unfolding on_over
over-halts halt (g.Value a) p call c = refl
over-halts halt (g.Truth t) p call c = refl
over-halts halt g.Normal p call c = refl
over-halts halt (g.Returns a) p call c = refl
over-halts halt g.Breaks p call c = refl
over-halts halt g.Continues p call c = refl
over-halts halt (g.Halts other) p call c = refl

-- the caller's scope comes back
pub caller-returns : (s : Scope) (signal : Signal) (p : Program) (call : Calls) (c : Config)
    → hand p call (f.Calling s) (signal_of signal) c
    ≡ (returned (signal_of signal), within_scope s c)
unfolding on_return
caller-returns s (g.Value a) p call c = refl
caller-returns s (g.Truth t) p call c = refl
caller-returns s g.Normal p call c = refl
caller-returns s (g.Returns a) p call c = refl
caller-returns s g.Breaks p call c = refl
caller-returns s g.Continues p call c = refl
caller-returns s (g.Halts halt) p call c = refl
