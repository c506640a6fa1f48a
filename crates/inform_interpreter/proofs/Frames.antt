-- What frames do with outcomes.
use Rattle.std.proofs.Common.{◌≡◌, ℤ, Bool, refl}
use Rattle.std.specs.Prelude.{⊤}
use Rattle.inform_meaning.specs.Worlds.{Program, Config}
use Rattle.inform_meaning.specs.Frames.{Begin, Want, Decide, Frame, Begins, Wants, Decides, Looping, Calling, Main, Over, Outcome, Value, Truth, Normal, Returns, Breaks, Continues, Halts, on_normal, on_value, on_truth, on_body, on_return, on_main, on_over}
use Rattle.inform_meaning.specs.Meaning.{Calls}
use Rattle.inform_meaning.specs.Runs.{start, use_value, use_truth, hand}
use Rattle.inform_interpreter.specs.declared.exits.Exit.{Exit}
use Rattle.inform_interpreter.specs.declared.exits.Exit.TheVariants as x
use Rattle.inform_interpreter.proofs.Leading.{Holds}

module _ (p : Program) (call : Calls) where
  -- what waits, waits with each frame
  pub hand-holds : (x : Frame) → Holds x (hand p call x)
  unfolding on_normal on_value on_truth on_body on_return on_main on_over
  hand-holds (Begins b) lack fs c = refl
  hand-holds (Wants w) lack fs c = refl
  hand-holds (Decides d) lack fs c = refl
  hand-holds (Looping l) lack fs c = refl
  hand-holds (Calling s) lack fs c = refl
  hand-holds Main lack fs c = refl
  hand-holds (Over halt) lack fs c = refl

  -- what a frame wants it uses
  pub wants-value : (w : Want) (a : ℤ) (c : Config)
      → hand p call (Wants w) (Value a) c ≡ use_value p call w a c
  unfolding on_value
  wants-value w a c = refl

  pub decides-truth : (d : Decide) (b : Bool) (c : Config)
      → hand p call (Decides d) (Truth b) c ≡ use_truth p call d b c
  unfolding on_truth
  decides-truth d b c = refl

  pub begins-normal : (b : Begin) (c : Config)
      → hand p call (Begins b) Normal c ≡ start p call b c
  unfolding on_normal
  begins-normal b c = refl

-- the outcome of a part that was left like this
abbrev pub IsOf : Exit → Outcome → Type 0
IsOf (x.Returns a) (Returns b) = ⊤
IsOf x.Breaks Breaks = ⊤
IsOf x.Continues Continues = ⊤
IsOf x.Stops (Halts halt) = ⊤
IsOf exit e = ⊥

-- a part that was left like this leaves this frame too
abbrev pub IsLeftBy : Frame → Exit → Type 0
IsLeftBy (Begins b) exit = ⊤
IsLeftBy (Wants w) exit = ⊤
IsLeftBy (Decides d) exit = ⊤
IsLeftBy (Looping l) (x.Returns a) = ⊤
IsLeftBy (Looping l) x.Stops = ⊤
IsLeftBy fr exit = ⊥

pub leaves-by : (p : Program) (call : Calls) (fr : Frame) (exit : Exit) → IsLeftBy fr exit
    → (e : Outcome) → IsOf exit e → (c : Config) → hand p call fr e c ≡ (e, c)
unfolding on_normal on_value on_truth on_body
leaves-by p call (Begins b) (x.Returns a) h (Returns v) of c = refl
leaves-by p call (Begins b) x.Breaks h Breaks of c = refl
leaves-by p call (Begins b) x.Continues h Continues of c = refl
leaves-by p call (Begins b) x.Stops h (Halts halt) of c = refl
leaves-by p call (Wants w) (x.Returns a) h (Returns v) of c = refl
leaves-by p call (Wants w) x.Breaks h Breaks of c = refl
leaves-by p call (Wants w) x.Continues h Continues of c = refl
leaves-by p call (Wants w) x.Stops h (Halts halt) of c = refl
leaves-by p call (Decides d) (x.Returns a) h (Returns v) of c = refl
leaves-by p call (Decides d) x.Breaks h Breaks of c = refl
leaves-by p call (Decides d) x.Continues h Continues of c = refl
leaves-by p call (Decides d) x.Stops h (Halts halt) of c = refl
leaves-by p call (Looping l) (x.Returns a) h (Returns v) of c = refl
leaves-by p call (Looping l) x.Stops h (Halts halt) of c = refl
leaves-by p call (Looping l) x.Breaks h e of c = absurd h
leaves-by p call (Looping l) x.Continues h e of c = absurd h
leaves-by p call (Calling s) exit h e of c = absurd h
leaves-by p call Main exit h e of c = absurd h
leaves-by p call (Over halt) exit h e of c = absurd h
leaves-by p call fr exit h e of c = absurd of
