-- That a machine is fit can be shown in one way alone.
use Rattle.std.specs.Prelude.{Bool, true, false, List, [], ◌∷◌}
use Rattle.std.specs.Coded.{×_prop, Unit-prop, le_prop, coded_bool, Coded-set}
use Rattle.inform_meaning.specs.Worlds.{World}
use Rattle.inform_meaning.specs.Frames as f
use Rattle.inform_moves.specs.Heights.{Fits}
use Rattle.inform_moves.specs.Readiness.{IsDry, AreDry, HasRoom, IsReady}
use Rattle.inform_worlds.specs.Views.{world_of}
use Rattle.inform_run.specs.declared.machines.Machine.{Machine}
use Rattle.inform_frames.specs.Stacks.{stack_of}
use Rattle.inform_run.specs.Machines.{IsFit, IsFitUnless}

fits-prop : (frames : List f.Frame) → IsProp (Fits frames)
fits-prop [] = Unit-prop
fits-prop (x ∷ xs) = ×_prop le_prop (fits-prop xs)

dry-prop : (x : f.Frame) → IsProp (IsDry x)
dry-prop (f.Begins (f.Evals x)) = Unit-prop
dry-prop (f.Begins (f.CallDue name values)) = Unit-prop
dry-prop (f.Begins (f.DrawDue n)) = Unit-prop
dry-prop (f.Begins (f.Tests x)) = Unit-prop
dry-prop (f.Begins (f.Alters x)) = Unit-prop
dry-prop (f.Begins (f.Due x)) = Unit-prop
dry-prop (f.Begins (f.Blocks xs)) = Unit-prop
dry-prop (f.Begins (f.Prints xs)) = Unit-prop
dry-prop (f.Begins (f.LineDue name)) = λ a. absurd a
dry-prop (f.Begins (f.TurnDue l)) = Unit-prop
dry-prop (f.Wants x) = Unit-prop
dry-prop (f.Decides x) = Unit-prop
dry-prop (f.Looping l) = Unit-prop
dry-prop (f.Calling scope) = Unit-prop
dry-prop f.Main = Unit-prop
dry-prop (f.Over halt) = Unit-prop

all_dry-prop : (frames : List f.Frame) → IsProp (AreDry frames)
all_dry-prop [] = Unit-prop
all_dry-prop (x ∷ xs) = ×_prop (dry-prop x) (all_dry-prop xs)

room-prop : (w : World) (x : f.Frame) → IsProp (HasRoom w x)
room-prop w (f.Begins (f.Evals x)) = Unit-prop
room-prop w (f.Begins (f.CallDue name values)) = Unit-prop
room-prop w (f.Begins (f.DrawDue n)) = Unit-prop
room-prop w (f.Begins (f.Tests x)) = Unit-prop
room-prop w (f.Begins (f.Alters x)) = Unit-prop
room-prop w (f.Begins (f.Due x)) = Unit-prop
room-prop w (f.Begins (f.Blocks xs)) = Unit-prop
room-prop w (f.Begins (f.Prints xs)) = Unit-prop
room-prop w (f.Begins (f.LineDue name)) = Coded-set coded_bool _ _
room-prop w (f.Begins (f.TurnDue l)) = Unit-prop
room-prop w (f.Wants x) = Unit-prop
room-prop w (f.Decides x) = Unit-prop
room-prop w (f.Looping l) = Unit-prop
room-prop w (f.Calling scope) = Unit-prop
room-prop w f.Main = Unit-prop
room-prop w (f.Over halt) = Unit-prop

ready-prop : (w : World) (frames : List f.Frame) → IsProp (IsReady w frames)
ready-prop w [] = Unit-prop
ready-prop w (x ∷ xs) = ×_prop (room-prop w x) (all_dry-prop xs)

fit-prop : (m : Machine) → IsProp (IsFit m)
fit-prop m =
    ×_prop (fits-prop (stack_of m.stack))
    (×_prop le_prop (×_prop (ready-prop (world_of m.interpreter.world) (stack_of m.stack)) le_prop))

pub IsFitUnless-prop : (broken : Bool) (m : Machine) → IsProp (IsFitUnless broken m)
IsFitUnless-prop true m = Unit-prop
IsFitUnless-prop false m = fit-prop m
