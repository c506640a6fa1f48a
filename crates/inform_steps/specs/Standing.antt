-- Where a run that waits stands.
use Rattle.std.specs.Prelude.{ℕ, ℤ, ◌≡◌, List, [], ◌∷◌, ⊤}
use Rattle.inform_meaning.specs.Worlds.{Config}
use Rattle.inform_meaning.specs.Frames.{CallDue, Frame, Begins, Lack, NeedsLine, NeedsDraw, Spent, Outcome, Normal, Waits}
use Rattle.inform_moves.specs.Needs.{Need, AStep, ALine, ADraw, need}

-- the next move of these frames is one that needs this
pub record Needs (frames : List Frame) (what : Need) : Type 0 where
  pub top : Frame
  pub rest : List Frame
  pub frames_are : frames ≡ top ∷ rest
  pub is : need top Normal ≡ what

-- what a run lacks it needs next, and none is left
abbrev pub StandsBefore : Lack → List Frame → Config → Type 0
StandsBefore NeedsLine frames c = (name : List ℕ) × Needs frames (ALine name) × (c.lines ≡ [])
StandsBefore NeedsDraw frames c = (n : ℤ) × Needs frames (ADraw n) × (c.draws ≡ [])
StandsBefore Spent frames c = Needs frames AStep × (c.steps ≡ 0)

abbrev pub WaitsAt : Outcome → Config → Type 0
WaitsAt (Waits lack frames) c = StandsBefore lack frames c
WaitsAt e c = ⊤

-- the next move of these frames is a call
abbrev pub CallIsDue : List Frame → Type 0
CallIsDue (Begins (CallDue name values) ∷ frames) = ⊤
CallIsDue frames = ⊥
