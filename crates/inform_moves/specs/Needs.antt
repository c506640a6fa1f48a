-- What a move needs.
use Rattle.std.specs.Prelude.{ℕ, ℤ, List}
use Rattle.inform_meaning.specs.Frames as f
use Rattle.inform_meaning.specs.Frames.{Begin, Frame, Begins, Outcome, Normal}
use Rattle.inform_moves.specs.Moves.{Move, Goes, Ticks, Reads, Draws}

pub data Need : Type 0 where
  Nothing : Need
  AStep : Need
  ALine : List ℕ → Need  -- for this buffer
  ADraw : ℤ → Need  -- for a number up to this one

abbrev pub begin_need : Begin → Need
begin_need (f.Evals x) = Nothing
begin_need (f.CallDue name values) = AStep
begin_need (f.DrawDue n) = ADraw n
begin_need (f.Tests x) = Nothing
begin_need (f.Alters x) = Nothing
begin_need (f.Due x) = AStep
begin_need (f.Blocks xs) = Nothing
begin_need (f.Prints xs) = Nothing
begin_need (f.LineDue name) = ALine name
begin_need (f.TurnDue l) = AStep

-- of the frame to which an outcome is handed
abbrev pub need : Frame → Outcome → Need
need (Begins x) Normal = begin_need x
need x e = Nothing

-- of a move
abbrev pub need_in : Move → Need
need_in (Goes frames e effect) = Nothing
need_in (Ticks frames e effect) = AStep
need_in (Reads name) = ALine name
need_in (Draws n) = ADraw n
