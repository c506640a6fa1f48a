-- The laws of moves.
use Rattle.std.specs.Prelude.{ℕ, ◌≡◌, ◌+◌, ◌-◌, ◌*◌, ◌<◌, ◌≤◌, List, ◌∷◌, length, ⊤}
use Rattle.inform_meaning.specs.Worlds.{Program, World, Config}
use Rattle.inform_meaning.specs.Frames.{Frame, Outcome, Waits}
use Rattle.inform_meaning.specs.Runs.{CALL_LIMIT, room_in, resume_at}
use Rattle.inform_meaning.specs.Laws as l
use Rattle.inform_moves.specs.Moves.{Move, Goes, Ticks, Reads, Draws, next}
use Rattle.inform_moves.specs.Needs.{need, need_in}
use Rattle.inform_moves.specs.Done.{move_run}
use Rattle.inform_moves.specs.Works.{work, works}
use Rattle.inform_moves.specs.Heights.{ROUTINE_FRAMES, height, Fits, calls_open}

-- Whatever is handed to the innermost frame, a run only adds to what happened, and takes lines and
-- draws from the front.
abbrev pub RunsAdd : Type 0
RunsAdd = (p : Program) (frames : List Frame) (e : Outcome) (c : Config)
    → l.Goes c (resume_at p CALL_LIMIT frames e c).1

-- not that of a part that waits
abbrev pub IsSettled : Outcome → Type 0
IsSettled (Waits lack frames) = ⊥
IsSettled e = ⊤

-- A run does what the move of its innermost frame does.
abbrev pub MovesMean : Type 0
MovesMean = (p : Program) (x : Frame) (rest : List Frame) (e : Outcome) (c : Config) → IsSettled e
    → resume_at p CALL_LIMIT (x ∷ rest) e c
    ≡ move_run p x rest (next p (room_in CALL_LIMIT rest) c.world x e) c

-- the frames of a move without a step have less than so much to do
abbrev pub FallsBelow : ℕ → Move → Type 0
FallsBelow most (Goes frames e effect) = works frames < most
FallsBelow most (Ticks frames e effect) = ⊤
FallsBelow most (Reads name) = 0 < most
FallsBelow most (Draws n) = 0 < most

-- A move without a step leaves less work.
abbrev pub MovesFall : Type 0
MovesFall =
    (p : Program) (n : ℕ) (w : World) (x : Frame) (e : Outcome)
    → FallsBelow (work x) (next p n w x e)

-- What a move needs is told by its frame and by what is handed to it.
abbrev pub MovesNeed : Type 0
MovesNeed = (p : Program) (n : ℕ) (w : World) (x : Frame) (e : Outcome)
    → need_in (next p n w x e) ≡ need x e

-- how many calls a move opens
abbrev pub OpensAtMost : ℕ → Move → Type 0
OpensAtMost n (Goes frames e effect) = calls_open frames ≤ n
OpensAtMost n (Ticks frames e effect) = calls_open frames ≤ n
OpensAtMost n (Reads name) = ⊤
OpensAtMost n (Draws m) = ⊤

-- No move opens more calls than may be open.
abbrev pub MovesOpen : Type 0
MovesOpen =
    (p : Program) (n : ℕ) (w : World) (x : Frame) (e : Outcome) → OpensAtMost n (next p n w x e)

-- The frames that may stand in the place of one, and those after it, are few, if each routine keeps
-- within its frames.
abbrev pub FramesAreFew : Type 0
FramesAreFew = (x : Frame) (frames : List Frame) → Fits (x ∷ frames)
    → height x + length frames ≤ ROUTINE_FRAMES * (calls_open frames + 1)

-- The room for calls is what is left of the limit.
abbrev pub RoomIsLeft : Type 0
RoomIsLeft = (n : ℕ) (frames : List Frame) → room_in n frames ≡ n - calls_open frames
