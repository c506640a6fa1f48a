-- Where a line is due, its buffer has room.
use Rattle.std.specs.Prelude.{◌≡◌, true, List, [], ◌∷◌, ⊤}
use Rattle.inform_meaning.specs.Worlds.{World, entries_of, has_room}
use Rattle.inform_meaning.specs.Frames as f
use Rattle.inform_meaning.specs.Frames.{Frame, Begins}

-- a frame that isn't due for a line
abbrev pub IsDry : Frame → Type 0
IsDry (Begins (f.LineDue name)) = ⊥
IsDry x = ⊤

abbrev pub AreDry : List Frame → Type 0
AreDry [] = ⊤
AreDry (x ∷ xs) = IsDry x × AreDry xs

-- if this frame is due for a line, its buffer has room
abbrev pub HasRoom : World → Frame → Type 0
HasRoom w (Begins (f.LineDue name)) = has_room (entries_of name w) ≡ true
HasRoom w x = ⊤

-- a line is due, if at all, for the innermost frame, and its buffer has room
abbrev pub IsReady : World → List Frame → Type 0
IsReady w [] = ⊤
IsReady w (x ∷ xs) = HasRoom w x × AreDry xs
