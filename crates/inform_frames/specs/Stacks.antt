-- The frames of a stack, as the meaning has them.
use Rattle.std.specs.Prelude.{List, ⊤}
use Rattle.inform_meaning.specs.Frames as f
use Rattle.inform_worlds.specs.Scopes.{scope_of}
use Rattle.inform_frames.specs.Frames.{frames_of, frame_of, IsPlain}
use Rattle.inform_frames.specs.declared.stacks.Stack.{Stack}
use Rattle.inform_frames.specs.declared.stacks.Top.{Top}
use Rattle.inform_frames.specs.declared.stacks.Top.TheVariants as t

abbrev pub stack_of : Stack → List f.Frame
stack_of s = frames_of s.frames.items s.callers.items

-- a frame that was taken off
abbrev pub top_seen : Top → f.Frame
top_seen (t.Caller scope) = f.Calling (scope_of scope)
top_seen (t.Plain frame) = frame_of frame

-- no caller waits in the one that is given as it is
abbrev pub IsPlainTop : Top → Type 0
IsPlainTop (t.Caller scope) = ⊤
IsPlainTop (t.Plain frame) = IsPlain frame
