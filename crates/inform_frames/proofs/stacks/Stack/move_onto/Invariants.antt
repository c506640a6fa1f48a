use Rattle.std.proofs.Common.{◌≡◌, ◌+◌, ◌≤◌, ◌++◌, length, reverse}
use Rattle.inform_moves.specs.Heights.{calls_open}
use Rattle.inform_frames.specs.Stacks.{stack_of}
use Rattle.inform_frames.specs.declared.stacks.TheConstants.{ROOM, CALLS}
use Rattle.inform_frames.proofs.stacks.Stack.move_onto.Given as goal

-- what was moved and what is left are all
abbrev pub invariant-moving : goal.invariant-moving
invariant-moving l = record {
  all : reverse (stack_of l.self) ++ stack_of l.other
      ≡ reverse (stack_of l.initial.self) ++ stack_of l.initial.other;
  room : length (stack_of l.self) + length (stack_of l.other) ≤ ROOM;
  few : calls_open (stack_of l.self) + calls_open (stack_of l.other) ≤ CALLS;
}

-- fewer are left
abbrev pub decreases-moving : goal.decreases-moving
decreases-moving l = length (stack_of l.self)
