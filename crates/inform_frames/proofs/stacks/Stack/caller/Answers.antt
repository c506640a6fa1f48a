use Rattle.std.proofs.Common.{◌≡◌, ◌∙◌, ◌-◌, ◌<◌, suc, length, sym, ap, arith}
use Rattle.inform_meaning.specs.Frames as f
use Rattle.inform_moves.specs.Heights.{calls_open}
use Rattle.inform_worlds.specs.Scopes.{scope_of}
use Rattle.inform_frames.specs.declared.stacks.Stack.{Stack}
use Rattle.inform_frames.specs.Frames.{IsCaller, top_of, rest_of}
use Rattle.inform_frames.specs.Stacks.{stack_of}
use Rattle.inform_frames.proofs.Innermost.{caller-opens, caller-open, caller-last, calls-are, calls-first}
use Rattle.inform_frames.proofs.stacks.Stack.caller.Goals as goal

some : (s : Stack) → IsCaller (top_of (stack_of s)) → 0 < length s.callers.items
some s caller =
    let fs = stack_of s in
    omega (
      arith,
      calls-are s.frames.items s.callers.items,
      s.paired,
      ap calls_open (caller-opens fs caller),
      calls-first (top_of fs) (rest_of fs),
      caller-open (top_of fs) caller,
    )

pub overflow_sub-len : goal.overflow_sub-len
overflow_sub-len c = omega (arith, some c.args.self.now c.requires, c.args.self.now.callers.ok.0)

pub index-requires : goal.index-requires
index-requires c = omega (arith, some c.args.self.now c.requires, c.args.self.now.callers.ok.0)

pub returns : goal.returns
returns c =
    let s = c.args.self.now in
    let size : length s.callers.items ≡ suc (c.len.result - 1) =
    omega (arith, some s c.requires, s.callers.ok.0) in
    caller-last s.frames.items s.callers.items (c.len.result - 1) c.index.result.now s.paired c.requires size
    ∙ ap (λ x. f.Calling (scope_of x)) (sym c.index.ensures)
