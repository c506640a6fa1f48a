use Rattle.std.proofs.Common.{arith}
use Rattle.inform_frames.proofs.Innermost.{calls-are}
use Rattle.inform_frames.proofs.stacks.Stack.calls.Goals as goal

pub returns-clause-value : goal.returns-clause-value
returns-clause-value c =
    let s = c.args.self.now in
    omega (arith, calls-are s.frames.items s.callers.items, s.paired, s.callers.ok.0)
