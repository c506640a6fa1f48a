use Rattle.std.proofs.Common.{◌≡◌, ◌∙◌, ◌∷◌, ◌-◌, suc, length, sym, ap, arith}
use Rattle.inform_frames.specs.Frames.{frame_in, caller_of, frames_of, top_of, rest_of}
use Rattle.inform_frames.proofs.Innermost.{frames-top}
use Rattle.inform_frames.proofs.stacks.Stack.top.Goals as goal

pub returns-clause-top : goal.returns-clause-top
returns-clause-top c =
    let s = c.args.self.now in
    let fs = frames_of s.frames.items s.callers.items in
    let size : length s.frames.items ≡ suc (c.len-size.result - 1) = omega (arith, s.frames.ok.0) in
    frames-top s.frames.items (c.len-size.result - 1) c.index.result.now s.callers.items size
    ∙ ap (λ x. frame_in (caller_of (top_of fs)) x ∷ rest_of fs) (sym c.index.ensures)
