use Rattle.std.proofs.Common.{◌∙◌, ap, arith}
use Rattle.inform_frames.specs.Frames.{frames_of, callers_in}
use Rattle.inform_frames.proofs.Innermost.{frames-length, plain-push, callers-plain}
use Rattle.inform_frames.proofs.stacks.Stack.push.Goals as goal

pub push_reserved-requires : goal.push_reserved-requires
push_reserved-requires c =
    let s = c.args.self.now in
    omega (arith, c.requires.room, frames-length s.frames.items s.callers.items, s.frames.ok.0, s.frame_room)

pub returns : goal.returns
returns c =
    let s = c.args.self.now in
    ap (λ xs. frames_of xs s.callers.items) c.push_reserved.ensures.items
    ∙ plain-push s.frames.items c.args.frame s.callers.items c.requires.plain

pub invariant_of-self-clause-paired : goal.invariant_of-self-clause-paired
invariant_of-self-clause-paired c =
    let s = c.args.self.now in
    ap callers_in c.push_reserved.ensures.items ∙ callers-plain s.frames.items c.args.frame c.requires.plain ∙ s.paired
