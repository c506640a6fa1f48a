use Rattle.std.proofs.Common.{◌∙◌, ◌∷◌, [], ◌++◌, length, ap, arith}
use Rattle.std.proofs.lemmas.List.{length_push}
use Rattle.inform_frames.specs.declared.frames.Frame.TheVariants as x
use Rattle.inform_frames.specs.Frames.{frames_of, callers_in}
use Rattle.inform_frames.proofs.Innermost.{frames-length, caller-push, callers-append, calls-are}
use Rattle.inform_frames.proofs.stacks.Stack.push_caller.Goals as goal

pub push_reserved-requires : goal.push_reserved-requires
push_reserved-requires c =
    let s = c.args.self.now in
    omega (arith, c.requires.few, calls-are s.frames.items s.callers.items, s.paired, s.callers.ok.0, s.caller_room)

pub push_reserved-requires-2 : goal.push_reserved-requires-2
push_reserved-requires-2 c =
    let s = c.args.self.now in
    omega (arith, c.requires.room, frames-length s.frames.items s.callers.items, s.frames.ok.0, s.frame_room)

pub returns : goal.returns
returns c =
    let s = c.args.self.now in
    ap (λ xs. frames_of xs c.push_reserved.new.self.items) c.push_reserved-2.ensures.items
    ∙ ap (frames_of (s.frames.items ++ x.Calling ∷ [])) c.push_reserved.ensures.items
    ∙ caller-push s.frames.items s.callers.items c.args.scope s.paired

pub invariant_of-self-clause-paired : goal.invariant_of-self-clause-paired
invariant_of-self-clause-paired c =
    let s = c.args.self.now in
    omega (
      arith,
      ap callers_in c.push_reserved-2.ensures.items,
      callers-append s.frames.items (x.Calling ∷ []),
      ap length c.push_reserved.ensures.items,
      length_push s.callers.items c.args.scope,
      s.paired,
    )

pub invariant_of-self-clause-few : goal.invariant_of-self-clause-few
invariant_of-self-clause-few c =
    let s = c.args.self.now in
    omega (
      arith,
      ap length c.push_reserved.ensures.items,
      length_push s.callers.items c.args.scope,
      s.paired,
      c.requires.few,
      calls-are s.frames.items s.callers.items,
    )
