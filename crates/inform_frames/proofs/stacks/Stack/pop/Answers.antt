use Rattle.std.proofs.Common.{◌≡◌, ◌∙◌, ◌∷◌, [], ◌-◌, length, sym, ap, arith}
use Rattle.std.specs.Option.{option_to_list}
use Rattle.std.specs.Vec.{vec_len}
use Rattle.inform_moves.specs.Heights.{calls_open}
use Rattle.inform_frames.specs.Frames.{frame_in, callers_in, caller_of, frames_of, top_of}
use Rattle.inform_frames.specs.Stacks.{stack_of}
use Rattle.inform_frames.proofs.Innermost.{frames-more, frames-rest, callers-rest, callers-fewer, plain-open}
use Rattle.inform_frames.proofs.stacks.Stack.pop.Goals as goal

pub invariant_of-self-clause-paired : goal.invariant_of-self-clause-paired
invariant_of-self-clause-paired c =
    let s = c.args.self.now in
    let scope = caller_of (top_of (stack_of s)) in
    let n = vec_len s.frames - 1 in
    let m = vec_len s.callers - 1 in
    let size : n ≡ length s.frames.items - 1 = omega (arith, s.frames.ok.0) in
    ap callers_in c.pop-in-Calling.ensures.rest
    ∙ callers-fewer s.frames.items n s.callers.items (frame_in scope c.in-Some.frame.now) c.in-Some.ensures.top size m
    (ap (λ y. calls_open (frame_in scope y ∷ [])) c.in-Calling.is) s.paired (omega (arith, s.callers.ok.0))
    ∙ sym (ap length c.pop.ensures.rest)

pub returns-in-Calling : goal.returns-in-Calling
returns-in-Calling c =
    let s = c.args.self.now in
    let scope = caller_of (top_of (stack_of s)) in
    let n = vec_len s.frames - 1 in
    let m = vec_len s.callers - 1 in
    let ys = c.pop-in-Calling.new.self.items in
    let size : n ≡ length s.frames.items - 1 = omega (arith, s.frames.ok.0) in
    let paired : callers_in ys ≡ length c.pop.new.self.items =
    ap callers_in c.pop-in-Calling.ensures.rest
    ∙ callers-fewer s.frames.items n s.callers.items (frame_in scope c.in-Some.frame.now) c.in-Some.ensures.top size m
    (ap (λ y. calls_open (frame_in scope y ∷ [])) c.in-Calling.is) s.paired (omega (arith, s.callers.ok.0))
    ∙ sym (ap length c.pop.ensures.rest) in
    record {
      rest = sym (frames-more ys c.pop.new.self.items (option_to_list c.pop.result) paired)
          ∙ ap (frames_of ys) (sym c.pop.ensures.items)
          ∙ ap (λ ys. frames_of ys s.callers.items) c.pop-in-Calling.ensures.rest
          ∙ frames-rest s.frames.items n s.callers.items (frame_in scope c.in-Some.frame.now) c.in-Some.ensures.top size;
    }

pub invariant_of-self-in_default-clause-paired : goal.invariant_of-self-in_default-clause-paired
invariant_of-self-in_default-clause-paired c =
    let s = c.args.self.now in
    let scope = caller_of (top_of (stack_of s)) in
    let n = vec_len s.frames - 1 in
    let size : n ≡ length s.frames.items - 1 = omega (arith, s.frames.ok.0) in
    omega (
      arith,
      ap callers_in c.pop-in_default.ensures.rest,
      callers-rest s.frames.items n s.callers.items (frame_in scope c.in-Some.frame.now) c.in-Some.ensures.top size,
      plain-open scope c.in-Some.frame.now c.in_default.not-Calling,
      s.paired,
    )

pub returns-in_default : goal.returns-in_default
returns-in_default c =
    let s = c.args.self.now in
    let n = vec_len s.frames - 1 in
    let size : n ≡ length s.frames.items - 1 = omega (arith, s.frames.ok.0) in
    record {
      rest = ap (λ ys. frames_of ys s.callers.items) c.pop-in_default.ensures.rest
          ∙ frames-rest s.frames.items n s.callers.items (frame_in (caller_of (top_of (stack_of s))) c.in-Some.frame.now) c.in-Some.ensures.top size;
    }
