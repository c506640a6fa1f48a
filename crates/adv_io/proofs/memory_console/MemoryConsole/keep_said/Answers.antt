use Rattle.std.proofs.Common.{◌≡◌, ◌+◌, ◌∙◌, ap, length, length-append, arith}
use Rattle.adv_io.specs.Recorded.{Recorded, with_said}
use Rattle.adv_io.proofs.Histories.{kept-says, AreMarks-further}
use Rattle.adv_io.proofs.memory_console.MemoryConsole.keep_said.Goals as goal

pub invariant_of-self : goal.invariant_of-self
invariant_of-self c =
    let kept = rw c.unwrap.ensures at c.extend_from_slice.ensures.items in
    let longer : length c.extend_from_slice.new.self.items ≡ length c.self.inside.said.items + length c.args.bytes.now = ap length kept ∙ length-append c.self.inside.said.items c.args.bytes.now in
    record {
      in_order = AreMarks-further 0 c.self.inside.marks.items (length c.self.inside.said.items) (length c.extend_from_slice.new.self.items) c.self.invariant.in_order (omega arith);
      taken = c.self.invariant.taken;
      said_fits = omega (arith, longer, c.self.invariant.said_fits, c.extend_from_slice.ensures.capacity, c.requires);
      marks_fit = c.self.invariant.marks_fit;
    }

pub returns : goal.returns
returns c =
    let kept = rw c.unwrap.ensures at c.extend_from_slice.ensures.items in
    rw (kept, kept-says c.self.inside.said.items c.self.inside.marks.items c.self.inside.lines.items c.self.invariant.in_order c.args.bytes.now)
    (ap (λ (r : Recorded). with_said r c.args.bytes.now) c.self.view_is)
