use Rattle.std.proofs.Common.{◌∙◌, sym, ap, slice_get}
use Rattle.adv_io.specs.History.{marks}
use Rattle.adv_io.specs.Recorded.{Recorded}
use Rattle.adv_io.proofs.Histories.{kept-marks}
use Rattle.adv_io.proofs.Recordings.{option_copied-get}
use Rattle.adv_io.proofs.memory_console.MemoryConsole.mark.Goals as goal

pub returns : goal.returns
returns c =
    c.copied.ensures
    ∙ option_copied-get c.deref.result.now c.args.i c.get.result c.get.ensures.lookup
    ∙ ap (λ ms. slice_get ms c.args.i) c.deref.ensures.value
    ∙ sym (ap (λ ms. slice_get ms c.args.i) (kept-marks c.self.inside.said.items c.self.inside.marks.items c.self.inside.lines.items c.self.invariant.in_order c.self.invariant.taken))
    ∙ ap (λ (r : Recorded). slice_get (marks r.history) c.args.i) c.self.view_is
