use Rattle.std.proofs.Common.{◌∙◌, sym, ap}
use Rattle.adv_io.specs.History.{transcript}
use Rattle.adv_io.specs.Recorded.{Recorded}
use Rattle.adv_io.proofs.Histories.{transcript-retold}
use Rattle.adv_io.proofs.memory_console.MemoryConsole.said.Goals as goal

pub returns : goal.returns
returns c =
    c.as_slice.ensures.value
    ∙ sym (transcript-retold 0 c.self.inside.said.items c.self.inside.marks.items c.self.inside.lines.items)
    ∙ ap (λ (r : Recorded). transcript r.history) c.self.view_is
