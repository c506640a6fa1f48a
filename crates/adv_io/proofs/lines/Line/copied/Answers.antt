use Rattle.std.proofs.Common.{◌∙◌}
use Rattle.adv_io.proofs.TypedLines.{line-again}
use Rattle.adv_io.proofs.lines.Line.copied.Goals as goal

pub returns : goal.returns
returns c = c.of.ensures ∙ rw c.bytes.ensures.value (line-again c.args.self.now c.bytes.ensures.typed)
