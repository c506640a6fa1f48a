use Rattle.std.proofs.Common.{◌≡◌, ◌++◌, take}
use Rattle.adv_decompiler.specs.Layout.{text_of}
use Rattle.adv_decompiler.specs.Plain.{lines_of}
use Rattle.adv_decompiler.proofs.lists.put_lines.Given as goal

abbrev pub invariant-loop-entry : goal.invariant-loop-entry
invariant-loop-entry g l =
    (l.number ≡ l.entry-index) × (l.out.items ≡ l.fn.out.items ++ text_of (lines_of (g.L.Line.line l.sizes) (take l.entry-index l.entries)))
