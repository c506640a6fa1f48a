use Rattle.std.proofs.Common.{◌≡◌, ◌++◌, take}
use Rattle.scott_format.specs.Canon.{lines_text}
use Rattle.scott_format.proofs.lines.put_lines.Given as goal

abbrev pub invariant-loop-entry : goal.invariant-loop-entry
invariant-loop-entry g l = l.out.items ≡ l.fn.out.items ++ lines_text g.L.Line.line (take l.entry-index l.entries)
