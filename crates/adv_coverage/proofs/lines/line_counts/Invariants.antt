use Rattle.std.proofs.Common.{◌≡◌, length}
use Rattle.inform_names.specs.Views.{names_of}
use Rattle.adv_coverage.specs.Lines.{counts_of_lines}
use Rattle.adv_coverage.proofs.lines.line_counts.Given as goal

-- the counts of the lines so far
abbrev pub invariant-loop-line : goal.invariant-loop-line
invariant-loop-line l = record {
  counts : l.lines.items ≡ counts_of_lines (names_of l.program) l.counts l.line;
  count : length l.lines.items ≡ l.line;
}
