use Rattle.std.proofs.Common.{◌≡◌, ◌++◌, drop}
use Rattle.adv_coverage.specs.Report.{lines_text}
use Rattle.adv_coverage.proofs.reports.put_lines.Given as goal

-- what was written, and the lines that are left
abbrev pub invariant-loop-line : goal.invariant-loop-line
invariant-loop-line l = record {
  written : l.out.items ++ lines_text l.line (drop l.line l.counts)
      ≡ l.initial.out.items ++ lines_text 0 l.counts;
}
