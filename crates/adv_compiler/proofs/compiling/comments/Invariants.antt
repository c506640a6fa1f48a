use Rattle.std.proofs.Common.{◌≡◌, take, drop, map}
use Rattle.std.specs.Prelude.{IsTrue}
use Rattle.std.specs.List.{list_all}
use Rattle.scott_types.specs.Limits.{is_file_text}
use Rattle.source_reader.specs.WellFormed.{all_of, is_line_part}
use Rattle.adv_compiler.proofs.compiling.comments.Given as goal

-- the comments so far
abbrev pub invariant-loop-line : goal.invariant-loop-line
invariant-loop-line l = record {
  ready : IsTrue (all_of is_line_part (drop l.line-index l.lines));
  kept : IsTrue (list_all is_file_text l.comments.items);
  meant : l.comments.items ≡ map (λ e. e.what.comment) (take l.line-index l.lines);
}
