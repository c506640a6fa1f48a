-- That the program of a game counts the lines of the game.
use Rattle.std.specs.Prelude.{ℕ, ◌≡◌, ◌≤◌, List, length, replicate, None}
use Rattle.std.specs.List.{filter_map}
use Rattle.adv_counts.specs.Counts.{counted}
use Rattle.inform_entered.specs.Laws.{number_at}
use Rattle.inform_names.specs.Acceptance.{name_fault}
use Rattle.inform_names.specs.Meanings.{meanings}
use Rattle.inform_tree.specs.declared.widths.Width.{Width}
use Rattle.inform_tree.specs.Programs.{DirectiveTree}
use Rattle.scott_types.specs.declared.states.State.{State}
use Rattle.scott_types.specs.Database.{Database}
use Rattle.trans_specs.specs.Names.{line_number}
use Rattle.trans_specs.specs.Shaped.{Shaped}
use Rattle.adv_coverage.specs.declared.reports.TheConstants.{LINE_LIMIT}
use Rattle.adv_coverage.specs.Lines.{line_counts}
use Rattle.adv_coverage.specs.Report.{report_text}

-- In an accepted program that has the shape of a game, the report on the routines of lines, where
-- these directives were entered, is the report on the lines whose routines they are.
abbrev pub LinesCountAlike : Type 0
LinesCountAlike = (width : Width) (db : Database) (s : State) (p : List DirectiveTree)
    (entered : List ℕ) → name_fault width p ≡ None → Shaped db s p
    → length db.actions ≤ LINE_LIMIT
    → report_text (line_counts (meanings width p) (counted entered (replicate (length p) 0)))
    ≡ report_text
    (counted (filter_map (number_at line_number p) entered) (replicate (length db.actions) 0))
