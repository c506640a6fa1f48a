-- The first number of a database that is too wide, line by line.
use Rattle.std.proofs.Common.{◌≡◌, ◌∙◌, ℕ, ◌+◌, List, [], ◌∷◌, refl, sym, ap}
use Rattle.std.specs.Prelude.{find}
use Rattle.std.specs.Option.{option_or}
use Rattle.std.proofs.lemmas.List.Folds.{find-append}
use Rattle.inform_tree.specs.declared.widths.Width.{Width}
use Rattle.scott_types.specs.declared.parts.Action.{Action}
use Rattle.scott_types.specs.Database.{Database}
use Rattle.trans_specs.specs.Wide.{is_too_wide, placed_header, placed_action, placed_actions, wide_at}
use Rattle.translator.specs.LineByLine.{wide_in_header, wide_in_line, wide_in_lines, wide_in_game}

lines_are : (width : Width) (k : ℕ) (actions : List Action)
    → find (is_too_wide width) (placed_actions k actions) ≡ wide_in_lines width k actions
unfolding wide_in_line
lines_are width k [] = refl
lines_are width k (a ∷ rest) =
    find-append (is_too_wide width) (placed_action k a) (placed_actions (k + 1) rest)
    ∙ ap (option_or (find (is_too_wide width) (placed_action k a))) (lines_are width (k + 1) rest)

pub all_are : (width : Width) (db : Database)
    → wide_in_game width db ≡ wide_at width db
unfolding wide_in_header
all_are width db = sym (find-append (is_too_wide width) (placed_header db.header)
    (placed_actions 0 db.actions)
    ∙ ap (option_or (find (is_too_wide width) (placed_header db.header)))
    (lines_are width 0 db.actions))
