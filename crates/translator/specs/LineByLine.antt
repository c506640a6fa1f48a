-- The first number that is too wide, line by line.
use Rattle.std.specs.Prelude.{ℕ, ◌+◌, List, [], ◌∷◌, find, Option, None}
use Rattle.std.specs.Option.{option_or}
use Rattle.inform_tree.specs.declared.widths.Width.{Width}
use Rattle.scott_types.specs.declared.parts.Action.{Action}
use Rattle.scott_types.specs.declared.parts.Header.{Header}
use Rattle.scott_types.specs.Database.{Database}
use Rattle.trans_specs.specs.Wide.{Placed, placed_header, placed_action, is_too_wide}

-- of the header, and of line k
unfoldable pub wide_in_header : Width → Header → Option Placed
wide_in_header width h = find (is_too_wide width) (placed_header h)

unfoldable pub wide_in_line : Width → ℕ → Action → Option Placed
wide_in_line width k a = find (is_too_wide width) (placed_action k a)

-- of these lines, of which the first has number k
abbrev pub wide_in_lines : Width → ℕ → List Action → Option Placed
wide_in_lines width k [] = None
wide_in_lines width k (a ∷ rest) =
    option_or (wide_in_line width k a) (wide_in_lines width (k + 1) rest)

-- of the header, and then of the lines
abbrev pub wide_in_game : Width → Database → Option Placed
wide_in_game width db =
    option_or (wide_in_header width db.header) (wide_in_lines width 0 db.actions)
