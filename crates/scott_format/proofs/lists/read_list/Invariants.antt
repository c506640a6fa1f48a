use Rattle.std.proofs.Common.{◌+◌, ◌-◌, ◌≤◌, List, length}
use Rattle.std.specs.Prelude.{vec_len}
use Rattle.scott_types.specs.Database.{Database}
use Rattle.scott_format.specs.Plan.{Plan}
use Rattle.scott_format.specs.Pieces.{Moves, list_then}
use Rattle.scott_format.proofs.lists.read_list.Given as goal

abbrev pub invariant-more : goal.invariant-more
invariant-more g l =
    ((go_on : List g.row.P.Denot → Plan Database)
    → Moves (list_then g.P.Piece.plan (l.highest + 1) l.fn.entries.items go_on) l.fn.scan (list_then g.P.Piece.plan (l.highest + 1) l.entries.items go_on) l.scan)
    × (length l.fn.entries.items ≤ length l.entries.items)

abbrev pub decreases-more : goal.decreases-more
decreases-more g l = l.highest + 1 - vec_len l.entries
