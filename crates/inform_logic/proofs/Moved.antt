-- An entry of words and one of bytes that are set.
use Rattle.std.proofs.Common.{refl}
use Rattle.inform_logic.specs.Leading.{at_end}
use Rattle.inform_logic.specs.Worked.{ItemIsMoved}
use Rattle.inform_logic.proofs.Lists.{is_there}
use Rattle.inform_logic.proofs.Values.{number, local}
use Rattle.inform_logic.proofs.Changes.{set_entry}
use Rattle.inform_logic.proofs.Statements.{end, next, assign, new_line}
use Rattle.inform_logic.proofs.Routines.{routine}

pub item_is_moved : ItemIsMoved
item_is_moved p d w items marks i r has there also few less = routine has
    (next (assign (set_entry (local refl) (local refl) there (is_there items i few)))
    (next (assign (set_entry (local refl) number also (is_there marks i less)))
    (next new_line end))) at_end
