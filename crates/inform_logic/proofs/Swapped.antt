-- The swap of two globals by a helper.
use Rattle.std.proofs.Common.{is_some, refl, ap}
use Rattle.inform_logic.specs.Leading.{at_end, by_return}
use Rattle.inform_logic.specs.Worked.{GlobalsAreSwapped}
use Rattle.inform_logic.proofs.Values.{local, global, argument, called, call}
use Rattle.inform_logic.proofs.Changes.{set_variable}
use Rattle.inform_logic.proofs.Statements.{end, next, returns, assign, return}
use Rattle.inform_logic.proofs.Routines.{routine}

pub globals_are_swapped : GlobalsAreSwapped
globals_are_swapped p d w here saved has_move has_swap there also = routine has_swap
    (next (assign (set_variable (call (argument (global refl also)
    (called (routine has_move (next (assign (set_variable (global refl there) refl))
    (next (assign (set_variable (local refl) (ap is_some there)))
    (returns (return (local refl))))) by_return)))) (ap is_some also))) end) at_end
