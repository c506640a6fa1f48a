-- A quotient, and the trap where there is none.
use Rattle.std.proofs.Common.{arith, refl}
use Rattle.inform_logic.specs.Leading.{by_return}
use Rattle.inform_logic.specs.Stopping.{in_block, in_return}
use Rattle.inform_logic.specs.Worked.{SharesAreGiven, NoShareTraps}
use Rattle.inform_logic.proofs.Words.{small_quotient}
use Rattle.inform_logic.proofs.Values.{number, local, product, product_of_two}
use Rattle.inform_logic.proofs.Statements.{returns, return}
use Rattle.inform_logic.proofs.Routines.{routine}
use Rattle.inform_logic.proofs.Stops.{later, handed_up, step_stops, routine_stops}
use Rattle.inform_logic.proofs.Traps.{division_traps}

pub shares_are_given : SharesAreGiven
shares_are_given p d w n some has = routine has (returns (return (product_of_two number (local refl)
    (small_quotient p.width 100 n (omega arith) some)))) by_return

pub no_share_traps : NoShareTraps
no_share_traps p d w has = routine_stops has (handed_up in_block (step_stops (handed_up in_return
    (later (λ e s'. product number) (division_traps (local refl) refl)))))
