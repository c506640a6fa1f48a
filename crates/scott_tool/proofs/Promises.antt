-- What the program promises, from how what was asked for was handled.
use Rattle.std.proofs.Common.{ℕ, Option, sym, ap, subst}
use Rattle.adv_io.specs.Console.{ConsoleView}
use Rattle.adv_io.specs.Shelf.{ShelfView}
use Rattle.scott_tool.specs.Laws.{Laws}
use Rattle.scott_requests.specs.Request.{Request}
use Rattle.scott_tool.specs.Obeying.{Handled, not_asked, not_loaded, worked}
use Rattle.scott_tool.proofs.Promised.{Promises}
use Rattle.scott_tool.proofs.Refusing.{not_asked_promised, not_loaded_promised}
use Rattle.scott_tool.proofs.Working.{worked_promised}

-- whether words were refused, files not loaded or a task worked on, all promises are kept
pub promised : Laws → (shelf shelf' : ShelfView) (console console' : ConsoleView)
    (asked : Option Request) (status : ℕ)
    → Handled shelf shelf' console console' asked status
    → Promises shelf shelf' console console' asked status
promised laws shelf shelf' console console' asked status (not_asked none same refuses) =
    subst (λ (a : Option Request). Promises shelf shelf' console console' a status) (sym none)
    (not_asked_promised shelf shelf' console console' status laws (ap (λ s. s.files) same)
    (ap (λ s. s.faults) same) refuses)
promised laws shelf shelf' console console' asked status
    (not_loaded request refusal is missed same later refuses) =
    subst (λ (a : Option Request). Promises shelf shelf' console console' a status) (sym is)
    (not_loaded_promised shelf shelf' console console' status request laws refusal missed same later
    refuses)
promised laws shelf shelf' console console' asked status (worked request texts is there obeys) =
    subst (λ (a : Option Request). Promises shelf shelf' console console' a status) (sym is)
    (worked_promised shelf shelf' console console' status laws request texts there obeys)
