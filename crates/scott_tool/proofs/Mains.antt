-- What was loaded, where the bytes of the main file are kept.
use Rattle.std.proofs.Common.{◌≡◌, List, ℕ, Option, Some, None, Result, Bool, false, sym, ap, subst}
use Rattle.std.specs.Option.{is_some}
use Rattle.adv_io.specs.Console.{ConsoleView}
use Rattle.adv_io.specs.Shelf.{ShelfView}
use Rattle.scott_format.specs.declared.faults.FormatFault.{FormatFault}
use Rattle.scott_requests.specs.Request.{Request}
use Rattle.scott_types.specs.Database.{Database}
use Rattle.scott_tool.specs.declared.loads.Texts.{Texts as HeldTexts}
use Rattle.scott_tool.specs.Refusal.{refusing}
use Rattle.scott_tool.specs.Loading.{Texts}
use Rattle.scott_tool.specs.Plan.{work}
use Rattle.scott_tool.specs.Views.{texts_in, texts_with, IsMain, ForMain}
use Rattle.scott_tool.specs.Obeying.{Obeys}

main_kept : (game : Option (Result Database FormatFault)) (kept bytes : List ℕ)
    → is_some game ≡ false → IsMain game kept bytes → bytes ≡ kept
main_kept None kept bytes none is = is
main_kept (Some read) kept bytes none is = absurd (let f = none in cc)

-- what is obeyed with these bytes is obeyed with all that the main file can have
pub obeys-kept_main : (texts : HeldTexts) → is_some texts.game ≡ false → (request : Request)
    (shelf shelf' : ShelfView) (old new : ConsoleView) (status : ℕ)
    → Obeys shelf shelf' old new (refusing (work request (texts_in texts))) status
    → ForMain texts (λ t. Obeys shelf shelf' old new (refusing (work request t)) status)
obeys-kept_main texts none request shelf shelf' old new status obeys = λ bytes has.
    let same = main_kept texts.game texts.main.items bytes none has in
    subst (λ (t : Texts). Obeys shelf shelf' old new (refusing (work request t)) status)
    (ap (texts_with texts) (sym same)) obeys
