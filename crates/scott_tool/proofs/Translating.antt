-- That a translation makes what is expected.
use Rattle.std.proofs.Common.{ℕ, List, Option, Result, Ok, Err, IfOk, ap}
use Rattle.std.specs.Prelude.{Vec}
use Rattle.inform_tree.specs.declared.widths.Width.{Width}
use Rattle.scott_types.specs.declared.styles.Style.{Style}
use Rattle.scott_types.specs.Database.{Database}
use Rattle.scott_types.specs.declared.states.State.{State}
use Rattle.translator.specs.Faithful.{Faithful}
use Rattle.scott_tool.specs.declared.refusals.Refusal.{Refusal as HeldRefusal}
use Rattle.scott_tool.specs.Steps.{◌>>=◌}
use Rattle.scott_tool.specs.Refusal.{Unfit}
use Rattle.scott_tool.specs.Views.{refusal_of}
use Rattle.scott_tool.specs.Work.{translation, Task, storing}
use Rattle.scott_tool.specs.Obeying.{Gives, MakesFile}
use Rattle.scott_tool.proofs.Declining.{declined-first}

abbrev pub translation_of : List ℕ → Style → Width → Database → Option State → Result Task Unfit
translation_of program style width db from =
    Ok (storing program (translation style width db from))

module _ (program : List ℕ) (style : Style) (width : Width) (db : Database) (from : Option State)
    (fit : Result Database Unfit) where
  -- a text that is faithful to a database that can be translated
  pub made_translation : {A : Type 0} (result : Result (Vec ℕ A) HeldRefusal) → Gives
      (λ (text : Vec ℕ A). db) result fit
      → IfOk result (λ text. Faithful style width db from text.items) → MakesFile program result
      (fit >>= λ _. translation_of program style width db from)
  made_translation (Ok text) given faithful = (
    translation style width db from,
    ap (λ r. r >>= λ _. translation_of program style width db from) given,
    faithful,
  )
  made_translation (Err refusal) given faithful = declined-first fit
      (λ _. translation_of program style width db from) (refusal_of refusal) given
