-- The text of a translated game.
use Rattle.std.proofs.Common.{◌≡◌, ℕ, List, Option, subst}
use Rattle.std.specs.Prelude.{IfOk, Result, Ok, Err}
use Rattle.inform_tree.specs.declared.widths.Width.{Width}
use Rattle.inform_tree.specs.Programs.{DirectiveTree}
use Rattle.inform_texts.specs.Texts.{ProgramText}
use Rattle.scott_types.specs.declared.states.State.{State}
use Rattle.scott_types.specs.declared.styles.Style.{Style}
use Rattle.scott_types.specs.Database.{Database}
use Rattle.scott_types.specs.State.{Fits}
use Rattle.trans_specs.specs.Meeting.{Translates}
use Rattle.trans_specs.specs.Faithful.{opening_state}
use Rattle.trans_programs.specs.Programs.{game_program}
use Rattle.translator.specs.Faithful.{Faithful}
use Rattle.translator.specs.Laws.{ProgramsAreFaithful}

pub faithful_text : ProgramsAreFaithful → (style : Style) (width : Width) (db : Database)
    (from : Option State) → Translates width db → Fits db (opening_state db from)
    → (ds : List DirectiveTree) → ds ≡ game_program style db from → (bytes : List ℕ)
    → ProgramText bytes ds → Faithful style width db from bytes
faithful_text law style width db from translates fits ds is bytes text = record {
  program = game_program style db from;
  text = subst (ProgramText bytes) is text;
  faithful = law style width db from translates fits;
}

pub if_ok_then : {X E : Type 0} (P Q : X → Type 0) (r : Result X E) → ((x : X) → P x → Q x)
    → IfOk r P → IfOk r Q
if_ok_then P Q (Ok x) f h = f x h
if_ok_then P Q (Err e) f h = h
