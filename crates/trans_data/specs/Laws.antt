-- The laws of the routines: they meet their specifications.
use Rattle.std.specs.Prelude.{◌≡◌, true, List, ◌++◌, codes}
use Rattle.inform_tree.specs.declared.widths.Width.{Width}
use Rattle.inform_tree.specs.Programs.{DirectiveTree}
use Rattle.inform_tree.specs.Formed.{is_well_formed}
use Rattle.inform_meaning.specs.Worlds.{Program}
use Rattle.scott_types.specs.declared.styles.Style.{Style}
use Rattle.scott_types.specs.declared.states.State.{State}
use Rattle.scott_types.specs.Database.{Database}
use Rattle.scott_types.specs.Limits.{KeepsLimits}
use Rattle.scott_types.specs.State.{Fits}
use Rattle.scott_types.specs.Style.{in_style}
use Rattle.trans_specs.specs.Directives.{data_directives}
use Rattle.trans_specs.specs.Programs.{Serves}
use Rattle.trans_specs.specs.HelperSpecs.{HelperNames, HelperSpecs}
use Rattle.trans_specs.specs.Meeting.{Translates, MeetDataSpecs}
use Rattle.trans_data.specs.Texts.{text_directives}

-- A program that has some directives and then others has each of the two.
abbrev pub PartsAreServed : Type 0
PartsAreServed = (width : Width) (xs ys : List DirectiveTree) (p : Program)
    → Serves width (xs ++ ys) p → Serves width xs p × Serves width ys p

abbrev pub helper_names : HelperNames
helper_names = record {
  place = codes "place";
  near = codes "near";
  dark = codes "dark";
  carried = codes "carried";
  full = codes "full";
  item_text = codes "say_item";
}

-- The routines of items and places meet their specifications.
abbrev pub HelpersMeetSpecs : Type 0
HelpersMeetSpecs = (style : Style) (width : Width) (db : Database) (p : Program)
    → Translates width db → Serves width (text_directives style db) p
    → HelperSpecs (in_style style db) p helper_names

-- The routines of texts and of the light meet their specifications.
abbrev pub DataMeetsSpecs : Type 0
DataMeetsSpecs = (style : Style) (width : Width) (db : Database)
    → MeetDataSpecs width (in_style style db) (text_directives style db) (codes "look")
    (codes "inventory") (codes "score") (codes "burn")

-- The routines have a text, for a database that keeps its limits.
abbrev pub TextsFormed : Type 0
TextsFormed = (style : Style) (db : Database) → KeepsLimits db
    → is_well_formed (text_directives style db) ≡ true

-- The globals and arrays have a text, for a state that fits such a database.
abbrev pub DataFormed : Type 0
DataFormed = (db : Database) (s : State) → KeepsLimits db → Fits db s
    → is_well_formed (data_directives db s) ≡ true
