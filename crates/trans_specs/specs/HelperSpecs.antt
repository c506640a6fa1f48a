-- The specifications of the small routines of texts and places: each says something or gives
-- a value, and nothing else happens.
use Rattle.std.specs.Prelude.{ℕ, ◌<◌, ◌≤◌, ℤ, pos, Bool, List, [], ◌∷◌, length}
use Rattle.inform_meaning.specs.Worlds.{Program}
use Rattle.inform_logic.specs.Stages.{Stage}
use Rattle.inform_logic.specs.Leading.{Does}
use Rattle.scott_types.specs.declared.states.State.{State}
use Rattle.scott_types.specs.Database.{Database, item_at}
use Rattle.scott_types.specs.Style.{Game}
use Rattle.scott_types.specs.ItemText.{shown}
use Rattle.scott_types.specs.State.{place_of, is_near, carried_count, is_dark}
use Rattle.scott_rules.specs.Opcodes.{is_full}
use Rattle.trans_specs.specs.Tables.{bit}
use Rattle.trans_specs.specs.Standing.{StandsFor}
use Rattle.trans_specs.specs.Steps.{text_steps, helper_steps}
use Rattle.trans_specs.specs.DataSpecs.{text_room}
use Rattle.trans_specs.specs.Calls.{CallSays}

-- a call with these values gives a number of the state
abbrev pub GivesOf : Database → Program → List ℕ → List ℤ → (State → ℕ) → Type 0
GivesOf db p name values number = (s : State) (noun : List ℕ) (w : Stage) (d : ℕ) → text_room ≤ d
    → StandsFor db s noun w → Does p d name values w (pos (number s)) w (helper_steps db)

-- a call gives 1 where this holds of the state, and else 0
abbrev pub TellsOf : Database → Program → List ℕ → List ℤ → (State → Bool) → Type 0
TellsOf db p name values test = GivesOf db p name values (λ s. bit (test s))

-- where an item is, whether it is there or not
abbrev pub PlaceSpec : Database → Program → List ℕ → Type 0
PlaceSpec db p name = (item : ℕ) → GivesOf db p name (pos item ∷ []) (λ s. place_of s item)

-- whether an item is carried or here
abbrev pub NearSpec : Database → Program → List ℕ → Type 0
NearSpec db p name = (item : ℕ) → TellsOf db p name (pos item ∷ []) (λ s. is_near s item)

-- whether it is dark
abbrev pub DarkSpec : Database → Program → List ℕ → Type 0
DarkSpec db p name = TellsOf db p name [] is_dark

-- how many items are carried, and whether no more can be
abbrev pub CarriedSpec : Database → Program → List ℕ → Type 0
CarriedSpec db p name = GivesOf db p name [] carried_count

abbrev pub FullSpec : Database → Program → List ℕ → Type 0
FullSpec db p name = TellsOf db p name [] (is_full db)

-- what is shown of an item is said
abbrev pub ItemTextSpec : Database → Program → List ℕ → Type 0
ItemTextSpec db p name = (item : ℕ) → item < length db.items → (s : State) (noun : List ℕ)
    (w : Stage) (d : ℕ) → text_room ≤ d → StandsFor db s noun w
    → CallSays p d name (pos item ∷ []) w (shown (item_at db item).text) (text_steps db)

-- the names of these routines
pub record HelperNames : Type 0 where
  pub place : List ℕ
  pub near : List ℕ
  pub dark : List ℕ
  pub carried : List ℕ
  pub full : List ℕ
  pub item_text : List ℕ

-- all of them
pub record HelperSpecs (game : Game) (p : Program) (names : HelperNames) : Type 0 where
  pub places : PlaceSpec game.db p names.place
  pub near_items : NearSpec game.db p names.near
  pub darkness : DarkSpec game.db p names.dark
  pub carried_items : CarriedSpec game.db p names.carried
  pub full_hands : FullSpec game.db p names.full
  pub item_texts : ItemTextSpec game.db p names.item_text
