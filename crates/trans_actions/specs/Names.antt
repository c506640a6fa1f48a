-- The names, texts and numbers of which the routines of lines speak.
use Rattle.std.specs.Prelude.{ℕ, zero, List, [], ◌∷◌, ◌++◌, map, length, ℤ, pos, negsuc, codes}
use Rattle.scott_types.specs.declared.styles.Style.{Style}
use Rattle.scott_types.specs.declared.phrases.Phrase.TheVariants.{TooMuch, Dead, NoSaving, GameOver}
use Rattle.scott_types.specs.Database.{Database}
use Rattle.scott_types.specs.Phrase.{text_of, text_in}
use Rattle.scott_rules.specs.Opcodes.{last_room}
use Rattle.trans_specs.specs.HelperSpecs.{HelperNames}
use Rattle.trans_actions.specs.declared.names.TheConstants.{NAMES}

-- the texts, in the order of their places
abbrev pub action_texts : Style → List (List ℕ)
action_texts style = text_in style TooMuch
    ∷ text_in style Dead
    ∷ text_of NoSaving
    ∷ text_of GameOver
    ∷ []

-- names of variables, arrays and routines, and after them the texts
unfoldable pub action_names : Style → List (List ℕ)
action_names style = map (λ name. name.now) NAMES ++ action_texts style

-- how long the light lasts; one that never burns down is no number, and 0
abbrev pub light_number : ℤ → ℕ
light_number (pos n) = n
light_number (negsuc n) = zero

-- how many items and rooms there are, the last room, and how long the light lasts
abbrev pub numbers : Database → List ℕ
numbers db = length db.items ∷ length db.rooms ∷ last_room db ∷ light_number db.header.light ∷ []

-- the helper routines as they are called here
abbrev pub helper_names : HelperNames
helper_names = record {
  place = codes "place";
  near = codes "near";
  dark = codes "dark";
  carried = codes "carried";
  full = codes "full";
  item_text = codes "say_item";
}
