-- The names and texts of which the routines of commands speak.
use Rattle.std.specs.Prelude.{ℕ, List, [], ◌∷◌, ◌++◌, map, codes}
use Rattle.scott_types.specs.declared.styles.Style.{Style}
use Rattle.scott_types.specs.declared.phrases.Phrase.TheVariants.{TooMuch, NeedDirection, DarkMove, Moved, BrokenNeck, NoExitThere, NotYet, NotUnderstood, DarkGet, ItemDone, NothingTaken, NothingDropped, WhatItem, Done, BeyondPower}
use Rattle.scott_types.specs.Phrase.{text_of, text_in}
use Rattle.trans_specs.specs.HelperSpecs.{HelperNames}
use Rattle.trans_commands.specs.declared.names.TheConstants.{NAMES}

-- the texts, in the order of their places
abbrev pub command_texts : Style → List (List ℕ)
command_texts style = text_of NeedDirection
    ∷ text_of DarkMove
    ∷ text_of Moved
    ∷ text_in style BrokenNeck
    ∷ text_in style NoExitThere
    ∷ text_in style NotYet
    ∷ text_of NotUnderstood
    ∷ text_in style TooMuch
    ∷ text_of DarkGet
    ∷ text_of ItemDone
    ∷ text_of NothingTaken
    ∷ text_of NothingDropped
    ∷ text_of WhatItem
    ∷ text_of Done
    ∷ text_in style BeyondPower
    ∷ []

-- names of routines, variables and arrays, and after them the texts
abbrev pub fixed_names : List (List ℕ)
fixed_names = map (λ name. name.now) NAMES

abbrev pub command_names : Style → List (List ℕ)
command_names style = fixed_names ++ command_texts style

-- the helper routines as they are called here
abbrev pub helper_names : HelperNames
helper_names = record {
  place = codes "place";
  near = codes "near";
  dark = codes "dark";
  carried = codes "carried";
  full = codes "full";
  item_text = codes "say_item";
}
