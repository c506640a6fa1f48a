-- A whole play in memory: from the hall to the hill and back.
use Rattle.std.specs.Prelude.{◌≡◌, ℕ, List, [], ◌∷◌, flat_map, codes, Some}
use Rattle.std.specs.FinMap.{get}
use Rattle.adv_io.specs.declared.events.Event.{Event}
use Rattle.adv_io.specs.History.{shown}
use Rattle.adv_io.specs.Shelf.{Files}
use Rattle.scott_format.specs.Canon.{canon}
use Rattle.scott_rules.specs.Games.{hill}
use Rattle.adv_io.specs.Steps.{Step, trace_of}
use Rattle.scott_rules.specs.Worked.{typing, text, typed, ask, hall}

-- the words of the command
abbrev pub hill_words : List (List ℕ)
hill_words = codes "play" ∷ codes "t.dat" ∷ []

-- what is typed
abbrev pub hill_lines : List (List ℕ)
hill_lines = typing ("n" ∷ "go south" ∷ [])

-- the game is there, as it is written
abbrev pub HasHill : Files → Type 0
HasHill files = get files (codes "t.dat") ≡ Some (canon hill)

abbrev pub hill_steps : List Step
hill_steps =
    flat_map (λ part. part)
    (hall "Rug" ∷ ask ∷ typed "n" ∷ text "O.K.\nI'm on a hill\nObvious exits: South.\n" ∷ ask
    ∷ typed "go south" ∷ text "O.K.\n" ∷ hall "Rug" ∷ ask ∷ [])

-- what the console sees, byte by byte, with each line where it is taken
abbrev pub hill_history : List Event
hill_history = shown (trace_of hill_steps)
