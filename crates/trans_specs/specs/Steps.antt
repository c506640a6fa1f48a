-- How many steps are enough.
use Rattle.std.specs.Prelude.{ℕ, ◌+◌, ◌-◌, ◌*◌, List, length}
use Rattle.scott_types.specs.Database.{Database}

-- lists are counted from 0
abbrev pub highest : {X : Type 0} → List X → ℕ
highest xs = length xs - 1

-- what the steps of a routine are measured in
abbrev pub share : Database → ℕ
share db = highest db.items + highest db.words * (db.header.length + 1) + highest db.messages
    + highest db.rooms + 200

-- the same, for each action and each item
abbrev pub turn_share : Database → ℕ
turn_share db = (highest db.actions + 2) * (highest db.items + 2) * share db

-- steps that are enough for so many lines
abbrev pub enough : Database → ℕ → ℕ
enough db lines = (lines + 1) * 1000 * (highest db.actions + 2) * (highest db.items + 2) * share db

-- ---- what each routine may take

-- one that says a text, or counts the light
abbrev pub text_steps : Database → ℕ
text_steps db = 15 * share db

-- one that gives a number of the state, such as the place of an item
abbrev pub helper_steps : Database → ℕ
helper_steps db = 3 * share db

-- the word reader
abbrev pub reader_steps : Database → ℕ
reader_steps db = 100 * share db

-- an action line
abbrev pub line_steps : Database → ℕ
line_steps db = 100 * share db

-- a round that takes so many lines: each is read and looked at, and the rest is done once
abbrev pub round_steps : Database → ℕ → ℕ
round_steps db lines = lines * (reader_steps db + 100 * share db) + 500 * turn_share db
