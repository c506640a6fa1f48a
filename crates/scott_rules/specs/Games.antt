-- Small games, on which the rules are worked out.
use Rattle.std.specs.Prelude.{ℕ, List, [], ◌∷◌, ◌++◌, replicate, map, codes, pos, negsuc}
use Rattle.scott_types.specs.declared.parts.Header.{Header}
use Rattle.scott_types.specs.declared.parts.Action.{Action}
use Rattle.scott_types.specs.declared.parts.Word.{Word}
use Rattle.scott_types.specs.declared.parts.Room.{Room}
use Rattle.scott_types.specs.declared.parts.Item.{Item}
use Rattle.scott_types.specs.Database.{Database}

-- ---- entries

abbrev pub word : List ℕ → List ℕ → Word
word verb noun = record { verb = verb; noun = noun }

abbrev pub item : List ℕ → ℕ → Item
item text place = record { text = text; place = place }

-- a room with an exit to the north and one to the south, each to the room of that number
abbrev pub room : ℕ → ℕ → List ℕ → Room
room north south text = record { exits = pos north ∷ pos south ∷ replicate 4 (pos 0); text = text }

-- an action line with two conditions, and one with none
abbrev pub line_with : ℕ → ℕ → ℕ → ℕ → ℕ → Action
line_with vocab first second pair other =
    record { vocab = vocab; conds = first ∷ second ∷ replicate 3 0; pairs = pair ∷ other ∷ [] }

abbrev pub line : ℕ → ℕ → Action
line vocab pair = line_with vocab 0 0 pair 0

-- ---- a hall with a rug, and a hill to the north of it

abbrev pub hill_header : Header
hill_header = record {
  unused = pos 0;
  carry = pos 5;
  start = 1;
  treasures = pos 0;
  length = 3;
  light = negsuc 0;
  home = pos 0;
}

-- the verbs AUT, GO with its synonym WALK, and LOOK; the nouns ANY and the six directions
abbrev pub hill_words : List Word
hill_words =
    word (codes "AUT") (codes "ANY") ∷ word (codes "GO") (codes "NORTH")
    ∷ word (codes "*WALK") (codes "SOUTH")
    ∷ word (codes "LOOK") (codes "EAST") ∷ word [] (codes "WEST") ∷ word [] (codes "UP")
    ∷ word [] (codes "DOWN") ∷ []

abbrev pub rug : Item
rug = item (codes "Rug") 1

abbrev pub hill : Database
hill = record {
  header = hill_header;
  actions = line 0 0 ∷ [];
  words = hill_words;
  rooms = room 0 0 [] ∷ room 2 0 (codes "hall") ∷ room 0 1 (codes "*I'm on a hill") ∷ [];
  messages = [] ∷ [];
  items = rug ∷ [];
  comments = [] ∷ [];
  trailer = record { version = pos 416; adventure = pos 1; third = pos 0 };
}

-- ---- the same with other parts

abbrev pub with_lines : List Action → Database → Database
with_lines actions db = record db { actions = actions; comments = map (λ _. []) actions }

abbrev pub with_items : List Item → Database → Database
with_items items db = record db { items = items }

abbrev pub with_header : Header → Database → Database
with_header header db = record db { header = header }

-- ---- the games

-- LOOK gets item 0, which is refused, and drops: one item can be carried, and the pin is
abbrev pub full_hands : Database
full_hands =
    with_header (record hill_header { carry = pos 1 })
    (with_items (rug ∷ item (codes "Pin") 255 ∷ [])
    (with_lines (line_with 450 0 20 7853 0 ∷ []) hill))

-- LOOK sets the counter to 32767, adds 1 and shows it
abbrev pub full_counter : Database
full_counter = with_lines (line_with 450 655340 20 11932 11786 ∷ []) hill

-- LOOK says a message of bytes that other formats write otherwise
abbrev pub odd_message : Database
odd_message =
    with_lines (line 450 150 ∷ []) (record hill { messages = [] ∷ codes "@5 ~ ^ \\" ∷ [] })

-- one entry in each list
abbrev pub cell : Database
cell = record {
  header = record hill_header { start = 0 };
  actions = line 0 0 ∷ [];
  words = word (codes "AUT") (codes "ANY") ∷ [];
  rooms = room 0 0 (codes "cell") ∷ [];
  messages = [] ∷ [];
  items = item (codes "Rug") 0 ∷ [];
  comments = [] ∷ [];
  trailer = record { version = pos 1; adventure = pos 1; third = pos 1 };
}

-- a line before the first head, and three automatic heads, the second with a tail
abbrev pub chance : Database
chance =
    with_lines (line 0 600 ∷ line 1 150 ∷ line 100 373 ∷ line 0 600 ∷ line 149 450 ∷ [])
    (record hill { messages = [] ∷ codes "one" ∷ codes "two" ∷ codes "three" ∷ codes "four" ∷ [] })

abbrev pub get_words : List Word
get_words =
    hill_words
    ++ (replicate 3 (word [] []) ++ (word (codes "GET") (codes "RUG") ∷ word [] (codes "PIN")
    ∷ (replicate 6 (word [] []) ++ word (codes "DROP") [] ∷ [])))

-- a rug and a pin that can be taken; getting the pin ends the game
abbrev pub last_pin : Database
last_pin =
    with_items (item (codes "Rug/RUG/") 1 ∷ item (codes "Pin/PIN/") 1 ∷ [])
    (with_lines (line 1511 9450 ∷ []) (record hill { words = get_words }))

-- LOOK is the score
abbrev pub no_treasure : Database
no_treasure = with_lines (line 450 9750 ∷ []) hill

-- the same where the rug is a treasure, and the hall stores it
abbrev pub one_treasure : Database
one_treasure =
    with_header (record hill_header { treasures = pos 1; home = pos 1 })
    (with_items (item (codes "*Rug*") 1 ∷ []) no_treasure)

-- a lamp that is carried and lasts for so many turns
abbrev pub lamp_for : ℕ → Database
lamp_for turns =
    with_header (record hill_header { light = pos turns })
    (with_items (rug ∷ (replicate 8 (item (codes "x") 0) ++ item (codes "Lamp") 255 ∷ [])) hill)

-- it gets dark by itself
abbrev pub nightfall : Database
nightfall = with_lines (line 100 8400 ∷ []) hill

-- LOOK ends the game where the pin is carried, which it isn't
abbrev pub not_carried : Database
not_carried =
    with_items (rug ∷ item (codes "Pin") 0 ∷ []) (with_lines (line_with 450 21 0 9450 0 ∷ []) hill)

-- LOOK drops, and no condition gives it a parameter
abbrev pub no_parameter : Database
no_parameter =
    with_lines (record { vocab = 450; conds = replicate 5 9; pairs = 7950 ∷ 0 ∷ [] } ∷ []) hill
