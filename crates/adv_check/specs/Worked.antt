-- A report that was worked out by hand.
use Rattle.std.specs.Prelude.{ℕ, ◌≡◌, List, [], ◌∷◌, replicate, codes, pos, negsuc}
use Rattle.scott_types.specs.declared.parts.Word.{Word}
use Rattle.scott_types.specs.declared.parts.Room.{Room}
use Rattle.scott_types.specs.Database.{Database}
use Rattle.adv_check.specs.Report.{report_text}

abbrev pub word : List ℕ → List ℕ → Word
word verb noun = record { verb = verb; noun = noun }

-- a room with an exit to the north and one to the south, each to the room of that number
abbrev pub room : ℕ → ℕ → List ℕ → Room
room north south text = record { exits = pos north ∷ pos south ∷ replicate 4 (pos 0); text = text }

-- a hall with a rug, and a hill to the north of it; the line drops an item, and has no parameter
abbrev pub hill : Database
hill = record {
  header = record {
    unused = pos 0;
    carry = pos 5;
    start = 1;
    treasures = pos 0;
    length = 3;
    light = negsuc 0;
    home = pos 0;
  };
  actions = record { vocab = 450; conds = replicate 5 9; pairs = 7950 ∷ 0 ∷ [] } ∷ [];
  words =
      word (codes "AUT") (codes "ANY") ∷ word (codes "GO") (codes "NORTH")
      ∷ word (codes "*WALK") (codes "SOUTH")
      ∷ word (codes "LOOK") (codes "EAST") ∷ word [] (codes "WEST") ∷ word [] (codes "UP")
      ∷ word [] (codes "DOWN") ∷ [];
  rooms = room 0 0 [] ∷ room 2 0 (codes "hall") ∷ room 0 1 (codes "*I'm on a hill") ∷ [];
  messages = [] ∷ [];
  items = record { text = codes "Rug"; place = 1 } ∷ [];
  comments = [] ∷ [];
  trailer = record { version = pos 416; adventure = pos 1; third = pos 0 };
}

abbrev pub DropWithoutAParameter : Type 0
DropWithoutAParameter =
    report_text hill
    ≡ codes "rooms 3, items 1, lines 1, words 7, messages 1\nline 0, opcode 1: no parameter left\nwarnings 1\n"
