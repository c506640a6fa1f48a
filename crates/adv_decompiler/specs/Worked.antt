-- Worked examples: actions as they are written, and the plain text of a small game.
use Rattle.std.specs.Prelude.{ℕ, ◌≡◌, List, [], ◌∷◌, pos, negsuc, codes}
use Rattle.scott_types.specs.declared.parts.Action.{Action}
use Rattle.scott_types.specs.Database.{Database}
use Rattle.adv_decompiler.specs.declared.sizes.Sizes.{Sizes}
use Rattle.adv_decompiler.specs.Layout.{text_of}
use Rattle.adv_decompiler.specs.Written.{WrittenAction, Piece, says, numbered, named, bracketed, written}
use Rattle.adv_decompiler.specs.Lines.{action_line}
use Rattle.adv_decompiler.specs.Plain.{plain}

abbrev action : List ℕ → List ℕ → Action
action conds pairs = record { vocab = 450; conds = conds; pairs = pairs }

abbrev as_written : List ℕ → List Piece → WrittenAction
as_written conds ops = record { conds = conds; ops = ops }

-- ---- brackets

-- a get and a drop, each with its own parameter
abbrev pub BracketsWritten : Type 0
BracketsWritten =
    written (action (0 ∷ 20 ∷ 0 ∷ 0 ∷ 0 ∷ []) (7853 ∷ 0 ∷ []))
    ≡ as_written [] (bracketed 52 (0 ∷ []) ∷ bracketed 53 (1 ∷ []) ∷ [])

-- the same with a test after the parameters
abbrev pub TestAfterParameters : Type 0
TestAfterParameters = written (action (0 ∷ 20 ∷ 0 ∷ 0 ∷ 1 ∷ []) (7853 ∷ 0 ∷ []))
    ≡ as_written (0 ∷ 20 ∷ 0 ∷ 0 ∷ 1 ∷ []) (named 52 ∷ named 53 ∷ [])

-- a parameter that no opcode takes is kept where it isn't 0: then nothing has brackets
abbrev pub SpareParameter : Type 0
SpareParameter =
    written (action (0 ∷ 20 ∷ 0 ∷ 0 ∷ 0 ∷ []) (7800 ∷ 0 ∷ []))
    ≡ as_written (0 ∷ 20 ∷ []) (named 52 ∷ [])

-- after four tests there is room for one parameter, and a put takes two
abbrev pub NoRoomForTwo : Type 0
NoRoomForTwo =
    (written (action (1 ∷ 1 ∷ 1 ∷ 1 ∷ 40 ∷ []) (9300 ∷ 0 ∷ []))
    ≡ as_written (1 ∷ 1 ∷ 1 ∷ 1 ∷ 40 ∷ []) (named 62 ∷ []))
    × (written (action (1 ∷ 1 ∷ 1 ∷ 1 ∷ 40 ∷ []) (7950 ∷ 0 ∷ []))
    ≡ as_written (1 ∷ 1 ∷ 1 ∷ 1 ∷ []) (bracketed 53 (2 ∷ []) ∷ []))

-- zeros are written before an opcode, and not after the last one; opcode 102 says message 52
abbrev pub ZerosWritten : Type 0
ZerosWritten =
    written (action (0 ∷ 0 ∷ 0 ∷ 0 ∷ 0 ∷ []) (90 ∷ 15300 ∷ []))
    ≡ as_written [] (numbered 0 ∷ numbered 90 ∷ says 52 ∷ [])

-- ---- texts

abbrev some_sizes : Sizes
some_sizes = record { rooms = 3; messages = 1; items = 2 }

-- `get` and `drop` with items that are there, after a head with two numbers
abbrev pub LineWritten : Type 0
LineWritten =
    text_of (action_line some_sizes 0
    (action (0 ∷ 20 ∷ 0 ∷ 0 ∷ 0 ∷ []) (7853 ∷ 0 ∷ []), codes "two"))
    ≡ codes "\nline 3 0 { } { get(i0); drop(i1); } \"two\";"

-- a game with one entry in each list
abbrev cell : Database
cell = record {
  header = record {
    unused = pos 0;
    carry = pos 5;
    start = 0;
    treasures = pos 0;
    length = 3;
    light = negsuc 0;
    home = pos 7;
  };
  actions = record { vocab = 0; conds = 0 ∷ 0 ∷ 0 ∷ 0 ∷ 0 ∷ []; pairs = 0 ∷ 0 ∷ [] } ∷ [];
  words = record { verb = codes "AUT"; noun = codes "ANY" } ∷ [];
  rooms = record
      { exits = pos 0 ∷ pos 0 ∷ pos 0 ∷ pos 0 ∷ pos 0 ∷ negsuc 0 ∷ []; text = codes "cell" } ∷ [];
  messages = [] ∷ [];
  items = record { text = codes "Rug"; place = 255 } ∷ [];
  comments = [] ∷ [];
  trailer = record { version = pos 1; adventure = pos 2; third = pos 3 };
}

abbrev pub CellWritten : Type 0
CellWritten = plain cell
    ≡ codes "header {\nunused 0;\ncarry 5;\nstart 0;\ntreasures 0;\nlength 3;\nlight -1;\nhome 7;\n}\nwords {\n\"AUT\" \"ANY\";\n}\nrooms {\nroom r0 \"cell\": 0, 0, 0, 0, 0, -1;\n}\nmessages {\nmessage m0 \"\";\n}\nitems {\nitem i0 \"Rug\": carried;\n}\nlines {\nalso { } { } \"\";\n}\ntrailer {\n1 2 3\n}\n"
