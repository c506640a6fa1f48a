-- A database's text.
use Rattle.std.specs.Prelude.{ℕ, ◌≡◌, ◌+◌, List, Result, Ok, Err}
use Rattle.adv_text.specs.Reading.{Input, input}
use Rattle.scott_types.specs.declared.parts.Header.{Header}
use Rattle.scott_types.specs.Database.{Database}
use Rattle.scott_format.specs.declared.header.Sizes.{Sizes}
use Rattle.scott_format.specs.declared.header.PlayNumbers.{PlayNumbers}
use Rattle.scott_format.specs.declared.header.Closing.{Closing}
use Rattle.scott_format.specs.Faults.{Fault}
use Rattle.scott_format.specs.Plan.{Plan, done, ◌>>=◌, many, run, Spelled}
use Rattle.scott_format.specs.Sections.{sizes, play_numbers, closing, action, word, room, string, item, trailer}

-- the header's numbers that no length gives
abbrev pub header_of : Sizes → PlayNumbers → Closing → Header
header_of s c e = record {
  unused = s.unused;
  carry = c.carry;
  start = c.start;
  treasures = c.treasures;
  length = c.length;
  light = c.light;
  home = e.home;
}

-- the lists and the trailer, after this header
unfoldable pub body : Sizes → PlayNumbers → Closing → Plan Database
body counts numbers end = do
  actions ← many action 0 (counts.actions + 1)
  words ← many (λ k. word) 0 (counts.words + 1)
  rooms ← many (λ k. room) 0 (counts.rooms + 1)
  messages ← many (λ k. string) 0 (end.messages + 1)
  items ← many (λ k. item) 0 (counts.items + 1)
  comments ← many (λ k. string) 0 (counts.actions + 1)
  last ← trailer
  done (record {
    header = header_of counts numbers end;
    actions = actions;
    words = words;
    rooms = rooms;
    messages = messages;
    items = items;
    comments = comments;
    trailer = last;
  })

-- the header in its three sections, and what follows it
unfoldable pub file : Plan Database
file = do
  counts ← sizes
  numbers ← play_numbers counts.rooms
  end ← closing
  body counts numbers end

-- the bytes are a text of the database; what follows the trailer is ignored
abbrev pub DatText : List ℕ → Database → Type 0
DatText bytes db = (rest : List ℕ) × Spelled file db bytes rest

-- reading from the start gives the database
abbrev pub IsReadFrom : List ℕ → Database → Type 0
IsReadFrom bytes db = (after : Input) × (run file (input 0 bytes) ≡ Ok (db, after))

-- the first fault in the order of the file
abbrev pub DatFault : List ℕ → Fault → Type 0
DatFault bytes fault = run file (input 0 bytes) ≡ Err fault

-- ---- reading as a function of the bytes

-- what was read, without the input after it
abbrev pub value_of : {X : Type 0} → Result (X × Input) Fault → Result X Fault
value_of (Ok read) = Ok read.0
value_of (Err fault) = Err fault

-- what the bytes read as: the database that they are a text of, or their first fault
unfoldable pub database_in : List ℕ → Result Database Fault
database_in bytes = value_of (run file (input 0 bytes))
