-- The text of a source.
use Rattle.std.specs.Prelude.{ℕ, ◌≡◌, List, [], ◌∷◌, ℤ, Result, Ok, Err, codes}
use Rattle.adv_text.specs.Reading.{Input, input}
use Rattle.source_reader.specs.declared.settings.Settings.{Settings}
use Rattle.source_reader.specs.declared.tree.At.{At}
use Rattle.source_reader.specs.declared.tree.Ref.{Ref}
use Rattle.source_reader.specs.declared.tree.Entries.{Entries}
use Rattle.source_reader.specs.declared.tree.WordPart.{WordPart}
use Rattle.source_reader.specs.declared.tree.RoomPart.{RoomPart}
use Rattle.source_reader.specs.declared.tree.MessagePart.{MessagePart}
use Rattle.source_reader.specs.declared.tree.ItemPart.{ItemPart}
use Rattle.source_reader.specs.declared.tree.LinePart.{LinePart}
use Rattle.source_reader.specs.declared.tree.Source.{Source}
use Rattle.source_reader.specs.declared.faults.SourceFault.{SourceFault}
use Rattle.source_reader.specs.declared.faults.SourceFault.TheVariants as answer
use Rattle.source_reader.specs.Faults.{Fault}
use Rattle.source_reader.specs.Plan.{Plan, done, ◌>>=◌, ◌>>◌, Spelled, Faulty, run}
use Rattle.source_reader.specs.Singles.{symbol, key, number, reference, end_of_text}
use Rattle.source_reader.specs.Lists.{listing}
use Rattle.source_reader.specs.Entries.{word_part, room_part, message_part, item_part, line_part}

-- a word and an opening brace (123)
unfoldable pub opened : List ℕ → Plan (Unit {0})
opened word = key word >> symbol 123

-- ---- the header; `;` is 59, `}` is 125

unfoldable pub setting : List ℕ → Plan (At ℤ)
setting word = key word >> number >>= λ n. symbol 59 >> done n

unfoldable pub room_setting : List ℕ → Plan (At Ref)
room_setting word = key word >> reference >>= λ room. symbol 59 >> done room

unfoldable pub settings : Plan Settings
settings = do
  unused ← opened (codes "header") >> setting (codes "unused")
  carry ← setting (codes "carry")
  start ← room_setting (codes "start")
  treasures ← setting (codes "treasures")
  size ← setting (codes "length")
  light ← setting (codes "light")
  home ← room_setting (codes "home")
  symbol 125 >> done (record {
    unused = unused;
    carry = carry;
    start = start;
    treasures = treasures;
    length = size;
    light = light;
    home = home;
  })

-- ---- the lists and the trailer

unfoldable pub trailer : Plan (List ℤ)
trailer = do
  version ← opened (codes "trailer") >> number
  adventure ← number
  third ← number
  symbol 125 >> done (version.what ∷ adventure.what ∷ third.what ∷ [])

abbrev pub source_of : Settings → Entries WordPart → Entries RoomPart → Entries MessagePart
    → Entries ItemPart → Entries LinePart → List ℤ → Source
source_of first words rooms messages items lines numbers = record {
  unused = first.unused;
  carry = first.carry;
  start = first.start;
  treasures = first.treasures;
  length = first.length;
  light = first.light;
  home = first.home;
  words = words;
  rooms = rooms;
  messages = messages;
  items = items;
  lines = lines;
  trailer = numbers;
}

unfoldable pub lists : Settings → Plan Source
lists first = do
  words ← listing (codes "words") word_part
  rooms ← listing (codes "rooms") room_part
  messages ← listing (codes "messages") message_part
  items ← listing (codes "items") item_part
  lines ← listing (codes "lines") line_part
  numbers ← trailer
  end_of_text >> done (source_of first words rooms messages items lines numbers)

-- the header in its order, and what follows it
unfoldable pub source : Plan Source
source = settings >>= lists

-- the bytes are a text of the source
abbrev pub SourceText : List ℕ → Source → Type 0
SourceText bytes tree = (after : Input) × Spelled source tree (input 0 bytes) after

-- this is the first thing that is wrong with the bytes
abbrev pub TextFault : List ℕ → Fault → Type 0
TextFault bytes fault = Faulty source (input 0 bytes) fault

-- ---- reading as a function of the bytes

-- what was read, without the input after it
abbrev pub value_of : {X : Type 0} → Result (X × Input) Fault → Result X Fault
value_of (Ok read) = Ok read.0
value_of (Err fault) = Err fault

-- what the bytes read as: the source that they are a text of, or their first fault
unfoldable pub source_in : List ℕ → Result Source Fault
source_in bytes = value_of (run source (input 0 bytes))

-- ---- what the program answers

-- the source was read, unless memory ran out
abbrev pub IsSource : Result Source SourceFault → Source → Type 0
IsSource (Ok read) tree = read ≡ tree
IsSource (Err fault) tree = fault ≡ answer.Memory
