-- The database that a source means, or its first fault in the order of the text.
use Rattle.std.specs.Prelude.{ℕ, ◌≡◌, ◌<◌, ◌≤ℤ◌, ℤ, pos, negsuc, List, map, length, slice_index_or, unsigned_abs, Result, Ok, Err}
use Rattle.scott_types.specs.declared.parts.Header.{Header}
use Rattle.scott_types.specs.declared.parts.Trailer.{Trailer}
use Rattle.scott_types.specs.Database.{Database}
use Rattle.source_reader.specs.declared.tree.Source.{Source}
use Rattle.adv_compiler.specs.declared.headers.Numbers.{Numbers}
use Rattle.scott_types.specs.declared.databases.Db.{Db}
use Rattle.adv_compiler.specs.declared.faults.CompileFault.{CompileFault}
use Rattle.adv_compiler.specs.declared.faults.CompileFault.TheVariants as answer
use Rattle.adv_compiler.specs.Faults.{Fault, ◌>>=◌}
use Rattle.adv_compiler.specs.Known.{Known, known_of}
use Rattle.adv_compiler.specs.Values.{value_of, in_range, entry_number}
use Rattle.adv_compiler.specs.Entries.{word, room, message, item}
use Rattle.adv_compiler.specs.Lists.{list_of}
use Rattle.adv_compiler.specs.Lines.{line}

-- the numbers of the header that are looked up or have a range
abbrev pub header : Known → Source → Result Numbers Fault
header known tree =
    value_of known.rooms tree.start.at tree.start.what
    >>= λ z. entry_number tree.start.at (length tree.rooms.entries) z
    >>= λ start. in_range tree.length.at (pos 1) (pos 20) tree.length.what
    >>= λ size. in_range tree.light.at (negsuc 0) (pos 2147483647) tree.light.what
    >>= λ light. value_of known.rooms tree.home.at tree.home.what
    >>= λ home. Ok (record { start = start; length = size; light = light; home = home })

abbrev pub header_of : Source → Numbers → Header
header_of tree numbers = record {
  unused = tree.unused.what;
  carry = tree.carry.what;
  start = unsigned_abs numbers.start;
  treasures = tree.treasures.what;
  length = unsigned_abs numbers.length;
  light = numbers.light;
  home = numbers.home;
}

abbrev pub trailer_of : List ℤ → Trailer
trailer_of numbers = record {
  version = slice_index_or numbers 0 (pos 0);
  adventure = slice_index_or numbers 1 (pos 0);
  third = slice_index_or numbers 2 (pos 0);
}

-- what the source means, where its names stand for what is known
abbrev pub meaning : Known → Source → Result Database Fault
meaning known tree =
    header known tree
    >>= λ numbers. list_of (word known) 999 tree.words
    >>= λ words. list_of (room known) 254 tree.rooms
    >>= λ rooms. list_of (message known) 999 tree.messages
    >>= λ messages. list_of (item known) 254 tree.items
    >>= λ items. list_of (line known) 4999 tree.lines
    >>= λ actions. Ok (record {
      header = header_of tree numbers;
      actions = actions;
      words = words;
      rooms = rooms;
      messages = messages;
      items = items;
      comments = map (λ e. e.what.comment) tree.lines.entries;
      trailer = trailer_of tree.trailer;
    })

-- what the source means
abbrev pub meant : Source → Result Database Fault
meant tree = meaning (known_of tree) tree

-- ---- what the program answers

-- the ranges of the header's numbers
pub record IsHeader (rooms : ℕ) (numbers : Numbers) : Type 0 where
  pub start : (pos 0 ≤ℤ numbers.start) × (unsigned_abs numbers.start < rooms)
  pub length_range : (pos 1 ≤ℤ numbers.length) × (numbers.length ≤ℤ pos 20)
  pub light : negsuc 0 ≤ℤ numbers.light

-- the database was made, unless memory ran out
abbrev pub IsDb : Result Db CompileFault → Database → Type 0
IsDb (Ok made) db = made ≡ db
IsDb (Err fault) db = fault ≡ answer.Memory
