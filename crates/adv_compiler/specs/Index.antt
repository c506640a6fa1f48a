-- An index of names, and the tables of all names of a source.
use Rattle.std.specs.Prelude.{ℕ, ℤ, List, Option}
use Rattle.std.specs.Map.{lookup}
use Rattle.std.specs.Str.{bytes_eq}
use Rattle.adv_compiler.specs.declared.names.Names.{Names}
use Rattle.adv_compiler.specs.declared.tables.Tables.{Tables}
use Rattle.adv_compiler.specs.Known.{Known}

-- what an index has for a word
abbrev pub found_in : Names → List ℕ → Option ℤ
found_in names word = lookup (λ key. bytes_eq word key.items) names.numbers.entries

-- what the tables have for each name
abbrev pub known_in : Tables → Known
known_in tables = record {
  rooms = found_in tables.rooms;
  messages = found_in tables.messages;
  items = found_in tables.items;
  verbs = found_in tables.verbs;
  nouns = found_in tables.nouns;
}
