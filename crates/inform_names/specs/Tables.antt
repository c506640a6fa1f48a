-- A table of names.
use Rattle.std.specs.Prelude.{ℕ, List}
use Rattle.std.specs.Map.{lookup}
use Rattle.std.specs.Str.{bytes_eq}
use Rattle.inform_names.specs.declared.meanings.Meaning.{Meaning}
use Rattle.inform_names.specs.Meanings.{Known}

-- what a table has for each name
abbrev pub found_in : List (List ℕ × Meaning) → Known
found_in table name = lookup (bytes_eq name) table
