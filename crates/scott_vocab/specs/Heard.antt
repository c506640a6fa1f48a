-- That what is heard is there.
use Rattle.std.specs.Prelude.{ℕ, ◌<◌, List, length, Option, IfSome}
use Rattle.scott_types.specs.declared.commands.Heard.{Heard}
use Rattle.scott_types.specs.declared.commands.Heard.TheVariants.{Blank, Unknown, Command}
use Rattle.scott_types.specs.Database.{Database}
use Rattle.scott_vocab.specs.Span.{IsWithin}

-- an entry, where there is one, is an entry of the vocabulary
abbrev pub IsEntry : Database → Option ℕ → Type 0
IsEntry db entry = IfSome entry (λ k. k < length db.words)

-- a word that isn't known stands in the line, and a noun is an entry of the vocabulary
abbrev pub IsThere : Database → List ℕ → Heard → Type 0
IsThere db line Blank = Unit {0}
IsThere db line (Unknown start size) = IsWithin (start, size) line
IsThere db line (Command verb noun) = IsEntry db noun
