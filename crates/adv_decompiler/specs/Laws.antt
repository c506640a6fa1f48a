-- The laws of the text.
use Rattle.std.specs.Prelude.{ℕ, ◌≡◌, List, length, Ok}
use Rattle.scott_types.specs.declared.parts.Action.{Action}
use Rattle.scott_types.specs.Database.{Database}
use Rattle.scott_types.specs.Limits.{KeepsLimits}
use Rattle.source_reader.specs.declared.tree.Source.{Source}
use Rattle.source_reader.specs.Text.{SourceText}
use Rattle.adv_compiler.specs.Meaning.{meant}
use Rattle.adv_decompiler.specs.Written.{written, action_of}
use Rattle.adv_decompiler.specs.Plain.{plain}

-- what is written of an action means that action
abbrev pub WrittenIsMeant : Type 0
WrittenIsMeant =
    (a : Action) → length a.conds ≡ 5 → length a.pairs ≡ 2 → action_of a.vocab (written a) ≡ a

-- the bytes are a text of just one source, which means the database
pub record ReadsBack (bytes : List ℕ) (db : Database) : Type 0 where
  pub tree : Source
  pub text : SourceText bytes tree
  pub only : (other : Source) → SourceText bytes other → other ≡ tree
  pub meaning : meant tree ≡ Ok db

-- the plain text of a database within the limits reads back as that database
abbrev pub PlainReadsBack : Type 0
PlainReadsBack = (db : Database) → KeepsLimits db → ReadsBack (plain db) db
