-- The laws of the format.
use Rattle.std.specs.Prelude.{ℕ, ◌≡◌, ◌⊎◌, ◌↔◌, ◌++◌, List, Ok, Err}
use Rattle.adv_text.specs.Reading.{input}
use Rattle.adv_text.specs.Laws.{AreBytes}
use Rattle.scott_types.specs.Database.{Database}
use Rattle.scott_types.specs.Limits.{KeepsLimits}
use Rattle.scott_format.specs.Faults.{Fault}
use Rattle.scott_format.specs.File.{file, DatText, DatFault, database_in}
use Rattle.scott_format.specs.Faulty.{Faulty}
use Rattle.scott_format.specs.Canon.{canon}

-- bytes are a text of a database, or they have a fault
abbrev pub TextOrFault : Type 0
TextOrFault =
    (bytes : List ℕ) → ((db : Database) × DatText bytes db)
    ⊎ ((fault : Fault) × DatFault bytes fault)

-- and never both
abbrev pub NeverBoth : Type 0
NeverBoth =
    (bytes : List ℕ) (db : Database) (fault : Fault) → DatText bytes db → DatFault bytes fault → ⊥

-- the fault of bytes is the first thing that is wrong with them
abbrev pub FirstFault : Type 0
FirstFault =
    (bytes : List ℕ) (fault : Fault) → DatFault bytes fault ↔ Faulty file (input 0 bytes) fault

-- a text is one of one database
abbrev pub OneDatabase : Type 0
OneDatabase = (bytes : List ℕ) (a b : Database) → DatText bytes a → DatText bytes b → a ≡ b

-- each database that has a text keeps the limits
abbrev pub TextKeepsLimits : Type 0
TextKeepsLimits =
    (bytes : List ℕ) (db : Database) → AreBytes bytes → DatText bytes db → KeepsLimits db

-- the text that is written of a database is one of it, whatever follows
abbrev pub WrittenTextIsText : Type 0
WrittenTextIsText = (db : Database) (rest : List ℕ) → KeepsLimits db → DatText (canon db ++ rest) db

-- bytes read as a database exactly where they are a text of it
abbrev pub DatabaseIn : Type 0
DatabaseIn = (bytes : List ℕ) (db : Database) → (database_in bytes ≡ Ok db) ↔ DatText bytes db

-- and as a fault exactly where it is their first one
abbrev pub FaultIn : Type 0
FaultIn = (bytes : List ℕ) (fault : Fault) → (database_in bytes ≡ Err fault) ↔ DatFault bytes fault
