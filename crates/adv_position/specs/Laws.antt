-- The laws of positions, for a database that keeps the limits, as every database does.
use Rattle.std.specs.Prelude.{ℕ, ◌≡◌, ◌↔◌, ◌⊎◌, List, Ok, Err}
use Rattle.scott_types.specs.Database.{Database}
use Rattle.scott_types.specs.Limits.{KeepsLimits}
use Rattle.adv_position.specs.declared.saved.Saved.{Saved}
use Rattle.adv_position.specs.Text.{IsSaved, position_text}
use Rattle.adv_position.specs.Bad.{BadLine}
use Rattle.adv_position.specs.Reading.{position_in}

-- a value is read exactly where the bytes are its text
abbrev pub TextIsRead : Type 0
TextIsRead = (db : Database) (bytes : List ℕ) (saved : Saved) → KeepsLimits db
    → (position_in db bytes ≡ Ok saved) ↔ (IsSaved db saved × (bytes ≡ position_text saved))

-- a bad line is found exactly where it is the first one
abbrev pub BadLineIsFound : Type 0
BadLineIsFound = (db : Database) (bytes : List ℕ) (n : ℕ) → KeepsLimits db
    → (position_in db bytes ≡ Err n) ↔ BadLine db bytes n

-- a text has one value
abbrev pub TextHasOneValue : Type 0
TextHasOneValue = (db : Database) (a b : Saved) → KeepsLimits db → IsSaved db a → IsSaved db b
    → position_text a ≡ position_text b → a ≡ b

-- bytes are the text of a stopped play
abbrev pub IsText : Database → List ℕ → Type 0
IsText db bytes = (saved : Saved) × IsSaved db saved × (bytes ≡ position_text saved)

-- bytes are such a text or have a bad line, and never both
pub record TextOrBad (db : Database) (bytes : List ℕ) : Type 0 where
  pub either : IsText db bytes ⊎ ((n : ℕ) × BadLine db bytes n)
  pub never_both : IsText db bytes → (n : ℕ) → ¬ (BadLine db bytes n)
  pub one_line : (n m : ℕ) → BadLine db bytes n → BadLine db bytes m → n ≡ m

abbrev pub TextsOrBadLines : Type 0
TextsOrBadLines = (db : Database) (bytes : List ℕ) → KeepsLimits db → TextOrBad db bytes
