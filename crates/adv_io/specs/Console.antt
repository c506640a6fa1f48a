-- What a console answers, by the lines that are known.
use Rattle.std.specs.Prelude.{◌≡◌, ℕ, ◌<◌, ◌≤◌, List, [], ◌∷◌, ◌++◌, Option, Some, None, Result, Ok, Err, OnOk, OnErr}
use Rattle.std.specs.List.{flat_map}
use denote.Ref.{Bor}
use Rattle.adv_io.specs.Faults.{HasCause}
use Rattle.adv_io.specs.History.{says, grown, GrewByPrefix}
use Rattle.adv_io.specs.declared.events.Event.{Event}
use Rattle.adv_io.specs.declared.events.Event.TheVariants.{Take}
use Rattle.adv_io.specs.declared.faults.ConsoleFault.{ConsoleFault}
use Rattle.adv_io.specs.declared.consoles.Taken.{Taken}
use Rattle.adv_io.specs.declared.consoles.Taken.TheVariants.{Got, End}

-- the history after a take: a line that was got is the only event
abbrev pub after_take : Result Taken ConsoleFault → List ℕ → Option (List Event)
    → Option (List Event)
after_take (Ok Got) line history = grown history (Take line ∷ [])
after_take (Ok End) line history = history
after_take (Err fault) line history = history

-- a take answers by the lines that were left, where they are known, and leaves the others
abbrev pub TakesFrom : (before after : Option (List (List ℕ))) → Result Taken ConsoleFault → List ℕ
    → Type 0
TakesFrom None after (Ok answer) line = after ≡ None
TakesFrom (Some []) after (Ok Got) line = ⊥
TakesFrom (Some []) after (Ok End) line = after ≡ Some []
TakesFrom (Some (next ∷ others)) after (Ok Got) line = (line ≡ next) × (after ≡ Some others)
TakesFrom (Some (next ∷ others)) after (Ok End) line = ⊥
TakesFrom before after (Err fault) line = after ≡ before

-- the bound on the takes to come falls with each line, and never rises
abbrev pub Lowers : (before after : ℕ) → Result Taken ConsoleFault → Type 0
Lowers before after (Ok Got) = after < before
Lowers before after (Ok End) = after ≡ before
Lowers before after (Err fault) = after ≤ before

-- the end of the lines leaves the line that was lent
abbrev pub LeavesAtEnd : Result Taken ConsoleFault → (line_before line_after : List ℕ) → Type 0
LeavesAtEnd (Ok End) old new = new ≡ old
LeavesAtEnd _ old new = Unit {0}

-- what is known of a console: its history and the lines that are left, where they are known; a
-- bound on the lines to come; and how often it failed
pub record ConsoleView : Type 0 where
  pub history : Option (List Event)
  pub left : Option (List (List ℕ))
  pub bound : ℕ
  pub faults : ℕ

-- what a call promises that only says: these events, or a prefix of them where it fails
pub record Speaks {T E : Type 0} (old new : ConsoleView) (result : Result T E) (events : List Event)
    : Type 0 where
  pub said : OnOk result (new.history ≡ grown old.history events)
  pub part : OnErr result (GrewByPrefix old.history new.history events)
  pub lines_stay : new.left ≡ old.left
  pub bounded : new.bound ≤ old.bound
  pub cause : HasCause old.faults new.faults result

-- what a call promises that takes a line
pub record Takes (old new : ConsoleView) (result : Result Taken ConsoleFault)
    (line_before line_after : List ℕ) : Type 0 where
  pub taken : new.history ≡ after_take result line_after old.history
  pub lines : TakesFrom old.left new.left result line_after
  pub bounded : Lowers old.bound new.bound result
  pub ended : LeavesAtEnd result line_before line_after
  pub cause : HasCause old.faults new.faults result

-- pieces of a text, one after the other
abbrev pub pieces_text : List (Bor (List ℕ)) → List ℕ
pieces_text pieces = flat_map (λ piece. piece.now) pieces

-- What a call promises that buffers bytes and says some: what was said and what is buffered now are
-- what was buffered before, and the bytes that were added. After a failure a prefix of them was
-- said.
pub record Buffers {T E : Type 0} (old new : ConsoleView) (result : Result T E)
    (before after added : List ℕ) : Type 0 where
  pub said : OnOk result
      ((done : List ℕ) × (new.history ≡ grown old.history (says done))
      × (done ++ after ≡ before ++ added))
  pub part : OnErr result (GrewByPrefix old.history new.history (says (before ++ added)))
  pub lines_stay : new.left ≡ old.left
  pub bounded : new.bound ≤ old.bound
  pub cause : HasCause old.faults new.faults result
