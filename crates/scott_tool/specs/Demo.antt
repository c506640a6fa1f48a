-- `demo N`: a play of the game of a number, and a run of its translation, are told side by side.
use Rattle.std.specs.Prelude.{◌≡◌, ℕ, List}
use Rattle.adv_demo.specs.Demonstrations.{IsDemonstration}
use Rattle.adv_io.specs.Console.{ConsoleView}
use Rattle.adv_io.specs.History.{says, grown}

-- What status 0 means: the console was told how large the game of this number is, how the play of
-- it ended, and how the run of a program ended that is faithful to it.
abbrev pub Demonstrated : ℕ → (old new : ConsoleView) → Type 0
Demonstrated n old new =
    (text : List ℕ) × IsDemonstration n text × (new.history ≡ grown old.history (says text))
