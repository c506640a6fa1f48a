-- Which line of the bytes isn't as it is to be.
use Rattle.std.specs.Prelude.{ℕ, ◌≡◌, ◌≢◌, ◌+◌, ◌⊎◌, List, [], ◌∷◌, ◌++◌}
use Rattle.scott_types.specs.Database.{Database}
use Rattle.adv_position.specs.declared.saved.Saved.{Saved}
use Rattle.adv_position.specs.Text.{IsSaved, lines}

-- the bytes begin with this line of the text of some stopped play
abbrev pub Begins : Database → (Saved → List ℕ) → List ℕ → Type 0
Begins db line bytes =
    (saved : Saved) × (rest : List ℕ) × IsSaved db saved × (bytes ≡ line saved ++ rest)

-- The first bad one of these lines, numbered from k on: line k where the bytes don't begin with
-- such a line, and else the first bad one in what follows. Bytes after the last line are one more
-- bad line.
abbrev pub FirstBad : Database → ℕ → List (Saved → List ℕ) → List ℕ → ℕ → Type 0
FirstBad db k [] bytes n = (bytes ≢ []) × (n ≡ k)
FirstBad db k (line ∷ lines) bytes n =
    (¬ (Begins db line bytes) × (n ≡ k))
    ⊎ ((saved : Saved) × (rest : List ℕ) × IsSaved db saved × (bytes ≡ line saved ++ rest)
    × FirstBad db (k + 1) lines rest n)

-- the number of the first of the eight lines that isn't as it is to be or isn't ended, or 9 where
-- bytes follow the eighth
abbrev pub BadLine : Database → List ℕ → ℕ → Type 0
BadLine db bytes n = FirstBad db 1 lines bytes n
