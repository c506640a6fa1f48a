-- Counts of numbers: how often each was counted, up to a greatest count.
use Rattle.std.specs.Prelude.{ℕ, ◌+◌, ◌-◌, ◌^◌, ◌==◌, min, List, [], ◌∷◌, if◌then◌else◌, slice_index_or, slice_set}

-- the greatest count
abbrev pub GREATEST : ℕ
GREATEST = 2 ^ 64 - 1

-- the count of a number; 0 where it has none
abbrev pub count_of : List ℕ → ℕ → ℕ
count_of counts number = slice_index_or counts number 0

-- a number is counted once more, where it has a count
abbrev pub raised : ℕ → List ℕ → List ℕ
raised number counts = slice_set counts number (min (count_of counts number + 1) GREATEST)

-- numbers are counted, one after another
abbrev pub counted : List ℕ → List ℕ → List ℕ
counted [] counts = counts
counted (number ∷ numbers) counts = counted numbers (raised number counts)

-- how often a number is among others
abbrev pub times : ℕ → List ℕ → ℕ
times number [] = 0
times number (other ∷ numbers) =
    if other == number then times number numbers + 1 else times number numbers
