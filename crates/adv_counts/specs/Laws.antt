-- The laws of counts.
use Rattle.std.specs.Prelude.{ℕ, ◌≡◌, ◌+◌, ◌<◌, ◌≤◌, min, List, ◌++◌, length}
use Rattle.adv_counts.specs.Counts.{GREATEST, count_of, counted, times}

-- To count some numbers and then others is to count them all.
abbrev pub CountsAdd : Type 0
CountsAdd = (first others counts : List ℕ)
    → counted (first ++ others) counts ≡ counted others (counted first counts)

-- Each count rises by how often its number is among those that are counted, up to the greatest.
abbrev pub CountsRise : Type 0
CountsRise = (numbers counts : List ℕ) (number : ℕ) → number < length counts
    → count_of counts number ≤ GREATEST
    → count_of (counted numbers counts) number
    ≡ min (count_of counts number + times number numbers) GREATEST

-- There are as many counts as before.
abbrev pub CountsStay : Type 0
CountsStay = (numbers counts : List ℕ) → length (counted numbers counts) ≡ length counts
