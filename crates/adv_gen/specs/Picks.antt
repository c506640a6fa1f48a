-- Numbers that a generator of words picks, and the parts of a game that are made from them.
use Rattle.std.specs.Prelude.{ℕ, ◌%◌, List, map, sum}
use Rattle.std.specs.List.{range_with_len}
use Rattle.rand_pcg.specs.Lcg.{Lcg, advance, started, increment_of}
use Rattle.rand_pcg.specs.Pcg.{multiplier_64, pcg32}

-- the generator of a seed, on stream 2
unfoldable pub generator_of : ℕ → Lcg
generator_of seed = started 64 multiplier_64 seed (increment_of 64 2)

-- the generator from which so many more words were taken
unfoldable pub after : ℕ → Lcg → Lcg
after count generator = advance 64 multiplier_64 count generator

-- the pick of this place, from 0 on, of those that the generator makes: its word modulo the bound
unfoldable pub pick : Lcg → ℕ → ℕ → ℕ
pick generator place bound = (pcg32 (after place generator)).0 % bound

-- so many parts, each made from its number
abbrev pub each : {X : Type 0} → ℕ → (ℕ → X) → List X
each count part = map part (range_with_len 0 count)

-- how many picks the parts before this one take
abbrev pub picks_before : (ℕ → ℕ) → ℕ → ℕ
picks_before picks k = sum (each k picks)

-- so many parts, each made from its number and its picks, which follow those of the parts before
abbrev pub picked : {X : Type 0} → (ℕ → ℕ) → (ℕ → Lcg → X) → ℕ → Lcg → List X
picked picks part count generator =
    each count (λ k. part k (after (picks_before picks k) generator))
