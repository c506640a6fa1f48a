-- The draws of a generator of 32-bit words.
use Rattle.std.specs.Prelude.{ℕ, zero, suc, ◌+◌, ◌%◌, List, [], ◌∷◌}
use Rattle.rand_pcg.specs.Lcg.{Lcg, started, increment_of}
use Rattle.rand_pcg.specs.Pcg.{multiplier_64, pcg32}

-- the draw of a word: 1..100
abbrev pub draw_of_word : ℕ → ℕ
draw_of_word word = word % 100 + 1

-- so many draws, each of the generator's next word
unfoldable pub rolls : ℕ → Lcg → List ℕ
rolls zero generator = []
rolls (suc count) generator = draw_of_word (pcg32 generator).0 ∷ rolls count (pcg32 generator).1

-- the generator of a seed, on stream 1
abbrev pub generator_of : ℕ → Lcg
generator_of seed = started 64 multiplier_64 seed (increment_of 64 1)

-- a seed gives a million draws
abbrev pub seeded_count : ℕ
seeded_count = 1000000

-- the draws of a seed
abbrev pub seeded_draws : ℕ → List ℕ
seeded_draws seed = rolls seeded_count (generator_of seed)
