-- How many draws a seed gives.
use Rattle.std.proofs.Common.{◌≡◌, ℕ, zero, suc, length, refl, ap}
use Rattle.adv_draws.specs.Seeded.{rolls, generator_of, seeded_count, seeded_draws}

-- each word of a generator is one draw
length-rolls : (count : ℕ) (generator : _) → length (rolls count generator) ≡ count
unfolding rolls
length-rolls zero generator = refl
length-rolls (suc count) generator = ap suc (length-rolls count _)

pub length-seeded_draws : (seed : ℕ) → length (seeded_draws seed) ≡ seeded_count
length-seeded_draws seed = length-rolls seeded_count (generator_of seed)
