-- Where draws come from, and what is left of it.
use Rattle.std.specs.Prelude.{ℕ, ◌-◌, ◌≤◌, List, length, drop}
use Rattle.adv_draws.specs.Run.{AllDraws}
use Rattle.adv_draws.specs.Seeded.{seeded_count, rolls}
use Rattle.adv_draws.specs.declared.supplies.Source.{Source}
use Rattle.adv_draws.specs.declared.supplies.Source.TheVariants.{Listed, Seeded}

-- what is left of a source of which so many draws were taken
abbrev pub left_of : Source → ℕ → List ℕ
left_of (Listed draws) taken = drop taken draws.items
left_of (Seeded generator) taken = rolls (seeded_count - taken) generator

-- no more was taken than there is, and what is listed are draws
abbrev pub IsSound : Source → ℕ → Type 0
IsSound (Listed draws) taken = (taken ≤ length draws.items) × AllDraws draws.items
IsSound (Seeded generator) taken = taken ≤ seeded_count
