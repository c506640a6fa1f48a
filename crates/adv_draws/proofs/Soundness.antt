-- What is left of a sound source are draws.
use Rattle.std.proofs.Common.{ℕ, zero, suc, ◌-◌, List, [], ◌∷◌, drop}
use Rattle.std.specs.List.{list_all}
use Rattle.std.proofs.lemmas.Bool.{and_parts}
use Rattle.adv_draws.specs.Run.{is_draw, AllDraws}
use Rattle.adv_draws.specs.Seeded.{seeded_count}
use Rattle.adv_draws.specs.Source.{left_of, IsSound}
use Rattle.adv_draws.specs.declared.supplies.Source.{Source}
use Rattle.adv_draws.specs.declared.supplies.Source.TheVariants.{Listed, Seeded}
use Rattle.adv_draws.proofs.Rolls.{AllDraws-rolls}

-- what is left of draws are draws
AllDraws-drop : (taken : ℕ) (draws : List ℕ) → AllDraws draws → AllDraws (drop taken draws)
AllDraws-drop zero draws drawn = drawn
AllDraws-drop (suc taken) [] drawn = drawn
AllDraws-drop (suc taken) (draw ∷ draws) drawn =
    AllDraws-drop taken draws (and_parts (is_draw draw) (list_all is_draw draws) drawn).1

-- what is left of a sound source are draws
pub AllDraws-left_of : (source : Source) (taken : ℕ) → IsSound source taken → AllDraws (left_of source taken)
AllDraws-left_of (Listed draws) taken sound = AllDraws-drop taken draws.items sound.1
AllDraws-left_of (Seeded generator) taken sound = AllDraws-rolls (seeded_count - taken) generator
