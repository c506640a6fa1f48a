-- The draws of a play or a run: a file lists them, or a seed gives them.
use Rattle.std.specs.Prelude.{◌≡◌, ℕ, List, Some, Result, Ok, Err}
use Rattle.std.specs.FinMap.{get}
use Rattle.adv_draws.specs.Listed.{listed_draws}
use Rattle.adv_draws.specs.Seeded.{seeded_draws}
use Rattle.adv_draws.specs.declared.faults.DrawFault.TheVariants.{NotADraw}
use Rattle.adv_io.specs.Shelf.{Files}
use Rattle.scott_requests.specs.Settings.{DrawSource, listed, seeded}
use Rattle.scott_tool.specs.Refusal.{Unfit, unfit_by}
use Rattle.scott_tool.specs.declared.refusals.ContentFault.TheVariants.{NoDraws}

-- the draws that a file lists, or the place of its first run that is none
abbrev pub draws_or_unfit : List ℕ → Result (List ℕ) ℕ → Result (List ℕ) Unfit
draws_or_unfit name (Ok draws) = Ok draws
draws_or_unfit name (Err at) = Err (unfit_by name (NoDraws (NotADraw at)))

-- the draws of a play, by the bytes of their file
abbrev pub draws_from : DrawSource → List ℕ → Result (List ℕ) Unfit
draws_from (listed name) bytes = draws_or_unfit name (listed_draws bytes)
draws_from (seeded seed) bytes = Ok (seeded_draws seed)

-- these are the draws of a play
abbrev pub DrawsAre : Files → DrawSource → List ℕ → Type 0
DrawsAre files (listed name) draws =
    (bytes : List ℕ) × (get files name ≡ Some bytes) × (listed_draws bytes ≡ Ok draws)
DrawsAre files (seeded seed) draws = draws ≡ seeded_draws seed

-- the file of draws is there, and has a run of bytes that is no draw
abbrev pub AreNoDraws : Files → DrawSource → Type 0
AreNoDraws files (listed name) =
    (bytes : List ℕ) × (at : ℕ) × (get files name ≡ Some bytes) × (listed_draws bytes ≡ Err at)
AreNoDraws files (seeded seed) = ⊥
