-- The draws that a text lists, or where it has a run that is none.
use Rattle.std.specs.Prelude.{◌≡◌, ℕ, List, [], ◌∷◌, ◌++◌, Option, Some, None, Result, Ok, Err, ⊤}
use Rattle.adv_draws.specs.Run.{Run, runs_of, draw_of}
use Rattle.adv_draws.specs.declared.faults.DrawFault.{DrawFault}
use Rattle.adv_draws.specs.declared.faults.DrawFault.TheVariants.{NotADraw, Memory}

-- draws, and then what the rest lists
abbrev pub followed_by : List ℕ → Result (List ℕ) ℕ → Result (List ℕ) ℕ
followed_by draws (Ok others) = Ok (draws ++ others)
followed_by draws (Err offset) = Err offset

-- a run's draw before those of the rest, or the offset of the run where it has none
abbrev pub with_draw : Option ℕ → ℕ → Result (List ℕ) ℕ → Result (List ℕ) ℕ
with_draw (Some draw) offset rest = followed_by (draw ∷ []) rest
with_draw None offset rest = Err offset

-- the draws of runs, or the offset of the first run that is no draw
abbrev pub draws_of : List Run → Result (List ℕ) ℕ
draws_of [] = Ok []
draws_of (run ∷ runs) = with_draw (draw_of run.bytes) run.offset (draws_of runs)

-- the draws of a text, or the offset of its first run that is no draw
abbrev pub listed_draws : List ℕ → Result (List ℕ) ℕ
listed_draws text = draws_of (runs_of text)

-- a fault that names a place names the first run that is no draw
abbrev pub IsFaultOf : List ℕ → DrawFault → Type 0
IsFaultOf text (NotADraw offset) = listed_draws text ≡ Err offset
IsFaultOf text Memory = ⊤
