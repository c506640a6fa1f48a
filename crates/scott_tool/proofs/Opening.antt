-- That the plan of a play is followed step by step.
use Rattle.std.proofs.Common.{◌≡◌, List, ℕ, Option, Some, None, Result, Ok, Err, refl}
use Rattle.scott_types.specs.Database.{Database}
use Rattle.scott_requests.specs.Request.{PlayRequest, play}
use Rattle.scott_tool.specs.Steps.{◌>>=◌}
use Rattle.scott_tool.specs.Refusal.{Unfit}
use Rattle.scott_tool.specs.Loading.{Texts}
use Rattle.scott_tool.specs.Check.{database_of_file}
use Rattle.scott_tool.specs.Draws.{draws_from}
use Rattle.scott_tool.specs.Work.{play_task}
use Rattle.scott_tool.specs.Plan.{doing, opened, followed, opening_of, playing_from, work}

module _ (p : PlayRequest) (texts : Texts) where
  opened-from : (db : Database) (draws : List ℕ) (from : Option (List ℕ))
      → followed (opened from db (λ f. doing (play_task p.style db f draws p.saved_as))) texts
      ≡ (opening_of from db texts.position
      >>= λ f. Ok (play_task p.style db f draws p.saved_as))
  opened-from db draws None = refl
  opened-from db draws (Some name) = refl

  opened-with : (db : Database) (drawn : Result (List ℕ) Unfit)
      → (drawn >>= λ draws. followed (opened p.opened_from db
      (λ f. doing (play_task p.style db f draws p.saved_as))) texts)
      ≡ playing_from p db texts drawn
  opened-with db (Ok draws) = opened-from db draws p.opened_from
  opened-with db (Err unfit) = refl

  of_database : (read : Result Database Unfit)
      → (read >>= λ db. draws_from p.source texts.draws >>= λ draws. followed
      (opened p.opened_from db (λ f. doing (play_task p.style db f draws p.saved_as))) texts)
      ≡ (read >>= λ db. playing_from p db texts (draws_from p.source texts.draws))
  of_database (Ok db) = opened-with db (draws_from p.source texts.draws)
  of_database (Err unfit) = refl

  pub work-play : work (play p) texts
      ≡ (database_of_file p.game texts.main
      >>= λ db. playing_from p db texts (draws_from p.source texts.draws))
  work-play = of_database (database_of_file p.game texts.main)
