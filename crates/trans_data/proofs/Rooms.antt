-- A call where more calls may be opened than it opens, within more steps than it takes.
use Rattle.std.proofs.Common.{ℕ, ◌≤◌, ℤ, List}
use Rattle.adv_io.specs.Steps.{Step}
use Rattle.inform_meaning.specs.Worlds.{Program}
use Rattle.inform_logic.specs.Stages.{Stage, plus}
use Rattle.inform_logic.specs.Leading.{Does}
use Rattle.inform_logic.proofs.Steps.{with_room}
use Rattle.inform_logic.proofs.Routines.{does_within}
use Rattle.scott_types.specs.declared.states.State.{State}
use Rattle.scott_types.specs.Database.{Database}
use Rattle.trans_specs.specs.Calls.{CallLeaves}

pub with_calls : (calls d : ℕ) {p : Program} {name : List ℕ} {values : List ℤ} {w w' : Stage}
    {v : ℤ} {n most : ℕ} → calls ≤ d → n ≤ most
    → ((k : ℕ) → Does p (plus calls k) name values w v w' n) → Does p d name values w v w' most
with_calls calls d {p} {name} {values} {w} {w'} {v} {n} {most} room enough does =
    with_room calls (λ d. Does p d name values w v w' most)
    (λ k. does_within enough (does k)) d room

leaves_within : {p : Program} {d : ℕ} {name : List ℕ} {values : List ℤ} {w : Stage} {v : ℤ}
    {db : Database} {s : State} {noun : List ℕ} {steps : List Step} {n most : ℕ} → n ≤ most
    → CallLeaves p d name values w v db s noun steps n
    → CallLeaves p d name values w v db s noun steps most
leaves_within enough call =
    record { after = call.after; does = does_within enough call.does; leaves = call.leaves }

pub leaves_with_calls : (calls d : ℕ) {p : Program} {name : List ℕ} {values : List ℤ} {w : Stage}
    {v : ℤ} {db : Database} {s : State} {noun : List ℕ} {steps : List Step} {n most : ℕ}
    → calls ≤ d → n ≤ most
    → ((k : ℕ) → CallLeaves p (plus calls k) name values w v db s noun steps n)
    → CallLeaves p d name values w v db s noun steps most
leaves_with_calls calls d {p} {name} {values} {w} {v} {db} {s} {noun} {steps} {n} {most} room
    enough leaves = with_room calls (λ d. CallLeaves p d name values w v db s noun steps most)
    (λ k. leaves_within enough (leaves k)) d room
