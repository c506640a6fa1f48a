-- No play stops where a round begins.
use Rattle.std.proofs.Common.{◌≢◌, ℕ, List, [], ◌∷◌}
use Rattle.scott_types.specs.declared.states.State.{State}
use Rattle.scott_types.specs.declared.endings.Halt.{Halt}
use Rattle.scott_types.specs.declared.endings.Halt.TheVariants.{Through, Waits, Over as AtEnd}
use Rattle.scott_types.specs.declared.endings.Position.{Position}
use Rattle.scott_types.specs.declared.endings.Position.TheVariants.{Fresh, Draw, Line, Over}
use Rattle.scott_types.specs.Style.{Game}
use Rattle.adv_io.specs.Steps.{Step, Traced}
use Rattle.scott_rules.specs.Groups.{groups, groups_from, automatic}
use Rattle.scott_rules.specs.Rounds.{RoundEnd, prompted, unmarked, advance, answer}
use Rattle.scott_rules.specs.Play.{PlayEnd, with_line, go}

prompted-stops : (halt : Halt) (game : Game) (s : State) (draws : List ℕ) → (prompted halt game s draws).value.position ≢ Fresh
prompted-stops Through game s draws = λ e. cc
prompted-stops (Waits head) game s draws = λ e. cc
prompted-stops (AtEnd ending) game s draws = λ e. cc

-- what is done up to the prompt ends at it, at a draw or at the game's end
pub advance-stops : (game : Game) (position : Position) (s : State) (draws : List ℕ) → (advance game position s draws).value.position ≢ Fresh
advance-stops game Fresh s draws =
    let t = automatic game (groups game.db) (unmarked s) draws in prompted-stops t.value.halt game t.value.state t.value.draws
advance-stops game (Draw head) s draws =
    let t = automatic game (groups_from game.db head) s draws in prompted-stops t.value.halt game t.value.state t.value.draws
advance-stops game Line s draws = λ e. cc
advance-stops game (Over ending) s draws = λ e. cc

with_line-stops : (position : Position) (game : Game) (line : List ℕ) (lines : List (List ℕ)) (t : Traced Step RoundEnd) (next : Position → State → List ℕ → Traced Step PlayEnd)
    → t.value.position ≢ Fresh → ((p : Position) (s : State) (draws : List ℕ) → (next p s draws).value.position ≢ Fresh)
    → (with_line position game line lines t next).value.position ≢ Fresh
with_line-stops Line game line lines t next here rest = let a = answer game line t.value.state in rest a.value.position a.value.state t.value.draws
with_line-stops Fresh game line lines t next here rest = here
with_line-stops (Draw head) game line lines t next here rest = here
with_line-stops (Over ending) game line lines t next here rest = here

pub go-stops : (game : Game) (lines : List (List ℕ)) (position : Position) (s : State) (draws : List ℕ) → (go game position s lines draws).value.position ≢ Fresh
unfolding go
go-stops game [] position s draws = advance-stops game position s draws
go-stops game (line ∷ lines) position s draws =
    let t = advance game position s draws in
    with_line-stops t.value.position game line lines t (λ p r ds. go game p r lines ds) (advance-stops game position s draws) (go-stops game lines)
