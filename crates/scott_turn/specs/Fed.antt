-- A play whose lines are fed.
use Rattle.std.specs.Prelude.{ℕ, Bool, true, false, List, [], ◌∷◌, Option, Some, None}
use denote.Ref.{Bor}
use Rattle.adv_io.specs.History.{says, transcript}
use Rattle.adv_io.specs.declared.events.Event.{Event}
use Rattle.scott_types.specs.declared.states.State.{State}
use Rattle.scott_types.specs.declared.endings.Position.{Position}
use Rattle.scott_types.specs.Style.{Game}
use Rattle.adv_io.specs.Steps.{Step, Traced, after, trace_of, traced}
use Rattle.scott_rules.specs.Commands.{heard}
use Rattle.scott_rules.specs.Rounds.{RoundEnd, advance, by_heard}

-- the line that was fed, or none
abbrev pub given : Option (Bor (List ℕ)) → List (List ℕ)
given None = []
given (Some line) = line.now ∷ []

-- what was said in the steps, and nothing else of them
abbrev pub said : List Step → List Event
said steps = says (transcript (trace_of steps))

-- the answer to a line at the prompt, and what is done up to the next one; elsewhere the line is
-- dropped
abbrev pub after_line : Bool → Game → List ℕ → Position → State → List ℕ → Traced Step RoundEnd
after_line true game line position s draws =
    let answered = by_heard (heard game.db line) game line s in
    after answered.events (advance game answered.value.position answered.value.state draws)
after_line false game line position s draws =
    traced [] (record { position = position; state = s; draws = draws })
