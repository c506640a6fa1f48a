-- A play by its rounds: each goes on until the next one begins, or the play stops.
use Rattle.std.specs.Prelude.{ℕ, List, [], ◌∷◌}
use Rattle.adv_io.specs.Steps.{Step, Traced, after, traced}
use Rattle.scott_types.specs.declared.states.State.{State}
use Rattle.scott_types.specs.declared.endings.Position.{Position}
use Rattle.scott_types.specs.declared.endings.Position.TheVariants.{Fresh}
use Rattle.scott_types.specs.Style.{Game}
use Rattle.scott_rules.specs.Rounds.{advance}
use Rattle.scott_rules.specs.Play.{PlayEnd, stopped, with_line, go}

-- after an answer a round is done where the next one begins, and else it goes on
abbrev pub round_goes_on : Position → Traced Step PlayEnd → Traced Step PlayEnd
    → Traced Step PlayEnd
round_goes_on Fresh done more = done
round_goes_on _ done more = more

-- where a round is done
abbrev pub round_done : Position → State → List (List ℕ) → List ℕ → Traced Step PlayEnd
round_done position s lines draws =
    traced [] (record { position = position; state = s; lines = lines; draws = draws })

-- a round from a position on; where it is done, it leaves the position at which a round begins
unfoldable pub round : Game → Position → State → List (List ℕ) → List ℕ → Traced Step PlayEnd
round game position s [] draws = stopped [] (advance game position s draws)
round game position s (line ∷ lines) draws =
    let t = advance game position s draws in
    with_line t.value.position game line lines t (λ p r ds. round_goes_on p
    (round_done p r lines ds) (round game p r lines ds))

-- after a round that is done the next one begins
abbrev pub next_round : Position → Game → Traced Step PlayEnd → Traced Step PlayEnd
next_round Fresh game t =
    after t.events (go game Fresh t.value.state t.value.lines t.value.draws)
next_round _ game t = t

abbrev pub then_rounds : Game → Traced Step PlayEnd → Traced Step PlayEnd
then_rounds game t = next_round t.value.position game t
