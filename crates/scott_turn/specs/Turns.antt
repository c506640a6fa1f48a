-- One turn of the walks over groups, and what it is to go on after it.
use Rattle.std.specs.Prelude.{ℕ, nat_le, Bool, true, false, List, [], ◌∷◌, Option, Some, None}
use Rattle.scott_types.specs.declared.states.State.{State}
use Rattle.scott_types.specs.declared.endings.Ran.{Ran}
use Rattle.scott_types.specs.declared.endings.Ran.TheVariants.{Not, Passed, Over as Ended}
use Rattle.scott_types.specs.declared.endings.Halt.{Halt}
use Rattle.scott_types.specs.declared.endings.Halt.TheVariants.{Through, Waits, Over as AtEnd}
use Rattle.scott_types.specs.declared.endings.Found.{Found}
use Rattle.scott_types.specs.declared.endings.Found.TheVariants.{Over, Done, Matched, NoMatch}
use Rattle.scott_types.specs.Style.{Game}
use Rattle.scott_types.specs.Action.{noun_of}
use Rattle.adv_io.specs.Steps.{Drew, Step, Traced, after, traced}
use Rattle.scott_rules.specs.Groups.{Group, AutoOutcome, over_of, group_tried}
use Rattle.scott_rules.specs.Search.{SearchOutcome, matched}

-- ---- the automatic step

abbrev pub halt_of : Option ℕ → Halt
halt_of None = Through
halt_of (Some ending) = AtEnd ending

-- a group that was tried, or not
abbrev pub entered : Bool → Game → Group → State → List ℕ → Traced Step AutoOutcome
entered true game g s draws =
    let t = group_tried game [] g s in traced t.events
    (record { state = t.value.state; draws = draws; halt = halt_of (over_of t.value.ran) })
entered false game g s draws = traced [] (record { state = s; draws = draws; halt = Through })

-- one automatic group takes its draw, and is tried where that lets it in; `Through` where the step
-- goes on
abbrev pub auto_turn : Game → Group → State → List ℕ → Traced Step AutoOutcome
auto_turn game g s [] = traced [] (record { state = s; draws = []; halt = Waits g.head })
auto_turn game g s (draw ∷ draws) =
    after (Drew draw ∷ []) (entered (nat_le draw (noun_of g.vocab)) game g s draws)

-- what comes after it
abbrev pub by_halt : Halt → Traced Step AutoOutcome → (State → List ℕ → Traced Step AutoOutcome)
    → Traced Step AutoOutcome
by_halt Through t next = after t.events (next t.value.state t.value.draws)
by_halt (Waits head) t next = t
by_halt (AtEnd ending) t next = t

abbrev pub goes_through : Halt → Bool
goes_through Through = true
goes_through (Waits head) = false
goes_through (AtEnd ending) = false

-- ---- the search

abbrev pub found_of : Ran → Found
found_of Not = Matched
found_of (Passed more) = Done
found_of (Ended ending) = Over ending

-- one group of the search: `NoMatch` where it isn't for the command, `Matched` where its head
-- didn't pass
abbrev pub search_turn : Bool → Game → List ℕ → Group → State → Traced Step SearchOutcome
search_turn true game typed g s =
    let t = group_tried game typed g s in traced t.events
    (record { state = t.value.state; found = found_of t.value.ran })
search_turn false game typed g s = traced [] (record { state = s; found = NoMatch })

-- what comes after it
abbrev pub by_turn : Found → Traced Step SearchOutcome → (State → Traced Step SearchOutcome)
    → Traced Step SearchOutcome
by_turn NoMatch t next = after t.events (next t.value.state)
by_turn Matched t next = after t.events (matched (next t.value.state))
by_turn Done t next = t
by_turn (Over ending) t next = t

-- what a search has found with one more group
abbrev pub at_least : Found → Found → Found
at_least NoMatch before = before
at_least found before = found

-- what a search gives where its groups so far gave this
abbrev pub with_before : Found → Traced Step SearchOutcome → Traced Step SearchOutcome
with_before NoMatch t = t
with_before before t = matched t

-- a head passed, or the game is over
abbrev pub ends_search : Found → Bool
ends_search NoMatch = false
ends_search Matched = false
ends_search Done = true
ends_search (Over ending) = true
