-- The search for a command's group.
use Rattle.std.specs.Prelude.{ℕ, ◌==◌, ◌&&◌, ◌||◌, Bool, true, false, List, [], ◌∷◌, Option, Some, None}
use Rattle.scott_types.specs.declared.states.State.{State}
use Rattle.scott_types.specs.declared.endings.Ran.{Ran}
use Rattle.scott_types.specs.declared.endings.Ran.TheVariants.{Not, Passed, Over as Ended}
use Rattle.scott_types.specs.declared.endings.Found.{Found}
use Rattle.scott_types.specs.declared.endings.Found.TheVariants.{Over, Done, Matched, NoMatch}
use Rattle.scott_types.specs.Style.{Game}
use Rattle.scott_types.specs.Action.{verb_of, noun_of}
use Rattle.adv_io.specs.Steps.{Step, Traced, after, traced}
use Rattle.scott_rules.specs.Actions.{ActionOutcome}
use Rattle.scott_rules.specs.Groups.{Group, group_tried}

pub record SearchOutcome : Type 0 where
  pub state : State
  pub found : Found

-- a head of noun 0 is for every noun and for none
abbrev pub is_for_noun : ℕ → Option ℕ → Bool
is_for_noun own None = own == 0
is_for_noun own (Some noun) = own == noun || own == 0

abbrev pub is_for : ℕ → Option ℕ → Group → Bool
is_for verb noun g = verb_of g.vocab == verb && is_for_noun (noun_of g.vocab) noun

-- a head was there, whatever was found after it
abbrev pub at_least_matched : Found → Found
at_least_matched NoMatch = Matched
at_least_matched found = found

abbrev pub matched : Traced Step SearchOutcome → Traced Step SearchOutcome
matched t =
    traced t.events (record { state = t.value.state; found = at_least_matched t.value.found })

abbrev pub search_after : Ran → Traced Step ActionOutcome → (State → Traced Step SearchOutcome)
    → Traced Step SearchOutcome
search_after Not t next = after t.events (matched (next t.value.state))
search_after (Passed more) t next = traced t.events (record { state = t.value.state; found = Done })
search_after (Ended ending) t next =
    traced t.events (record { state = t.value.state; found = Over ending })

abbrev pub search_group : Bool → Game → List ℕ → Group → State → (State → Traced Step SearchOutcome)
    → Traced Step SearchOutcome
search_group true game typed g s next =
    let t = group_tried game typed g s in search_after t.value.ran t next
search_group false game typed g s next = next s

-- the groups for a verb and a noun are tried in order, up to the first head that passes
abbrev pub search_result : Game → List ℕ → ℕ → Option ℕ → List Group → State
    → Traced Step SearchOutcome
search_result game typed verb noun [] s = traced [] (record { state = s; found = NoMatch })
search_result game typed verb noun (g ∷ gs) s =
    search_group (is_for verb noun g) game typed g s (search_result game typed verb noun gs)
