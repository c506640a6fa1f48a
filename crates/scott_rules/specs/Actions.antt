-- What an action line does.
use Rattle.std.specs.Prelude.{ℕ, ◌==◌, Bool, true, false, List, [], ◌∷◌, map, Option, Some, None, if◌then◌else◌}
use Rattle.std.specs.List.{list_all, list_any}
use Rattle.scott_types.specs.declared.parts.Action.{Action}
use Rattle.scott_types.specs.declared.verbs.TheConstants.{MORE}
use Rattle.scott_types.specs.declared.states.State.{State}
use Rattle.scott_types.specs.declared.endings.Ran.{Ran}
use Rattle.scott_types.specs.declared.endings.Ran.TheVariants.{Not, Passed, Over}
use Rattle.scott_types.specs.Database.{Database, action_at}
use Rattle.scott_types.specs.Style.{Game}
use Rattle.scott_types.specs.Condition.{condition_of}
use Rattle.scott_types.specs.Opcode.{opcode_of}
use Rattle.scott_types.specs.Action.{argument_of, condition_code, parameters, opcode_numbers, is_zero_action}
use Rattle.adv_io.specs.Steps.{Noted, Step, Traced, after, as_steps, traced}
use Rattle.scott_rules.specs.Progress.{Progress}
use Rattle.scott_rules.specs.Conditions.{holds}
use Rattle.scott_rules.specs.Opcodes.{run_opcodes}

-- a packed condition holds
abbrev pub condition_holds : Database → State → ℕ → Bool
condition_holds db s packed = holds db s (argument_of packed) (condition_of (condition_code packed))

abbrev pub passes : Database → State → Action → Bool
passes db s a = list_all (condition_holds db s) a.conds

-- the number of the opcode that goes on with the tail
abbrev pub more_number : ℕ
more_number = MORE

abbrev pub is_more : ℕ → Bool
is_more number = number == more_number

abbrev pub goes_on_after : Action → Bool
goes_on_after a = list_any is_more (opcode_numbers a)

-- a state, and what became of the line
pub record ActionOutcome : Type 0 where
  pub state : State
  pub ran : Ran

abbrev pub ran_of : Option ℕ → Bool → Ran
ran_of None more = Passed more
ran_of (Some ending) more = Over ending

abbrev pub ran_to : Bool → Traced ℕ Progress → Traced ℕ ActionOutcome
ran_to more t = traced t.events (record { state = t.value.state; ran = ran_of t.value.over more })

-- a line whose conditions hold does its opcodes; any other does nothing
abbrev pub performed : Bool → Game → List ℕ → Action → State → Traced ℕ ActionOutcome
performed true game noun a s =
    ran_to (goes_on_after a)
    (run_opcodes game noun (map opcode_of (opcode_numbers a)) (parameters a) s)
performed false game noun a s = traced [] (record { state = s; ran = Not })

abbrev pub action_result : Game → List ℕ → ℕ → State → Traced ℕ ActionOutcome
action_result game noun line s =
    performed (passes game.db s (action_at game.db line)) game noun (action_at game.db line) s

-- an action that is tried is noted by its number, unless it is all zeros
abbrev pub note_of : Action → ℕ → List Step
note_of a line = if is_zero_action a then [] else Noted line ∷ []

-- the same as steps of a play, in which the action is noted whether or not it passes
abbrev pub try_action : Game → List ℕ → ℕ → State → Traced Step ActionOutcome
try_action game noun line s =
    after (note_of (action_at game.db line) line) (as_steps (action_result game noun line s))
