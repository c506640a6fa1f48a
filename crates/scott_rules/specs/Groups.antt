-- Heads and their tails, and what it is to try them.
use Rattle.std.specs.Prelude.{ℕ, ◌+◌, ◌==◌, nat_le, Bool, true, false, List, [], ◌∷◌, drop, Option, Some, None, if◌then◌else◌}
use Rattle.scott_types.specs.declared.parts.Action.{Action}
use Rattle.scott_types.specs.declared.states.State.{State}
use Rattle.scott_types.specs.declared.endings.Ran.{Ran}
use Rattle.scott_types.specs.declared.endings.Ran.TheVariants.{Not, Passed, Over}
use Rattle.scott_types.specs.declared.endings.Halt.{Halt}
use Rattle.scott_types.specs.declared.endings.Halt.TheVariants.{Through, Waits, Over as AtEnd}
use Rattle.scott_types.specs.Database.{Database}
use Rattle.scott_types.specs.Style.{Game}
use Rattle.scott_types.specs.Action.{verb_of, noun_of}
use Rattle.adv_io.specs.Steps.{Drew, Step, Traced, after, traced}
use Rattle.scott_rules.specs.Progress.{Progress, goes_on, and_then}
use Rattle.scott_rules.specs.Actions.{ActionOutcome, try_action}

-- a head's number and vocabulary, and the numbers of its tail
pub record Group : Type 0 where
  pub head : ℕ
  pub vocab : ℕ
  pub tail : List ℕ

-- the lines of vocabulary 0 up to the next head, numbered from k on
abbrev pub tail_of : ℕ → List Action → List ℕ
tail_of k [] = []
tail_of k (a ∷ actions) = if a.vocab == 0 then k ∷ tail_of (k + 1) actions else []

-- the groups of these lines, numbered from k on; lines before the first head are in none
abbrev pub groups_of : ℕ → List Action → List Group
groups_of k [] = []
groups_of k (a ∷ actions) =
    if a.vocab == 0 then groups_of (k + 1) actions else
    record { head = k; vocab = a.vocab; tail = tail_of (k + 1) actions } ∷ groups_of (k + 1) actions

-- the groups whose heads stand at a line or after it
abbrev pub groups_from : Database → ℕ → List Group
groups_from db line = groups_of line (drop line db.actions)

abbrev pub groups : Database → List Group
groups db = groups_from db 0

-- ---- to try a group

abbrev pub over_of : Ran → Option ℕ
over_of Not = None
over_of (Passed more) = None
over_of (Over ending) = Some ending

abbrev pub outcome_of : ActionOutcome → Progress
outcome_of o = record { state = o.state; over = over_of o.ran }

abbrev pub tail_action : Game → List ℕ → ℕ → State → Traced Step Progress
tail_action game noun line s =
    let t = try_action game noun line s in traced t.events (outcome_of t.value)

-- each line of a tail is tried, whatever the others did, until the game is over
abbrev pub tail_tried : Game → List ℕ → List ℕ → State → Traced Step Progress
tail_tried game noun [] s = traced [] (goes_on s)
tail_tried game noun (line ∷ lines) s =
    and_then (tail_action game noun line s) (tail_tried game noun lines)

abbrev pub passed_or_over : Option ℕ → Ran
passed_or_over None = Passed true
passed_or_over (Some ending) = Over ending

abbrev pub with_tail : Traced Step Progress → Traced Step ActionOutcome
with_tail t = traced t.events (record { state = t.value.state; ran = passed_or_over t.value.over })

-- the tail is tried where the head passed and goes on
abbrev pub after_head : Ran → Game → List ℕ → List ℕ → Traced Step ActionOutcome
    → Traced Step ActionOutcome
after_head (Passed true) game noun tail t =
    after t.events (with_tail (tail_tried game noun tail t.value.state))
after_head _ game noun tail t = t

abbrev pub group_tried : Game → List ℕ → Group → State → Traced Step ActionOutcome
group_tried game noun g s =
    let head = try_action game noun g.head s in
    after_head head.value.ran game noun g.tail head

-- ---- the automatic step

-- a state, the draws that are left, and how far the step came
pub record AutoOutcome : Type 0 where
  pub state : State
  pub draws : List ℕ
  pub halt : Halt

abbrev pub auto_after : Option ℕ → Traced Step ActionOutcome → List ℕ
    → (State → List ℕ → Traced Step AutoOutcome) → Traced Step AutoOutcome
auto_after None t draws next = after t.events (next t.value.state draws)
auto_after (Some ending) t draws next =
    traced t.events (record { state = t.value.state; draws = draws; halt = AtEnd ending })

-- a group is tried where the draw is at most its noun; no line was typed
abbrev pub auto_tried : Bool → Game → Group → State → List ℕ
    → (State → List ℕ → Traced Step AutoOutcome) → Traced Step AutoOutcome
auto_tried true game g s draws next =
    let t = group_tried game [] g s in auto_after (over_of t.value.ran) t draws next
auto_tried false game g s draws next = next s draws

-- a group takes one draw, and waits for it where none is left
abbrev pub auto_drawn : Game → Group → State → List ℕ → (State → List ℕ → Traced Step AutoOutcome)
    → Traced Step AutoOutcome
auto_drawn game g s [] next = traced [] (record { state = s; draws = []; halt = Waits g.head })
auto_drawn game g s (draw ∷ draws) next =
    after (Drew draw ∷ []) (auto_tried (nat_le draw (noun_of g.vocab)) game g s draws next)

abbrev pub auto_group : Bool → Game → Group → State → List ℕ
    → (State → List ℕ → Traced Step AutoOutcome) → Traced Step AutoOutcome
auto_group true game g s draws next = auto_drawn game g s draws next
auto_group false game g s draws next = next s draws

-- the groups of verb 0, in order
abbrev pub automatic : Game → List Group → State → List ℕ → Traced Step AutoOutcome
automatic game [] s draws = traced [] (record { state = s; draws = draws; halt = Through })
automatic game (g ∷ gs) s draws =
    auto_group (verb_of g.vocab == 0) game g s draws (automatic game gs)
