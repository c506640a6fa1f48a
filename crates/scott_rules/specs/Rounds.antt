-- A round: what is done up to the prompt, and the answer to a line.
use Rattle.std.specs.Prelude.{ℕ, ◌-◌, ◌==◌, Bool, true, false, List, [], ◌∷◌, ◌++◌, length, Option, Some, None, if◌then◌else◌}
use Rattle.scott_types.specs.declared.states.State.{State}
use Rattle.scott_types.specs.declared.styles.Style.{Style}
use Rattle.scott_types.specs.declared.commands.Heard.{Heard}
use Rattle.scott_types.specs.declared.commands.Heard.TheVariants.{Blank, Unknown, Command}
use Rattle.scott_types.specs.declared.endings.Found.{Found}
use Rattle.scott_types.specs.declared.endings.Found.TheVariants.{Over as FoundOver, Done, Matched}
use Rattle.scott_types.specs.declared.endings.Transfer.TheVariants.{PickUp, PutDown}
use Rattle.scott_types.specs.declared.endings.Halt.{Halt}
use Rattle.scott_types.specs.declared.endings.Halt.TheVariants.{Through, Waits, Over as AtEnd}
use Rattle.scott_types.specs.declared.endings.Position.{Position}
use Rattle.scott_types.specs.declared.endings.Position.TheVariants.{Fresh, Draw, Line, Over}
use Rattle.scott_types.specs.declared.phrases.Phrase.TheVariants.{Prompt, UnknownOpening, UnknownBack, NeedDirection, DarkMove, Moved, BrokenNeck, NoExitThere, NotYet, NotUnderstood}
use Rattle.scott_types.specs.Database.{room_at}
use Rattle.scott_types.specs.Style.{Game}
use Rattle.scott_types.specs.Room.{exit_of}
use Rattle.scott_types.specs.Phrase.{text_of, text_in}
use Rattle.scott_types.specs.State.{is_dark}
use Rattle.adv_io.specs.Steps.{Step, Took, Traced, after, said_steps, traced, traced_text}
use Rattle.scott_rules.specs.Progress.{Progress, goes_on}
use Rattle.scott_rules.specs.Commands.{heard, typed_noun, word_at, go_verb, get_verb, drop_verb, is_direction}
use Rattle.scott_rules.specs.Looking.{looked}
use Rattle.scott_rules.specs.Light.{light_counted}
use Rattle.scott_rules.specs.Opcodes.{by_fall}
use Rattle.scott_rules.specs.Groups.{AutoOutcome, groups, groups_from, automatic}
use Rattle.scott_rules.specs.Search.{search_result}
use Rattle.scott_rules.specs.Transfer.{transfer}

-- ---- up to the prompt

-- a look where one is due
abbrev pub look_due : Game → State → List ℕ
look_due game s = if s.redraw then looked game s else []

abbrev pub unmarked : State → State
unmarked s = record s { redraw = false }

-- a position and a state, and the draws that are left
pub record RoundEnd : Type 0 where
  pub position : Position
  pub state : State
  pub draws : List ℕ

-- where the automatic step came through, a look that is due and the prompt follow
abbrev pub prompted : Halt → Game → State → List ℕ → Traced Step RoundEnd
prompted Through game s draws =
    traced_text (look_due game s ++ text_of Prompt)
    (record { position = Line; state = unmarked s; draws = draws })
prompted (Waits head) game s draws =
    traced [] (record { position = Draw head; state = s; draws = draws })
prompted (AtEnd ending) game s draws =
    traced [] (record { position = Over ending; state = s; draws = draws })

abbrev pub to_prompt : Game → Traced Step AutoOutcome → Traced Step RoundEnd
to_prompt game t = after t.events (prompted t.value.halt game t.value.state t.value.draws)

-- everything up to the prompt, from where a play stands
abbrev pub advance : Game → Position → State → List ℕ → Traced Step RoundEnd
advance game Fresh s draws =
    after (said_steps (look_due game s))
    (to_prompt game (automatic game (groups game.db) (unmarked s) draws))
advance game (Draw head) s draws =
    to_prompt game (automatic game (groups_from game.db head) s draws)
advance game Line s draws = traced [] (record { position = Line; state = s; draws = draws })
advance game (Over ending) s draws =
    traced [] (record { position = Over ending; state = s; draws = draws })

-- ---- moving

abbrev pub moved_to : ℕ → State → State
moved_to room s = record s { room = room; redraw = true }

-- without an exit: in the dark a fall, else a refusal
abbrev pub no_way : Style → Bool → State → Traced Step Progress
no_way style true s =
    traced_text (text_in style BrokenNeck) (record { state = s; over = Some by_fall })
no_way style false s = traced_text (text_in style NoExitThere) (goes_on s)

abbrev pub way : Style → ℕ → State → Traced Step Progress
way style room s =
    if room == 0 then no_way style (is_dark s) s
    else traced_text (text_of Moved) (goes_on (moved_to room s))

abbrev pub walk_result : Game → ℕ → State → Traced Step Progress
walk_result game noun s =
    after (said_steps (if is_dark s then text_of DarkMove else []))
    (way game.style (exit_of (length game.db.rooms) (room_at game.db s.room).exits (noun - 1)) s)

-- ---- a command

abbrev pub not_done : Style → Found → List ℕ
not_done style Matched = text_in style NotYet
not_done style _ = text_of NotUnderstood

-- no head passed: get and drop have an effect of their own, and other verbs are refused
abbrev pub unmatched : Game → List ℕ → ℕ → Option ℕ → Found → State → Traced Step Progress
unmatched game typed verb noun found s =
    if verb == get_verb then transfer PickUp game typed noun s else
    if verb == drop_verb then transfer PutDown game typed noun s
    else traced_text (not_done game.style found) (goes_on s)

abbrev pub by_found : Found → Game → List ℕ → ℕ → Option ℕ → State → Traced Step Progress
by_found (FoundOver ending) game typed verb noun s =
    traced [] (record { state = s; over = Some ending })
by_found Done game typed verb noun s = traced [] (goes_on s)
by_found found game typed verb noun s = unmatched game typed verb noun found s

abbrev pub by_actions : Game → List ℕ → ℕ → Option ℕ → State → Traced Step Progress
by_actions game typed verb noun s =
    let t = search_result game typed verb noun (groups game.db) s in
    after t.events (by_found t.value.found game typed verb noun t.value.state)

-- going asks for a direction, and goes there; with another noun it is a verb like any
abbrev pub going : Game → List ℕ → Option ℕ → State → Traced Step Progress
going game typed None s = traced_text (text_of NeedDirection) (goes_on s)
going game typed (Some noun) s =
    if is_direction noun then walk_result game noun s
    else by_actions game typed go_verb (Some noun) s

abbrev pub command_result : Game → List ℕ → ℕ → Option ℕ → State → Traced Step Progress
command_result game typed verb noun s =
    if verb == go_verb then going game typed noun s else by_actions game typed verb noun s

-- ---- the answer to a line

-- a position and a state
pub record Answered : Type 0 where
  pub position : Position
  pub state : State

-- the light burns where the game goes on, and a round begins
abbrev pub turn_ended : Style → Option ℕ → State → Traced Step Answered
turn_ended style None s =
    let t = light_counted style s in traced_text t.events
    (record { position = Fresh; state = t.value })
turn_ended style (Some ending) s = traced [] (record { position = Over ending; state = s })

abbrev pub command_done : Style → Traced Step Progress → Traced Step Answered
command_done style t = after t.events (turn_ended style t.value.over t.value.state)

abbrev pub asked_again : List ℕ → State → Traced Step Answered
asked_again bytes s = traced_text (bytes ++ text_of Prompt) (record { position = Line; state = s })

abbrev pub unknown_word : List ℕ → List ℕ
unknown_word word = text_of UnknownOpening ++ (word ++ text_of UnknownBack)

abbrev pub by_heard : Heard → Game → List ℕ → State → Traced Step Answered
by_heard Blank game line s = asked_again [] s
by_heard (Unknown start size) game line s =
    asked_again (unknown_word (word_at line (start, size))) s
by_heard (Command verb noun) game line s =
    command_done game.style (command_result game (typed_noun line) verb noun s)

-- a line is taken and answered
abbrev pub answer : Game → List ℕ → State → Traced Step Answered
answer game line s = after (Took line ∷ []) (by_heard (heard game.db line) game line s)
