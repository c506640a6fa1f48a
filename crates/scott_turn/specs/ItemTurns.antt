-- One turn of the walk over the items, and what it is to go on after it.
use Rattle.std.specs.Prelude.{ℕ, ◌<◌, length, IfSome, Bool, true, false, List, [], ◌++◌, Option, Some, None}
use Rattle.scott_types.specs.declared.parts.Item.{Item}
use Rattle.scott_types.specs.declared.states.State.{State}
use Rattle.scott_types.specs.declared.styles.Style.{Style}
use Rattle.scott_types.specs.declared.commands.Column.TheVariants.{Nouns}
use Rattle.scott_types.specs.declared.endings.Found.{Found}
use Rattle.scott_types.specs.declared.endings.Found.TheVariants.{Over}
use Rattle.scott_types.specs.declared.endings.Transfer.{Transfer}
use Rattle.scott_types.specs.declared.phrases.Phrase.TheVariants.{TooMuch, ItemDone}
use Rattle.scott_types.specs.Style.{Game}
use Rattle.scott_types.specs.Database.{Database}
use Rattle.scott_types.specs.ItemText.{shown, get_word}
use Rattle.scott_types.specs.Phrase.{text_of, text_in}
use Rattle.adv_io.specs.Steps.{Step, Traced, after, traced, traced_text}
use Rattle.scott_rules.specs.Progress.{Progress}
use Rattle.scott_rules.specs.Words.{which}
use Rattle.scott_rules.specs.Groups.{groups}
use Rattle.scott_rules.specs.Search.{search_result}
use Rattle.scott_rules.specs.Transfer.{verb_for, transferred, is_refused, AllOutcome, with_one_taken}
use Rattle.scott_turn.specs.declared.item_turns.ItemTurn.{ItemTurn}
use Rattle.scott_turn.specs.declared.item_turns.ItemTurn.TheVariants.{Passed, Moved, Ended}

-- a state, and what became of an item at its turn
pub record ItemTurnOutcome : Type 0 where
  pub state : State
  pub item_turn : ItemTurn

-- an item that isn't refused is moved, and that is said
abbrev pub moved_or_not : Bool → Style → Transfer → ℕ → Item → State → Traced Step ItemTurnOutcome
moved_or_not true style t i item s =
    traced_text (text_in style TooMuch) (record { state = s; item_turn = Ended None })
moved_or_not false style t i item s =
    traced_text (shown item.text ++ text_of ItemDone)
    (record { state = transferred t i s; item_turn = Moved })

-- how a search ended the game, if it did
abbrev pub ending_in : Found → Option ℕ
ending_in (Over ending) = Some ending
ending_in _ = None

-- an item's lines, with the verb of getting or dropping and the item's own noun; only an ending of
-- theirs counts
abbrev pub item_actions : Transfer → Game → List ℕ → Item → State → Traced Step Progress
item_actions t game typed item s =
    let found = search_result game typed (verb_for t) (which game.db Nouns (get_word item.text))
    (groups game.db) s in
    traced found.events (record { state = found.value.state; over = ending_in found.value.found })

abbrev pub after_actions : Option ℕ → Transfer → Game → ℕ → Item → State
    → Traced Step ItemTurnOutcome
after_actions (Some ending) t game i item s =
    traced [] (record { state = s; item_turn = Ended (Some ending) })
after_actions None t game i item s = moved_or_not (is_refused t game.db s) game.style t i item s

-- one item at its turn, taken or not
abbrev pub item_turn : Bool → Transfer → Game → List ℕ → ℕ → Item → State
    → Traced Step ItemTurnOutcome
item_turn true t game typed i item s =
    let lines = item_actions t game typed item s in
    after lines.events (after_actions lines.value.over t game i item lines.value.state)
item_turn false t game typed i item s = traced [] (record { state = s; item_turn = Passed })

-- what comes after it
abbrev pub by_item_turn : ItemTurn → Traced Step ItemTurnOutcome → (State → Traced Step AllOutcome)
    → Traced Step AllOutcome
by_item_turn Passed t next = after t.events (next t.value.state)
by_item_turn Moved t next = after t.events (with_one_taken (next t.value.state))
by_item_turn (Ended over) t next =
    traced t.events (record { state = t.value.state; over = over; any_taken = true })

-- what a walk gives where an item was taken before
abbrev pub taken_before : Bool → Traced Step AllOutcome → Traced Step AllOutcome
taken_before true t = with_one_taken t
taken_before false t = t

-- whether an item was taken by now
abbrev pub is_taken_by : ItemTurn → Bool → Bool
is_taken_by Moved before = true
is_taken_by _ before = before

-- the command ends with an item, and perhaps the game
abbrev pub ends_all : ItemTurn → Bool
ends_all (Ended over) = true
ends_all _ = false

abbrev pub over_in : ItemTurn → Option ℕ
over_in (Ended over) = over
over_in _ = None

-- an item, where there is one, is an item of the database
abbrev pub IsItem : Database → Option ℕ → Type 0
IsItem db item = IfSome item (λ i. i < length db.items)
