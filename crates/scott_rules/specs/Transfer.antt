-- Getting and dropping, one item or all.
use Rattle.std.specs.Prelude.{ℕ, ◌+◌, ◌&&◌, Bool, true, false, not, List, [], ◌∷◌, ◌++◌, codes, bytes_eq, Option, Some, None, if◌then◌else◌}
use Rattle.scott_types.specs.declared.parts.Item.{Item}
use Rattle.scott_types.specs.declared.states.State.{State}
use Rattle.scott_types.specs.declared.styles.Style.{Style}
use Rattle.scott_types.specs.declared.commands.Column.TheVariants.{Nouns}
use Rattle.scott_types.specs.declared.endings.Found.{Found}
use Rattle.scott_types.specs.declared.endings.Found.TheVariants.{Over}
use Rattle.scott_types.specs.declared.endings.Transfer.{Transfer}
use Rattle.scott_types.specs.declared.endings.Transfer.TheVariants.{PickUp, PutDown}
use Rattle.scott_types.specs.declared.phrases.Phrase.TheVariants.{TooMuch, DarkGet, ItemDone, NothingTaken, NothingDropped, WhatItem, Done as DonePhrase, BeyondPower}
use Rattle.scott_types.specs.Database.{Database}
use Rattle.scott_types.specs.ItemText.{shown, get_word}
use Rattle.scott_types.specs.Phrase.{text_of, text_in}
use Rattle.scott_types.specs.Style.{Game}
use Rattle.scott_types.specs.State.{is_here, is_carried, is_dark, carried_place, with_place}
use Rattle.adv_io.specs.Steps.{Step, Traced, after, said_steps, traced, traced_text}
use Rattle.scott_rules.specs.Progress.{Progress, goes_on}
use Rattle.scott_rules.specs.Words.{is_empty, is_typed, which, root}
use Rattle.scott_rules.specs.Commands.{get_verb, drop_verb}
use Rattle.scott_rules.specs.Opcodes.{is_full, redrawn}
use Rattle.scott_rules.specs.Groups.{groups}
use Rattle.scott_rules.specs.Search.{search_result}

-- ---- what getting and dropping share

abbrev pub verb_for : Transfer → ℕ
verb_for PickUp = get_verb
verb_for PutDown = drop_verb

-- what is here can be picked up, and what is carried can be put down
abbrev pub is_at_hand : Transfer → State → ℕ → Bool
is_at_hand PickUp s item = is_here s item
is_at_hand PutDown s item = is_carried s item

abbrev pub destination : Transfer → State → ℕ
destination PickUp s = carried_place
destination PutDown s = s.room

-- the item goes there, and the room is described again
abbrev pub transferred : Transfer → ℕ → State → State
transferred t item s = redrawn (with_place s item (destination t s))

-- no more can be picked up
abbrev pub is_refused : Transfer → Database → State → Bool
is_refused PickUp db s = is_full db s
is_refused PutDown db s = false

-- ---- all

-- where a walk over the items stands, and whether an item was taken
pub record AllOutcome : Type 0 where
  pub state : State
  pub over : Option ℕ
  pub any_taken : Bool

-- an item is taken where it is at hand, at its turn, and has a word by which it is taken
abbrev pub is_taken : Transfer → ℕ → Item → State → Bool
is_taken t i item s = is_at_hand t s i && not (is_empty (get_word item.text))

abbrev pub all_result : State → Option ℕ → Traced Step AllOutcome
all_result s over = traced [] (record { state = s; over = over; any_taken = true })

abbrev pub with_one_taken : Traced Step AllOutcome → Traced Step AllOutcome
with_one_taken t =
    traced t.events (record { state = t.value.state; over = t.value.over; any_taken = true })

-- the item is transferred, or the command ends with a refusal
abbrev pub all_moved : Bool → Style → Transfer → ℕ → Item → State → (State → Traced Step AllOutcome)
    → Traced Step AllOutcome
all_moved true style t i item s next =
    after (said_steps (text_in style TooMuch)) (all_result s None)
all_moved false style t i item s next =
    after (said_steps (shown item.text ++ text_of ItemDone))
    (with_one_taken (next (transferred t i s)))

-- only an ending of the item's lines counts
abbrev pub all_after : Found → Transfer → Game → ℕ → Item → State → (State → Traced Step AllOutcome)
    → Traced Step AllOutcome
all_after (Over ending) t game i item s next = all_result s (Some ending)
all_after _ t game i item s next = all_moved (is_refused t game.db s) game.style t i item s next

-- first the lines for the item are searched, with the command's verb and the item's own noun
abbrev pub all_item : Bool → Transfer → Game → List ℕ → ℕ → Item → State
    → (State → Traced Step AllOutcome) → Traced Step AllOutcome
all_item true t game typed i item s next =
    let found = search_result game typed (verb_for t) (which game.db Nouns (get_word item.text))
    (groups game.db) s in
    after found.events (all_after found.value.found t game i item found.value.state next)
all_item false t game typed i item s next = next s

-- the items in order, numbered from i on
abbrev pub all_items : Transfer → Game → List ℕ → ℕ → List Item → State → Traced Step AllOutcome
all_items t game typed i [] s = traced [] (record { state = s; over = None; any_taken = false })
all_items t game typed i (item ∷ items) s =
    all_item (is_taken t i item s) t game typed i item s (all_items t game typed (i + 1) items)

abbrev pub none_taken : Transfer → List ℕ
none_taken PickUp = text_of NothingTaken
none_taken PutDown = text_of NothingDropped

abbrev pub all_said : Transfer → Traced Step AllOutcome → Traced Step Progress
all_said t w =
    traced (w.events ++ said_steps (if w.value.any_taken then [] else none_taken t))
    (record { state = w.value.state; over = w.value.over })

-- getting all needs light
abbrev pub is_too_dark : Transfer → State → Bool
is_too_dark PickUp s = is_dark s
is_too_dark PutDown s = false

abbrev pub all_from : Bool → Transfer → Game → List ℕ → State → Traced Step Progress
all_from true t game typed s = traced_text (text_of DarkGet) (goes_on s)
all_from false t game typed s = all_said t (all_items t game typed 0 game.db.items s)

abbrev pub all_transferred : Transfer → Game → List ℕ → State → Traced Step Progress
all_transferred t game typed s = all_from (is_too_dark t s) t game typed s

-- ---- one

-- the least item, numbered from i on, that is at hand and whose word matches; an empty word matches
-- none
abbrev pub item_named : Transfer → ℕ → List ℕ → ℕ → List Item → State → Option ℕ
item_named t size word i [] s = None
item_named t size word i (item ∷ items) s =
    if is_at_hand t s i && (not (is_empty word) && is_typed size (get_word item.text) word)
    then Some i else
    item_named t size word (i + 1) items s

abbrev pub one_moved : Style → Transfer → Option ℕ → State → Traced Step Progress
one_moved style t None s = traced_text (text_in style BeyondPower) (goes_on s)
one_moved style t (Some item) s = traced_text (text_of DonePhrase) (goes_on (transferred t item s))

abbrev pub one_from : Bool → Transfer → Game → ℕ → State → Traced Step Progress
one_from true t game noun s = traced_text (text_in game.style TooMuch) (goes_on s)
one_from false t game noun s =
    one_moved game.style t
    (item_named t game.db.header.length (root game.db noun) 0 game.db.items s) s

abbrev pub one_transferred : Transfer → Game → Option ℕ → State → Traced Step Progress
one_transferred t game None s = traced_text (text_of WhatItem) (goes_on s)
one_transferred t game (Some noun) s = one_from (is_refused t game.db s) t game noun s

-- ---- which is meant

abbrev pub is_all : List ℕ → Bool
is_all typed = bytes_eq typed (codes "all")

abbrev pub transfer : Transfer → Game → List ℕ → Option ℕ → State → Traced Step Progress
transfer t game typed noun s =
    if is_all typed then all_transferred t game typed s else one_transferred t game noun s
