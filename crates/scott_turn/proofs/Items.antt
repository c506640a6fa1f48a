-- The walk over the items, turn by turn.
use Rattle.std.specs.Prelude.{◌&&◌, not}
use Rattle.std.proofs.Common.{◌≡◌, ◌∙◌, ℕ, suc, ◌+◌, ◌<◌, ◌≤◌, get_or, cond, Bool, true, false, List, [], ◌∷◌, ◌++◌, length, drop, Some, None, refl, sym, ap, add-one, drop-cons}
use Rattle.std.proofs.lemmas.List.{append-nil, drop_all}
use Rattle.scott_types.specs.declared.parts.Item.{Item}
use Rattle.scott_types.specs.declared.states.State.{State}
use Rattle.scott_types.specs.declared.styles.Style.{Style}
use Rattle.scott_types.specs.declared.phrases.Phrase.TheVariants.{TooMuch}
use Rattle.scott_types.specs.declared.endings.Found.{Found}
use Rattle.scott_types.specs.declared.endings.Found.TheVariants.{Over, Done as DoneThere, Matched, NoMatch}
use Rattle.scott_types.specs.declared.endings.Transfer.{Transfer}
use Rattle.scott_types.specs.declared.commands.Column.TheVariants.{Nouns}
use Rattle.scott_types.specs.ItemText.{get_word}
use Rattle.scott_types.specs.Style.{Game}
use Rattle.scott_types.specs.Database.{Database, item_at}
use Rattle.scott_types.specs.Phrase.{text_in}
use Rattle.adv_io.specs.Steps.{Step, Traced, after, said_steps, traced}
use Rattle.scott_rules.specs.Progress.{Progress}
use Rattle.scott_rules.specs.Words.{is_empty, is_typed, which}
use Rattle.scott_rules.specs.Groups.{groups}
use Rattle.scott_rules.specs.Search.{SearchOutcome, search_result}
use Rattle.scott_rules.specs.Transfer.{verb_for, is_at_hand, item_named, AllOutcome, is_taken, is_refused, with_one_taken, all_moved, all_after, all_item, all_items}
use Rattle.scott_turn.specs.declared.item_turns.ItemTurn.{ItemTurn}
use Rattle.scott_turn.specs.declared.item_turns.ItemTurn.TheVariants.{Passed, Moved, Ended}
use Rattle.scott_turn.specs.ItemTurns.{ItemTurnOutcome, moved_or_not, ending_in, item_actions, after_actions, item_turn, by_item_turn, taken_before, is_taken_by, ends_all, over_in}
use Rattle.adv_io.proofs.Along.{after-after}

abbrev pub outcome_of_search : SearchOutcome → Progress
outcome_of_search o = record { state = o.state; over = ending_in o.found }

-- the items from one on begin with it
items_from : (db : Database) (i : ℕ) → i < length db.items → drop i db.items ≡ item_at db i ∷ drop (i + 1) db.items
items_from db i there = drop-cons db.items i (record { text = []; place = 0 }) there ∙ ap (λ n. item_at db i ∷ drop n db.items) (sym (add-one i))

all_moved-turn : (refused : Bool) (style : Style) (t : Transfer) (i : ℕ) (item : Item) (s : State) (next : State → Traced Step AllOutcome)
    → all_moved refused style t i item s next ≡ by_item_turn (moved_or_not refused style t i item s).value.item_turn (moved_or_not refused style t i item s) next
all_moved-turn true style t i item s next = ap (λ es. traced es (record { state = s; over = None; any_taken = true })) (append-nil (said_steps (text_in style TooMuch)))
all_moved-turn false style t i item s next = refl

all_after-turn : (found : Found) (t : Transfer) (game : Game) (i : ℕ) (item : Item) (s : State) (next : State → Traced Step AllOutcome)
    → all_after found t game i item s next ≡ by_item_turn (after_actions (ending_in found) t game i item s).value.item_turn (after_actions (ending_in found) t game i item s) next
all_after-turn (Over ending) t game i item s next = refl
all_after-turn DoneThere t game i item s next = all_moved-turn (is_refused t game.db s) game.style t i item s next
all_after-turn Matched t game i item s next = all_moved-turn (is_refused t game.db s) game.style t i item s next
all_after-turn NoMatch t game i item s next = all_moved-turn (is_refused t game.db s) game.style t i item s next

by_item_turn-after : (m : ItemTurn) (es : List Step) (t : Traced Step ItemTurnOutcome) (next : State → Traced Step AllOutcome) → after es (by_item_turn m t next) ≡ by_item_turn m (after es t) next
by_item_turn-after Passed es t next = after-after es t.events (next t.value.state)
by_item_turn-after Moved es t next = after-after es t.events (with_one_taken (next t.value.state))
by_item_turn-after (Ended over) es t next = refl

all_item-turn : (any_taken : Bool) (t : Transfer) (game : Game) (typed : List ℕ) (i : ℕ) (item : Item) (s : State) (next : State → Traced Step AllOutcome)
    → all_item any_taken t game typed i item s next ≡ by_item_turn (item_turn any_taken t game typed i item s).value.item_turn (item_turn any_taken t game typed i item s) next
all_item-turn true t game typed i item s next =
    let lines = item_actions t game typed item s in
    let later = after_actions lines.value.over t game i item lines.value.state in
    ap (after lines.events) (all_after-turn (search_result game typed (verb_for t) (which game.db Nouns (get_word item.text)) (groups game.db) s).value.found t game i item lines.value.state next)
    ∙ by_item_turn-after later.value.item_turn lines.events later next
all_item-turn false t game typed i item s next = refl

taken_before-on : (m : ItemTurn) (before : Bool) (t : Traced Step ItemTurnOutcome) (next : State → Traced Step AllOutcome) → ends_all m ≡ false
    → taken_before before (by_item_turn m t next) ≡ after t.events (taken_before (is_taken_by m before) (next t.value.state))
taken_before-on Passed false t next on = refl
taken_before-on Passed true t next on = refl
taken_before-on Moved false t next on = refl
taken_before-on Moved true t next on = refl
taken_before-on (Ended over) before t next on = absurd cc

taken_before-end : (m : ItemTurn) (before : Bool) (t : Traced Step ItemTurnOutcome) (next : State → Traced Step AllOutcome) → ends_all m ≡ true
    → taken_before before (by_item_turn m t next) ≡ traced t.events (record { state = t.value.state; over = over_in m; any_taken = true })
taken_before-end Passed before t next ends = absurd cc
taken_before-end Moved before t next ends = absurd cc
taken_before-end (Ended over) false t next ends = refl
taken_before-end (Ended over) true t next ends = refl

taken_before-events : (before : Bool) (t : Traced Step AllOutcome) → (taken_before before t).events ≡ t.events
taken_before-events true t = refl
taken_before-events false t = refl

-- what comes after a turn's own steps
abbrev pub after_item_turn : ItemTurn → Traced Step ItemTurnOutcome → (State → Traced Step AllOutcome) → List Step
after_item_turn (Ended over) t next = []
after_item_turn _ t next = (next t.value.state).events

by_item_turn-prefix : (m : ItemTurn) (t : Traced Step ItemTurnOutcome) (next : State → Traced Step AllOutcome) → (by_item_turn m t next).events ≡ t.events ++ after_item_turn m t next
by_item_turn-prefix Passed t next = refl
by_item_turn-prefix Moved t next = refl
by_item_turn-prefix (Ended over) t next = sym (append-nil t.events)

-- an item's turn
abbrev pub turn_of : Transfer → Game → List ℕ → ℕ → State → Traced Step ItemTurnOutcome
turn_of t game typed i s = item_turn (is_taken t i (item_at game.db i) s) t game typed i (item_at game.db i) s

module _ (t : Transfer) (game : Game) (typed : List ℕ) (i : ℕ) (s : State) (there : i < length game.db.items) where
  all_items-turn : all_items t game typed i (drop i game.db.items) s ≡ by_item_turn (turn_of t game typed i s).value.item_turn (turn_of t game typed i s) (all_items t game typed (i + 1) (drop (i + 1) game.db.items))
  all_items-turn =
      ap (λ items. all_items t game typed i items s) (items_from game.db i there)
      ∙ all_item-turn (is_taken t i (item_at game.db i) s) t game typed i (item_at game.db i) s (all_items t game typed (i + 1) (drop (i + 1) game.db.items))

  module _ (found : ItemTurn) (before : Bool) (state : State) (is : (turn_of t game typed i s).value ≡ record { state = state; item_turn = found }) where
    begin : taken_before before (all_items t game typed i (drop i game.db.items) s) ≡ taken_before before (by_item_turn found (turn_of t game typed i s) (all_items t game typed (i + 1) (drop (i + 1) game.db.items)))
    begin = ap (taken_before before) (all_items-turn ∙ ap (λ v. by_item_turn v.item_turn (turn_of t game typed i s) (all_items t game typed (i + 1) (drop (i + 1) game.db.items))) is)

    -- after a turn that doesn't end the command come the other items
    pub all_items-on : ends_all found ≡ false → taken_before before (all_items t game typed i (drop i game.db.items) s)
        ≡ after (turn_of t game typed i s).events (taken_before (is_taken_by found before) (all_items t game typed (i + 1) (drop (i + 1) game.db.items) state))
    all_items-on on =
        begin
        ∙ taken_before-on found before (turn_of t game typed i s) (all_items t game typed (i + 1) (drop (i + 1) game.db.items)) on
        ∙ ap (λ v. after (turn_of t game typed i s).events (taken_before (is_taken_by found before) (all_items t game typed (i + 1) (drop (i + 1) game.db.items) v.state))) is

    -- a turn that ends it is the whole of what is left
    pub all_items-end : ends_all found ≡ true → taken_before before (all_items t game typed i (drop i game.db.items) s)
        ≡ traced (turn_of t game typed i s).events (record { state = state; over = over_in found; any_taken = true })
    all_items-end ends =
        begin
        ∙ taken_before-end found before (turn_of t game typed i s) (all_items t game typed (i + 1) (drop (i + 1) game.db.items)) ends
        ∙ ap (λ v. traced (turn_of t game typed i s).events (record { state = v.state; over = over_in found; any_taken = true })) is

  -- the walk begins with its first turn
  pub all_items-prefix : (before : Bool) → (taken_before before (all_items t game typed i (drop i game.db.items) s)).events
      ≡ (turn_of t game typed i s).events ++ after_item_turn (turn_of t game typed i s).value.item_turn (turn_of t game typed i s) (all_items t game typed (i + 1) (drop (i + 1) game.db.items))
  all_items-prefix before =
      taken_before-events before (all_items t game typed i (drop i game.db.items) s)
      ∙ ap (λ w. w.events) all_items-turn
      ∙ by_item_turn-prefix (turn_of t game typed i s).value.item_turn (turn_of t game typed i s) (all_items t game typed (i + 1) (drop (i + 1) game.db.items))

-- after the last item nothing is left
taken_before-none : (before : Bool) (t : Transfer) (game : Game) (typed : List ℕ) (i : ℕ) (s : State)
    → taken_before before (all_items t game typed i [] s) ≡ traced [] (record { state = s; over = None; any_taken = before })
taken_before-none true t game typed i s = refl
taken_before-none false t game typed i s = refl

pub all_items-none : (t : Transfer) (game : Game) (typed : List ℕ) (i : ℕ) (s : State) → length game.db.items ≤ i → (before : Bool)
    → taken_before before (all_items t game typed i (drop i game.db.items) s) ≡ traced [] (record { state = s; over = None; any_taken = before })
all_items-none t game typed i s past before =
    ap (λ items. taken_before before (all_items t game typed i items s)) (drop_all i game.db.items past)
    ∙ taken_before-none before t game typed i s

-- an item's lines leave what their search leaves
pub lines-left : (o : SearchOutcome) (state : State) (found : Found) → o ≡ record { state = state; found = found } → outcome_of_search o ≡ record { state = state; over = ending_in found }
lines-left o state found is = ap outcome_of_search is

-- ---- one item

-- the least item from one on is that one where it is named
pub item_named-at : (t : Transfer) (size : ℕ) (word : List ℕ) (i : ℕ) (items : List Item) (s : State) (item : Item) (named : Bool) → i < length items → item ≡ get_or items i item
    → named ≡ (is_at_hand t s i && (not (is_empty word) && is_typed size (get_word item.text) word))
    → item_named t size word i (drop i items) s ≡ cond named (Some i) (item_named t size word (i + 1) (drop (i + 1) items) s)
item_named-at t size word i items s item named there is test =
    ap (λ rest. item_named t size word i rest s) (drop-cons items i item there ∙ ap (λ x. x ∷ drop (suc i) items) (sym is) ∙ ap (λ n. item ∷ drop n items) (sym (add-one i)))
    ∙ ap (λ b. cond b (Some i) (item_named t size word (i + 1) (drop (i + 1) items) s)) (sym test)
