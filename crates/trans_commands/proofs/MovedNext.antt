-- One of all items, at its turn.
use Rattle.std.proofs.Common.{◌≡◌, ◌∙◌, arith, ℕ, zero, suc, ◌<◌, ◌≤◌, ℤ, pos, Bool, true, false, List, [], ◌∷◌, ◌++◌, length, drop, codes, Option, Some, None, refl, sym, subst, append-nil}
use Rattle.std.specs.Prelude.{slice_index_or, MatchOption}
use Rattle.std.proofs.lemmas.List.{length-map, map-append}
use Rattle.adv_io.specs.Steps.{Step, Said, Traced, said_steps}
use Rattle.inform_meaning.specs.Worlds.{Program}
use Rattle.inform_logic.specs.Stages.{Stage, said}
use Rattle.inform_logic.specs.Leading.{by_return}
use Rattle.inform_logic.specs.Stopping.{in_block, in_call_alone}
use Rattle.inform_logic.proofs.Values.{local, entry, call, argument, called}
use Rattle.inform_logic.proofs.Conditions.{nonzero}
use Rattle.inform_logic.proofs.Printing.{print_nothing, print_text}
use Rattle.inform_logic.proofs.Statements.{end, next, returns, print, call_alone, if_true, if_false, return_true, return_false}
use Rattle.inform_logic.proofs.Routines.{does_within, routine}
use Rattle.inform_logic.proofs.Stops.{later, handed_up, step_stops, called_stops, routine_stops}
use Rattle.inform_codes.specs.Grown.{body_of}
use Rattle.scott_types.specs.declared.states.State.{State}
use Rattle.scott_types.specs.declared.styles.Style.{Style}
use Rattle.scott_types.specs.declared.parts.Item.{Item}
use Rattle.scott_types.specs.declared.commands.Column.TheVariants.{Nouns}
use Rattle.scott_types.specs.declared.endings.Found.{Found}
use Rattle.scott_types.specs.declared.endings.Found.TheVariants.{NoMatch, Matched, Done, Over}
use Rattle.scott_types.specs.declared.endings.Transfer.{Transfer}
use Rattle.scott_types.specs.declared.endings.Transfer.TheVariants.{PickUp, PutDown}
use Rattle.scott_types.specs.declared.phrases.Phrase.TheVariants.{TooMuch, ItemDone}
use Rattle.scott_types.specs.Phrase.{text_of, text_in}
use Rattle.scott_types.specs.ItemText.{shown}
use Rattle.scott_types.specs.Database.{Database}
use Rattle.scott_types.specs.Style.{in_style}
use Rattle.scott_rules.specs.Words.{entries_of, column_of, which}
use Rattle.scott_rules.specs.Groups.{groups}
use Rattle.scott_rules.specs.Laws.{EntryMatches, IsLeastMatch}
use Rattle.scott_rules.specs.Search.{SearchOutcome, search_result}
use Rattle.scott_rules.specs.Transfer.{verb_for, is_refused, transferred}
use Rattle.trans_specs.specs.Tables.{or_zero, item_word}
use Rattle.trans_specs.specs.Standing.{StandsFor}
use Rattle.trans_specs.specs.Steps.{text_steps}
use Rattle.trans_specs.specs.Calls.{StageLeft, CallLeaves, CallEndsGame, CallSays}
use Rattle.trans_specs.specs.CommandSpecs.{IsNoun, SearchFinds, search_steps, search_room}
use Rattle.trans_specs.proofs.Left.{said_left, left_then}
use Rattle.trans_commands.proofs.Spent.{next_steps}
use Rattle.trans_specs.proofs.Acts.{stops_within}
use Rattle.trans_commands.proofs.Known.{Known}
use Rattle.trans_specs.proofs.Entries.{bit_tells}
use Rattle.trans_commands.proofs.Tabled.{tabled}
use Rattle.trans_commands.proofs.OneItem.{refused, put_stage, put_item, put_left}

-- the element at which the rest begins
item_is : {X : Type 0} (none : X) (xs : List X) (i : ℕ) {x : X} {rest : List X}
    → drop i xs ≡ x ∷ rest → slice_index_or xs i none ≡ x
item_is none [] zero h = cc
item_is none [] (suc i) h = cc
item_is none (y ∷ ys) zero h = cc
item_is none (y ∷ ys) (suc i) h = item_is none ys i h

-- a word names an entry from 1 on, if it names one
is_noun : (db : Database) (word : List ℕ) (o : Option ℕ) → MatchOption o
    ((k : ℕ) → ¬ (EntryMatches db.header.length (entries_of db Nouns) word k))
    (λ answer. IsLeastMatch db.header.length (entries_of db Nouns) word answer) → IsNoun db o
is_noun db word None h = tt
is_noun db word (Some noun) h = (
  omega (arith, h.base.counted),
  omega (arith, h.base.before, h.matches.there, length-map db.words (column_of Nouns)),
)

-- getting and dropping are verbs from 1 on
some_verb : (t : Transfer) → 0 < verb_for t
some_verb PickUp = omega arith
some_verb PutDown = omega arith

-- two texts that were said
twice_left : {db : Database} {s : State} {typed : List ℕ} {w : Stage} (a b : List ℕ)
    → StandsFor db s typed w
    → StageLeft db s typed (said_steps (a ++ b)) w (said b (said a w))
twice_left {db} {s} {typed} {w} a b stands =
    subst (λ steps. StageLeft db s typed steps w (said b (said a w)))
    (sym (map-append Said a b))
    (left_then (said_left a stands) (said_left b (said_left a stands).stands))

-- the lines for an item are searched first, with the command's verb and the item's own noun
abbrev pub item_search : Style → Database → List ℕ → Transfer → Item → State
    → Traced Step SearchOutcome
item_search style db typed t item s = search_result (in_style style db) typed (verb_for t)
    (which db Nouns (item_word item)) (groups db) s

module _ {style : Style} {db : Database} {p : Program} (known : Known style db p) (s : State)
    (typed : List ℕ) (w : Stage) (stands : StandsFor db s typed w) (t : Transfer) (d : ℕ)
    (room : search_room ≤ suc (suc d)) (i : ℕ) (item : Item) (rest : List Item)
    (left : drop i db.items ≡ item ∷ rest) (less : i < length db.items) where
  abbrev sought : Traced Step SearchOutcome
  sought = item_search style db typed t item s

  abbrev searched_values : List ℤ
  searched_values = pos (verb_for t) ∷ pos (or_zero (which db Nouns (item_word item))) ∷ []

  -- where the game goes on: the item is moved, or the hands are full
  abbrev pub NextLeaves : Bool → Type 0
  NextLeaves true = CallLeaves p (suc (suc (suc d))) (codes "move_next")
      (pos (verb_for t) ∷ pos i ∷ []) w (pos 1) db sought.value.state typed
      (sought.events ++ said_steps (text_in style TooMuch)) (next_steps db)
  NextLeaves false = CallLeaves p (suc (suc (suc d))) (codes "move_next")
      (pos (verb_for t) ∷ pos i ∷ []) w (pos 0) db (transferred t i sought.value.state) typed
      (sought.events ++ said_steps (shown item.text ++ text_of ItemDone)) (next_steps db)

  abbrev pub NextActs : Found → Bool → Type 0
  NextActs (Over ending) b = CallEndsGame p (suc (suc (suc d))) (codes "move_next")
      (pos (verb_for t) ∷ pos i ∷ []) w sought.value.state sought.events ending (next_steps db)
  NextActs found b = NextLeaves b

  -- where the search doesn't end the game, `move_next` refuses a get with full hands, and otherwise
  -- moves the item
  after_search : (v : ℤ) → CallLeaves p (suc (suc d)) (codes "search") searched_values w v db
      sought.value.state typed sought.events (search_steps db) → (b : Bool)
      → is_refused t db sought.value.state ≡ b → NextLeaves b
  unfolding body_of
  after_search v searched true is = record {
    after = said (text_in style TooMuch) searched.after;
    does = does_within (omega arith) (routine known.move_next (next (call_alone (argument
        (local refl) (argument (entry (local refl) stands.ready.tables.item_nouns_are
        (tabled _ db.items i left)) (called searched.does))))
        (returns (if_true (nonzero (call (argument (local refl)
        (called (refused known sought.value.state typed searched.after searched.leaves.stands t
        (suc d) (omega (arith, room)))))) (bit_tells (is_refused t db sought.value.state) ∙ is))
        (next (print (print_text print_nothing)) (returns return_true))))) by_return);
    leaves = left_then searched.leaves
        (said_left (text_in style TooMuch) searched.leaves.stands);
  }
  after_search v searched false is =
      let s1 : State = sought.value.state in
      let w1 : Stage = searched.after in
      let stands1 : StandsFor db s1 typed w1 = searched.leaves.stands in
      let says : CallSays p (suc (suc d)) (codes "say_item") (pos i ∷ []) w1 (shown item.text)
      (text_steps db) =
      subst (λ (x : Item). CallSays p (suc (suc d)) (codes "say_item") (pos i ∷ []) w1
      (shown x.text) (text_steps db))
      (item_is (record { text = []; place = 0 }) db.items i left)
      (known.helpers.item_texts i less s1 typed w1 (suc (suc d)) (omega (arith, room)) stands1) in
      let w2 : Stage = said (text_of ItemDone) (said (shown item.text) w1) in
      let twice : StageLeft db s1 typed (said_steps (shown item.text ++ text_of ItemDone)) w1 w2 =
      twice_left (shown item.text) (text_of ItemDone) stands1 in
      record {
        after = put_stage known s1 typed w2 twice.stands t i;
        does = does_within (omega arith) (routine known.move_next (next (call_alone (argument
            (local refl) (argument (entry (local refl) stands.ready.tables.item_nouns_are
            (tabled _ db.items i left)) (called searched.does))))
            (next (if_false (nonzero (call (argument (local refl)
            (called (refused known s1 typed w1 stands1 t (suc d) (omega (arith, room))))))
            (bit_tells (is_refused t db s1) ∙ is)) end)
            (next (call_alone (argument (local refl) (called says.does)))
            (next (print (print_text print_nothing))
            (next (call_alone (argument (local refl) (argument (local refl)
            (called (put_item known s1 typed w2 twice.stands t i (suc d) less)))))
            (returns return_false)))))) by_return);
        leaves = left_then searched.leaves (subst (λ steps.
            StageLeft db (transferred t i s1) typed steps w1
            (put_stage known s1 typed w2 twice.stands t i))
            (append-nil (said_steps (shown item.text ++ text_of ItemDone)))
            (left_then twice (put_left known s1 typed w2 twice.stands t i less)));
      }

  -- `move_next` does what the rules do at the turn of an item, whatever the search for it finds
  pub move_next : (b : Bool) → is_refused t db sought.value.state ≡ b
      → NextActs sought.value.found b
  unfolding body_of
  move_next b is = by sought.value.found (known.searches (verb_for t)
      (which db Nouns (item_word item)) s typed w (suc (suc d)) room (some_verb t)
      (is_noun db (item_word item) (which db Nouns (item_word item))
      (known.laws.least_match db Nouns (item_word item))) stands) where
        by : (found : Found) → SearchFinds found (in_style style db) p (suc (suc d))
            (codes "search") searched_values w typed sought → NextActs found b
        by NoMatch searched = after_search (pos 0) searched b is
        by Matched searched = after_search (pos 1) searched b is
        by Done searched = after_search (pos 2) searched b is
        by (Over ending) searched = record {
          after = searched.after;
          stops = stops_within (omega arith) (routine_stops known.move_next (handed_up in_block
              (step_stops (handed_up in_call_alone (later (λ e s'. argument (local refl))
              (later (λ e s'. argument (entry (local refl) stands.ready.tables.item_nouns_are
              (tabled _ db.items i left))) (called_stops searched.stops)))))));
          shows = searched.shows;
          past_is = searched.past_is;
          over_is = searched.over_is;
        }
