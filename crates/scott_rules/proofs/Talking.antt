-- What only says and tries: neither a line nor a draw is taken in it.
use Rattle.std.proofs.Common.{◌≡◌, ◌+◌, ◌-◌, ℕ, List, [], ◌∷◌, ◌++◌, length, Bool, true, false, cond, eqb, Option, Some, None, refl}
use Rattle.std.specs.Prelude.{◌&&◌}
use Rattle.std.specs.List.{list_all}
use Rattle.adv_io.specs.History.{lines_taken, draws_taken}
use Rattle.scott_types.specs.declared.parts.Item.{Item}
use Rattle.scott_types.specs.declared.states.State.{State}
use Rattle.scott_types.specs.declared.styles.Style.{Style}
use Rattle.scott_types.specs.declared.commands.Heard.{Heard}
use Rattle.scott_types.specs.declared.commands.Heard.TheVariants.{Blank, Unknown, Command}
use Rattle.scott_types.specs.declared.commands.Column.TheVariants.{Nouns}
use Rattle.scott_types.specs.declared.endings.Ran.{Ran}
use Rattle.scott_types.specs.declared.endings.Ran.TheVariants.{Not, Passed, Over as Ended}
use Rattle.scott_types.specs.declared.endings.Found.{Found}
use Rattle.scott_types.specs.declared.endings.Found.TheVariants.{Over, Done, Matched, NoMatch}
use Rattle.scott_types.specs.declared.endings.Transfer.{Transfer}
use Rattle.scott_types.specs.declared.endings.Transfer.TheVariants.{PickUp, PutDown}
use Rattle.scott_types.specs.declared.phrases.Phrase.TheVariants.{TooMuch, ItemDone, DarkGet, BeyondPower, Done as DonePhrase, WhatItem, BrokenNeck, NoExitThere, Moved, DarkMove, NeedDirection, Prompt}
use Rattle.scott_types.specs.Action.{is_zero_action}
use Rattle.scott_types.specs.Style.{Game}
use Rattle.scott_types.specs.Database.{action_at, room_at}
use Rattle.scott_types.specs.Phrase.{text_of, text_in}
use Rattle.scott_types.specs.Room.{exit_of}
use Rattle.scott_types.specs.State.{is_dark}
use Rattle.scott_types.specs.ItemText.{get_word, shown}
use Rattle.adv_io.specs.Steps.{Drew, Noted, Said, Step, Took, Traced, said_steps, trace_of, traced_text}
use Rattle.scott_rules.specs.Progress.{Progress, goes_on, and_then, then_if_on}
use Rattle.scott_rules.specs.Words.{which, root}
use Rattle.scott_rules.specs.Commands.{is_direction, typed_noun, word_at, go_verb, get_verb, drop_verb}
use Rattle.scott_rules.specs.Actions.{note_of, ActionOutcome, action_result, try_action}
use Rattle.scott_rules.specs.Groups.{Group, groups, tail_action, tail_tried, after_head, group_tried}
use Rattle.scott_rules.specs.Search.{SearchOutcome, is_for, search_after, search_group, search_result}
use Rattle.scott_rules.specs.Transfer.{AllOutcome, verb_for, is_taken, is_refused, is_too_dark, is_all, transferred, all_moved, all_after, all_item, all_items, none_taken, all_from, all_transferred, item_named, one_moved, one_from, one_transferred, transfer}
use Rattle.scott_rules.specs.Light.{light_counted}
use Rattle.scott_rules.specs.Rounds.{moved_to, no_way, way, walk_result, not_done, unmatched, by_found, by_actions, going, command_result, turn_ended, by_heard, unknown_word}

abbrev pub is_talk : Step → Bool
is_talk (Said byte) = true
is_talk (Noted line) = true
is_talk (Took line) = false
is_talk (Drew draw) = false

abbrev pub Talks : List Step → Type 0
Talks steps = list_all is_talk steps ≡ true

-- ---- lists of steps

pub Talks-said_steps : (bytes : List ℕ) → Talks (said_steps bytes)
Talks-said_steps [] = refl
Talks-said_steps (byte ∷ bytes) = Talks-said_steps bytes

and-prefix : (b p q : Bool) → b && p ≡ true → (p ≡ true → q ≡ true) → b && q ≡ true
and-prefix true p q h k = k h
and-prefix false p q h k = h

pub Talks-append : (es fs : List Step) → Talks es → Talks fs → Talks (es ++ fs)
Talks-append [] fs h k = k
Talks-append (e ∷ es) fs h k =
    and-prefix (is_talk e) (list_all is_talk es) (list_all is_talk (es ++ fs)) h (λ rest. Talks-append es fs rest k)

pub lines_taken-talk : (es : List Step) → Talks es → lines_taken (trace_of es) ≡ []
lines_taken-talk [] h = refl
lines_taken-talk (Said byte ∷ es) h = lines_taken-talk es h
lines_taken-talk (Noted line ∷ es) h = lines_taken-talk es h
lines_taken-talk (Took line ∷ es) h = cc
lines_taken-talk (Drew draw ∷ es) h = cc

pub draws_taken-talk : (es : List Step) → Talks es → draws_taken (trace_of es) ≡ []
draws_taken-talk [] h = refl
draws_taken-talk (Said byte ∷ es) h = draws_taken-talk es h
draws_taken-talk (Noted line ∷ es) h = draws_taken-talk es h
draws_taken-talk (Took line ∷ es) h = cc
draws_taken-talk (Drew draw ∷ es) h = cc

-- ---- one part after another

-- whatever the state, the next part talks
abbrev AlwaysTalks : {R : Type 0} → (State → Traced Step R) → Type 0
AlwaysTalks next = (s : State) → Talks (next s).events

Talks-cond : {R : Type 0} (b : Bool) (t u : Traced Step R) → Talks t.events → Talks u.events → Talks (cond b t u).events
Talks-cond true t u h k = h
Talks-cond false t u h k = k

Talks-and_then : (t : Traced Step Progress) (next : State → Traced Step Progress) → Talks t.events → AlwaysTalks next → Talks (and_then t next).events
Talks-and_then t next h rest = by_over t.value.over
  where
    by_over : (over : Option ℕ) → Talks (then_if_on over t next).events
    by_over None = Talks-append t.events (next t.value.state).events h (rest t.value.state)
    by_over (Some ending) = h

-- ---- actions and groups

note-talks : (zero : Bool) (line : ℕ) → Talks (cond zero [] (Noted line ∷ []))
note-talks true line = refl
note-talks false line = refl

try_action-talks : (game : Game) (noun : List ℕ) (line : ℕ) (s : State) → Talks (try_action game noun line s).events
try_action-talks game noun line s =
    Talks-append (note_of (action_at game.db line) line) (said_steps (action_result game noun line s).events)
    (note-talks (is_zero_action (action_at game.db line)) line) (Talks-said_steps (action_result game noun line s).events)

tail_tried-talks : (game : Game) (noun lines : List ℕ) → AlwaysTalks (tail_tried game noun lines)
tail_tried-talks game noun [] s = refl
tail_tried-talks game noun (line ∷ lines) s =
    Talks-and_then (tail_action game noun line s) (tail_tried game noun lines) (try_action-talks game noun line s) (tail_tried-talks game noun lines)

after_head-talks : (ran : Ran) (game : Game) (noun tail : List ℕ) (t : Traced Step ActionOutcome) → Talks t.events → Talks (after_head ran game noun tail t).events
after_head-talks (Passed true) game noun tail t h =
    Talks-append t.events (tail_tried game noun tail t.value.state).events h (tail_tried-talks game noun tail t.value.state)
after_head-talks (Passed false) game noun tail t h = h
after_head-talks Not game noun tail t h = h
after_head-talks (Ended ending) game noun tail t h = h

pub group_tried-talks : (game : Game) (noun : List ℕ) (g : Group) (s : State) → Talks (group_tried game noun g s).events
group_tried-talks game noun g s =
    let head = try_action game noun g.head s in
    after_head-talks head.value.ran game noun g.tail head (try_action-talks game noun g.head s)

-- ---- the search

search_after-talks : (ran : Ran) (t : Traced Step ActionOutcome) (next : State → Traced Step SearchOutcome) → Talks t.events → AlwaysTalks next → Talks (search_after ran t next).events
search_after-talks Not t next h rest = Talks-append t.events (next t.value.state).events h (rest t.value.state)
search_after-talks (Passed more) t next h rest = h
search_after-talks (Ended ending) t next h rest = h

search_group-talks : (b : Bool) (game : Game) (typed : List ℕ) (g : Group) (s : State) (next : State → Traced Step SearchOutcome) → AlwaysTalks next → Talks (search_group b game typed g s next).events
search_group-talks true game typed g s next rest =
    let t = group_tried game typed g s in search_after-talks t.value.ran t next (group_tried-talks game typed g s) rest
search_group-talks false game typed g s next rest = rest s

pub search_result-talks : (game : Game) (typed : List ℕ) (verb : ℕ) (noun : Option ℕ) (gs : List Group) → AlwaysTalks (search_result game typed verb noun gs)
search_result-talks game typed verb noun [] s = refl
search_result-talks game typed verb noun (g ∷ gs) s =
    search_group-talks (is_for verb noun g) game typed g s (search_result game typed verb noun gs) (search_result-talks game typed verb noun gs)

-- ---- getting and dropping

all_moved-talks : (b : Bool) (style : Style) (t : Transfer) (i : ℕ) (item : Item) (s : State) (next : State → Traced Step AllOutcome) → AlwaysTalks next → Talks (all_moved b style t i item s next).events
all_moved-talks true style t i item s next rest = Talks-append (said_steps (text_in style TooMuch)) [] (Talks-said_steps (text_in style TooMuch)) refl
all_moved-talks false style t i item s next rest =
    let said = shown item.text ++ text_of ItemDone in
    Talks-append (said_steps said) (next (transferred t i s)).events (Talks-said_steps said) (rest (transferred t i s))

all_after-talks : (found : Found) (t : Transfer) (game : Game) (i : ℕ) (item : Item) (s : State) (next : State → Traced Step AllOutcome) → AlwaysTalks next → Talks (all_after found t game i item s next).events
all_after-talks (Over ending) t game i item s next rest = refl
all_after-talks Done t game i item s next rest = all_moved-talks (is_refused t game.db s) game.style t i item s next rest
all_after-talks Matched t game i item s next rest = all_moved-talks (is_refused t game.db s) game.style t i item s next rest
all_after-talks NoMatch t game i item s next rest = all_moved-talks (is_refused t game.db s) game.style t i item s next rest

all_item-talks : (b : Bool) (t : Transfer) (game : Game) (typed : List ℕ) (i : ℕ) (item : Item) (s : State) (next : State → Traced Step AllOutcome) → AlwaysTalks next → Talks (all_item b t game typed i item s next).events
all_item-talks true t game typed i item s next rest =
    let noun = which game.db Nouns (get_word item.text) in
    let found = search_result game typed (verb_for t) noun (groups game.db) s in
    Talks-append found.events (all_after found.value.found t game i item found.value.state next).events
    (search_result-talks game typed (verb_for t) noun (groups game.db) s)
    (all_after-talks found.value.found t game i item found.value.state next rest)
all_item-talks false t game typed i item s next rest = rest s

all_items-talks : (t : Transfer) (game : Game) (typed : List ℕ) (i : ℕ) (items : List Item) → AlwaysTalks (all_items t game typed i items)
all_items-talks t game typed i [] s = refl
all_items-talks t game typed i (item ∷ items) s =
    all_item-talks (is_taken t i item s) t game typed i item s (all_items t game typed (i + 1) items) (all_items-talks t game typed (i + 1) items)

all_from-talks : (b : Bool) (t : Transfer) (game : Game) (typed : List ℕ) (s : State) → Talks (all_from b t game typed s).events
all_from-talks true t game typed s = Talks-said_steps (text_of DarkGet)
all_from-talks false t game typed s =
    let w = all_items t game typed 0 game.db.items s in
    let said = cond w.value.any_taken [] (none_taken t) in
    Talks-append w.events (said_steps said) (all_items-talks t game typed 0 game.db.items s) (Talks-said_steps said)

one_moved-talks : (style : Style) (t : Transfer) (item : Option ℕ) (s : State) → Talks (one_moved style t item s).events
one_moved-talks style t None s = Talks-said_steps (text_in style BeyondPower)
one_moved-talks style t (Some item) s = Talks-said_steps (text_of DonePhrase)

one_from-talks : (b : Bool) (t : Transfer) (game : Game) (noun : ℕ) (s : State) → Talks (one_from b t game noun s).events
one_from-talks true t game noun s = Talks-said_steps (text_in game.style TooMuch)
one_from-talks false t game noun s = one_moved-talks game.style t (item_named t game.db.header.length (root game.db noun) 0 game.db.items s) s

one_transferred-talks : (t : Transfer) (game : Game) (noun : Option ℕ) (s : State) → Talks (one_transferred t game noun s).events
one_transferred-talks t game None s = Talks-said_steps (text_of WhatItem)
one_transferred-talks t game (Some noun) s = one_from-talks (is_refused t game.db s) t game noun s

transfer-talks : (t : Transfer) (game : Game) (typed : List ℕ) (noun : Option ℕ) (s : State) → Talks (transfer t game typed noun s).events
transfer-talks t game typed noun s =
    Talks-cond (is_all typed) (all_transferred t game typed s) (one_transferred t game noun s)
    (all_from-talks (is_too_dark t s) t game typed s) (one_transferred-talks t game noun s)

-- ---- commands

no_way-talks : (style : Style) (b : Bool) (s : State) → Talks (no_way style b s).events
no_way-talks style true s = Talks-said_steps (text_in style BrokenNeck)
no_way-talks style false s = Talks-said_steps (text_in style NoExitThere)

way-talks : (style : Style) (room : ℕ) (s : State) → Talks (way style room s).events
way-talks style room s =
    Talks-cond (eqb room 0) (no_way style (is_dark s) s) (traced_text (text_of Moved) (goes_on (moved_to room s))) (no_way-talks style (is_dark s) s) (Talks-said_steps (text_of Moved))

walk_result-talks : (game : Game) (noun : ℕ) (s : State) → Talks (walk_result game noun s).events
walk_result-talks game noun s =
    let said = cond (is_dark s) (text_of DarkMove) [] in
    let room = exit_of (length game.db.rooms) (room_at game.db s.room).exits (noun - 1) in
    Talks-append (said_steps said) (way game.style room s).events (Talks-said_steps said) (way-talks game.style room s)

unmatched-talks : (game : Game) (typed : List ℕ) (verb : ℕ) (noun : Option ℕ) (found : Found) (s : State) → Talks (unmatched game typed verb noun found s).events
unmatched-talks game typed verb noun found s =
    let refused = traced_text (not_done game.style found) (goes_on s) in
    let dropped = transfer PutDown game typed noun s in
    Talks-cond (eqb verb get_verb) (transfer PickUp game typed noun s) (cond (eqb verb drop_verb) dropped refused)
    (transfer-talks PickUp game typed noun s)
    (Talks-cond (eqb verb drop_verb) dropped refused (transfer-talks PutDown game typed noun s) (Talks-said_steps (not_done game.style found)))

by_found-talks : (found : Found) (game : Game) (typed : List ℕ) (verb : ℕ) (noun : Option ℕ) (s : State) → Talks (by_found found game typed verb noun s).events
by_found-talks (Over ending) game typed verb noun s = refl
by_found-talks Done game typed verb noun s = refl
by_found-talks Matched game typed verb noun s = unmatched-talks game typed verb noun Matched s
by_found-talks NoMatch game typed verb noun s = unmatched-talks game typed verb noun NoMatch s

by_actions-talks : (game : Game) (typed : List ℕ) (verb : ℕ) (noun : Option ℕ) (s : State) → Talks (by_actions game typed verb noun s).events
by_actions-talks game typed verb noun s =
    let t = search_result game typed verb noun (groups game.db) s in
    Talks-append t.events (by_found t.value.found game typed verb noun t.value.state).events
    (search_result-talks game typed verb noun (groups game.db) s) (by_found-talks t.value.found game typed verb noun t.value.state)

going-talks : (game : Game) (typed : List ℕ) (noun : Option ℕ) (s : State) → Talks (going game typed noun s).events
going-talks game typed None s = Talks-said_steps (text_of NeedDirection)
going-talks game typed (Some noun) s =
    Talks-cond (is_direction noun) (walk_result game noun s) (by_actions game typed go_verb (Some noun) s) (walk_result-talks game noun s) (by_actions-talks game typed go_verb (Some noun) s)

command_result-talks : (game : Game) (typed : List ℕ) (verb : ℕ) (noun : Option ℕ) (s : State) → Talks (command_result game typed verb noun s).events
command_result-talks game typed verb noun s =
    Talks-cond (eqb verb go_verb) (going game typed noun s) (by_actions game typed verb noun s) (going-talks game typed noun s) (by_actions-talks game typed verb noun s)

turn_ended-talks : (style : Style) (over : Option ℕ) (s : State) → Talks (turn_ended style over s).events
turn_ended-talks style None s = Talks-said_steps (light_counted style s).events
turn_ended-talks style (Some ending) s = refl

pub by_heard-talks : (h : Heard) (game : Game) (line : List ℕ) (s : State) → Talks (by_heard h game line s).events
by_heard-talks Blank game line s = Talks-said_steps ([] ++ text_of Prompt)
by_heard-talks (Unknown start size) game line s = Talks-said_steps (unknown_word (word_at line (start, size)) ++ text_of Prompt)
by_heard-talks (Command verb noun) game line s =
    let t = command_result game (typed_noun line) verb noun s in
    Talks-append t.events (turn_ended game.style t.value.over t.value.state).events (command_result-talks game (typed_noun line) verb noun s) (turn_ended-talks game.style t.value.over t.value.state)
