-- A game ends with 1, 2 or 3.
use Rattle.std.proofs.Common.{ℕ, ◌-◌, ◌+◌, ◌==◌, Bool, true, false, List, [], ◌∷◌, drop, map, length, nat_le, Option, Some, None, IfSome, arith}
use Rattle.std.proofs.lemmas.Bool.{cond_both}
use Rattle.scott_types.specs.declared.states.State.{State}
use Rattle.scott_types.specs.declared.styles.Style.{Style}
use Rattle.scott_types.specs.declared.parts.Action.{Action}
use Rattle.scott_types.specs.declared.parts.Item.{Item}
use Rattle.scott_types.specs.declared.opcodes.Opcode.{Opcode}
use Rattle.scott_types.specs.declared.opcodes.Opcode.TheVariants.{Score, Finish}
use Rattle.scott_types.specs.declared.commands.Column.TheVariants.{Nouns}
use Rattle.scott_types.specs.declared.commands.Heard.{Heard}
use Rattle.scott_types.specs.declared.commands.Heard.TheVariants.{Blank, Unknown, Command}
use Rattle.scott_types.specs.declared.endings.Ran.{Ran}
use Rattle.scott_types.specs.declared.endings.Ran.TheVariants.{Not, Passed, Over as Ended}
use Rattle.scott_types.specs.declared.endings.Halt.{Halt}
use Rattle.scott_types.specs.declared.endings.Halt.TheVariants.{Through, Waits, Over as AtEnd}
use Rattle.scott_types.specs.declared.endings.Found.{Found}
use Rattle.scott_types.specs.declared.endings.Found.TheVariants.{NoMatch, Matched, Done, Over as FoundOver}
use Rattle.scott_types.specs.declared.endings.Transfer.{Transfer}
use Rattle.scott_types.specs.declared.endings.Transfer.TheVariants.{PickUp, PutDown}
use Rattle.scott_types.specs.declared.endings.Position.{Position}
use Rattle.scott_types.specs.declared.endings.Position.TheVariants.{Fresh, Draw, Line, Over}
use Rattle.scott_types.specs.Action.{opcode_numbers, parameters, verb_of, noun_of}
use Rattle.scott_types.specs.Style.{Game}
use Rattle.scott_types.specs.Database.{Database, room_at, action_at}
use Rattle.scott_types.specs.ItemText.{get_word}
use Rattle.scott_types.specs.Opcode.{opcode_of}
use Rattle.scott_types.specs.Room.{exit_of}
use Rattle.scott_types.specs.State.{is_dark}
use Rattle.adv_io.specs.Steps.{Step, Traced}
use Rattle.scott_rules.specs.Progress.{Progress, then_if_on}
use Rattle.scott_rules.specs.Looking.{all_stored}
use Rattle.scott_rules.specs.Words.{which, root}
use Rattle.scott_rules.specs.Commands.{heard, typed_noun, is_direction, go_verb, get_verb, drop_verb}
use Rattle.scott_rules.specs.Opcodes.{by_opcode, by_fall, by_score, ending, op, run_opcodes, takes}
use Rattle.scott_rules.specs.Actions.{ActionOutcome, ran_of, goes_on_after, passes, performed, try_action}
use Rattle.scott_rules.specs.Groups.{Group, AutoOutcome, over_of, passed_or_over, tail_action, tail_tried, after_head, group_tried, groups, groups_from, auto_after, auto_tried, auto_drawn, auto_group, automatic}
use Rattle.scott_rules.specs.Search.{SearchOutcome, is_for, at_least_matched, search_after, search_group, search_result}
use Rattle.scott_rules.specs.Transfer.{AllOutcome, verb_for, transferred, is_refused, is_taken, all_moved, all_after, all_item, all_items, is_too_dark, all_from, item_named, one_moved, one_from, one_transferred, is_all, transfer}
use Rattle.scott_rules.specs.Rounds.{RoundEnd, unmarked, prompted, advance, no_way, walk_result, unmatched, by_found, by_actions, going, command_result, turn_ended, by_heard, answer}
use Rattle.scott_rules.specs.Play.{PlayEnd, with_line, go}
use Rattle.scott_rules.specs.Laws.{IsEnding, EndsWell}

-- over by an ending that there is, or not over
abbrev Known : Option ℕ → Type 0
Known over = IfSome over IsEnding

-- the steps say so, at each level
abbrev OutcomeKnown : {E : Type 0} → Traced E Progress → Type 0
OutcomeKnown t = Known t.value.over

abbrev RanKnown : Ran → Type 0
RanKnown ran = Known (over_of ran)

abbrev FoundKnown : Found → Type 0
FoundKnown (FoundOver ending) = IsEnding ending
FoundKnown _ = Unit

abbrev HaltKnown : Halt → Type 0
HaltKnown (AtEnd ending) = IsEnding ending
HaltKnown _ = Unit

-- ---- the three

by_opcode-known : IsEnding by_opcode
by_opcode-known = (omega arith, omega arith)

by_fall-known : IsEnding by_fall
by_fall-known = (omega arith, omega arith)

by_score-known : IsEnding by_score
by_score-known = (omega arith, omega arith)

-- ---- opcodes and lines

ending-known : (db : Database) (opcode : Opcode) (s : State) → Known (ending db opcode s)
ending-known db Score s = cond_both (all_stored db s) _ _ Known (λ _. by_score-known) (λ _. tt)
ending-known db Finish s = by_opcode-known
ending-known db _ s = tt

then_if_on-known : {E : Type 0} (over : Option ℕ) (t : Traced E Progress) (next : State → Traced E Progress)
    → OutcomeKnown t → ((r : State) → OutcomeKnown (next r)) → OutcomeKnown (then_if_on over t next)
then_if_on-known None t next here rest = rest t.value.state
then_if_on-known (Some ending) t next here rest = here

run_opcodes-known : (game : Game) (noun : List ℕ) (opcodes : List Opcode) (params : List ℕ) (s : State) → OutcomeKnown (run_opcodes game noun opcodes params s)
run_opcodes-known game noun [] params s = tt
run_opcodes-known game noun (opcode ∷ opcodes) params s =
    let t = op game noun opcode params s in
    let rest = drop (takes game.db s opcode) params in
    then_if_on-known t.value.over t (run_opcodes game noun opcodes rest) (ending-known game.db opcode t.value.state) (run_opcodes-known game noun opcodes rest)

ran_of-known : (over : Option ℕ) (more : Bool) → Known over → RanKnown (ran_of over more)
ran_of-known None more known = tt
ran_of-known (Some ending) more known = known

performed-known : (pass : Bool) (game : Game) (noun : List ℕ) (a : Action) (s : State) → RanKnown (performed pass game noun a s).value.ran
performed-known true game noun a s =
    let opcodes = map opcode_of (opcode_numbers a) in
    ran_of-known (run_opcodes game noun opcodes (parameters a) s).value.over (goes_on_after a) (run_opcodes-known game noun opcodes (parameters a) s)
performed-known false game noun a s = tt

try_action-known : (game : Game) (noun : List ℕ) (line : ℕ) (s : State) → RanKnown (try_action game noun line s).value.ran
try_action-known game noun line s = performed-known (passes game.db s (action_at game.db line)) game noun (action_at game.db line) s

-- ---- groups

tail_tried-known : (game : Game) (noun lines : List ℕ) (s : State) → OutcomeKnown (tail_tried game noun lines s)
tail_tried-known game noun [] s = tt
tail_tried-known game noun (line ∷ lines) s =
    let t = tail_action game noun line s in
    then_if_on-known t.value.over t (tail_tried game noun lines) (try_action-known game noun line s) (tail_tried-known game noun lines)

passed_or_over-known : (over : Option ℕ) → Known over → RanKnown (passed_or_over over)
passed_or_over-known None known = tt
passed_or_over-known (Some ending) known = known

after_head-known : (ran : Ran) (game : Game) (noun tail : List ℕ) (t : Traced Step ActionOutcome)
    → RanKnown t.value.ran → RanKnown (after_head ran game noun tail t).value.ran
after_head-known (Passed true) game noun tail t known =
    passed_or_over-known (tail_tried game noun tail t.value.state).value.over (tail_tried-known game noun tail t.value.state)
after_head-known _ game noun tail t known = known

group_tried-known : (game : Game) (noun : List ℕ) (g : Group) (s : State) → RanKnown (group_tried game noun g s).value.ran
group_tried-known game noun g s =
    let head = try_action game noun g.head s in
    after_head-known head.value.ran game noun g.tail head (try_action-known game noun g.head s)

-- ---- the automatic step

abbrev AutoKnown : (State → List ℕ → Traced Step AutoOutcome) → Type 0
AutoKnown next = (r : State) (draws : List ℕ) → HaltKnown (next r draws).value.halt

auto_after-known : (over : Option ℕ) (t : Traced Step ActionOutcome) (draws : List ℕ) (next : State → List ℕ → Traced Step AutoOutcome)
    → Known over → AutoKnown next → HaltKnown (auto_after over t draws next).value.halt
auto_after-known None t draws next known rest = rest t.value.state draws
auto_after-known (Some ending) t draws next known rest = known

auto_tried-known : (drawn : Bool) (game : Game) (g : Group) (s : State) (draws : List ℕ) (next : State → List ℕ → Traced Step AutoOutcome)
    → AutoKnown next → HaltKnown (auto_tried drawn game g s draws next).value.halt
auto_tried-known true game g s draws next rest =
    let t = group_tried game [] g s in auto_after-known (over_of t.value.ran) t draws next (group_tried-known game [] g s) rest
auto_tried-known false game g s draws next rest = rest s draws

auto_drawn-known : (game : Game) (g : Group) (s : State) (draws : List ℕ) (next : State → List ℕ → Traced Step AutoOutcome)
    → AutoKnown next → HaltKnown (auto_drawn game g s draws next).value.halt
auto_drawn-known game g s [] next rest = tt
auto_drawn-known game g s (draw ∷ draws) next rest = auto_tried-known (nat_le draw (noun_of g.vocab)) game g s draws next rest

auto_group-known : (is_automatic : Bool) (game : Game) (g : Group) (s : State) (draws : List ℕ) (next : State → List ℕ → Traced Step AutoOutcome)
    → AutoKnown next → HaltKnown (auto_group is_automatic game g s draws next).value.halt
auto_group-known true game g s draws next rest = auto_drawn-known game g s draws next rest
auto_group-known false game g s draws next rest = rest s draws

automatic-known : (game : Game) (gs : List Group) → AutoKnown (automatic game gs)
automatic-known game [] s draws = tt
automatic-known game (g ∷ gs) s draws =
    auto_group-known (verb_of g.vocab == 0) game g s draws (automatic game gs) (automatic-known game gs)

prompted-known : (halt : Halt) (game : Game) (s : State) (draws : List ℕ) → HaltKnown halt → EndsWell (prompted halt game s draws).value.position
prompted-known Through game s draws known = tt
prompted-known (Waits head) game s draws known = tt
prompted-known (AtEnd ending) game s draws known = known

-- everything up to the prompt
pub advance-known : (game : Game) (position : Position) (s : State) (draws : List ℕ)
    → EndsWell position → EndsWell (advance game position s draws).value.position
advance-known game Fresh s draws known =
    let t = automatic game (groups game.db) (unmarked s) draws in
    prompted-known t.value.halt game t.value.state t.value.draws (automatic-known game (groups game.db) (unmarked s) draws)
advance-known game (Draw head) s draws known =
    let t = automatic game (groups_from game.db head) s draws in
    prompted-known t.value.halt game t.value.state t.value.draws (automatic-known game (groups_from game.db head) s draws)
advance-known game Line s draws known = tt
advance-known game (Over ending) s draws known = known

-- ---- the search

abbrev SearchKnown : (State → Traced Step SearchOutcome) → Type 0
SearchKnown next = (r : State) → FoundKnown (next r).value.found

at_least_matched-known : (found : Found) → FoundKnown found → FoundKnown (at_least_matched found)
at_least_matched-known NoMatch known = tt
at_least_matched-known Matched known = tt
at_least_matched-known Done known = tt
at_least_matched-known (FoundOver ending) known = known

search_after-known : (ran : Ran) (t : Traced Step ActionOutcome) (next : State → Traced Step SearchOutcome)
    → RanKnown ran → SearchKnown next → FoundKnown (search_after ran t next).value.found
search_after-known Not t next known rest = at_least_matched-known (next t.value.state).value.found (rest t.value.state)
search_after-known (Passed more) t next known rest = tt
search_after-known (Ended ending) t next known rest = known

search_group-known : (is_meant : Bool) (game : Game) (typed : List ℕ) (g : Group) (s : State) (next : State → Traced Step SearchOutcome)
    → SearchKnown next → FoundKnown (search_group is_meant game typed g s next).value.found
search_group-known true game typed g s next rest =
    let t = group_tried game typed g s in search_after-known t.value.ran t next (group_tried-known game typed g s) rest
search_group-known false game typed g s next rest = rest s

search_result-known : (game : Game) (typed : List ℕ) (verb : ℕ) (noun : Option ℕ) (gs : List Group) → SearchKnown (search_result game typed verb noun gs)
search_result-known game typed verb noun [] s = tt
search_result-known game typed verb noun (g ∷ gs) s =
    search_group-known (is_for verb noun g) game typed g s (search_result game typed verb noun gs) (search_result-known game typed verb noun gs)

-- ---- getting and dropping

abbrev AllOutcomeKnown : (State → Traced Step AllOutcome) → Type 0
AllOutcomeKnown next = (r : State) → Known (next r).value.over

all_moved-known : (refused : Bool) (style : Style) (t : Transfer) (i : ℕ) (item : Item) (s : State) (next : State → Traced Step AllOutcome)
    → AllOutcomeKnown next → Known (all_moved refused style t i item s next).value.over
all_moved-known true style t i item s next rest = tt
all_moved-known false style t i item s next rest = rest (transferred t i s)

all_after-known : (found : Found) (t : Transfer) (game : Game) (i : ℕ) (item : Item) (s : State) (next : State → Traced Step AllOutcome)
    → FoundKnown found → AllOutcomeKnown next → Known (all_after found t game i item s next).value.over
all_after-known (FoundOver ending) t game i item s next known rest = known
all_after-known _ t game i item s next known rest = all_moved-known (is_refused t game.db s) game.style t i item s next rest

all_item-known : (any_taken : Bool) (t : Transfer) (game : Game) (typed : List ℕ) (i : ℕ) (item : Item) (s : State) (next : State → Traced Step AllOutcome)
    → AllOutcomeKnown next → Known (all_item any_taken t game typed i item s next).value.over
all_item-known true t game typed i item s next rest =
    let noun = which game.db Nouns (get_word item.text) in
    let found = search_result game typed (verb_for t) noun (groups game.db) s in
    all_after-known found.value.found t game i item found.value.state next (search_result-known game typed (verb_for t) noun (groups game.db) s) rest
all_item-known false t game typed i item s next rest = rest s

all_items-known : (t : Transfer) (game : Game) (typed : List ℕ) (i : ℕ) (items : List Item) → AllOutcomeKnown (all_items t game typed i items)
all_items-known t game typed i [] s = tt
all_items-known t game typed i (item ∷ items) s =
    all_item-known (is_taken t i item s) t game typed i item s (all_items t game typed (i + 1) items) (all_items-known t game typed (i + 1) items)

all_from-known : (too_dark : Bool) (t : Transfer) (game : Game) (typed : List ℕ) (s : State) → OutcomeKnown (all_from too_dark t game typed s)
all_from-known true t game typed s = tt
all_from-known false t game typed s = all_items-known t game typed 0 game.db.items s

one_moved-known : (style : Style) (t : Transfer) (item : Option ℕ) (s : State) → OutcomeKnown (one_moved style t item s)
one_moved-known style t None s = tt
one_moved-known style t (Some item) s = tt

one_from-known : (refused : Bool) (t : Transfer) (game : Game) (noun : ℕ) (s : State) → OutcomeKnown (one_from refused t game noun s)
one_from-known true t game noun s = tt
one_from-known false t game noun s = one_moved-known game.style t (item_named t game.db.header.length (root game.db noun) 0 game.db.items s) s

one_transferred-known : (t : Transfer) (game : Game) (noun : Option ℕ) (s : State) → OutcomeKnown (one_transferred t game noun s)
one_transferred-known t game None s = tt
one_transferred-known t game (Some noun) s = one_from-known (is_refused t game.db s) t game noun s

transfer-known : (t : Transfer) (game : Game) (typed : List ℕ) (noun : Option ℕ) (s : State) → OutcomeKnown (transfer t game typed noun s)
transfer-known t game typed noun s =
    cond_both (is_all typed) _ _ OutcomeKnown
    (λ _. all_from-known (is_too_dark t s) t game typed s) (λ _. one_transferred-known t game noun s)

-- ---- commands

no_way-known : (style : Style) (dark : Bool) (s : State) → OutcomeKnown (no_way style dark s)
no_way-known style true s = by_fall-known
no_way-known style false s = tt

walk_result-known : (game : Game) (noun : ℕ) (s : State) → OutcomeKnown (walk_result game noun s)
walk_result-known game noun s =
    cond_both (exit_of (length game.db.rooms) (room_at game.db s.room).exits (noun - 1) == 0) _ _ OutcomeKnown (λ _. no_way-known game.style (is_dark s) s) (λ _. tt)

unmatched-known : (game : Game) (typed : List ℕ) (verb : ℕ) (noun : Option ℕ) (found : Found) (s : State) → OutcomeKnown (unmatched game typed verb noun found s)
unmatched-known game typed verb noun found s =
    cond_both (verb == get_verb) _ _ OutcomeKnown (λ _. transfer-known PickUp game typed noun s)
    (λ _. cond_both (verb == drop_verb) _ _ OutcomeKnown (λ _. transfer-known PutDown game typed noun s) (λ _. tt))

by_found-known : (found : Found) (game : Game) (typed : List ℕ) (verb : ℕ) (noun : Option ℕ) (s : State)
    → FoundKnown found → OutcomeKnown (by_found found game typed verb noun s)
by_found-known (FoundOver ending) game typed verb noun s known = known
by_found-known Done game typed verb noun s known = tt
by_found-known found game typed verb noun s known = unmatched-known game typed verb noun found s

by_actions-known : (game : Game) (typed : List ℕ) (verb : ℕ) (noun : Option ℕ) (s : State) → OutcomeKnown (by_actions game typed verb noun s)
by_actions-known game typed verb noun s =
    let t = search_result game typed verb noun (groups game.db) s in
    by_found-known t.value.found game typed verb noun t.value.state (search_result-known game typed verb noun (groups game.db) s)

going-known : (game : Game) (typed : List ℕ) (noun : Option ℕ) (s : State) → OutcomeKnown (going game typed noun s)
going-known game typed None s = tt
going-known game typed (Some noun) s =
    cond_both (is_direction noun) _ _ OutcomeKnown (λ _. walk_result-known game noun s) (λ _. by_actions-known game typed go_verb (Some noun) s)

command_result-known : (game : Game) (typed : List ℕ) (verb : ℕ) (noun : Option ℕ) (s : State) → OutcomeKnown (command_result game typed verb noun s)
command_result-known game typed verb noun s =
    cond_both (verb == go_verb) _ _ OutcomeKnown (λ _. going-known game typed noun s) (λ _. by_actions-known game typed verb noun s)

turn_ended-known : (style : Style) (over : Option ℕ) (s : State) → Known over → EndsWell (turn_ended style over s).value.position
turn_ended-known style None s known = tt
turn_ended-known style (Some ending) s known = known

by_heard-known : (h : Heard) (game : Game) (line : List ℕ) (s : State) → EndsWell (by_heard h game line s).value.position
by_heard-known Blank game line s = tt
by_heard-known (Unknown start size) game line s = tt
by_heard-known (Command verb noun) game line s =
    let t = command_result game (typed_noun line) verb noun s in
    turn_ended-known game.style t.value.over t.value.state (command_result-known game (typed_noun line) verb noun s)

-- the answer to a line
pub answer-known : (game : Game) (line : List ℕ) (s : State) → EndsWell (answer game line s).value.position
answer-known game line s = by_heard-known (heard game.db line) game line s

-- ---- a play

with_line-known : (position : Position) (game : Game) (line : List ℕ) (lines : List (List ℕ)) (t : Traced Step RoundEnd)
    (next : Position → State → List ℕ → Traced Step PlayEnd)
    → EndsWell t.value.position
    → ((p : Position) (r : State) (draws : List ℕ) → EndsWell p → EndsWell (next p r draws).value.position)
    → EndsWell (with_line position game line lines t next).value.position
with_line-known Line game line lines t next known rest =
    let a = answer game line t.value.state in
    rest a.value.position a.value.state t.value.draws (answer-known game line t.value.state)
with_line-known _ game line lines t next known rest = known

pub go-known : (game : Game) (lines : List (List ℕ)) (position : Position) (s : State) (draws : List ℕ)
    → EndsWell position → EndsWell (go game position s lines draws).value.position
unfolding go
go-known game [] position s draws known = advance-known game position s draws known
go-known game (line ∷ lines) position s draws known =
    let t = advance game position s draws in
    with_line-known t.value.position game line lines t (λ p r ds. go game p r lines ds) (advance-known game position s draws known) (go-known game lines)
