-- The walks over groups, turn by turn.
use Rattle.std.proofs.Common.{◌≡◌, ◌∙◌, ℕ, ◌+◌, Bool, true, false, cond, List, [], ◌∷◌, ◌++◌, Option, Some, None, refl, sym, ap, eq-eqb}
use Rattle.std.proofs.lemmas.List.{append-nil}
use Rattle.std.specs.Prelude.{nat_le, ◌==◌, ◌&&◌, filter}
use Rattle.scott_types.specs.declared.states.State.{State}
use Rattle.scott_types.specs.declared.endings.Ran.{Ran}
use Rattle.scott_types.specs.declared.endings.Ran.TheVariants.{Not, Passed, Over as Ended}
use Rattle.scott_types.specs.declared.endings.Halt.{Halt}
use Rattle.scott_types.specs.declared.endings.Halt.TheVariants.{Through, Waits, Over as AtEnd}
use Rattle.scott_types.specs.declared.endings.Found.{Found}
use Rattle.scott_types.specs.declared.endings.Found.TheVariants.{Over, Done, Matched, NoMatch}
use Rattle.scott_types.specs.Style.{Game}
use Rattle.scott_types.specs.Database.{action_at}
use Rattle.scott_types.specs.Action.{verb_of, noun_of}
use Rattle.adv_io.specs.Steps.{Drew, Step, Traced, after, traced}
use Rattle.scott_rules.specs.Actions.{ActionOutcome}
use Rattle.scott_rules.specs.Groups.{Group, AutoOutcome, over_of, groups, groups_from, group_tried, auto_after, auto_tried, auto_drawn, auto_group, automatic}
use Rattle.scott_rules.specs.Search.{SearchOutcome, is_for_noun, at_least_matched, matched, search_after, search_group, search_result}
use Rattle.scott_turn.specs.Heads.{group_at, has_verb, groups_for, ComesNext}
use Rattle.scott_turn.specs.Turns.{halt_of, entered, auto_turn, by_halt, goes_through, found_of, search_turn, by_turn, at_least, with_before, ends_search}
use Rattle.adv_io.proofs.Along.{after-after}
use Rattle.scott_turn.proofs.Groups.{verb_of_head}

-- ---- the automatic step walks over the groups of verb 0 alone

auto_group-for : (is_automatic : Bool) (game : Game) (g : Group) (gs hs : List Group) → (verb_of g.vocab == 0) ≡ is_automatic → automatic game gs ≡ automatic game hs
    → (s : State) (draws : List ℕ) → auto_group is_automatic game g s draws (automatic game gs) ≡ automatic game (cond is_automatic (g ∷ hs) hs) s draws
auto_group-for true game g gs hs test same s draws =
    ap (auto_group true game g s draws) same ∙ ap (λ b. auto_group b game g s draws (automatic game hs)) (sym test)
auto_group-for false game g gs hs test same s draws = ap (λ next. next s draws) same

automatic-filter : (game : Game) (gs : List Group) → automatic game gs ≡ automatic game (filter (has_verb 0) gs)
automatic-filter game [] = refl
automatic-filter game (g ∷ gs) =
    let turn = auto_group-for (verb_of g.vocab == 0) game g gs (filter (has_verb 0) gs) refl (automatic-filter game gs) in
    λ i s draws. turn s draws i

pub automatic-for : (game : Game) (line : ℕ) (s : State) (draws : List ℕ) → automatic game (groups_from game.db line) s draws ≡ automatic game (groups_for game.db 0 line) s draws
automatic-for game line s draws = ap (λ walk. walk s draws) (automatic-filter game (groups_from game.db line))

-- ---- one turn of it

auto_after-halt : (over : Option ℕ) (t : Traced Step ActionOutcome) (draws : List ℕ) (next : State → List ℕ → Traced Step AutoOutcome)
    → auto_after over t draws next ≡ by_halt (halt_of over) (traced t.events (record { state = t.value.state; draws = draws; halt = halt_of over })) next
auto_after-halt None t draws next = refl
auto_after-halt (Some ending) t draws next = refl

auto_tried-entered : (lets_in : Bool) (game : Game) (g : Group) (s : State) (draws : List ℕ) (next : State → List ℕ → Traced Step AutoOutcome)
    → auto_tried lets_in game g s draws next ≡ by_halt (entered lets_in game g s draws).value.halt (entered lets_in game g s draws) next
auto_tried-entered true game g s draws next = let t = group_tried game [] g s in auto_after-halt (over_of t.value.ran) t draws next
auto_tried-entered false game g s draws next = refl

by_halt-after : (halt : Halt) (es : List Step) (t : Traced Step AutoOutcome) (next : State → List ℕ → Traced Step AutoOutcome) → after es (by_halt halt t next) ≡ by_halt halt (after es t) next
by_halt-after Through es t next = after-after es t.events (next t.value.state t.value.draws)
by_halt-after (Waits head) es t next = refl
by_halt-after (AtEnd ending) es t next = refl

auto_drawn-turn : (game : Game) (g : Group) (s : State) (draws : List ℕ) (next : State → List ℕ → Traced Step AutoOutcome)
    → auto_drawn game g s draws next ≡ by_halt (auto_turn game g s draws).value.halt (auto_turn game g s draws) next
auto_drawn-turn game g s [] next = refl
auto_drawn-turn game g s (draw ∷ draws) next =
    let b = nat_le draw (noun_of g.vocab) in
    ap (after (Drew draw ∷ [])) (auto_tried-entered b game g s draws next)
    ∙ by_halt-after (entered b game g s draws).value.halt (Drew draw ∷ []) (entered b game g s draws) next

by_halt-on : (halt : Halt) (t : Traced Step AutoOutcome) (next : State → List ℕ → Traced Step AutoOutcome) → goes_through halt ≡ true → by_halt halt t next ≡ after t.events (next t.value.state t.value.draws)
by_halt-on Through t next on = refl
by_halt-on (Waits head) t next on = absurd cc
by_halt-on (AtEnd ending) t next on = absurd cc

by_halt-stop : (halt : Halt) (t : Traced Step AutoOutcome) (next : State → List ℕ → Traced Step AutoOutcome) → goes_through halt ≡ false → by_halt halt t next ≡ t
by_halt-stop Through t next stops = absurd cc
by_halt-stop (Waits head) t next stops = refl
by_halt-stop (AtEnd ending) t next stops = refl

-- what comes after a turn's own steps
abbrev pub after_halt : Halt → Traced Step AutoOutcome → (State → List ℕ → Traced Step AutoOutcome) → List Step
after_halt Through t next = (next t.value.state t.value.draws).events
after_halt (Waits head) t next = []
after_halt (AtEnd ending) t next = []

by_halt-prefix : (halt : Halt) (t : Traced Step AutoOutcome) (next : State → List ℕ → Traced Step AutoOutcome) → (by_halt halt t next).events ≡ t.events ++ after_halt halt t next
by_halt-prefix Through t next = refl
by_halt-prefix (Waits head) t next = sym (append-nil t.events)
by_halt-prefix (AtEnd ending) t next = sym (append-nil t.events)

module _ (game : Game) (line head : ℕ) (s : State) (draws : List ℕ) (comes : ComesNext game.db 0 line head) where
  automatic-turn : automatic game (groups_for game.db 0 line) s draws ≡ by_halt (auto_turn game (group_at game.db head) s draws).value.halt (auto_turn game (group_at game.db head) s draws) (automatic game (groups_for game.db 0 (head + 1)))
  automatic-turn =
      ap (λ gs. automatic game gs s draws) comes.first
      ∙ ap (λ b. auto_group b game (group_at game.db head) s draws (automatic game (groups_for game.db 0 (head + 1)))) (eq-eqb (verb_of (action_at game.db head).vocab) 0 (verb_of_head 0 (action_at game.db head) comes.is_head))
      ∙ auto_drawn-turn game (group_at game.db head) s draws (automatic game (groups_for game.db 0 (head + 1)))

  -- after a turn where the step goes on come the other groups
  pub automatic-on : (halt : Halt) → halt ≡ (auto_turn game (group_at game.db head) s draws).value.halt → goes_through halt ≡ true
      → (state : State) → state ≡ (auto_turn game (group_at game.db head) s draws).value.state
      → (left : List ℕ) → left ≡ (auto_turn game (group_at game.db head) s draws).value.draws
      → automatic game (groups_for game.db 0 line) s draws ≡ after (auto_turn game (group_at game.db head) s draws).events (automatic game (groups_for game.db 0 (head + 1)) state left)
  automatic-on halt is on state state_is left left_is =
      let t = auto_turn game (group_at game.db head) s draws in
      automatic-turn
      ∙ by_halt-on t.value.halt t (automatic game (groups_for game.db 0 (head + 1))) (ap goes_through (sym is) ∙ on)
      ∙ ap (λ r. after t.events (automatic game (groups_for game.db 0 (head + 1)) r t.value.draws)) (sym state_is)
      ∙ ap (λ ds. after t.events (automatic game (groups_for game.db 0 (head + 1)) state ds)) (sym left_is)

  -- a turn where it stops is the whole of what is left
  pub automatic-stop : (halt : Halt) → halt ≡ (auto_turn game (group_at game.db head) s draws).value.halt → goes_through halt ≡ false → automatic game (groups_for game.db 0 line) s draws ≡ auto_turn game (group_at game.db head) s draws
  automatic-stop halt is stops =
      let t = auto_turn game (group_at game.db head) s draws in
      automatic-turn ∙ by_halt-stop t.value.halt t (automatic game (groups_for game.db 0 (head + 1))) (ap goes_through (sym is) ∙ stops)

  -- the step begins with its first turn
  pub automatic-prefix : (automatic game (groups_for game.db 0 line) s draws).events
      ≡ (auto_turn game (group_at game.db head) s draws).events ++ after_halt (auto_turn game (group_at game.db head) s draws).value.halt (auto_turn game (group_at game.db head) s draws) (automatic game (groups_for game.db 0 (head + 1)))
  automatic-prefix =
      let t = auto_turn game (group_at game.db head) s draws in
      ap (λ w. w.events) automatic-turn ∙ by_halt-prefix t.value.halt t (automatic game (groups_for game.db 0 (head + 1)))

-- ---- the search walks over the groups of its verb alone

search_group-for : (has : Bool) (game : Game) (typed : List ℕ) (verb : ℕ) (noun : Option ℕ) (g : Group) (gs hs : List Group) → has_verb verb g ≡ has
    → search_result game typed verb noun gs ≡ search_result game typed verb noun hs
    → (s : State) → search_group (has && is_for_noun (noun_of g.vocab) noun) game typed g s (search_result game typed verb noun gs) ≡ search_result game typed verb noun (cond has (g ∷ hs) hs) s
search_group-for true game typed verb noun g gs hs test same s =
    ap (search_group (is_for_noun (noun_of g.vocab) noun) game typed g s) same
    ∙ ap (λ b. search_group (b && is_for_noun (noun_of g.vocab) noun) game typed g s (search_result game typed verb noun hs)) (sym test)
search_group-for false game typed verb noun g gs hs test same s = ap (λ next. next s) same

search_result-filter : (game : Game) (typed : List ℕ) (verb : ℕ) (noun : Option ℕ) (gs : List Group) → search_result game typed verb noun gs ≡ search_result game typed verb noun (filter (has_verb verb) gs)
search_result-filter game typed verb noun [] = refl
search_result-filter game typed verb noun (g ∷ gs) =
    let turn = search_group-for (has_verb verb g) game typed verb noun g gs (filter (has_verb verb) gs) refl (search_result-filter game typed verb noun gs) in
    λ i s. turn s i

pub search_result-for : (game : Game) (typed : List ℕ) (verb : ℕ) (noun : Option ℕ) (s : State) → search_result game typed verb noun (groups game.db) s ≡ search_result game typed verb noun (groups_for game.db verb 0) s
search_result-for game typed verb noun s = ap (λ walk. walk s) (search_result-filter game typed verb noun (groups game.db))

-- ---- one turn of it

search_after-found : (ran : Ran) (t : Traced Step ActionOutcome) (next : State → Traced Step SearchOutcome)
    → search_after ran t next ≡ by_turn (found_of ran) (traced t.events (record { state = t.value.state; found = found_of ran })) next
search_after-found Not t next = refl
search_after-found (Passed more) t next = refl
search_after-found (Ended ending) t next = refl

search_group-turn : (meant : Bool) (game : Game) (typed : List ℕ) (g : Group) (s : State) (next : State → Traced Step SearchOutcome)
    → search_group meant game typed g s next ≡ by_turn (search_turn meant game typed g s).value.found (search_turn meant game typed g s) next
search_group-turn true game typed g s next = let t = group_tried game typed g s in search_after-found t.value.ran t next
search_group-turn false game typed g s next = refl

-- what the groups before a turn gave is kept after it
with_before-on : (found before : Found) (t : Traced Step SearchOutcome) (next : State → Traced Step SearchOutcome) → ends_search found ≡ false → ends_search before ≡ false
    → with_before before (by_turn found t next) ≡ after t.events (with_before (at_least found before) (next t.value.state))
with_before-on NoMatch NoMatch t next on begun = refl
with_before-on NoMatch Matched t next on begun = refl
with_before-on Matched NoMatch t next on begun = refl
with_before-on Matched Matched t next on begun = matched-matched (next t.value.state)
  where
    found_twice : (found : Found) → at_least_matched (at_least_matched found) ≡ at_least_matched found
    found_twice NoMatch = refl
    found_twice Matched = refl
    found_twice Done = refl
    found_twice (Over ending) = refl

    matched-matched : (w : Traced Step SearchOutcome) → after t.events (matched (matched w)) ≡ after t.events (matched w)
    matched-matched w = ap (λ found. traced (t.events ++ w.events) (record { state = w.value.state; found = found })) (found_twice w.value.found)
with_before-on Done before t next on begun = absurd cc
with_before-on (Over ending) before t next on begun = absurd cc
with_before-on found Done t next on begun = absurd cc
with_before-on found (Over ending) t next on begun = absurd cc

-- a turn that ends the search is what the search gives
with_before-end : (found before : Found) (t : Traced Step SearchOutcome) (next : State → Traced Step SearchOutcome) → found ≡ t.value.found → ends_search found ≡ true → with_before before (by_turn found t next) ≡ t
with_before-end NoMatch before t next is ends = absurd cc
with_before-end Matched before t next is ends = absurd cc
with_before-end Done before t next is ends = end_stays before
  where
    same : matched t ≡ t
    same = ap (λ found. traced t.events (record { state = t.value.state; found = at_least_matched found })) (sym is) ∙ ap (λ found. traced t.events (record { state = t.value.state; found = found })) is

    end_stays : (before : Found) → with_before before t ≡ t
    end_stays NoMatch = refl
    end_stays Matched = same
    end_stays Done = same
    end_stays (Over ending) = same
with_before-end (Over ending) before t next is ends = end_stays before
  where
    same : matched t ≡ t
    same = ap (λ found. traced t.events (record { state = t.value.state; found = at_least_matched found })) (sym is) ∙ ap (λ found. traced t.events (record { state = t.value.state; found = found })) is

    end_stays : (before : Found) → with_before before t ≡ t
    end_stays NoMatch = refl
    end_stays Matched = same
    end_stays Done = same
    end_stays (Over other) = same

with_before-events : (before : Found) (t : Traced Step SearchOutcome) → (with_before before t).events ≡ t.events
with_before-events NoMatch t = refl
with_before-events Matched t = refl
with_before-events Done t = refl
with_before-events (Over ending) t = refl

-- what comes after a turn's own steps
abbrev pub after_turn : Found → Traced Step SearchOutcome → (State → Traced Step SearchOutcome) → List Step
after_turn NoMatch t next = (next t.value.state).events
after_turn Matched t next = (next t.value.state).events
after_turn Done t next = []
after_turn (Over ending) t next = []

by_turn-prefix : (found : Found) (t : Traced Step SearchOutcome) (next : State → Traced Step SearchOutcome) → (by_turn found t next).events ≡ t.events ++ after_turn found t next
by_turn-prefix NoMatch t next = refl
by_turn-prefix Matched t next = refl
by_turn-prefix Done t next = sym (append-nil t.events)
by_turn-prefix (Over ending) t next = sym (append-nil t.events)

-- the number of the group's own noun
abbrev pub noun_at : Game → ℕ → ℕ
noun_at game head = noun_of (action_at game.db head).vocab

module _ (game : Game) (typed : List ℕ) (verb : ℕ) (noun : Option ℕ) (line head : ℕ) (s : State) (comes : ComesNext game.db verb line head) where
  search_result-turn : search_result game typed verb noun (groups_for game.db verb line) s
      ≡ by_turn (search_turn (is_for_noun (noun_at game head) noun) game typed (group_at game.db head) s).value.found (search_turn (is_for_noun (noun_at game head) noun) game typed (group_at game.db head) s) (search_result game typed verb noun (groups_for game.db verb (head + 1)))
  search_result-turn =
      ap (λ gs. search_result game typed verb noun gs s) comes.first
      ∙ ap (λ b. search_group (b && is_for_noun (noun_at game head) noun) game typed (group_at game.db head) s (search_result game typed verb noun (groups_for game.db verb (head + 1)))) (eq-eqb (verb_of (action_at game.db head).vocab) verb (verb_of_head verb (action_at game.db head) comes.is_head))
      ∙ search_group-turn (is_for_noun (noun_at game head) noun) game typed (group_at game.db head) s (search_result game typed verb noun (groups_for game.db verb (head + 1)))

  -- after a turn that doesn't end the search come the other groups
  pub search_result-on : (found before : Found) → found ≡ (search_turn (is_for_noun (noun_at game head) noun) game typed (group_at game.db head) s).value.found → ends_search found ≡ false → ends_search before ≡ false
      → (state : State) → state ≡ (search_turn (is_for_noun (noun_at game head) noun) game typed (group_at game.db head) s).value.state
      → with_before before (search_result game typed verb noun (groups_for game.db verb line) s)
      ≡ after (search_turn (is_for_noun (noun_at game head) noun) game typed (group_at game.db head) s).events (with_before (at_least found before) (search_result game typed verb noun (groups_for game.db verb (head + 1)) state))
  search_result-on found before is on begun state state_is =
      let t = search_turn (is_for_noun (noun_at game head) noun) game typed (group_at game.db head) s in
      let next = search_result game typed verb noun (groups_for game.db verb (head + 1)) in
      ap (with_before before) (search_result-turn ∙ ap (λ f. by_turn f t next) (sym is))
      ∙ with_before-on found before t next on begun
      ∙ ap (λ r. after t.events (with_before (at_least found before) (next r))) (sym state_is)

  -- a turn that ends it is the whole of what is left
  pub search_result-end : (found before : Found) → found ≡ (search_turn (is_for_noun (noun_at game head) noun) game typed (group_at game.db head) s).value.found → ends_search found ≡ true
      → with_before before (search_result game typed verb noun (groups_for game.db verb line) s) ≡ search_turn (is_for_noun (noun_at game head) noun) game typed (group_at game.db head) s
  search_result-end found before is ends =
      let t = search_turn (is_for_noun (noun_at game head) noun) game typed (group_at game.db head) s in
      let next = search_result game typed verb noun (groups_for game.db verb (head + 1)) in
      ap (with_before before) (search_result-turn ∙ ap (λ f. by_turn f t next) (sym is)) ∙ with_before-end found before t next is ends

  -- the search begins with its first turn
  pub search_result-prefix : (before : Found) → (with_before before (search_result game typed verb noun (groups_for game.db verb line) s)).events
      ≡ (search_turn (is_for_noun (noun_at game head) noun) game typed (group_at game.db head) s).events
      ++ after_turn (search_turn (is_for_noun (noun_at game head) noun) game typed (group_at game.db head) s).value.found (search_turn (is_for_noun (noun_at game head) noun) game typed (group_at game.db head) s) (search_result game typed verb noun (groups_for game.db verb (head + 1)))
  search_result-prefix before =
      let t = search_turn (is_for_noun (noun_at game head) noun) game typed (group_at game.db head) s in
      with_before-events before (search_result game typed verb noun (groups_for game.db verb line) s)
      ∙ ap (λ w. w.events) search_result-turn ∙ by_turn-prefix t.value.found t (search_result game typed verb noun (groups_for game.db verb (head + 1)))

-- after the last group the search has found what it found before
pub search_result-none : (game : Game) (typed : List ℕ) (verb : ℕ) (noun : Option ℕ) (line : ℕ) (s : State) (before : Found) → groups_for game.db verb line ≡ [] → ends_search before ≡ false
    → with_before before (search_result game typed verb noun (groups_for game.db verb line) s) ≡ traced [] (record { state = s; found = before })
search_result-none game typed verb noun line s NoMatch none begun = ap (λ gs. search_result game typed verb noun gs s) none
search_result-none game typed verb noun line s Matched none begun = ap (λ gs. matched (search_result game typed verb noun gs s)) none
search_result-none game typed verb noun line s Done none begun = absurd cc
search_result-none game typed verb noun line s (Over ending) none begun = absurd cc

-- with one more group that didn't end the search it hasn't ended
pub at_least-begun : (found before : Found) → ends_search found ≡ false → ends_search before ≡ false → ends_search (at_least found before) ≡ false
at_least-begun NoMatch before on begun = begun
at_least-begun Matched before on begun = refl
at_least-begun Done before on begun = on
at_least-begun (Over ending) before on begun = on
