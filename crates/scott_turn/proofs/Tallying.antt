-- The counts of the lines that were tried, one part of a play after another.
use Rattle.std.proofs.Common.{◌≡◌, ◌∙◌, ℕ, ◌==◌, Bool, true, false, cond, List, [], ◌∷◌, ◌++◌, Option, Some, None, Result, Ok, Err, OnOk, IfSome, refl, sym, ap, subst}
use Rattle.std.proofs.lemmas.List.{append-nil}
use Rattle.std.proofs.lemmas.List.Elements.{filter_map-append}
use Rattle.adv_counts.specs.Counts.{counted}
use Rattle.adv_counts.proofs.Counting.{counts_add}
use Rattle.adv_io.specs.Console.{TakesFrom}
use Rattle.adv_io.specs.declared.consoles.Taken.TheVariants.{Got, End}
use Rattle.adv_io.specs.Steps.{Took, Step, Traced, after, said_steps, noted_of, noted, traced_text}
use Rattle.adv_io.specs.declared.faults.ConsoleFault.{ConsoleFault}
use Rattle.scott_types.specs.declared.states.State.{State}
use Rattle.scott_types.specs.declared.endings.Position.{Position}
use Rattle.scott_types.specs.Style.{Game}
use Rattle.scott_types.specs.declared.endings.Halt.{Halt}
use Rattle.scott_types.specs.declared.endings.Halt.TheVariants.{Through, Waits, Over as AtEnd}
use Rattle.scott_types.specs.declared.endings.Transfer.{Transfer}
use Rattle.scott_types.specs.declared.styles.Style.{Style}
use Rattle.scott_types.specs.declared.parts.Item.{Item}
use Rattle.scott_types.specs.Phrase.{text_of, text_in}
use Rattle.scott_types.specs.declared.phrases.Phrase.TheVariants.{BrokenNeck, NoExitThere, DarkMove, Moved, Prompt, TooMuch, ItemDone, BeyondPower, Done, WhatItem}
use Rattle.scott_types.specs.ItemText.{shown}
use Rattle.scott_rules.specs.Light.{light_counted}
use Rattle.scott_types.specs.State.{is_dark}
use Rattle.scott_rules.specs.Progress.{goes_on}
use Rattle.scott_rules.specs.Words.{root}
use Rattle.scott_rules.specs.Transfer.{is_refused, item_named, one_moved, one_from, one_transferred}
use Rattle.scott_rules.specs.Rounds.{look_due, RoundEnd, Answered, advance, by_heard, answer, prompted, turn_ended, no_way, moved_to, walk_result}
use Rattle.scott_rules.specs.Play.{PlayEnd, go}
use Rattle.scott_turn.specs.Tried.{tallied, TalliesOn}
use Rattle.scott_turn.specs.Fed.{after_line}
use Rattle.scott_rules.specs.Commands.{heard}
use Rattle.scott_turn.specs.Rounds.{is_prompt, next_answer, AnswersNext, from_there, GoesRound}
use Rattle.scott_turn.specs.ItemTurns.{moved_or_not, after_actions}
use Rattle.scott_turn.proofs.Walks.{beyond_exit}
use Rattle.scott_turn.proofs.Playing.{Point, play_from, up_from, end_of, SoFar, RoundGives, go-stops, go-ends, go-answers}

-- ---- one part after another

pub tallied-append : (a b : List Step) (counts : List ℕ)
    → tallied (a ++ b) counts ≡ tallied b (tallied a counts)
tallied-append a b counts = ap (λ ns. counted ns counts) (filter_map-append noted_of a b)
    ∙ counts_add (noted a) (noted b) counts

-- some steps, and after them others
pub tallied_both : {mid new : List ℕ} (a b : List Step) (old : List ℕ) → mid ≡ tallied a old
    → new ≡ tallied b mid → new ≡ tallied (a ++ b) old
tallied_both a b old first then = then ∙ ap (tallied b) first ∙ sym (tallied-append a b old)

pub tallied_then : {T E : Type 0} {mid : List ℕ} (r : Result T E) (a b : List Step)
    (old new : List ℕ) → mid ≡ tallied a old → OnOk r (new ≡ tallied b mid)
    → OnOk r (new ≡ tallied (a ++ b) old)
tallied_then (Ok x) a b old new first then = tallied_both a b old first then
tallied_then (Err e) a b old new first then = tt

-- the same of a part after which comes the rest of a walk
pub tallied_on : {whole new : List ℕ} (a rest now : List Step) (old : List ℕ)
    → whole ≡ tallied now old → now ≡ a ++ rest → new ≡ tallied a old → whole ≡ tallied rest new
tallied_on a rest now old so_far is part =
    so_far ∙ ap (λ es. tallied es old) is ∙ tallied-append a rest old
    ∙ ap (tallied rest) (sym part)

-- the last part of a walk
pub tallied_end : {whole new : List ℕ} (a now : List Step) (old : List ℕ)
    → whole ≡ tallied now old → now ≡ a → new ≡ tallied a old → new ≡ whole
tallied_end a now old so_far is part =
    part ∙ ap (λ es. tallied es old) (sym is) ∙ sym so_far

-- what follows from what holds after a success
pub on_ok : {T E : Type 0} {P Q : Type 0} (r : Result T E) → (P → Q) → OnOk r P → OnOk r Q
on_ok (Ok x) f p = f p
on_ok (Err e) f p = tt

-- ---- what only says

pub noted-said : (bytes : List ℕ) → noted (said_steps bytes) ≡ []
noted-said [] = refl
noted-said (byte ∷ bytes) = noted-said bytes

pub tallied-said : (bytes counts : List ℕ) → tallied (said_steps bytes) counts ≡ counts
tallied-said bytes counts = ap (λ ns. counted ns counts) (noted-said bytes)

-- no line is tried in some steps
abbrev pub TriesNone : List Step → Type 0
TriesNone es = noted es ≡ []

pub tallied-none : {T E : Type 0} (r : Result T E) (es : List Step) (counts : List ℕ)
    → TriesNone es → OnOk r (counts ≡ tallied es counts)
tallied-none (Ok x) es counts none = sym (ap (λ ns. counted ns counts) none)
tallied-none (Err e) es counts none = tt

-- nor after some where none is tried in the others
pub tallied-quiet : {new : List ℕ} (a b : List Step) (old : List ℕ) → TriesNone b
    → new ≡ tallied a old → new ≡ tallied (a ++ b) old
tallied-quiet {new = new} a b old none first =
    tallied_both a b old first (sym (ap (λ ns. counted ns new) none))

pub tallied-only : {T E : Type 0} {new : List ℕ} (r : Result T E) (a b : List Step) (old : List ℕ)
    → TriesNone b → new ≡ tallied a old → OnOk r (new ≡ tallied (a ++ b) old)
tallied-only (Ok x) a b old none first = tallied-quiet a b old none first
tallied-only (Err e) a b old none first = tt

none-after : (a b : List Step) → TriesNone a → TriesNone b → TriesNone (a ++ b)
none-after a b first then = filter_map-append noted_of a b ∙ ap (λ ns. ns ++ noted b) first ∙ then

pub prompted-none : (halt : Halt) (game : Game) (s : State) (draws : List ℕ)
    → TriesNone (prompted halt game s draws).events
prompted-none Through game s draws = noted-said (look_due game s ++ text_of Prompt)
prompted-none (Waits head) game s draws = refl
prompted-none (AtEnd ending) game s draws = refl

pub ended-none : (style : Style) (over : Option ℕ) (s : State)
    → TriesNone (turn_ended style over s).events
ended-none style None s = noted-said (light_counted style s).events
ended-none style (Some ending) s = refl

way-none : (style : Style) (none dark : Bool) (room : ℕ) (s : State)
    → TriesNone (cond none (no_way style dark s)
    (traced_text (text_of Moved) (goes_on (moved_to room s)))).events
way-none style true true room s = noted-said (text_in style BrokenNeck)
way-none style true false room s = noted-said (text_in style NoExitThere)
way-none style false dark room s = noted-said (text_of Moved)

pub walk-none : (game : Game) (noun : ℕ) (s : State) → TriesNone (walk_result game noun s).events
walk-none game noun s =
    let room = beyond_exit game.db noun s in
    let warning = cond (is_dark s) (text_of DarkMove) [] in
    none-after (said_steps warning) _ (noted-said warning)
    (way-none game.style (room == 0) (is_dark s) room s)

pub moved-none : (refused : Bool) (style : Style) (t : Transfer) (i : ℕ) (item : Item) (s : State)
    → TriesNone (moved_or_not refused style t i item s).events
moved-none true style t i item s = noted-said (text_in style TooMuch)
moved-none false style t i item s = noted-said (shown item.text ++ text_of ItemDone)

pub after_actions-none : (over : Option ℕ) (t : Transfer) (game : Game) (i : ℕ) (item : Item)
    (s : State) → TriesNone (after_actions over t game i item s).events
after_actions-none (Some ending) t game i item s = refl
after_actions-none None t game i item s = moved-none (is_refused t game.db s) game.style t i item s

one_moved-none : (style : Style) (t : Transfer) (item : Option ℕ) (s : State)
    → TriesNone (one_moved style t item s).events
one_moved-none style t None s = noted-said (text_in style BeyondPower)
one_moved-none style t (Some item) s = noted-said (text_of Done)

one_from-none : (refused : Bool) (t : Transfer) (game : Game) (noun : ℕ) (s : State)
    → TriesNone (one_from refused t game noun s).events
one_from-none true t game noun s = noted-said (text_in game.style TooMuch)
one_from-none false t game noun s = one_moved-none game.style t
    (item_named t game.db.header.length (root game.db noun) 0 game.db.items s) s

pub one-none : (t : Transfer) (game : Game) (noun : Option ℕ) (s : State)
    → TriesNone (one_transferred t game noun s).events
one-none t game None s = noted-said (text_of WhatItem)
one-none t game (Some noun) s = one_from-none (is_refused t game.db s) t game noun s

-- ---- rounds

module _ (game : Game) (here up : Point) (leaves : (up_from game here).value ≡ end_of up)
    (part : up.counts ≡ tallied (up_from game here).events here.counts) where
  -- a round that stopped before a line was wanted
  pub tries_stops : (before : Option (List (List ℕ))) → is_prompt up.position ≡ false
      → IfSome before (λ lines. IfSome up.seen.left (λ left. TalliesOn (play_from game here lines)
      here.counts (from_there true game up.position up.state left up.draws) up.counts))
  tries_stops before stops = by before up.seen.left
    where
      by : (before new : Option (List (List ℕ)))
          → IfSome before (λ lines. IfSome new (λ left. TalliesOn (play_from game here lines)
          here.counts (from_there true game up.position up.state left up.draws) up.counts))
      by None new = tt
      by (Some lines) None = tt
      by (Some lines) (Some left) =
          ap (λ w. tallied w.events here.counts)
          (go-stops game here.position here.state lines here.draws
          (ap (λ v. is_prompt v.position) leaves ∙ stops))
          ∙ sym part

  module _ (to : Point) where
    -- a round whose line was due, and wasn't there
    pub tries_waits : (before : Option (List (List ℕ))) → up.seen.left ≡ before
        → IfSome up.seen.left (λ lines.
        AnswersNext up.seen to.seen game lines (Ok None) up.state to.state)
        → IfSome up.seen.left (λ lines. to.counts ≡ tallied (next_answer game lines up.state) up.counts)
        → IfSome before (λ lines. IfSome to.seen.left (λ left. TalliesOn (play_from game here lines)
        here.counts (from_there true game up.position to.state left up.draws) to.counts))
    tries_waits None same waits tried = tt
    tries_waits (Some lines) same waits tried = by to.seen.left lines
        (subst (λ o. IfSome o (λ ls. AnswersNext up.seen to.seen game ls (Ok None) up.state to.state))
        same waits)
        (subst (λ o. IfSome o (λ ls. to.counts ≡ tallied (next_answer game ls up.state) up.counts))
        same tried)
      where
        by : (new : Option (List (List ℕ))) (lines : List (List ℕ))
            → AnswersNext up.seen to.seen game lines (Ok None) up.state to.state
            → to.counts ≡ tallied (next_answer game lines up.state) up.counts
            → IfSome new (λ left. TalliesOn (play_from game here lines) here.counts
            (from_there true game up.position to.state left up.draws) to.counts)
        by None lines none same = tt
        by (Some left) [] none same =
            ap (λ w. tallied w.events here.counts)
            (go-ends game here.position here.state here.draws)
            ∙ sym part ∙ sym same
        by (Some left) (line ∷ others) none same = absurd none

    -- a round whose line was answered
    pub tries_goes : (before : Option (List (List ℕ))) → up.seen.left ≡ before
        → is_prompt up.position ≡ true
        → IfSome up.seen.left (λ lines.
        AnswersNext up.seen to.seen game lines (Ok (Some to.position)) up.state to.state)
        → IfSome up.seen.left (λ lines. to.counts ≡ tallied (next_answer game lines up.state) up.counts)
        → IfSome before (λ lines. IfSome to.seen.left (λ left. TalliesOn (play_from game here lines)
        here.counts (from_there false game to.position to.state left up.draws) to.counts))
    tries_goes None same at goes tried = tt
    tries_goes (Some lines) same at goes tried = by lines
        (subst (λ o. IfSome o (λ ls. AnswersNext up.seen to.seen game ls (Ok (Some to.position))
        up.state to.state)) same goes)
        (subst (λ o. IfSome o (λ ls. to.counts ≡ tallied (next_answer game ls up.state) up.counts))
        same tried)
      where
        t : Traced Step RoundEnd
        t = up_from game here

        a : List ℕ → State → Traced Step Answered
        a line r = answer game line r

        by : (lines : List (List ℕ))
            → AnswersNext up.seen to.seen game lines (Ok (Some to.position)) up.state to.state
            → to.counts ≡ tallied (next_answer game lines up.state) up.counts
            → IfSome to.seen.left (λ left. TalliesOn (play_from game here lines) here.counts
            (from_there false game to.position to.state left up.draws) to.counts)
        by [] some same = absurd some
        by (line ∷ others) some same = rw some.1 (
            ap (λ w. tallied w.events here.counts)
            (go-answers game here.position here.state line others here.draws
            (ap (λ v. is_prompt v.position) leaves ∙ at)
            ∙ ap (λ v. after t.events (after (a line v.state).events
            (go game (a line v.state).value.position (a line v.state).value.state others v.draws)))
            leaves
            ∙ ap (λ v. after t.events (after (a line up.state).events
            (go game v.position v.state others up.draws))) some.2)
            ∙ tallied-append t.events ((a line up.state).events
            ++ (go game to.position to.state others up.draws).events) here.counts
            ∙ ap (tallied ((a line up.state).events
            ++ (go game to.position to.state others up.draws).events)) (sym part)
            ∙ tallied-append (a line up.state).events
            (go game to.position to.state others up.draws).events up.counts
            ∙ ap (tallied (go game to.position to.state others up.draws).events) (sym same))

-- the next line, where none is left
pub next_tries_none : (before now : Option (List (List ℕ))) (game : Game) (s : State)
    (line counts : List ℕ) → TakesFrom before now (Ok End) line
    → IfSome before (λ lines. counts ≡ tallied (next_answer game lines s) counts)
next_tries_none None now game s line counts takes = tt
next_tries_none (Some []) now game s line counts takes = refl
next_tries_none (Some (next ∷ others)) now game s line counts takes = absurd takes

-- and one that was answered
pub next_tries : (before now : Option (List (List ℕ))) (game : Game) (s : State)
    (line old new : List ℕ) → TakesFrom before now (Ok Got) line
    → new ≡ tallied (by_heard (heard game.db line) game line s).events old
    → IfSome before (λ lines. new ≡ tallied (next_answer game lines s) old)
next_tries None now game s line old new takes tried = tt
next_tries (Some []) now game s line old new takes tried = absurd takes
next_tries (Some (next ∷ others)) now game s line old new takes tried =
    subst (λ l. new ≡ tallied (answer game l s).events old) takes.0 tried

-- ---- a line that is fed

module _ (game : Game) (position : Position) (s : State) (draws line : List ℕ) where
  abbrev up : Traced Step RoundEnd
  up = advance game position s draws

  abbrev fed : Bool → Traced Step RoundEnd
  fed at = after_line at game line up.value.position up.value.state up.value.draws

  -- a line that is fed tries just the action lines that the play on it alone tries
  by_prompt : (at : Bool) → is_prompt up.value.position ≡ at
      → noted (up.events ++ (fed at).events) ≡ noted (go game position s (line ∷ []) draws).events
  by_prompt true is =
      let v = up.value in
      let a = by_heard (heard game.db line) game line v.state in
      let next = advance game a.value.position a.value.state v.draws in
      let last = go-ends game a.value.position a.value.state v.draws in
      let whole : (go game position s (line ∷ []) draws).events
      ≡ up.events ++ ((Took line ∷ a.events) ++ next.events) =
      ap (λ w. w.events) (go-answers game position s line [] draws is)
      ∙ ap (λ w. up.events ++ ((Took line ∷ a.events) ++ w.events)) last in
      filter_map-append noted_of up.events (a.events ++ next.events)
      ∙ sym (filter_map-append noted_of up.events ((Took line ∷ a.events) ++ next.events))
      ∙ sym (ap noted whole)
  by_prompt false is =
      ap noted (append-nil up.events)
      ∙ sym (ap (λ w. noted w.events) (go-stops game position s (line ∷ []) draws is))

  pub tries-fed : (old : List ℕ)
      → tallied (up.events ++ (fed (is_prompt up.value.position)).events) old
      ≡ tallied (go game position s (line ∷ []) draws).events old
  tries-fed old = ap (λ ns. counted ns old) (by_prompt (is_prompt up.value.position) refl)

-- ---- the whole play

-- the counts so far are those of the whole play up to here
abbrev pub TalliedTo : Game → (first here : Point) → (List (List ℕ) → Traced Step PlayEnd)
    → Option (List (List ℕ)) → Type 0
TalliedTo game first here whole before = IfSome before (λ lines. IfSome here.seen.left (λ left.
    TalliesOn (whole lines) first.counts (play_from game here left) here.counts))

pub tries_start : (game : Game) (first : Point) (before : Option (List (List ℕ)))
    → before ≡ first.seen.left → TalliedTo game first first (play_from game first) before
tries_start game first None as_rules = tt
tries_start game first (Some lines) as_rules = rw (sym as_rules) refl

-- a round after those so far, from `here` on to `to`
module _ (game : Game) (first here to : Point) (whole : List (List ℕ) → Traced Step PlayEnd)
    (stopped : Bool) where
  abbrev Next : Type 0
  Next = IfSome here.seen.left (λ lines. IfSome to.seen.left (λ left.
      TalliesOn (play_from game here lines) here.counts
      (from_there stopped game to.position to.state left to.draws) to.counts))

  -- one that goes on
  pub tries_step : (before : Option (List (List ℕ))) → stopped ≡ false
      → SoFar game first here to whole before → TalliedTo game first here whole before → Next
      → TalliedTo game first to whole before
  tries_step None goes ahead so next = tt
  tries_step (Some lines) goes ahead so next = by to.seen.left
      (subst (λ o. IfSome o (λ left. TalliesOn (whole lines) first.counts (play_from game here left)
      here.counts)) ahead.lines so)
      (subst (λ o. IfSome o (λ ls. IfSome to.seen.left (λ left. TalliesOn (play_from game here ls)
      here.counts (from_there stopped game to.position to.state left to.draws) to.counts)))
      ahead.lines next)
    where
      by : (o : Option (List (List ℕ)))
          → TalliesOn (whole lines) first.counts (play_from game here ahead.rest) here.counts
          → IfSome o (λ left. TalliesOn (play_from game here ahead.rest) here.counts
          (from_there stopped game to.position to.state left to.draws) to.counts)
          → IfSome o (λ left. TalliesOn (whole lines) first.counts (play_from game to left) to.counts)
      by None so next = tt
      by (Some left) so next = so ∙ next
          ∙ ap (λ b. tallied (from_there b game to.position to.state left to.draws).events to.counts)
          goes

  -- one where the play stopped
  pub tries_last : (before : Option (List (List ℕ))) → stopped ≡ true
      → SoFar game first here to whole before → TalliedTo game first here whole before → Next
      → RoundGives game first here to whole (Ok (record { position = to.position; stopped = stopped }))
      → IfSome before (λ lines. OnOk {E = ConsoleFault} (Ok to.position)
      (to.counts ≡ tallied (whole lines).events first.counts))
  tries_last None stops ahead so next went = tt
  tries_last (Some lines) stops ahead so next went =
      let here_too : TalliesOn (whole lines) first.counts (play_from game here ahead.rest)
      here.counts = subst (λ o. IfSome o (λ left. TalliesOn (whole lines) first.counts
      (play_from game here left) here.counts)) ahead.lines so in
      let round_done : GoesRound here.seen to.seen
      (Ok (record { position = to.position; stopped = stopped })) (play_from game here ahead.rest)
      game to.state to.draws = subst (λ o. IfSome o (λ ls. GoesRound here.seen to.seen
      (Ok (record { position = to.position; stopped = stopped })) (play_from game here ls) game
      to.state to.draws)) ahead.lines went in
      let then : IfSome to.seen.left (λ left. TalliesOn (play_from game here ahead.rest) here.counts
      (from_there stopped game to.position to.state left to.draws) to.counts) =
      subst (λ o. IfSome o (λ ls. IfSome to.seen.left (λ left. TalliesOn (play_from game here ls)
      here.counts (from_there stopped game to.position to.state left to.draws) to.counts)))
      ahead.lines next in
      let at_end : TalliesOn (play_from game here ahead.rest) here.counts
      (from_there stopped game to.position to.state round_done.went.rest to.draws) to.counts =
      subst (λ o. IfSome o (λ left. TalliesOn (play_from game here ahead.rest) here.counts
      (from_there stopped game to.position to.state left to.draws) to.counts))
      round_done.went.lines then in
      sym (here_too ∙ at_end ∙ ap (λ b. tallied (from_there b game to.position to.state
      round_done.went.rest to.draws).events to.counts) stops)
