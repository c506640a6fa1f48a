-- What a play takes and draws, followed by what is left, is what there was.
use Rattle.std.proofs.Common.{ℕ, List, [], ◌∷◌, ◌++◌, Bool, true, false, eqb, Option, Some, None, refl, ap}
use Rattle.std.specs.Prelude.{nat_le}
use Rattle.scott_types.specs.declared.states.State.{State}
use Rattle.scott_types.specs.declared.endings.Halt.{Halt}
use Rattle.scott_types.specs.declared.endings.Halt.TheVariants.{Through, Waits, Over as AtEnd}
use Rattle.scott_types.specs.declared.endings.Position.{Position}
use Rattle.scott_types.specs.declared.endings.Position.TheVariants.{Fresh, Draw, Line, Over}
use Rattle.scott_types.specs.declared.phrases.Phrase.TheVariants.{Prompt}
use Rattle.scott_types.specs.Style.{Game}
use Rattle.scott_types.specs.Action.{verb_of, noun_of}
use Rattle.scott_types.specs.Phrase.{text_of}
use Rattle.adv_io.proofs.Spending.{Spends-append}
use Rattle.adv_io.specs.Steps.{Spends, Step, Traced, said_steps}
use Rattle.scott_rules.specs.Commands.{heard}
use Rattle.scott_rules.specs.Actions.{ActionOutcome}
use Rattle.scott_rules.specs.Groups.{Group, AutoOutcome, groups, groups_from, over_of, group_tried, auto_after, auto_tried, auto_drawn, auto_group, automatic}
use Rattle.scott_rules.specs.Rounds.{RoundEnd, look_due, unmarked, prompted, to_prompt, advance, by_heard, answer}
use Rattle.scott_rules.specs.Play.{PlayEnd, with_line, go}
use Rattle.scott_rules.proofs.Talking.{Talks, Talks-said_steps, lines_taken-talk, draws_taken-talk, group_tried-talks, by_heard-talks}

-- ---- what only says

-- what only says and tries leaves all lines and draws
Spends-talk : (ls : List (List ℕ)) (ds : List ℕ) (es : List Step) → Talks es → Spends ls ds es ls ds
Spends-talk ls ds es h = record { lines_spent = ap (λ xs. xs ++ ls) (lines_taken-talk es h); draws_spent = ap (λ xs. xs ++ ds) (draws_taken-talk es h) }

-- ---- the automatic step, beside any lines

module _ (ls : List (List ℕ)) where
  abbrev AutoSpends : List ℕ → Traced Step AutoOutcome → Type 0
  AutoSpends draws t = Spends ls draws t.events ls t.value.draws

  abbrev AlwaysSpends : (State → List ℕ → Traced Step AutoOutcome) → Type 0
  AlwaysSpends next = (s : State) (draws : List ℕ) → AutoSpends draws (next s draws)

  after : (over : Option ℕ) (t : Traced Step ActionOutcome) (draws : List ℕ) (next : State → List ℕ → Traced Step AutoOutcome)
      → Talks t.events → AlwaysSpends next → AutoSpends draws (auto_after over t draws next)
  after None t draws next h rest =
      let n = next t.value.state draws in
      Spends-append ls draws t.events n.events ls draws ls n.value.draws (Spends-talk ls draws t.events h) (rest t.value.state draws)
  after (Some ending) t draws next h rest = Spends-talk ls draws t.events h

  tried : (b : Bool) (game : Game) (g : Group) (s : State) (draws : List ℕ) (next : State → List ℕ → Traced Step AutoOutcome)
      → AlwaysSpends next → AutoSpends draws (auto_tried b game g s draws next)
  tried true game g s draws next rest =
      let t = group_tried game [] g s in after (over_of t.value.ran) t draws next (group_tried-talks game [] g s) rest
  tried false game g s draws next rest = rest s draws

  drawn : (game : Game) (g : Group) (s : State) (draws : List ℕ) (next : State → List ℕ → Traced Step AutoOutcome)
      → AlwaysSpends next → AutoSpends draws (auto_drawn game g s draws next)
  drawn game g s [] next rest = record { lines_spent = refl; draws_spent = refl }
  drawn game g s (draw ∷ draws) next rest =
      let h = tried (nat_le draw (noun_of g.vocab)) game g s draws next rest in
      record { lines_spent = h.lines_spent; draws_spent = ap (λ xs. draw ∷ xs) h.draws_spent }

  group : (b : Bool) (game : Game) (g : Group) (s : State) (draws : List ℕ) (next : State → List ℕ → Traced Step AutoOutcome)
      → AlwaysSpends next → AutoSpends draws (auto_group b game g s draws next)
  group true game g s draws next rest = drawn game g s draws next rest
  group false game g s draws next rest = rest s draws

  automatic-spends : (game : Game) (gs : List Group) → AlwaysSpends (automatic game gs)
  automatic-spends game [] s draws = record { lines_spent = refl; draws_spent = refl }
  automatic-spends game (g ∷ gs) s draws =
      group (eqb (verb_of g.vocab) 0) game g s draws (automatic game gs) (automatic-spends game gs)

  -- ---- up to the prompt

  abbrev RoundEndSpends : List ℕ → Traced Step RoundEnd → Type 0
  RoundEndSpends draws t = Spends ls draws t.events ls t.value.draws

  prompted-spends : (halt : Halt) (game : Game) (s : State) (draws : List ℕ) → RoundEndSpends draws (prompted halt game s draws)
  prompted-spends Through game s draws =
      let said = look_due game s ++ text_of Prompt in Spends-talk ls draws (said_steps said) (Talks-said_steps said)
  prompted-spends (Waits head) game s draws = Spends-talk ls draws [] refl
  prompted-spends (AtEnd ending) game s draws = Spends-talk ls draws [] refl

  to_prompt-spends : (game : Game) (draws : List ℕ) (t : Traced Step AutoOutcome) → AutoSpends draws t → RoundEndSpends draws (to_prompt game t)
  to_prompt-spends game draws t h =
      let p = prompted t.value.halt game t.value.state t.value.draws in
      Spends-append ls draws t.events p.events ls t.value.draws ls p.value.draws h (prompted-spends t.value.halt game t.value.state t.value.draws)

  -- up to the prompt no line is taken, and what is drawn, with the draws left, is what there was
  advance-spends : (game : Game) (position : Position) (s : State) (draws : List ℕ) → RoundEndSpends draws (advance game position s draws)
  advance-spends game Fresh s draws =
      let t = automatic game (groups game.db) (unmarked s) draws in
      let p = to_prompt game t in
      Spends-append ls draws (said_steps (look_due game s)) p.events ls draws ls p.value.draws
      (Spends-talk ls draws (said_steps (look_due game s)) (Talks-said_steps (look_due game s)))
      (to_prompt-spends game draws t (automatic-spends game (groups game.db) (unmarked s) draws))
  advance-spends game (Draw head) s draws =
      to_prompt-spends game draws (automatic game (groups_from game.db head) s draws) (automatic-spends game (groups_from game.db head) s draws)
  advance-spends game Line s draws = Spends-talk ls draws [] refl
  advance-spends game (Over ending) s draws = Spends-talk ls draws [] refl

-- ---- the play

answer-spends : (game : Game) (line : List ℕ) (lines : List (List ℕ)) (s : State) (draws : List ℕ) → Spends (line ∷ lines) draws (answer game line s).events lines draws
answer-spends game line lines s draws =
    let h = Spends-talk lines draws (by_heard (heard game.db line) game line s).events (by_heard-talks (heard game.db line) game line s) in
    record { lines_spent = ap (λ xs. line ∷ xs) h.lines_spent; draws_spent = h.draws_spent }

abbrev PlayEndSpends : List (List ℕ) → List ℕ → Traced Step PlayEnd → Type 0
PlayEndSpends lines draws t = Spends lines draws t.events t.value.lines t.value.draws

-- with a line left, the lines and draws of a play add up, where they do before and after that line
with_line-spends : (position : Position) (game : Game) (line : List ℕ) (lines : List (List ℕ)) (draws : List ℕ) (t : Traced Step RoundEnd)
    (next : Position → State → List ℕ → Traced Step PlayEnd)
    → Spends (line ∷ lines) draws t.events (line ∷ lines) t.value.draws
    → ((p : Position) (s : State) (ds : List ℕ) → PlayEndSpends lines ds (next p s ds))
    → PlayEndSpends (line ∷ lines) draws (with_line position game line lines t next)
with_line-spends Line game line lines draws t next here rest =
    let a = answer game line t.value.state in
    let n = next a.value.position a.value.state t.value.draws in
    Spends-append (line ∷ lines) draws t.events (a.events ++ n.events) (line ∷ lines) t.value.draws n.value.lines n.value.draws here
    (Spends-append (line ∷ lines) t.value.draws a.events n.events lines t.value.draws n.value.lines n.value.draws
    (answer-spends game line lines t.value.state t.value.draws) (rest a.value.position a.value.state t.value.draws))
with_line-spends Fresh game line lines draws t next here rest = here
with_line-spends (Draw head) game line lines draws t next here rest = here
with_line-spends (Over ending) game line lines draws t next here rest = here

pub go-spends : (game : Game) (lines : List (List ℕ)) (position : Position) (s : State) (draws : List ℕ) → PlayEndSpends lines draws (go game position s lines draws)
unfolding go
go-spends game [] position s draws = advance-spends [] game position s draws
go-spends game (line ∷ lines) position s draws =
    let t = advance game position s draws in
    with_line-spends t.value.position game line lines draws t (λ p r ds. go game p r lines ds)
    (advance-spends (line ∷ lines) game position s draws) (go-spends game lines)
