-- A play that stopped goes on from where it stopped, as if it had never stopped.
use Rattle.std.proofs.Common.{◌≡◌, ◌∙◌, ◌+◌, ℕ, List, [], ◌∷◌, ◌++◌, drop, Bool, true, false, cond, eqb, Option, Some, None, refl, sym, ap, append_assoc, append-nil, drop-drop}
use Rattle.std.specs.Prelude.{nat_le}
use Rattle.scott_types.specs.declared.parts.Action.{Action}
use Rattle.scott_types.specs.declared.states.State.{State}
use Rattle.scott_types.specs.declared.endings.Halt.{Halt}
use Rattle.scott_types.specs.declared.endings.Halt.TheVariants.{Through, Waits, Over as AtEnd}
use Rattle.scott_types.specs.declared.endings.Position.{Position}
use Rattle.scott_types.specs.declared.endings.Position.TheVariants.{Fresh, Draw, Line, Over}
use Rattle.scott_types.specs.Style.{Game}
use Rattle.scott_types.specs.Database.{Database}
use Rattle.scott_types.specs.Action.{verb_of, noun_of}
use Rattle.adv_io.specs.Steps.{Drew, Step, Traced, after, said_steps, traced}
use Rattle.scott_rules.specs.Actions.{ActionOutcome}
use Rattle.scott_rules.specs.Groups.{Group, AutoOutcome, groups_of, groups_from, tail_of, over_of, group_tried, auto_after, auto_tried, auto_drawn, auto_group, automatic}
use Rattle.scott_rules.specs.Rounds.{RoundEnd, look_due, unmarked, prompted, to_prompt, advance, answer}
use Rattle.scott_rules.specs.Play.{PlayEnd, stopped, with_line, go}
use Rattle.scott_rules.specs.Laws.{with_more}

-- ---- records of steps and a value

pub after-after : {R : Type 0} → (es fs : List Step) (t : Traced Step R) → after es (after fs t) ≡ after (es ++ fs) t
after-after es fs t = ap (λ gs. traced gs t.value) (sym (append_assoc es fs t.events))

pub after-nothing : {R : Type 0} (es : List Step) (value : R) → after es (traced [] value) ≡ traced es value
after-nothing es value = ap (λ fs. traced fs value) (append-nil es)

-- ---- the groups after a group

-- each group, with those after it, is what stands from its head on
abbrev pub StandFromHeads : Database → List Group → Type 0
StandFromHeads db [] = Unit {0}
StandFromHeads db (g ∷ gs) = (groups_from db g.head ≡ g ∷ gs) × StandFromHeads db gs

drop-next : {X : Type 0} → (k : ℕ) (xs : List X) (x : X) (rest : List X) → drop k xs ≡ x ∷ rest → drop (k + 1) xs ≡ rest
drop-next k xs x rest e = sym (drop-drop 1 k xs) ∙ ap (drop 1) e

-- each group of the lines from any line on, with those after it, is what stands from its head on
pub StandFromHeads-groups_of : (db : Database) (k : ℕ) (xs : List Action) → drop k db.actions ≡ xs → StandFromHeads db (groups_of k xs)
StandFromHeads-groups_of db k [] e = tt
StandFromHeads-groups_of db k (a ∷ xs) e = by_head (eqb a.vocab 0) (StandFromHeads-groups_of db (k + 1) xs (drop-next k db.actions a xs e)) (ap (groups_of k) e)
  where
    g : Group
    g = record { head = k; vocab = a.vocab; tail = tail_of (k + 1) xs }

    by_head : (b : Bool) → StandFromHeads db (groups_of (k + 1) xs)
        → groups_from db k ≡ cond b (groups_of (k + 1) xs) (g ∷ groups_of (k + 1) xs)
        → StandFromHeads db (cond b (groups_of (k + 1) xs) (g ∷ groups_of (k + 1) xs))
    by_head true rest here = rest
    by_head false rest here = (here, rest)

-- ---- the automatic step

-- where a step waited for a draw it goes on with further ones; otherwise they are left
abbrev pub resumed : Halt → Game → List ℕ → Traced Step AutoOutcome → Traced Step AutoOutcome
resumed (Waits head) game further t = after t.events (automatic game (groups_from game.db head) t.value.state (t.value.draws ++ further))
resumed _ game further t = traced t.events (record t.value { draws = t.value.draws ++ further })

abbrev pub resume : Game → List ℕ → Traced Step AutoOutcome → Traced Step AutoOutcome
resume game further t = resumed t.value.halt game further t

resumed-after : (halt : Halt) (game : Game) (further : List ℕ) (es : List Step) (t : Traced Step AutoOutcome)
    → after es (resumed halt game further t) ≡ resumed halt game further (after es t)
resumed-after Through game further es t = refl
resumed-after (Waits head) game further es t = after-after es t.events _
resumed-after (AtEnd ending) game further es t = refl

-- what comes next goes on with further draws as it would have with them from the beginning
abbrev GoesOn : Game → List ℕ → (State → List ℕ → Traced Step AutoOutcome) → Type 0
GoesOn game further next = (s : State) (draws : List ℕ) → next s (draws ++ further) ≡ resume game further (next s draws)

later : (over : Option ℕ) (game : Game) (further draws : List ℕ) (t : Traced Step ActionOutcome) (next : State → List ℕ → Traced Step AutoOutcome)
    → GoesOn game further next → auto_after over t (draws ++ further) next ≡ resume game further (auto_after over t draws next)
later None game further draws t next on =
    ap (after t.events) (on t.value.state draws) ∙ resumed-after (next t.value.state draws).value.halt game further t.events (next t.value.state draws)
later (Some ending) game further draws t next on = refl

tried : (passes : Bool) (game : Game) (g : Group) (s : State) (further draws : List ℕ) (next : State → List ℕ → Traced Step AutoOutcome)
    → GoesOn game further next → auto_tried passes game g s (draws ++ further) next ≡ resume game further (auto_tried passes game g s draws next)
tried true game g s further draws next on = let t = group_tried game [] g s in later (over_of t.value.ran) game further draws t next on
tried false game g s further draws next on = on s draws

-- at a group that waits, what is left is the group and those after it
drawn : (game : Game) (g : Group) (s : State) (further draws : List ℕ) (next : State → List ℕ → Traced Step AutoOutcome)
    → GoesOn game further next → automatic game (groups_from game.db g.head) s further ≡ auto_drawn game g s further next
    → auto_drawn game g s (draws ++ further) next ≡ resume game further (auto_drawn game g s draws next)
drawn game g s further [] next on here = sym here
drawn game g s further (draw ∷ draws) next on here =
    let b = nat_le draw (noun_of g.vocab) in
    ap (after (Drew draw ∷ [])) (tried b game g s further draws next on)
    ∙ resumed-after (auto_tried b game g s draws next).value.halt game further (Drew draw ∷ []) (auto_tried b game g s draws next)

group : (is_automatic : Bool) (game : Game) (g : Group) (s : State) (further draws : List ℕ) (next : State → List ℕ → Traced Step AutoOutcome)
    → GoesOn game further next → automatic game (groups_from game.db g.head) s further ≡ auto_group is_automatic game g s further next
    → auto_group is_automatic game g s (draws ++ further) next ≡ resume game further (auto_group is_automatic game g s draws next)
group true game g s further draws next on here = drawn game g s further draws next on here
group false game g s further draws next on here = on s draws

pub automatic-resume : (game : Game) (gs : List Group) (further : List ℕ) → StandFromHeads game.db gs → GoesOn game further (automatic game gs)
automatic-resume game [] further stand s draws = refl
automatic-resume game (g ∷ gs) further stand s draws =
    group (eqb (verb_of g.vocab) 0) game g s further draws (automatic game gs) (automatic-resume game gs further stand.1)
    (ap (λ hs. automatic game hs s further) stand.0)

-- ---- up to the prompt

to_prompt-after : (game : Game) (es : List Step) (t : Traced Step AutoOutcome) → to_prompt game (after es t) ≡ after es (to_prompt game t)
to_prompt-after game es t = sym (after-after es t.events (prompted t.value.halt game t.value.state t.value.draws))

-- what is done up to the prompt, from where it stopped, with further draws
abbrev pub advance_on : Game → List ℕ → Traced Step RoundEnd → Traced Step RoundEnd
advance_on game further t = after t.events (advance game t.value.position t.value.state (t.value.draws ++ further))

advance_on-after : (game : Game) (further : List ℕ) (es : List Step) (t : Traced Step RoundEnd) → advance_on game further (after es t) ≡ after es (advance_on game further t)
advance_on-after game further es t = sym (after-after es t.events (advance game t.value.position t.value.state (t.value.draws ++ further)))

to_prompt-resumed : (halt : Halt) (game : Game) (further : List ℕ) (es : List Step) (s : State) (draws : List ℕ)
    → let t : Traced Step AutoOutcome = traced es (record { state = s; draws = draws; halt = halt }) in
    to_prompt game (resume game further t) ≡ advance_on game further (to_prompt game t)
to_prompt-resumed Through game further es s draws =
    sym (after-nothing (es ++ (prompted Through game s draws).events) (record { position = Line; state = unmarked s; draws = draws ++ further }))
to_prompt-resumed (Waits head) game further es s draws =
    to_prompt-after game es (automatic game (groups_from game.db head) s (draws ++ further))
    ∙ ap (λ fs. after fs (to_prompt game (automatic game (groups_from game.db head) s (draws ++ further)))) (sym (append-nil es))
to_prompt-resumed (AtEnd ending) game further es s draws =
    sym (after-nothing (es ++ []) (record { position = Over ending; state = s; draws = draws ++ further }))

automatic-on : (game : Game) (line : ℕ) (s : State) (draws further : List ℕ)
    → to_prompt game (automatic game (groups_from game.db line) s (draws ++ further))
    ≡ advance_on game further (to_prompt game (automatic game (groups_from game.db line) s draws))
automatic-on game line s draws further =
    let gs = groups_from game.db line in
    let t = automatic game gs s draws in
    ap (to_prompt game) (automatic-resume game gs further (StandFromHeads-groups_of game.db line (drop line game.db.actions) refl) s draws)
    ∙ to_prompt-resumed t.value.halt game further t.events t.value.state t.value.draws

pub advance-on : (game : Game) (position : Position) (s : State) (draws further : List ℕ)
    → advance game position s (draws ++ further) ≡ advance_on game further (advance game position s draws)
advance-on game Fresh s draws further =
    let first = said_steps (look_due game s) in
    ap (after first) (automatic-on game 0 (unmarked s) draws further)
    ∙ sym (advance_on-after game further first (to_prompt game (automatic game (groups_from game.db 0) (unmarked s) draws)))
advance-on game (Draw head) s draws further = automatic-on game head s draws further
advance-on game Line s draws further = refl
advance-on game (Over ending) s draws further = refl

-- ---- the play

with_line-after : (position : Position) (game : Game) (line : List ℕ) (lines : List (List ℕ)) (es : List Step) (t : Traced Step RoundEnd)
    (next : Position → State → List ℕ → Traced Step PlayEnd)
    → with_line position game line lines (after es t) next ≡ after es (with_line position game line lines t next)
with_line-after Line game line lines es t next = sym (after-after es t.events _)
with_line-after Fresh game line lines es t next = refl
with_line-after (Draw head) game line lines es t next = refl
with_line-after (Over ending) game line lines es t next = refl

-- where a play stands before a line is taken, it may as well begin
pub go-advance : (game : Game) (position : Position) (s : State) (lines : List (List ℕ)) (draws further : List ℕ)
    → let t = advance game position s draws in
    go game position s lines (draws ++ further) ≡ after t.events (go game t.value.position t.value.state lines (t.value.draws ++ further))
unfolding go
go-advance game position s [] draws further = ap (stopped []) (advance-on game position s draws further)
go-advance game position s (line ∷ lines) draws further =
    let t = advance game position s draws in
    let u = advance game t.value.position t.value.state (t.value.draws ++ further) in
    let next = λ (p : Position) (r : State) (ds : List ℕ). go game p r lines ds in
    ap (λ v. with_line v.value.position game line lines v next) (advance-on game position s draws further)
    ∙ with_line-after u.value.position game line lines t.events u next

-- the rest of a play, with more lines and draws
abbrev pub go_on : Game → List (List ℕ) → List ℕ → Traced Step PlayEnd → Traced Step PlayEnd
go_on game more further t = after t.events (go game t.value.position t.value.state (t.value.lines ++ more) (t.value.draws ++ further))

go_on-after : (game : Game) (more : List (List ℕ)) (further : List ℕ) (es : List Step) (t : Traced Step PlayEnd) → go_on game more further (after es t) ≡ after es (go_on game more further t)
go_on-after game more further es t = sym (after-after es t.events (go game t.value.position t.value.state (t.value.lines ++ more) (t.value.draws ++ further)))

abbrev GoesOnFromLine : Game → List (List ℕ) → List (List ℕ) → List ℕ → Type 0
GoesOnFromLine game lines more further = (position : Position) (s : State) (draws : List ℕ)
    → go game position s (lines ++ more) (draws ++ further) ≡ go_on game more further (go game position s lines draws)

-- a play that has a line left, with more lines and draws after what it has, goes on with them from
-- where it would have stopped
at_line : (position : Position) (game : Game) (line : List ℕ) (lines more : List (List ℕ)) (further : List ℕ) (es : List Step) (s : State) (draws : List ℕ)
    → GoesOnFromLine game lines more further
    → after es (go game position s (line ∷ (lines ++ more)) (draws ++ further))
    ≡ go_on game more further (with_line position game line lines (traced es (record { position = position; state = s; draws = draws })) (λ p r ds. go game p r lines ds))
unfolding go
at_line Line game line lines more further es s draws on =
    let a = answer game line s in
    let rest = go game a.value.position a.value.state lines draws in
    ap (λ u. after es (after a.events u)) (on a.value.position a.value.state draws)
    ∙ sym (go_on-after game more further es (after a.events rest) ∙ ap (after es) (go_on-after game more further a.events rest))
at_line Fresh game line lines more further es s draws on = refl
at_line (Draw head) game line lines more further es s draws on = refl
at_line (Over ending) game line lines more further es s draws on = refl

-- lines first, since the play is by the lines that are left
pub go-splits : (game : Game) (lines more : List (List ℕ)) (further : List ℕ) → GoesOnFromLine game lines more further
unfolding go
go-splits game [] more further position s draws = go-advance game position s more draws further
go-splits game (line ∷ lines) more further position s draws =
    let t = advance game position s draws in
    go-advance game position s (line ∷ (lines ++ more)) draws further
    ∙ at_line t.value.position game line lines more further t.events t.value.state t.value.draws (go-splits game lines more further)

-- ---- the end

go-over : (game : Game) (ending : ℕ) (s : State) (lines : List (List ℕ)) (draws : List ℕ)
    → go game (Over ending) s lines draws ≡ traced [] (record { position = Over ending; state = s; lines = lines; draws = draws })
unfolding go
go-over game ending s [] draws = refl
go-over game ending s (line ∷ lines) draws = refl

over-on : (game : Game) (more : List (List ℕ)) (further : List ℕ) (ending : ℕ) (t : Traced Step PlayEnd)
    → t.value.position ≡ Over ending → go_on game more further t ≡ with_more more further t
over-on game more further ending t e =
    ap (λ p. after t.events (go game p t.value.state (t.value.lines ++ more) (t.value.draws ++ further))) e
    ∙ ap (after t.events) (go-over game ending t.value.state (t.value.lines ++ more) (t.value.draws ++ further))
    ∙ after-nothing t.events (record { position = Over ending; state = t.value.state; lines = t.value.lines ++ more; draws = t.value.draws ++ further })
    ∙ ap (λ p. traced t.events (record { position = p; state = t.value.state; lines = t.value.lines ++ more; draws = t.value.draws ++ further })) (sym e)

pub go-stays_over : (game : Game) (position : Position) (s : State) (lines more : List (List ℕ)) (draws further : List ℕ) (ending : ℕ)
    → (go game position s lines draws).value.position ≡ Over ending
    → go game position s (lines ++ more) (draws ++ further) ≡ with_more more further (go game position s lines draws)
go-stays_over game position s lines more draws further ending e =
    go-splits game lines more further position s draws ∙ over-on game more further ending (go game position s lines draws) e
