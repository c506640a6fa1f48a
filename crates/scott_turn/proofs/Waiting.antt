-- A play that waits for a draw stands at a head of verb 0.
use Rattle.std.proofs.Common.{◌≡◌, ◌∙◌, ℕ, ◌+◌, ◌<◌, Bool, true, false, cond, List, [], ◌∷◌, length, drop, Option, Some, None, refl, sym, ap, arith, length-drop, nat_le}
use Rattle.std.specs.Prelude.{◌==◌, IsTrue}
use Rattle.std.proofs.lemmas.Bool.{and_from, lt-ltb}
use Rattle.scott_types.specs.declared.parts.Action.{Action}
use Rattle.scott_types.specs.declared.states.State.{State}
use Rattle.scott_types.specs.declared.styles.Style.{Style}
use Rattle.scott_types.specs.declared.commands.Heard.{Heard}
use Rattle.scott_types.specs.declared.commands.Heard.TheVariants.{Blank, Unknown, Command}
use Rattle.scott_types.specs.declared.endings.Halt.{Halt}
use Rattle.scott_types.specs.declared.endings.Halt.TheVariants.{Through, Waits, Over as AtEnd}
use Rattle.scott_types.specs.declared.endings.Position.{Position}
use Rattle.scott_types.specs.declared.endings.Position.TheVariants.{Fresh, Draw, Line, Over}
use Rattle.scott_types.specs.Database.{Database, action_at}
use Rattle.scott_types.specs.Action.{verb_of, noun_of}
use Rattle.scott_types.specs.Style.{Game}
use Rattle.adv_io.specs.Steps.{Step, Traced}
use Rattle.scott_rules.specs.Commands.{heard, typed_noun}
use Rattle.scott_rules.specs.Actions.{ActionOutcome}
use Rattle.scott_rules.specs.Groups.{Group, AutoOutcome, over_of, tail_of, groups, groups_of, groups_from, group_tried, auto_after, auto_tried, auto_drawn, auto_group, automatic}
use Rattle.scott_rules.specs.Rounds.{RoundEnd, prompted, unmarked, advance, turn_ended, command_result, by_heard, answer}
use Rattle.scott_rules.specs.Play.{PlayEnd, with_line, go}
use Rattle.scott_rules.specs.Laws.{EndsWell, AdvanceEndsWell, AnswerEndsWell}
use Rattle.scott_turn.specs.Heads.{is_head_of}
use Rattle.scott_turn.specs.Positions.{is_automatic, CanStand, AdvanceStands, AnswerStands, PlayStands}
use Rattle.scott_turn.proofs.Groups.{lines_from}

-- a draw is waited for by a head of verb 0
abbrev WaitsAtHead : Database → Position → Type 0
WaitsAtHead db (Draw head) = IsTrue (is_automatic db head)
WaitsAtHead db _ = Unit

pub ends_well : (db : Database) (position : Position) → CanStand db position → EndsWell position
ends_well db Fresh stands = tt
ends_well db (Draw head) stands = tt
ends_well db Line stands = tt
ends_well db (Over ending) stands = stands

both : (db : Database) (position : Position) → EndsWell position → WaitsAtHead db position
    → CanStand db position
both db Fresh ends waits = tt
both db (Draw head) ends waits = waits
both db Line ends waits = tt
both db (Over ending) ends waits = ends

-- ---- the automatic step

abbrev HaltWaits : Database → Halt → Type 0
HaltWaits db (Waits head) = IsTrue (is_automatic db head)
HaltWaits db _ = Unit

abbrev AutoWaits : Database → (State → List ℕ → Traced Step AutoOutcome) → Type 0
AutoWaits db next = (s : State) (draws : List ℕ) → HaltWaits db (next s draws).value.halt

module _ (db : Database) where
  after-waits : (over : Option ℕ) (t : Traced Step ActionOutcome) (draws : List ℕ)
      (next : State → List ℕ → Traced Step AutoOutcome) → AutoWaits db next
      → HaltWaits db (auto_after over t draws next).value.halt
  after-waits None t draws next rest = rest t.value.state draws
  after-waits (Some ending) t draws next rest = tt

  tried-waits : (drawn : Bool) (game : Game) (g : Group) (s : State) (draws : List ℕ)
      (next : State → List ℕ → Traced Step AutoOutcome) → AutoWaits db next
      → HaltWaits db (auto_tried drawn game g s draws next).value.halt
  tried-waits true game g s draws next rest =
      let t = group_tried game [] g s in
      after-waits (over_of t.value.ran) t draws next rest
  tried-waits false game g s draws next rest = rest s draws

  drawn-waits : (game : Game) (g : Group) (s : State) (draws : List ℕ)
      (next : State → List ℕ → Traced Step AutoOutcome) → IsTrue (is_automatic db g.head)
      → AutoWaits db next → HaltWaits db (auto_drawn game g s draws next).value.halt
  drawn-waits game g s [] next head rest = head
  drawn-waits game g s (draw ∷ draws) next head rest =
      tried-waits (nat_le draw (noun_of g.vocab)) game g s draws next rest

  group-waits : (is : Bool) (game : Game) (g : Group) (s : State) (draws : List ℕ)
      (next : State → List ℕ → Traced Step AutoOutcome)
      → (is ≡ true → IsTrue (is_automatic db g.head)) → AutoWaits db next
      → HaltWaits db (auto_group is game g s draws next).value.halt
  group-waits true game g s draws next head rest = drawn-waits game g s draws next (head refl) rest
  group-waits false game g s draws next head rest = rest s draws

  -- where lines are left, the first of them is there
  is_there : (k : ℕ) (a : Action) (more : List Action) → a ∷ more ≡ drop k db.actions
      → k < length db.actions
  is_there k a more all = omega (arith, length-drop k db.actions, ap length all)

  same-first : (a b : Action) (more rest : List Action) → a ∷ more ≡ b ∷ rest → a ≡ b
  same-first a b more rest e = cc

  same-rest : (a b : Action) (more rest : List Action) → a ∷ more ≡ b ∷ rest → more ≡ rest
  same-rest a b more rest e = cc

  -- a line with a vocabulary of verb 0 is a head of it
  is_head : (k : ℕ) (a : Action) → k < length db.actions → a ≡ action_at db k
      → (a.vocab == 0) ≡ false → (verb_of a.vocab == 0) ≡ true → IsTrue (is_automatic db k)
  is_head k a there is some verb =
      let test : is_head_of 0 a ≡ true = rw (some, verb) refl in
      and_from _ _ (lt-ltb k (length db.actions) there) (ap (is_head_of 0) (sym is) ∙ test)

  by_vocab : (q : Bool) (game : Game) (k : ℕ) (a : Action) (more : List Action)
      → k < length db.actions → a ≡ action_at db k → (a.vocab == 0) ≡ q
      → AutoWaits db (automatic game (groups_of (k + 1) more))
      → AutoWaits db (automatic game (cond q (groups_of (k + 1) more)
      (record { head = k; vocab = a.vocab; tail = tail_of (k + 1) more } ∷ groups_of (k + 1) more)))
  by_vocab true game k a more there is none rest = rest
  by_vocab false game k a more there is some rest = λ s draws.
      group-waits (verb_of a.vocab == 0) game
      (record { head = k; vocab = a.vocab; tail = tail_of (k + 1) more }) s draws
      (automatic game (groups_of (k + 1) more)) (is_head k a there is some) rest

  groups-wait : (game : Game) (lines : List Action) (k : ℕ) → lines ≡ drop k db.actions
      → AutoWaits db (automatic game (groups_of k lines))
  groups-wait game [] k all = λ s draws. tt
  groups-wait game (a ∷ more) k all =
      let there = is_there k a more all in
      let split = all ∙ lines_from db k there in
      let rest = same-rest a (action_at db k) more (drop (k + 1) db.actions) split in
      by_vocab (a.vocab == 0) game k a more there
      (same-first a (action_at db k) more (drop (k + 1) db.actions) split) refl
      (groups-wait game more (k + 1) rest)

  prompted-waits : (halt : Halt) (game : Game) (s : State) (draws : List ℕ) → HaltWaits db halt
      → WaitsAtHead db (prompted halt game s draws).value.position
  prompted-waits Through game s draws waits = tt
  prompted-waits (Waits head) game s draws waits = waits
  prompted-waits (AtEnd ending) game s draws waits = tt

-- what is done up to the prompt waits for a draw only at a head of verb 0
advance-waits : (game : Game) (position : Position) (s : State) (draws : List ℕ)
    → WaitsAtHead game.db (advance game position s draws).value.position
advance-waits game Fresh s draws =
    let db = game.db in
    let t = automatic game (groups db) (unmarked s) draws in
    prompted-waits db t.value.halt game t.value.state t.value.draws
    (groups-wait db game (drop 0 db.actions) 0 refl (unmarked s) draws)
advance-waits game (Draw head) s draws =
    let db = game.db in
    let t = automatic game (groups_from db head) s draws in
    prompted-waits db t.value.halt game t.value.state t.value.draws
    (groups-wait db game (drop head db.actions) head refl s draws)
advance-waits game Line s draws = tt
advance-waits game (Over ending) s draws = tt

-- ---- the answer to a line

ended-waits : (db : Database) (style : Style) (over : Option ℕ) (s : State)
    → WaitsAtHead db (turn_ended style over s).value.position
ended-waits db style None s = tt
ended-waits db style (Some ending) s = tt

heard-waits : (h : Heard) (game : Game) (line : List ℕ) (s : State)
    → WaitsAtHead game.db (by_heard h game line s).value.position
heard-waits Blank game line s = tt
heard-waits (Unknown start size) game line s = tt
heard-waits (Command verb noun) game line s =
    let t = command_result game (typed_noun line) verb noun s in
    ended-waits game.db game.style t.value.over t.value.state

-- ---- the laws

pub advance_stands : AdvanceEndsWell → AdvanceStands
advance_stands ends game position s draws stands =
    both game.db (advance game position s draws).value.position
    (ends game position s draws (ends_well game.db position stands))
    (advance-waits game position s draws)

pub answer_stands : AnswerEndsWell → AnswerStands
answer_stands ends game line s =
    both game.db (answer game line s).value.position (ends game line s)
    (heard-waits (heard game.db line) game line s)

line-stands : (position : Position) (game : Game) (line : List ℕ) (lines : List (List ℕ))
    (t : Traced Step RoundEnd) (next : Position → State → List ℕ → Traced Step PlayEnd)
    → AnswerStands → CanStand game.db t.value.position
    → ((p : Position) (r : State) (draws : List ℕ) → CanStand game.db p
    → CanStand game.db (next p r draws).value.position)
    → CanStand game.db (with_line position game line lines t next).value.position
line-stands Line game line lines t next answers stands rest =
    let a = answer game line t.value.state in
    rest a.value.position a.value.state t.value.draws (answers game line t.value.state)
line-stands _ game line lines t next answers stands rest = stands

module _ (advances : AdvanceStands) (answers : AnswerStands) where
  go-stands : (game : Game) (lines : List (List ℕ)) (position : Position) (s : State)
      (draws : List ℕ) → CanStand game.db position
      → CanStand game.db (go game position s lines draws).value.position
  unfolding go
  go-stands game [] position s draws stands = advances game position s draws stands
  go-stands game (line ∷ lines) position s draws stands =
      let t = advance game position s draws in
      line-stands t.value.position game line lines t (λ p r ds. go game p r lines ds) answers
      (advances game position s draws stands) (go-stands game lines)

  pub play_stands : PlayStands
  play_stands game position s lines draws stands = go-stands game lines position s draws stands
