-- A group, part by part.
use Rattle.std.proofs.Common.{◌≡◌, ◌∙◌, ℕ, ◌+◌, List, [], ◌∷◌, ◌++◌, true, false, Option, Result, Ok, Err, OnOk, IfOk, refl, sym, ap}
use Rattle.std.specs.Prelude.{is_some}
use Rattle.std.proofs.lemmas.List.{append-nil}
use Rattle.scott_types.specs.declared.states.State.{State}
use Rattle.scott_types.specs.declared.endings.Ran.{Ran}
use Rattle.scott_types.specs.declared.endings.Ran.TheVariants.{Not, Passed, Over}
use Rattle.scott_types.specs.Style.{Game}
use Rattle.adv_io.specs.Steps.{Step, Traced, after}
use Rattle.scott_rules.specs.Actions.{ActionOutcome, try_action}
use Rattle.scott_rules.specs.Groups.{Group, tail_action, tail_tried, with_tail, after_head, group_tried}
use Rattle.scott_turn.specs.Heads.{tail_from}
use Rattle.scott_turn.proofs.Showing.{after_part, and_then-prefix, and_then-on, and_then-over}

-- ---- a tail

module _ (game : Game) (noun : List ℕ) (line : ℕ) (s : State) (over : Option ℕ) (is : over ≡ (tail_action game noun line s).value.over) (goes_on : tail_from game.db line ≡ line ∷ tail_from game.db (line + 1)) where
  -- after a line that doesn't end the game comes the rest of the tail
  pub tail-on : is_some over ≡ false → (new : State) → new ≡ (tail_action game noun line s).value.state
      → tail_tried game noun (tail_from game.db line) s ≡ after (tail_action game noun line s).events (tail_tried game noun (tail_from game.db (line + 1)) new)
  tail-on on new state =
      ap (λ lines. tail_tried game noun lines s) goes_on
      ∙ and_then-on (tail_action game noun line s) (tail_tried game noun (tail_from game.db (line + 1))) over is on
      ∙ ap (λ r. after (tail_action game noun line s).events (tail_tried game noun (tail_from game.db (line + 1)) r)) (sym state)

  -- a line that ends the game is the whole of what is left
  pub tail-over : is_some over ≡ true → tail_tried game noun (tail_from game.db line) s ≡ tail_action game noun line s
  tail-over ended =
      ap (λ lines. tail_tried game noun lines s) goes_on
      ∙ and_then-over (tail_action game noun line s) (tail_tried game noun (tail_from game.db (line + 1))) over is ended

-- a tail begins with its first line
pub tail-prefix : (game : Game) (noun : List ℕ) (line : ℕ) (s : State) → tail_from game.db line ≡ line ∷ tail_from game.db (line + 1)
    → (tail_tried game noun (tail_from game.db line) s).events
    ≡ (tail_action game noun line s).events ++ after_part (tail_action game noun line s).value.over (tail_action game noun line s) (tail_tried game noun (tail_from game.db (line + 1)))
tail-prefix game noun line s goes_on =
    ap (λ lines. (tail_tried game noun lines s).events) goes_on
    ∙ and_then-prefix (tail_action game noun line s) (tail_tried game noun (tail_from game.db (line + 1)))

-- ---- a group

-- where the head goes on, its tail is after it
pub group-goes_on : (game : Game) (noun : List ℕ) (g : Group) (s : State) → (try_action game noun g.head s).value.ran ≡ Passed true
    → group_tried game noun g s ≡ after (try_action game noun g.head s).events (with_tail (tail_tried game noun g.tail (try_action game noun g.head s).value.state))
group-goes_on game noun g s e = ap (λ ran. after_head ran game noun g.tail (try_action game noun g.head s)) e

-- what comes after the head's own steps
abbrev pub tail_steps : Ran → Game → List ℕ → Group → Traced Step ActionOutcome → List Step
tail_steps (Passed true) game noun g t = (tail_tried game noun g.tail t.value.state).events
tail_steps _ game noun g t = []

after_head-prefix : (ran : Ran) (game : Game) (noun : List ℕ) (g : Group) (t : Traced Step ActionOutcome) → (after_head ran game noun g.tail t).events ≡ t.events ++ tail_steps ran game noun g t
after_head-prefix (Passed true) game noun g t = refl
after_head-prefix (Passed false) game noun g t = sym (append-nil t.events)
after_head-prefix Not game noun g t = sym (append-nil t.events)
after_head-prefix (Over ending) game noun g t = sym (append-nil t.events)

-- a group begins with its head
pub group-prefix : (game : Game) (noun : List ℕ) (g : Group) (s : State)
    → (group_tried game noun g s).events ≡ (try_action game noun g.head s).events ++ tail_steps (try_action game noun g.head s).value.ran game noun g (try_action game noun g.head s)
group-prefix game noun g s = let t = try_action game noun g.head s in after_head-prefix t.value.ran game noun g t

-- ---- an outcome, of the state that is left and of what was answered

pub ran_left : {E : Type 0} (r : Result Ran E) (o : ActionOutcome) (s : State) → OnOk r (s ≡ o.state) → IfOk r (λ ran. ran ≡ o.ran)
    → IfOk r (λ ran. o ≡ record { state = s; ran = ran })
ran_left (Ok ran) o s state is = rw (state, is) refl
ran_left (Err fault) o s state is = tt
