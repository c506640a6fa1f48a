-- What a console sees of steps, one part after another.
use Rattle.std.proofs.Common.{◌≡◌, ◌∙◌, ℕ, List, [], ◌∷◌, ◌++◌, Bool, true, false, cond, Option, Some, None, refl, sym, ap}
use Rattle.std.proofs.lemmas.List.{append-nil}
use Rattle.std.specs.Prelude.{is_some}
use Rattle.adv_io.specs.History.{says}
use Rattle.scott_types.specs.declared.states.State.{State}
use Rattle.scott_types.specs.Action.{is_zero_action}
use Rattle.scott_types.specs.Style.{Game}
use Rattle.scott_types.specs.Database.{action_at}
use Rattle.adv_io.proofs.Showing.{shown_of-said}
use Rattle.adv_io.specs.Steps.{Noted, Step, Traced, after, said_steps, shown_of}
use Rattle.scott_rules.specs.Progress.{Progress, and_then, then_if_on}
use Rattle.scott_rules.specs.Actions.{action_result, try_action}

-- what is said as steps shows its bytes
pub shown_said : (bytes : List ℕ) → shown_of (said_steps bytes) ≡ says bytes
shown_said bytes = shown_of-said bytes

-- an action that is tried shows what it says
noted-shown : (zero : Bool) (line : ℕ) (es : List Step) → shown_of (cond zero [] (Noted line ∷ []) ++ es) ≡ shown_of es
noted-shown true line es = refl
noted-shown false line es = refl

pub shown_action : (game : Game) (noun : List ℕ) (line : ℕ) (s : State) → shown_of (try_action game noun line s).events ≡ says (action_result game noun line s).events
shown_action game noun line s =
    noted-shown (is_zero_action (action_at game.db line)) line (said_steps (action_result game noun line s).events)
    ∙ shown_said (action_result game noun line s).events

-- ---- a part that may end the game, and what comes after it

pub and_then-on : {E : Type 0} (t : Traced E Progress) (next : State → Traced E Progress) (over : Option ℕ) → over ≡ t.value.over → is_some over ≡ false → and_then t next ≡ after t.events (next t.value.state)
and_then-on t next None is on = ap (λ o. then_if_on o t next) (sym is)
and_then-on t next (Some ending) is on = absurd cc

pub and_then-over : {E : Type 0} (t : Traced E Progress) (next : State → Traced E Progress) (over : Option ℕ) → over ≡ t.value.over → is_some over ≡ true → and_then t next ≡ t
and_then-over t next None is ended = absurd cc
and_then-over t next (Some ending) is ended = ap (λ o. then_if_on o t next) (sym is)

-- what comes after the part's own steps
abbrev pub after_part : {E : Type 0} → Option ℕ → Traced E Progress → (State → Traced E Progress) → List E
after_part None t next = (next t.value.state).events
after_part (Some ending) t next = []

then_if_on-prefix : {E : Type 0} (over : Option ℕ) (t : Traced E Progress) (next : State → Traced E Progress) → (then_if_on over t next).events ≡ t.events ++ after_part over t next
then_if_on-prefix None t next = refl
then_if_on-prefix (Some ending) t next = sym (append-nil t.events)

pub and_then-prefix : {E : Type 0} (t : Traced E Progress) (next : State → Traced E Progress) → (and_then t next).events ≡ t.events ++ after_part t.value.over t next
and_then-prefix t next = then_if_on-prefix t.value.over t next
