-- What follows the automatic step, whatever draws are left.
use Rattle.std.proofs.Common.{◌≡◌, ◌∙◌, ℕ, List, [], refl, ap}
use Rattle.scott_types.specs.declared.states.State.{State}
use Rattle.scott_types.specs.declared.endings.Position.{Position}
use Rattle.scott_types.specs.declared.endings.Halt.{Halt}
use Rattle.scott_types.specs.declared.endings.Halt.TheVariants.{Through, Waits, Over}
use Rattle.scott_types.specs.Style.{Game}
use Rattle.scott_rules.specs.Groups.{AutoOutcome}
use Rattle.scott_rules.specs.Rounds.{RoundEnd, prompted}

prompted-events : (halt : Halt) (game : Game) (s : State) (draws : List ℕ) → (prompted halt game s draws).events ≡ (prompted halt game s []).events
prompted-events Through game s draws = refl
prompted-events (Waits head) game s draws = refl
prompted-events (Over ending) game s draws = refl

-- the same of what the step left
pub prompted-as_rules : (game : Game) (v : AutoOutcome) (s : State) (draws : List ℕ) (halt : Halt) → v ≡ record { state = s; draws = draws; halt = halt }
    → (prompted v.halt game v.state v.draws).events ≡ (prompted halt game s []).events
prompted-as_rules game v s draws halt is = ap (λ o. (prompted o.halt game o.state o.draws).events) is ∙ prompted-events halt game s draws

abbrev pub with_draws : List ℕ → RoundEnd → RoundEnd
with_draws draws o = record o { draws = draws }

prompted-value : (halt : Halt) (game : Game) (s : State) (draws : List ℕ) → (prompted halt game s draws).value ≡ with_draws draws (prompted halt game s []).value
prompted-value Through game s draws = refl
prompted-value (Waits head) game s draws = refl
prompted-value (Over ending) game s draws = refl

-- and what it leaves
pub prompted-left : (game : Game) (v : AutoOutcome) (s : State) (draws : List ℕ) (halt : Halt) → v ≡ record { state = s; draws = draws; halt = halt }
    → (position : Position) (now : State) → (prompted halt game s []).value ≡ record { position = position; state = now; draws = [] }
    → (prompted v.halt game v.state v.draws).value ≡ record { position = position; state = now; draws = draws }
prompted-left game v s draws halt is position now left =
    ap (λ o. (prompted o.halt game o.state o.draws).value) is
    ∙ prompted-value halt game s draws
    ∙ ap (with_draws draws) left
