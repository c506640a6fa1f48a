-- The turn of one automatic group, by whether a draw is left.
use Rattle.std.specs.Prelude.{nat_le}
use Rattle.std.proofs.Common.{◌≡◌, ◌∙◌, ℕ, ◌+◌, Bool, true, false, List, [], ◌∷◌, length, Result, Ok, OnOk, refl, sym, ap, subst, arith}
use Rattle.std.proofs.lemmas.Result.{IfOk-weaker}
use Rattle.adv_draws.specs.Supply.{Supply, supplied}
use Rattle.adv_io.specs.Console.{ConsoleView, Speaks}
use Rattle.adv_io.specs.Steps.{Drew, Step, Traced, after, shown_of, traced}
use Rattle.adv_io.specs.declared.faults.ConsoleFault.{ConsoleFault}
use Rattle.adv_io.proofs.Sayings.{nothing_said}
use Rattle.scott_types.specs.declared.states.State.{State}
use Rattle.scott_types.specs.declared.endings.Halt.{Halt}
use Rattle.scott_types.specs.declared.endings.Halt.TheVariants.{Waits}
use Rattle.scott_types.specs.Style.{Game}
use Rattle.scott_types.specs.Action.{noun_of}
use Rattle.scott_rules.specs.Groups.{Group, AutoOutcome}
use Rattle.scott_turn.specs.Tried.{tallied}
use Rattle.scott_turn.specs.Done.{Does}
use Rattle.scott_turn.specs.Turns.{entered, auto_turn}

-- the draws that are left change nothing but themselves
entered-draws : (b : Bool) (game : Game) (g : Group) (s : State) (draws : List ℕ)
    → entered b game g s draws
    ≡ traced (entered b game g s []).events (record { state = (entered b game g s []).value.state; draws = draws; halt = (entered b game g s []).value.halt })
entered-draws true game g s draws = refl
entered-draws false game g s draws = refl

-- a draw is taken
module _ (game : Game) (g : Group) (s : State) (draws rest : List ℕ) (draw : ℕ) (given : draws ≡ draw ∷ rest) where
  turn : auto_turn game g s draws ≡ after (Drew draw ∷ []) (entered (nat_le draw (noun_of g.vocab)) game g s rest)
  turn = ap (auto_turn game g s) given

  whole : auto_turn game g s draws
      ≡ (let t = entered (nat_le draw (noun_of g.vocab)) game g s [] in traced (Drew draw ∷ t.events) (record { state = t.value.state; draws = rest; halt = t.value.halt }))
  whole = turn ∙ ap (after (Drew draw ∷ [])) (entered-draws (nat_le draw (noun_of g.vocab)) game g s rest)

  pub turn_does : {old new : ConsoleView} (r : Result Halt ConsoleFault) (now : State) (old_counts new_counts : List ℕ)
      → Does old new r (entered (nat_le draw (noun_of g.vocab)) game g s []) (λ halt. record { state = now; draws = []; halt = halt }) old_counts new_counts
      → Does old new r (auto_turn game g s draws) (λ halt. record { state = now; draws = rest; halt = halt }) old_counts new_counts
  turn_does {old = old} {new = new} r now old_counts new_counts does = record {
    spoken = subst (λ (t : Traced Step AutoOutcome). Speaks old new r (shown_of t.events)) (sym whole) does.spoken;
    tried = subst (λ (t : Traced Step AutoOutcome). OnOk r (new_counts ≡ tallied t.events old_counts)) (sym whole) does.tried;
    left = IfOk-weaker r _ _ (λ halt is. ap (λ t. t.value) whole ∙ rw is refl) does.left;
  }

  pub turn_draws : rest ≡ (auto_turn game g s draws).value.draws
  turn_draws = ap (λ t. t.value.draws) (sym whole)

-- no draw is left
module _ (game : Game) (g : Group) (s : State) (draws : List ℕ) (none : draws ≡ []) where
  pub turn_waits : auto_turn game g s draws ≡ traced [] (record { state = s; draws = []; halt = Waits g.head })
  turn_waits = ap (auto_turn game g s) none

  pub waiting_says : (console : ConsoleView) → Speaks {E = ConsoleFault} console console (Ok (Waits g.head)) (shown_of (auto_turn game g s draws).events)
  waiting_says console = subst (λ (t : Traced Step AutoOutcome). Speaks {E = ConsoleFault} console console (Ok (Waits g.head)) (shown_of t.events)) (sym turn_waits) (nothing_said console (Waits g.head))

-- what is taken isn't left
pub one_taken : (before now : Supply) (draw : ℕ) → before.left ≡ draw ∷ now.left → now.taken ≡ before.taken + 1 → supplied now ≡ supplied before
one_taken before now draw given counted = omega (arith, ap length given)
