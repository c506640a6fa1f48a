-- The rules of routines: what a call of one does, by its body.
use Rattle.std.proofs.Common.{◌≡◌, ◌∙◌, ℕ, suc, ◌≤◌, ℤ, List, [], ◌∷◌, ◌++◌, Option, Some, sym, refl, ap, subst}
use Rattle.adv_io.specs.Steps.{Noted}
use Rattle.inform_tree.specs.Programs.{RoutineTree}
use Rattle.inform_meaning.specs.Worlds.{Program, Scope, Config, scope_of, with_note}
use Rattle.inform_meaning.specs.Frames.{Outcome, Value, within_scope, on_return, bind}
use Rattle.inform_meaning.specs.Statements.{exec_all}
use Rattle.inform_meaning.specs.Runs.{noted_body, enter, call_at}
use Rattle.inform_logic.specs.Stages.{Stage, with_past}
use Rattle.inform_logic.specs.Leading.{Leaves, Takes, Runs, BodyGives, at_end, by_return, Does}
use Rattle.inform_logic.specs.Holding.{routine_at, Has, Notes}
use Rattle.inform_logic.proofs.Steps.{finally, takes_within}

-- fewer steps than a greater bound
pub does_within : {p : Program} {d : ℕ} {f : List ℕ} {values : List ℤ} {w w' : Stage} {v : ℤ}
    {n most : ℕ} → n ≤ most → Does p d f values w v w' n → Does p d f values w v w' most
does_within enough does = record { takes = λ s. takes_within enough (does.takes s) }

-- the caller gets the value and its scope back
gives_back : (s : Scope) {e : Outcome} {v : ℤ} → BodyGives e v → (c : Config)
    → on_return s e c ≡ (Value v, within_scope s c)
unfolding on_return
gives_back s at_end c = refl
gives_back s by_return c = refl

-- after what gives a value any steps may be left
pub leaves_any : {e : Outcome} {v : ℤ} → BodyGives e v → (j : ℕ) → Leaves e j
leaves_any at_end j = tt
leaves_any by_return j = tt

-- a call of a routine that is there: its body, one call deeper, and the way back
pub entering : (p : Program) (d : ℕ) {r : RoutineTree} (values : List ℤ) {at : ℕ} {o : Option ℕ}
    (s : Scope) {s' : Scope} {w w' : Stage} {e : Outcome} {n : ℕ}
    → p.routines r.name ≡ Some (routine_at at r) → noted_body (p.notes r.name at) r.body ≡ o
    → Takes (bind (exec_all p (call_at p d) r.body) (on_return s))
    (scope_of (routine_at at r) values) (with_past (with_note o w.past) w) e s' w' n
    → Takes (call_at p (suc d) r.name values) s w e s' w' n
unfolding call_at
entering p d {r} values {at} {o} s {s'} {w} {w'} {e} {n} there note body =
    subst (λ o. Takes (enter p (call_at p d) r.name o values) s w e s' w' n) (sym there) (record {
      steps = noted.steps;
      few = noted.few;
      by = noted.by;
    }) where
      noted : Takes (bind (exec_all p (call_at p d) r.body) (on_return s))
          (scope_of (routine_at at r) values)
          (with_past (with_note (noted_body (p.notes r.name at) r.body) w.past) w) e s' w' n
      noted = subst (λ o. Takes (bind (exec_all p (call_at p d) r.body) (on_return s))
          (scope_of (routine_at at r) values) (with_past (with_note o w.past) w) e s' w' n)
          (sym note) body

module _ {p : Program} {d : ℕ} {r : RoutineTree} {values : List ℤ} where
  by_body : {at : ℕ} {o : Option ℕ} {s' : Scope} {w w' : Stage} {e : Outcome} {v : ℤ} {n : ℕ}
      → p.routines r.name ≡ Some (routine_at at r) → noted_body (p.notes r.name at) r.body ≡ o
      → Runs p d r.body (scope_of (routine_at at r) values) (with_past (with_note o w.past) w) e s'
      w' n
      → BodyGives e v → Does p (suc d) r.name values w v w' n
  by_body there note body gives = record {
    takes = λ s. entering p d values s there note
        (finally _ (λ j h. leaves_any gives j) body.takes (λ k. gives_back s gives _));
  }

  -- a routine that isn't noted, by its body
  pub routine : (has : Has p r) {s' : Scope} {w w' : Stage} {e : Outcome} {v : ℤ} {n : ℕ}
      → Runs p d r.body (scope_of (routine_at has.at r) values) w e s' w' n → BodyGives e v
      → Does p (suc d) r.name values w v w' n
  routine has body gives =
      by_body has.there (ap (λ o. noted_body o r.body) has.unseen) body gives

  -- a routine that is noted, by its body, which isn't empty
  pub noted_routine : {number : ℕ} (notes : Notes p r number) {s' : Scope} {w w' : Stage}
      {e : Outcome} {v : ℤ} {n : ℕ} → noted_body (Some number) r.body ≡ Some number
      → Runs p d r.body (scope_of (routine_at notes.at r) values)
      (with_past (w.past ++ Noted number ∷ []) w) e s' w' n → BodyGives e v
      → Does p (suc d) r.name values w v w' n
  noted_routine notes some body gives =
      by_body notes.there (ap (λ o. noted_body o r.body) notes.seen ∙ some) body gives
