-- The rules of conditions: whether they hold.
use Rattle.std.proofs.Common.{◌≡◌, ℕ, ◌+◌, ℤ, pos, Bool, true, false, not, refl, ap}
use Rattle.std.specs.Ordering.{int_eq}
use Rattle.inform_tree.specs.declared.conditions.Relation.{Relation}
use Rattle.inform_tree.specs.Values.{Expression}
use Rattle.inform_tree.specs.Conditions.{Condition, Compare, Nonzero, All, Any, Not, Conditions, NoConditions, MoreConditions}
use Rattle.inform_meaning.specs.Words.{compares}
use Rattle.inform_meaning.specs.Worlds.{Program, Scope}
use Rattle.inform_meaning.specs.Frames.{Outcome, Truth, when}
use Rattle.inform_logic.specs.Stages.{Stage, in_scope}
use Rattle.inform_logic.specs.Leading.{Leads, TheAll, TheAny, Evaluates, Tests, TestsAll, TestsAny}
use Rattle.inform_logic.proofs.Opened.{opened}
use Rattle.inform_logic.proofs.Steps.{nothing_taken, value_then, truth_then, finally}

module _ {p : Program} {d : ℕ} where
  -- two values compare so
  pub compare : {relation : Relation} {x y : Expression} {s : Scope} {w w1 w' : Stage} {a b : ℤ}
      {t : Bool} {n m : ℕ} → Evaluates p d x s w a w1 n → Evaluates p d y s w1 b w' m
      → compares relation a b ≡ t → Tests p d (Compare relation x y) s w t w' (n + m)
  unfolding opened
  compare {s = s} {w' = w'} x y is = record {
    takes = value_then _ x.takes (finally _ (λ j h. tt) y.takes (λ k.
        ap (λ t. (Truth t, in_scope k s w')) is));
  }

  -- a value is 0 or not
  pub nonzero : {x : Expression} {s : Scope} {w w' : Stage} {a : ℤ} {t : Bool} {n : ℕ}
      → Evaluates p d x s w a w' n → not (int_eq a (pos 0)) ≡ t → Tests p d (Nonzero x) s w t w' n
  unfolding opened
  nonzero {s = s} {w' = w'} x is =
      record {
        takes = finally _ (λ j h. tt) x.takes (λ k.
            ap (λ t. (Truth t, in_scope k s w')) is);
      }

  -- a negated condition
  pub negated : {x : Condition} {s : Scope} {w w' : Stage} {t : Bool} {n : ℕ}
      → Tests p d x s w t w' n → Tests p d (Not x) s w (not t) w' n
  unfolding opened
  negated x = record { takes = finally _ (λ j h. tt) x.takes (λ k. refl) }

  -- ---- conditions of which all have to hold, up to the first that doesn't

  pub all_of : {xs : Conditions} {s : Scope} {w w' : Stage} {t : Bool} {n : ℕ}
      → TestsAll p d xs s w t w' n → Tests p d (All xs) s w t w' n
  all_of xs = record { takes = xs.takes }

  -- no one is left, so all hold
  pub all_hold : {s : Scope} {w : Stage} → TestsAll p d NoConditions s w true w 0
  all_hold = record { takes = nothing_taken (λ k. refl) }

  -- this one holds, and it is on the others
  pub one_holds : {x : Condition} {xs : Conditions} {s s' : Scope} {w w1 w' : Stage} {e : Outcome}
      {n m : ℕ} → Tests p d x s w true w1 n → Leads p d (TheAll xs) s w1 e s' w' m
      → Leads p d (TheAll (MoreConditions x xs)) s w e s' w' (n + m)
  unfolding opened when
  one_holds x xs = record { takes = truth_then _ x.takes xs.takes }

  -- this one doesn't hold, so not all do
  pub one_fails : {x : Condition} {xs : Conditions} {s : Scope} {w w' : Stage} {n : ℕ}
      → Tests p d x s w false w' n → TestsAll p d (MoreConditions x xs) s w false w' n
  unfolding opened when
  one_fails x = record { takes = finally _ (λ j h. tt) x.takes (λ k. refl) }

  -- ---- conditions of which one has to hold, up to the first that does

  pub any_of : {xs : Conditions} {s : Scope} {w w' : Stage} {t : Bool} {n : ℕ}
      → TestsAny p d xs s w t w' n → Tests p d (Any xs) s w t w' n
  any_of xs = record { takes = xs.takes }

  -- no one is left, so none holds
  pub none_holds : {s : Scope} {w : Stage} → TestsAny p d NoConditions s w false w 0
  none_holds = record { takes = nothing_taken (λ k. refl) }

  -- this one holds
  pub this_holds : {x : Condition} {xs : Conditions} {s : Scope} {w w' : Stage} {n : ℕ}
      → Tests p d x s w true w' n → TestsAny p d (MoreConditions x xs) s w true w' n
  unfolding opened when
  this_holds x = record { takes = finally _ (λ j h. tt) x.takes (λ k. refl) }

  -- this one doesn't, and it is on the others
  pub this_fails : {x : Condition} {xs : Conditions} {s s' : Scope} {w w1 w' : Stage} {e : Outcome}
      {n m : ℕ} → Tests p d x s w false w1 n → Leads p d (TheAny xs) s w1 e s' w' m
      → Leads p d (TheAny (MoreConditions x xs)) s w e s' w' (n + m)
  unfolding opened when
  this_fails x xs = record { takes = truth_then _ x.takes xs.takes }
