-- The rules of traps: what stops a run that does what it can't do, in the routine that runs.
use Rattle.std.proofs.Common.{◌≡◌, ◌∙◌, ℕ, ℤ, [], None, refl, ap}
use Rattle.inform_tree.specs.declared.values.ProdOp.{ProdOp}
use Rattle.inform_tree.specs.Values.{Expression, Factors, MoreFactors}
use Rattle.inform_meaning.specs.declared.traps.Trap.TheVariants as t
use Rattle.inform_meaning.specs.Words.{multiplied}
use Rattle.inform_meaning.specs.Worlds.{Program, Scope}
use Rattle.inform_meaning.specs.Frames.{Trapped}
use Rattle.inform_meaning.specs.Meaning.{on_product, eval_product}
use Rattle.inform_meaning.specs.Runs.{Halted, call_at}
use Rattle.inform_logic.specs.Stages.{Stage, in_scope}
use Rattle.inform_logic.specs.Leading.{TheProduct, Evaluates}
use Rattle.inform_logic.specs.Stopping.{Stops}
use Rattle.inform_logic.proofs.Opened.{opened}
use Rattle.inform_logic.proofs.Steps.{finally}
use Rattle.inform_logic.proofs.Stops.{stopped}

module _ {p : Program} {d : ℕ} where
  -- a division by 0
  pub division_traps : {op : ProdOp} {x : Expression} {xs : Factors} {s : Scope} {w w' : Stage}
      {a b : ℤ} {n : ℕ} → Evaluates p d x s w b w' n → multiplied p.width op a b ≡ None
      → Stops p d (TheProduct a (MoreFactors op x xs)) s w
      (Halted (Trapped t.Division s.directive)) w' n
  unfolding opened
  division_traps {xs = xs} {s} {w' = w'} x none = stopped refl (record {
    takes = finally _ (λ j h. tt) x.takes (λ k.
        ap (λ o. on_product o (λ c. eval_product p (call_at p d) c xs) (in_scope k s w')) none);
  })
