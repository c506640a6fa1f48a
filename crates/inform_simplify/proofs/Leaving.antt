-- Values never come to the end of a statement, so that what stands after `return` is never done.
use Rattle.std.proofs.Common.{◌≡◌, ℕ, zero, suc, ℤ, pos, Bool, true, false, List, [], ◌∷◌, Option, Some, None}
use Rattle.std.specs.Prelude.{int_lt}
use Rattle.inform_tree.specs.Values as v
use Rattle.inform_tree.specs.Values.{Expression, Arguments, Terms, Factors}
use Rattle.inform_tree.specs.Statements as s
use Rattle.inform_tree.specs.Statements.{Statement}
use Rattle.inform_meaning.specs.declared.traps.Trap.TheVariants as t
use Rattle.inform_meaning.specs.Words.{summed, multiplied}
use Rattle.inform_meaning.specs.Worlds.{Scope, Routine, Program, Config, entries_of, entry_at, with_argument}
use Rattle.inform_meaning.specs.Frames as f
use Rattle.inform_meaning.specs.Frames.{Frame, Begins, Wants, Outcome, Value, Truth, Normal, Returns, Breaks, Continues, Halts, Waits, Meaning, bind, when, on_value, on_return}
use Rattle.inform_meaning.specs.Parts.{tick_at, tick, trap, take_draw, draw_at, random_to, entry_by, fetch}
use Rattle.inform_meaning.specs.Meaning.{Calls, on_product, eval, eval_call, eval_sum, eval_product}
use Rattle.inform_meaning.specs.Statements.{exec_all, act, exec}
use Rattle.inform_meaning.specs.Runs.{entered, enter, call_at}
use Rattle.inform_simplify.specs.Redexes.{leaves}
use Rattle.inform_simplify.proofs.Fewer.{IsLeft}
use Rattle.inform_simplify.proofs.Plain.{no}

-- a part that never reaches the end of a statement
pub record Left (m : Meaning) : Type 0 where
  pub by : (c : Config) → IsLeft (m c).0

-- what a frame does with a value, where its part never reaches the end of a statement
on_value-left : (x : Frame) {k : ℤ → Meaning} → ((a : ℤ) → Left (k a)) → (e : Outcome) → IsLeft e
    → Left (on_value x k e)
unfolding on_value
on_value-left x h Normal left = absurd left
on_value-left x h (Value a) left = h a
on_value-left x h (Truth a) left = record { by = λ c. tt }
on_value-left x h (Returns a) left = record { by = λ c. tt }
on_value-left x h Breaks left = record { by = λ c. tt }
on_value-left x h Continues left = record { by = λ c. tt }
on_value-left x h (Halts halt) left = record { by = λ c. tt }
on_value-left x h (Waits lack fs) left = record { by = λ c. tt }

value-left : (x : Frame) {m : Meaning} {k : ℤ → Meaning} → Left m → ((a : ℤ) → Left (k a))
    → Left (bind m (on_value x k))
unfolding bind
value-left x {m} h hk = record { by = λ c. (on_value-left x hk (m c).0 (h.by c)).by (m c).1 }

tick-left : (x : Frame) {m : Meaning} → Left m → Left (tick x m)
unfolding tick
tick-left x {m} h = record { by = λ c. at c.steps c } where
  at : (n : ℕ) (c : Config) → IsLeft (tick_at n x m c).0
  at zero c = tt
  at (suc n) c = h.by (record c { steps = n })

random_to-left : (n : ℤ) → Left (random_to n)
unfolding when
random_to-left n = record { by = at (int_lt n (pos 1)) } where
  drawn : (draws : List ℕ) (c : Config) → IsLeft (draw_at draws n c).0
  drawn [] c = tt
  drawn (draw ∷ draws) c = tt

  at : (a : Bool) (c : Config) → IsLeft (when a (trap t.Random) (take_draw n) c).0
  at true c = tt
  at false c = drawn c.draws c

fetch-left : (name : List ℕ) (index : ℤ) → Left (fetch name index)
fetch-left name index =
    record { by = λ c. at (entry_at (entries_of name c.world) index) c } where
      at : (o : Option ℤ) (c : Config) → IsLeft (entry_by o c).0
      at None c = tt
      at (Some a) c = tt

on_product-left : (o : Option ℤ) {k : ℤ → Meaning} → ((a : ℤ) → Left (k a))
    → Left (on_product o k)
on_product-left None h = record { by = λ c. tt }
on_product-left (Some a) h = h a

abbrev pub LeftCalls : Calls → Type 0
LeftCalls call = (name : List ℕ) (values : List ℤ) → Left (call name values)

module _ (p : Program) (call : Calls) (hc : LeftCalls call) where
  -- values, by their trees
  mutual
    eval-left : (x : Expression) → Left (eval p call x)
    eval-left (v.Number n) = record { by = λ c. tt }
    eval-left (v.Char byte) = record { by = λ c. tt }
    eval-left (v.Name name) = record { by = λ c. tt }
    eval-left (v.Entry name words index) =
        value-left (Wants (f.IndexOf name)) (eval-left index) (fetch-left name)
    eval-left (v.Call name xs) = eval_call-left name [] xs
    eval-left (v.Random x) = value-left (Wants f.RangeOf) (eval-left x) random_to-left
    eval-left (v.Neg x) = value-left (Wants f.Negates) (eval-left x) (λ a. record { by = λ c. tt })
    eval-left (v.Sum x xs) =
        value-left (Wants (f.SumFrom xs)) (eval-left x) (λ a. eval_sum-left a xs)
    eval-left (v.Product x xs) =
        value-left (Wants (f.ProductFrom xs)) (eval-left x) (λ a. eval_product-left a xs)

    eval_call-left : (name : List ℕ) (values : List ℤ) (xs : Arguments)
        → Left (eval_call p call name values xs)
    eval_call-left name values v.NoArguments =
        tick-left (Begins (f.CallDue name values)) (hc name values)
    eval_call-left name values (v.MoreArguments x xs) =
        value-left (Wants (f.Args name values xs)) (eval-left x)
        (λ a. eval_call-left name (with_argument values a) xs)

    eval_sum-left : (a : ℤ) (xs : Terms) → Left (eval_sum p call a xs)
    eval_sum-left a v.NoTerms = record { by = λ c. tt }
    eval_sum-left a (v.MoreTerms op x xs) = value-left (Wants (f.SumOnto op a xs)) (eval-left x)
        (λ b. eval_sum-left (summed p.width op a b) xs)

    eval_product-left : (a : ℤ) (xs : Factors) → Left (eval_product p call a xs)
    eval_product-left a v.NoFactors = record { by = λ c. tt }
    eval_product-left a (v.MoreFactors op x xs) =
        value-left (Wants (f.ProductOnto op a xs)) (eval-left x)
        (λ b. on_product-left (multiplied p.width op a b) (λ e. eval_product-left e xs))

  -- a statement that leaves never reaches its end
  act-left : (x : Statement) → leaves x ≡ true → Left (act p call x)
  act-left s.Break is = record { by = λ c. tt }
  act-left s.Continue is = record { by = λ c. tt }
  act-left s.Quit is = record { by = λ c. tt }
  act-left s.Rtrue is = record { by = λ c. tt }
  act-left s.Rfalse is = record { by = λ c. tt }
  act-left (s.Return None) is = record { by = λ c. tt }
  act-left (s.Return (Some x)) is =
      value-left (Wants f.Gives) (eval-left x) (λ a. record { by = λ c. tt })
  act-left s.Empty is = absurd (no is)
  act-left (s.Block body) is = absurd (no is)
  act-left (s.Assign x) is = absurd (no is)
  act-left (s.Call name xs) is = absurd (no is)
  act-left (s.If x body other) is = absurd (no is)
  act-left (s.While x body) is = absurd (no is)
  act-left (s.Do body x) is = absurd (no is)
  act-left (s.For first x change body) is = absurd (no is)
  act-left (s.Switch x xs rest) is = absurd (no is)
  act-left s.NewLine is = absurd (no is)
  act-left (s.Print xs) is = absurd (no is)
  act-left (s.Read line words) is = absurd (no is)

  pub exec-left : (x : Statement) → leaves x ≡ true → Left (exec p call x)
  exec-left x is = tick-left (Begins (f.Due x)) (act-left x is)

-- ---- calls

return-left : (s : Scope) (e : Outcome) → Left (on_return s e)
unfolding on_return
return-left s Normal = record { by = λ c. tt }
return-left s (Value a) = record { by = λ c. tt }
return-left s (Truth a) = record { by = λ c. tt }
return-left s (Returns a) = record { by = λ c. tt }
return-left s Breaks = record { by = λ c. tt }
return-left s Continues = record { by = λ c. tt }
return-left s (Halts halt) = record { by = λ c. tt }
return-left s (Waits lack fs) = record { by = λ c. tt }

enter-left : (p : Program) (call : Calls) (name : List ℕ) (o : Option Routine) (values : List ℤ)
    → Left (enter p call name o values)
unfolding bind
enter-left p call name None values = record { by = λ c. tt }
enter-left p call name (Some r) values = record {
  by = λ c. (let inner = exec_all p call r.body (entered p name r values c) in
      (return-left c.world.scope inner.0).by inner.1);
}

pub call_at-left : (p : Program) (n : ℕ) → LeftCalls (call_at p n)
unfolding call_at
call_at-left p zero name values = record { by = λ c. tt }
call_at-left p (suc n) name values =
    enter-left p (call_at p n) name (p.routines name) values
