-- What values, conditions, changes and the items of `print` mean. `call` is what a call of a
-- routine means.
use Rattle.std.specs.Prelude.{ℕ, ℤ, pos, negsuc, true, false, not, List, [], ◌∷◌, Option, Some, None}
use Rattle.std.specs.Fmt.{signed_decimal}
use Rattle.std.specs.Ordering.{int_eq}
use Rattle.inform_tree.specs.Values as v
use Rattle.inform_tree.specs.Values.{Expression, Arguments, Terms, Factors}
use Rattle.inform_tree.specs.Conditions as d
use Rattle.inform_tree.specs.Conditions.{Condition, Conditions}
use Rattle.inform_tree.specs.Statements as s
use Rattle.inform_tree.specs.Statements.{Assignment, PrintItem}
use Rattle.inform_meaning.specs.declared.traps.Trap.TheVariants as t
use Rattle.inform_meaning.specs.Words.{number_word, word_negation, summed, multiplied, compares, low_byte}
use Rattle.inform_meaning.specs.Worlds.{Program, assigned, with_argument}
use Rattle.inform_meaning.specs.Frames.{CallDue, IndexOf, Args, RangeOf, Negates, SumFrom, SumOnto, ProductFrom, ProductOnto, LeftOf, RightOf, IsNonzero, Sets, PlaceOf, Stores, SaysNumber, SaysChar, AllOf, AnyOf, Flips, Begins, Wants, Decides, Value, Truth, Normal, Meaning, gives, bind, when, on_value, on_truth}
use Rattle.inform_meaning.specs.Parts.{tick, trap, random_to, variable, changes, counts, fetch, store, saying}

-- what calls mean: by the name of the routine and its arguments
abbrev pub Calls : Type 0
Calls = List ℕ → List ℤ → Meaning

-- a product goes on, if it was no division by 0
abbrev pub on_product : Option ℤ → (ℤ → Meaning) → Meaning
on_product None k = trap t.Division
on_product (Some v) k = k v

abbrev mutual
  pub eval : Program → Calls → Expression → Meaning
  eval p call (v.Number n) = gives (Value (number_word p.width n))
  eval p call (v.Char byte) = gives (Value (pos byte))
  eval p call (v.Name name) = variable p name
  eval p call (v.Entry name words index) =
      bind (eval p call index) (on_value (Wants (IndexOf name)) (fetch name))
  eval p call (v.Call name xs) = eval_call p call name [] xs
  eval p call (v.Random x) = bind (eval p call x) (on_value (Wants RangeOf) random_to)
  eval p call (v.Neg x) = bind (eval p call x)
      (on_value (Wants Negates) (λ a. gives (Value (word_negation p.width a))))
  eval p call (v.Sum x xs) =
      bind (eval p call x) (on_value (Wants (SumFrom xs)) (λ a. eval_sum p call a xs))
  eval p call (v.Product x xs) =
      bind (eval p call x) (on_value (Wants (ProductFrom xs)) (λ a. eval_product p call a xs))

  -- a call of which these arguments are known: the others from left to right, a step, and the
  -- routine
  pub eval_call : Program → Calls → List ℕ → List ℤ → Arguments → Meaning
  eval_call p call name values v.NoArguments =
      tick (Begins (CallDue name values)) (call name values)
  eval_call p call name values (v.MoreArguments x xs) = bind (eval p call x)
      (on_value (Wants (Args name values xs))
      (λ a. eval_call p call name (with_argument values a) xs))

  -- a sum of which this much is known
  pub eval_sum : Program → Calls → ℤ → Terms → Meaning
  eval_sum p call a v.NoTerms = gives (Value a)
  eval_sum p call a (v.MoreTerms op x xs) = bind (eval p call x)
      (on_value (Wants (SumOnto op a xs)) (λ b. eval_sum p call (summed p.width op a b) xs))

  pub eval_product : Program → Calls → ℤ → Factors → Meaning
  eval_product p call a v.NoFactors = gives (Value a)
  eval_product p call a (v.MoreFactors op x xs) = bind (eval p call x)
      (on_value (Wants (ProductOnto op a xs))
      (λ b. on_product (multiplied p.width op a b) (λ c. eval_product p call c xs)))

-- ---- conditions

abbrev mutual
  pub test : Program → Calls → Condition → Meaning
  test p call (d.Compare relation x y) = bind (eval p call x)
      (on_value (Wants (LeftOf relation y))
      (λ a. bind (eval p call y) (on_value (Wants (RightOf relation a))
      (λ b. gives (Truth (compares relation a b))))))
  test p call (d.Nonzero x) = bind (eval p call x)
      (on_value (Wants IsNonzero) (λ a. gives (Truth (not (int_eq a (pos 0))))))
  test p call (d.All xs) = test_all p call xs
  test p call (d.Any xs) = test_any p call xs
  test p call (d.Not x) =
      bind (test p call x) (on_truth (Decides Flips) (λ b. gives (Truth (not b))))

  -- up to the first member that isn't true
  pub test_all : Program → Calls → Conditions → Meaning
  test_all p call d.NoConditions = gives (Truth true)
  test_all p call (d.MoreConditions x xs) = bind (test p call x)
      (on_truth (Decides (AllOf xs)) (λ b. when b (test_all p call xs) (gives (Truth false))))

  -- up to the first member that is true
  pub test_any : Program → Calls → Conditions → Meaning
  test_any p call d.NoConditions = gives (Truth false)
  test_any p call (d.MoreConditions x xs) = bind (test p call x)
      (on_truth (Decides (AnyOf xs)) (λ b. when b (gives (Truth true)) (test_any p call xs)))

-- one that isn't there is true
abbrev pub test_if_any : Program → Calls → Option Condition → Meaning
test_if_any p call None = gives (Truth true)
test_if_any p call (Some x) = test p call x

-- ---- changes

abbrev pub alter : Program → Calls → Assignment → Meaning
alter p call (s.Set name x) =
    bind (eval p call x) (on_value (Wants (Sets name)) (λ a. changes (assigned name a)))
alter p call (s.SetEntry name words x y) = bind (eval p call x)
    (on_value (Wants (PlaceOf name words y))
    (λ i. bind (eval p call y) (on_value (Wants (Stores name words i)) (store name words i))))
alter p call (s.Inc name) = counts p name (pos 1)
alter p call (s.Dec name) = counts p name (negsuc 0)

abbrev pub alter_if_any : Program → Calls → Option Assignment → Meaning
alter_if_any p call None = gives Normal
alter_if_any p call (Some x) = alter p call x

-- ---- the items of `print`: each is evaluated and said before the next

abbrev pub print_items : Program → Calls → List PrintItem → Meaning
print_items p call [] = gives Normal
print_items p call (s.Text text ∷ xs) = saying text (print_items p call xs)
print_items p call (s.Value x ∷ xs) = bind (eval p call x)
    (on_value (Wants (SaysNumber xs)) (λ a. saying (signed_decimal a) (print_items p call xs)))
print_items p call (s.Char x ∷ xs) = bind (eval p call x)
    (on_value (Wants (SaysChar xs)) (λ a. saying (low_byte a ∷ []) (print_items p call xs)))
