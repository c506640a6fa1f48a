-- What values, conditions, changes and statements do to what is left.
use Rattle.std.proofs.Common.{ℕ, zero, suc, ℤ, Bool, List, [], ◌∷◌, Option, Some, None}
use Rattle.std.specs.Fmt.{signed_decimal}
use Rattle.inform_tree.specs.Values as v
use Rattle.inform_tree.specs.Values.{Expression, Arguments, Terms, Factors}
use Rattle.inform_tree.specs.Conditions as d
use Rattle.inform_tree.specs.Conditions.{Condition, Conditions}
use Rattle.inform_tree.specs.Statements as s
use Rattle.inform_tree.specs.Statements.{Statement, Statements, Cases, Default, Assignment, PrintItem}
use Rattle.inform_meaning.specs.declared.traps.Trap.TheVariants as t
use Rattle.inform_meaning.specs.Words.{summed, multiplied, low_byte}
use Rattle.inform_meaning.specs.Worlds.{Program, with_argument}
use Rattle.inform_meaning.specs.Frames as f
use Rattle.inform_meaning.specs.Frames.{Loop, Frame, Begins, Wants, Decides, Looping, Outcome, Meaning, gives, bind, when, on_normal, on_value, on_truth, on_body}
use Rattle.inform_meaning.specs.Parts.{random_to, store}
use Rattle.inform_meaning.specs.Meaning.{Calls, on_product, eval, eval_call, eval_sum, eval_product, test, test_all, test_any, test_if_any, alter, alter_if_any, print_items}
use Rattle.inform_meaning.specs.Statements.{while_loop, do_loop, for_loop, loop_goes_on, after_body, after_test, turns, loop, fits_any, act, exec_all, exec_cases, exec_default}
use Rattle.inform_meaning.proofs.Going.{Going, stays, bind-going, when-going, on_normal-going, on_value-going, on_truth-going, on_body-going, tick-going, trap-going, random_to-going, changes-going, fetch-going, store-going, saying-going, read_line-going}

-- a part that is evaluated or tested, and what is done with it
pub value-going : (f : Frame) (m : Meaning) (k : ℤ → Meaning) → Going m → ((a : ℤ) → Going (k a))
    → Going (bind m (on_value f k))
value-going f m k h hk = bind-going m (on_value f k) h (on_value-going f k hk)

pub truth-going : (f : Frame) (m : Meaning) (k : Bool → Meaning) → Going m
    → ((b : Bool) → Going (k b)) → Going (bind m (on_truth f k))
truth-going f m k h hk = bind-going m (on_truth f k) h (on_truth-going f k hk)

pub normal-going : (f : Frame) (m n : Meaning) → Going m → Going n → Going (bind m (on_normal f n))
normal-going f m n h k = bind-going m (on_normal f n) h (on_normal-going f n k)

abbrev pub GoingCalls : Calls → Type 0
GoingCalls call = (name : List ℕ) (values : List ℤ) → Going (call name values)

pub on_product-going : (o : Option ℤ) (k : ℤ → Meaning) → ((a : ℤ) → Going (k a))
    → Going (on_product o k)
on_product-going None k h = trap-going t.Division
on_product-going (Some a) k h = h a

-- ---- loops

module _ (l : Loop) (x body change : Meaning) (hx : Going x) (hb : Going body) (hc : Going change)
  where
    pub after_body-going : (more : Meaning) → Going more → (e : Outcome)
        → Going (after_body l change more e)
    after_body-going more h =
        on_body-going (Looping l) _ (normal-going (Begins (f.TurnDue l)) change more hc h)

    pub after_test-going : (more : Meaning) → Going more → (e : Outcome)
        → Going (after_test l body change more e)
    after_test-going more h = on_truth-going (Decides (f.Testing l)) _
        (λ b. when-going (loop_goes_on l b) _ (gives f.Normal)
        (bind-going body (after_body l change more) hb (after_body-going more h)) stays)

    turns-going : (n : ℕ) → Going (turns l x body change n)
    unfolding turns
    turns-going zero = stays
    turns-going (suc n) = tick-going (Begins (f.TurnDue l)) _
        (bind-going x (after_test l body change (turns l x body change n)) hx
        (after_test-going (turns l x body change n) (turns-going n)))

    pub loop-going : Going (loop l x body change)
    loop-going c = turns-going c.steps c

-- ---- values

module _ (p : Program) (call : Calls) (hc : GoingCalls call) where
  mutual
    pub eval-going : (x : Expression) → Going (eval p call x)
    eval-going (v.Number n) = stays
    eval-going (v.Char byte) = stays
    eval-going (v.Name name) = stays
    eval-going (v.Entry name words index) = value-going _ _ _ (eval-going index) (fetch-going name)
    eval-going (v.Call name xs) = eval_call-going name [] xs
    eval-going (v.Random x) =
        value-going (Wants f.RangeOf) (eval p call x) random_to (eval-going x) random_to-going
    eval-going (v.Neg x) = value-going _ _ _ (eval-going x) (λ a. stays)
    eval-going (v.Sum x xs) = value-going _ _ _ (eval-going x) (λ a. eval_sum-going a xs)
    eval-going (v.Product x xs) = value-going _ _ _ (eval-going x) (λ a. eval_product-going a xs)

    pub eval_call-going : (name : List ℕ) (values : List ℤ) (xs : Arguments)
        → Going (eval_call p call name values xs)
    eval_call-going name values v.NoArguments =
        tick-going (Begins (f.CallDue name values)) (call name values) (hc name values)
    eval_call-going name values (v.MoreArguments x xs) =
        value-going _ _ _ (eval-going x) (λ a. eval_call-going name (with_argument values a) xs)

    pub eval_sum-going : (a : ℤ) (xs : Terms) → Going (eval_sum p call a xs)
    eval_sum-going a v.NoTerms = stays
    eval_sum-going a (v.MoreTerms op x xs) =
        value-going _ _ _ (eval-going x) (λ b. eval_sum-going (summed p.width op a b) xs)

    pub eval_product-going : (a : ℤ) (xs : Factors) → Going (eval_product p call a xs)
    eval_product-going a v.NoFactors = stays
    eval_product-going a (v.MoreFactors op x xs) = value-going _ _ _ (eval-going x)
        (λ b. on_product-going (multiplied p.width op a b) _ (λ c. eval_product-going c xs))

  mutual
    pub test-going : (x : Condition) → Going (test p call x)
    test-going (d.Compare relation x y) =
        value-going _ _ _ (eval-going x) (λ a. value-going _ _ _ (eval-going y) (λ b. stays))
    test-going (d.Nonzero x) = value-going _ _ _ (eval-going x) (λ a. stays)
    test-going (d.All xs) = test_all-going xs
    test-going (d.Any xs) = test_any-going xs
    test-going (d.Not x) = truth-going _ _ _ (test-going x) (λ b. stays)

    pub test_all-going : (xs : Conditions) → Going (test_all p call xs)
    test_all-going d.NoConditions = stays
    test_all-going (d.MoreConditions x xs) =
        truth-going _ _ _ (test-going x) (λ b. when-going b _ _ (test_all-going xs) stays)

    pub test_any-going : (xs : Conditions) → Going (test_any p call xs)
    test_any-going d.NoConditions = stays
    test_any-going (d.MoreConditions x xs) =
        truth-going _ _ _ (test-going x) (λ b. when-going b _ _ stays (test_any-going xs))

  pub test_if_any-going : (x : Option Condition) → Going (test_if_any p call x)
  test_if_any-going None = stays
  test_if_any-going (Some x) = test-going x

  pub alter-going : (x : Assignment) → Going (alter p call x)
  alter-going (s.Set name x) = value-going _ _ _ (eval-going x) (λ a. changes-going _)
  alter-going (s.SetEntry name words x y) = value-going _ _ _ (eval-going x)
      (λ i. value-going (Wants (f.Stores name words i)) (eval p call y) (store name words i)
      (eval-going y) (store-going name words i))
  alter-going (s.Inc name) = changes-going _
  alter-going (s.Dec name) = changes-going _

  pub alter_if_any-going : (x : Option Assignment) → Going (alter_if_any p call x)
  alter_if_any-going None = stays
  alter_if_any-going (Some x) = alter-going x

  pub print_items-going : (xs : List PrintItem) → Going (print_items p call xs)
  print_items-going [] = stays
  print_items-going (s.Text text ∷ xs) = saying-going text _ (print_items-going xs)
  print_items-going (s.Value x ∷ xs) = value-going _ _ _ (eval-going x)
      (λ a. saying-going (signed_decimal a) _ (print_items-going xs))
  print_items-going (s.Char x ∷ xs) = value-going _ _ _ (eval-going x)
      (λ a. saying-going (low_byte a ∷ []) _ (print_items-going xs))

  -- ---- statements

  mutual
    pub act-going : (x : Statement) → Going (act p call x)
    act-going s.Empty = stays
    act-going (s.Block body) = exec_all-going body
    act-going (s.Assign x) = alter-going x
    act-going (s.Call name xs) = value-going _ _ _ (eval_call-going name [] xs) (λ a. stays)
    act-going (s.If x body other) = truth-going _ _ _ (test-going x)
        (λ b. when-going b _ _ (exec_all-going body) (exec_all-going other))
    act-going (s.While x body) =
        loop-going (while_loop x body) _ _ _ (test-going x) (exec_all-going body) stays
    act-going (s.Do body x) = bind-going _ _ (exec_all-going body)
        (after_body-going (do_loop body x) (test p call x) (exec_all p call body) (gives f.Normal)
        (test-going x) (exec_all-going body) stays _
        (loop-going (do_loop body x) _ _ _ (test-going x) (exec_all-going body) stays))
    act-going (s.For first x change body) = normal-going _ _ _ (alter_if_any-going first)
        (loop-going (for_loop x change body) _ _ _ (test_if_any-going x) (exec_all-going body)
        (alter_if_any-going change))
    act-going (s.Switch x xs rest) = value-going _ _ _ (eval-going x)
        (λ a. exec_cases-going a xs (exec_default p call rest) (exec_default-going rest))
    act-going s.Break = stays
    act-going s.Continue = stays
    act-going s.Quit = stays
    act-going s.Rtrue = stays
    act-going s.Rfalse = stays
    act-going (s.Return None) = stays
    act-going (s.Return (Some x)) = value-going _ _ _ (eval-going x) (λ a. stays)
    act-going s.NewLine = saying-going (10 ∷ []) (gives f.Normal) stays
    act-going (s.Print xs) = print_items-going xs
    act-going (s.Read line words) = read_line-going line

    pub exec_all-going : (xs : Statements) → Going (exec_all p call xs)
    exec_all-going s.NoStatements = stays
    exec_all-going (s.MoreStatements x xs) =
        normal-going _ _ _ (tick-going (Begins (f.Due x)) _ (act-going x)) (exec_all-going xs)

    pub exec_cases-going : (a : ℤ) (xs : Cases) (rest : Meaning) → Going rest
        → Going (exec_cases p call a xs rest)
    exec_cases-going a s.NoCases rest h = h
    exec_cases-going a (s.MoreCases choices body xs) rest h =
        when-going (fits_any p a choices) _ _ (exec_all-going body) (exec_cases-going a xs rest h)

    pub exec_default-going : (x : Default) → Going (exec_default p call x)
    exec_default-going s.NoDefault = stays
    exec_default-going (s.SomeDefault body) = exec_all-going body
