-- How values, conditions, changes and statements go on with more.
use Rattle.std.proofs.Common.{◌≡◌, ◌∙◌, arith, ℕ, zero, suc, ◌≤◌, ℤ, Bool, true, List, [], ◌∷◌, Option, Some, None, refl, sym, ap}
use Rattle.std.specs.Fmt.{signed_decimal}
use Rattle.inform_tree.specs.Values as v
use Rattle.inform_tree.specs.Values.{Expression, Arguments, Terms, Factors}
use Rattle.inform_tree.specs.Conditions as d
use Rattle.inform_tree.specs.Conditions.{Condition, Conditions}
use Rattle.inform_tree.specs.Statements as s
use Rattle.inform_tree.specs.Statements.{Statement, Statements, Cases, Default, Assignment, PrintItem}
use Rattle.inform_meaning.specs.declared.traps.Trap.TheVariants as t
use Rattle.inform_meaning.specs.Words.{summed, multiplied, low_byte}
use Rattle.inform_meaning.specs.Worlds.{Program, Config, with_argument}
use Rattle.inform_meaning.specs.Frames as f
use Rattle.inform_meaning.specs.Frames.{Loop, Begins, Wants, Decides, Looping, Truth, Meaning, gives, bind, when, on_value, on_truth, on_body}
use Rattle.inform_meaning.specs.Parts.{tick}
use Rattle.inform_meaning.specs.Meaning.{on_product, eval, eval_call, eval_sum, eval_product, test, test_all, test_any, test_if_any, alter, alter_if_any, print_items}
use Rattle.inform_meaning.specs.Statements.{while_loop, do_loop, for_loop, loop_goes_on, after_test, fits_any, act, exec_all, exec_cases, exec_default, turns_of}
use Rattle.inform_meaning.specs.Runs.{call_at, use_value, use_truth}
use Rattle.inform_meaning.proofs.Going.{stays, tick-going}
use Rattle.inform_meaning.proofs.GoingTrees.{GoingCalls, eval-going, eval_call-going, test-going, test_if_any-going, alter_if_any-going, act-going, exec_all-going}
use Rattle.inform_meaning.proofs.GoingRuns.{call_at-going}
use Rattle.inform_meaning.proofs.Looping.{loop_once}
use Rattle.inform_meaning.proofs.Splitting.{through, more, going_at, Splits, frame-splits}
use Rattle.inform_meaning.proofs.SplittingParts.{on_truth-settled, on_body-settled, begins-splits, wants-splits, decides-splits, when-splits, trap-splits, random_to-splits, read_line-splits, changes-splits, fetch-splits, store-splits, saying-splits, tick-splits}

module _ (p : Program) (k : ℕ) (ls : List (List ℕ)) (ds : List ℕ) (n : ℕ) where
  abbrev call : List ℕ → List ℤ → Meaning
  call = call_at p n

  gc : GoingCalls (call_at p n)
  gc = call_at-going p n

  -- ---- loops

  module _ (l : Loop) where
    abbrev x : Meaning
    x = test_if_any p call l.test

    abbrev body : Meaning
    body = exec_all p call l.body

    abbrev change : Meaning
    change = alter_if_any p call l.change

    once : (c : Config) → turns_of p call l c ≡ tick (Begins (f.TurnDue l))
        (bind x (after_test l body change (turns_of p call l))) c
    once = loop_once l x body change (test_if_any-going p call gc l.test)
        (exec_all-going p call gc l.body) (alter_if_any-going p call gc l.change)

    -- one turn, where the turns after it do so
    turn-splits : (i : ℕ) → Splits p k ls ds n i x → Splits p k ls ds n i body
        → Splits p k ls ds n i change → Splits p k ls ds n i (turns_of p call l)
        → Splits p k ls ds n i (bind x (after_test l body change (turns_of p call l)))
    unfolding on_truth
    turn-splits i hx hb hc more_turns =
        frame-splits p k ls ds n i (Decides (f.Testing l)) x hx (test_if_any-going p call gc l.test)
        (on_truth-settled p k ls ds n i (Decides (f.Testing l)) _
        (λ a. when-splits p k ls ds n i (loop_goes_on l a) _ (gives f.Normal)
        (frame-splits p k ls ds n i (Looping l) body hb (exec_all-going p call gc l.body)
        (on_body-settled p k ls ds n i (Looping l) _
        (begins-splits p k ls ds n i (f.TurnDue l) change hc
        (alter_if_any-going p call gc l.change) more_turns)))
        (λ c few. refl)))

    pub loop-splits : (b : ℕ) → Splits p k ls ds n b x → Splits p k ls ds n b body
        → Splits p k ls ds n b change → Splits p k ls ds n b (turns_of p call l)
    loop-splits b hx hb hc = up_to b (omega arith) where
      up_to : (i : ℕ) → i ≤ b → Splits p k ls ds n i (turns_of p call l)
      up_to zero within c few = absurd (omega (arith, few))
      up_to (suc i) within c few =
          once (more p k ls ds c)
          ∙ tick-splits p k ls ds n (suc i) (f.TurnDue l) _ once
          (λ d less. turn-splits i (λ e h. hx e (omega (arith, h, within)))
          (λ e h. hb e (omega (arith, h, within))) (λ e h. hc e (omega (arith, h, within)))
          (up_to i (omega (arith, within))) d (omega (arith, less)))
          c few
          ∙ ap (through (going_at p k ls ds n)) (sym (once c))

  module _ (b : ℕ) (calls : (name : List ℕ) (values : List ℤ)
      → Splits p k ls ds n b (call_at p n name values)) where
    abbrev S : Meaning → Type 0
    S m = Splits p k ls ds n b m

    -- ---- values

    value-splits : (w : f.Want) (x : Expression) → S (eval p call x)
        → ((a : ℤ) → S (use_value p call w a)) → S
        (bind (eval p call x) (on_value (Wants w) (use_value p call w)))
    value-splits w x h = wants-splits p k ls ds n b w (eval p call x) h (eval-going p call gc x)

    truth-splits : (w : f.Decide) (x : Condition) → S (test p call x)
        → ((a : Bool) → S (use_truth p call w a)) → S
        (bind (test p call x) (on_truth (Decides w) (use_truth p call w)))
    truth-splits w x h = decides-splits p k ls ds n b w (test p call x) h (test-going p call gc x)

    pub on_product-splits : (o : Option ℤ) (g : ℤ → Meaning) → ((a : ℤ) → S (g a))
        → S (on_product o g)
    on_product-splits None g h = trap-splits p k ls ds n b t.Division
    on_product-splits (Some a) g h = h a

    mutual
      pub eval-splits : (x : Expression) → S (eval p call x)
      eval-splits (v.Number m) = λ c few. refl
      eval-splits (v.Char byte) = λ c few. refl
      eval-splits (v.Name name) = λ c few. refl
      eval-splits (v.Entry name words index) =
          value-splits (f.IndexOf name) index (eval-splits index) (fetch-splits p k ls ds n b name)
      eval-splits (v.Call name xs) = eval_call-splits name [] xs
      eval-splits (v.Random x) =
          value-splits f.RangeOf x (eval-splits x) (random_to-splits p k ls ds n b)
      eval-splits (v.Neg x) = value-splits f.Negates x (eval-splits x) (λ a c few. refl)
      eval-splits (v.Sum x xs) =
          value-splits (f.SumFrom xs) x (eval-splits x) (λ a. eval_sum-splits a xs)
      eval-splits (v.Product x xs) =
          value-splits (f.ProductFrom xs) x (eval-splits x) (λ a. eval_product-splits a xs)

      pub eval_call-splits : (name : List ℕ) (values : List ℤ) (xs : Arguments)
          → S (eval_call p call name values xs)
      eval_call-splits name values v.NoArguments = tick-splits p k ls ds n b (f.CallDue name values)
          (call name values) (λ c. refl) (λ c few. calls name values c (omega (arith, few)))
      eval_call-splits name values (v.MoreArguments x xs) = value-splits (f.Args name values xs) x
          (eval-splits x) (λ a. eval_call-splits name (with_argument values a) xs)

      pub eval_sum-splits : (a : ℤ) (xs : Terms) → S (eval_sum p call a xs)
      eval_sum-splits a v.NoTerms = λ c few. refl
      eval_sum-splits a (v.MoreTerms op x xs) = value-splits (f.SumOnto op a xs) x (eval-splits x)
          (λ o. eval_sum-splits (summed p.width op a o) xs)

      pub eval_product-splits : (a : ℤ) (xs : Factors) → S (eval_product p call a xs)
      eval_product-splits a v.NoFactors = λ c few. refl
      eval_product-splits a (v.MoreFactors op x xs) = value-splits (f.ProductOnto op a xs) x
          (eval-splits x) (λ o. on_product-splits (multiplied p.width op a o) _
          (λ c. eval_product-splits c xs))

    -- ---- conditions

    mutual
      pub test-splits : (x : Condition) → S (test p call x)
      test-splits (d.Compare relation x y) = value-splits (f.LeftOf relation y) x (eval-splits x)
          (λ a. value-splits (f.RightOf relation a) y (eval-splits y) (λ o c few. refl))
      test-splits (d.Nonzero x) = value-splits f.IsNonzero x (eval-splits x) (λ a c few. refl)
      test-splits (d.All xs) = test_all-splits xs
      test-splits (d.Any xs) = test_any-splits xs
      test-splits (d.Not x) = truth-splits f.Flips x (test-splits x) (λ a c few. refl)

      pub test_all-splits : (xs : Conditions) → S (test_all p call xs)
      test_all-splits d.NoConditions = λ c few. refl
      test_all-splits (d.MoreConditions x xs) = truth-splits (f.AllOf xs) x (test-splits x)
          (λ a. when-splits p k ls ds n b a _ _ (test_all-splits xs) (λ c few. refl))

      pub test_any-splits : (xs : Conditions) → S (test_any p call xs)
      test_any-splits d.NoConditions = λ c few. refl
      test_any-splits (d.MoreConditions x xs) = truth-splits (f.AnyOf xs) x (test-splits x)
          (λ a. when-splits p k ls ds n b a (gives (Truth true)) _ (λ c few. refl)
          (test_any-splits xs))

    pub test_if_any-splits : (x : Option Condition) → S (test_if_any p call x)
    test_if_any-splits None = λ c few. refl
    test_if_any-splits (Some x) = test-splits x

    -- ---- changes and print

    pub alter-splits : (x : Assignment) → S (alter p call x)
    alter-splits (s.Set name x) =
        value-splits (f.Sets name) x (eval-splits x) (λ a. changes-splits p k ls ds n b _)
    alter-splits (s.SetEntry name words x y) = value-splits (f.PlaceOf name words y) x
        (eval-splits x) (λ i. value-splits (f.Stores name words i) y (eval-splits y)
        (store-splits p k ls ds n b name words i))
    alter-splits (s.Inc name) = changes-splits p k ls ds n b _
    alter-splits (s.Dec name) = changes-splits p k ls ds n b _

    pub alter_if_any-splits : (x : Option Assignment) → S (alter_if_any p call x)
    alter_if_any-splits None = λ c few. refl
    alter_if_any-splits (Some x) = alter-splits x

    pub print_items-splits : (xs : List PrintItem) → S (print_items p call xs)
    print_items-splits [] = λ c few. refl
    print_items-splits (s.Text text ∷ xs) =
        saying-splits p k ls ds n b text _ (print_items-splits xs)
    print_items-splits (s.Value x ∷ xs) = value-splits (f.SaysNumber xs) x (eval-splits x)
        (λ a. saying-splits p k ls ds n b (signed_decimal a) _ (print_items-splits xs))
    print_items-splits (s.Char x ∷ xs) = value-splits (f.SaysChar xs) x (eval-splits x)
        (λ a. saying-splits p k ls ds n b (low_byte a ∷ []) _ (print_items-splits xs))

    -- ---- statements

    mutual
      pub act-splits : (x : Statement) → S (act p call x)
      act-splits s.Empty = λ c few. refl
      act-splits (s.Block body) = exec_all-splits body
      act-splits (s.Assign x) = alter-splits x
      act-splits (s.Call name xs) = wants-splits p k ls ds n b f.Forgets
          (eval_call p call name [] xs) (eval_call-splits name [] xs)
          (eval_call-going p call gc name [] xs) (λ a c few. refl)
      act-splits (s.If x body other) = truth-splits (f.Branches body other) x (test-splits x)
          (λ a. when-splits p k ls ds n b a _ _ (exec_all-splits body) (exec_all-splits other))
      act-splits (s.While x body) =
          loop-splits (while_loop x body) b (test-splits x) (exec_all-splits body) (λ c few. refl)
      act-splits (s.Do body x) =
          frame-splits p k ls ds n b (Looping (do_loop body x)) (exec_all p call body)
          (exec_all-splits body) (exec_all-going p call gc body)
          (on_body-settled p k ls ds n b (Looping (do_loop body x)) _
          (begins-splits p k ls ds n b (f.TurnDue (do_loop body x)) (gives f.Normal)
          (λ c few. refl) stays
          (loop-splits (do_loop body x) b (test-splits x) (exec_all-splits body) (λ c few. refl))))
      act-splits (s.For first x change body) =
          begins-splits p k ls ds n b (f.TurnDue (for_loop x change body))
          (alter_if_any p call first) (alter_if_any-splits first)
          (alter_if_any-going p call gc first)
          (loop-splits (for_loop x change body) b (test_if_any-splits x) (exec_all-splits body)
          (alter_if_any-splits change))
      act-splits (s.Switch x xs rest) = value-splits (f.Picks xs rest) x (eval-splits x)
          (λ a. exec_cases-splits a xs (exec_default p call rest) (exec_default-splits rest))
      act-splits s.Break = λ c few. refl
      act-splits s.Continue = λ c few. refl
      act-splits s.Quit = λ c few. refl
      act-splits s.Rtrue = λ c few. refl
      act-splits s.Rfalse = λ c few. refl
      act-splits (s.Return None) = λ c few. refl
      act-splits (s.Return (Some x)) = value-splits f.Gives x (eval-splits x) (λ a c few. refl)
      act-splits s.NewLine = saying-splits p k ls ds n b (10 ∷ []) (gives f.Normal) (λ c few. refl)
      act-splits (s.Print xs) = print_items-splits xs
      act-splits (s.Read line words) = read_line-splits p k ls ds n b line

      pub exec_all-splits : (xs : Statements) → S (exec_all p call xs)
      exec_all-splits s.NoStatements = λ c few. refl
      exec_all-splits (s.MoreStatements x xs) =
          begins-splits p k ls ds n b (f.Blocks xs) (tick (Begins (f.Due x)) (act p call x))
          (tick-splits p k ls ds n b (f.Due x) (act p call x) (λ c. refl)
          (λ c few. act-splits x c (omega (arith, few))))
          (tick-going (Begins (f.Due x)) (act p call x) (act-going p call gc x))
          (exec_all-splits xs)

      pub exec_cases-splits : (a : ℤ) (xs : Cases) (rest : Meaning) → S rest
          → S (exec_cases p call a xs rest)
      exec_cases-splits a s.NoCases rest h = h
      exec_cases-splits a (s.MoreCases choices body xs) rest h = when-splits p k ls ds n b
          (fits_any p a choices) _ _ (exec_all-splits body) (exec_cases-splits a xs rest h)

      pub exec_default-splits : (x : Default) → S (exec_default p call x)
      exec_default-splits s.NoDefault = λ c few. refl
      exec_default-splits (s.SomeDefault body) = exec_all-splits body
