-- What values, conditions, changes, statements and calls do with one step more.
use Rattle.std.proofs.Common.{◌≡◌, ◌∙◌, arith, ℕ, zero, suc, ◌<◌, ℤ, Bool, List, [], ◌∷◌, ◌++◌, Option, Some, None, refl, sym, ap, subst, append-nil}
use Rattle.std.specs.List.{filter_map}
use Rattle.std.specs.Fmt.{signed_decimal}
use Rattle.std.proofs.lemmas.List.Elements.{filter_map-append}
use Rattle.adv_io.specs.Steps.{Step, Noted, noted_of, noted}
use Rattle.inform_tree.specs.Values as v
use Rattle.inform_tree.specs.Values.{Expression, Arguments, Terms, Factors}
use Rattle.inform_tree.specs.Conditions as d
use Rattle.inform_tree.specs.Conditions.{Condition, Conditions}
use Rattle.inform_tree.specs.Statements as s
use Rattle.inform_tree.specs.Statements.{Statement, Statements, Cases, Default, Assignment, PrintItem}
use Rattle.inform_meaning.specs.declared.traps.Trap.TheVariants as t
use Rattle.inform_meaning.specs.Words.{summed, multiplied, low_byte}
use Rattle.inform_meaning.specs.Worlds.{Routine, Program, Scope, Config, with_argument, with_note}
use Rattle.inform_meaning.specs.Frames as f
use Rattle.inform_meaning.specs.Frames.{Begin, Want, Decide, Loop, Begins, Wants, Decides, Looping, Calling, Spent, Waits, Meaning, bind, when, on_normal, on_value, on_truth, on_body, on_return}
use Rattle.inform_meaning.specs.Parts.{tick_at, tick}
use Rattle.inform_meaning.specs.Meaning.{Calls, on_product, eval, eval_call, eval_sum, eval_product, test, test_all, test_any, test_if_any, alter, alter_if_any, print_items}
use Rattle.inform_meaning.specs.Statements.{while_loop, do_loop, for_loop, loop_goes_on, after_body, after_test, turns, loop, fits_any, act, exec_all, exec_cases, exec_default}
use Rattle.inform_meaning.specs.Runs.{noted_body, entered, enter, call_at}
use Rattle.inform_meaning.proofs.Going.{Going}
use Rattle.inform_meaning.proofs.GoingTrees.{GoingCalls, test-going, test_if_any-going, alter_if_any-going, exec_all-going}
use Rattle.inform_meaning.proofs.GoingRuns.{call_at-going}
use Rattle.inform_meaning.proofs.Looping.{turn, loop_once}
use Rattle.inform_meaning.proofs.Going.{stays as still-going}
use Rattle.inform_entered.proofs.OneStepMore.{more, Still, Next, Steady, Entry, passes, enters, Called, fewer, as_called, stays, acts, bind-steady, bind-moves, when-steady, on_normal-steady, on_value-steady, on_truth-steady, on_body-steady, on_return-steady, call-steady, tick-more, tick-steady, trap-steady, changes-steady, fetch-steady, store-steady, random_to-steady, read_line-steady, saying-steady}

module _ {number : ℕ → Option ℕ} {b : ℕ} where
  -- a part that is evaluated or tested, and what is done with it
  value-steady : (w : Want) {m : Meaning} {k : ℤ → Meaning} → Steady number 0 b m
      → ((a : ℤ) → Steady number 0 b (k a)) → Steady number 0 b (bind m (on_value (Wants w) k))
  value-steady w h hk = bind-steady h (on_value-steady (Wants w) hk)

  truth-steady : (x : Decide) {m : Meaning} {k : Bool → Meaning} → Steady number 0 b m
      → ((a : Bool) → Steady number 0 b (k a)) → Steady number 0 b (bind m (on_truth (Decides x) k))
  truth-steady x h hk = bind-steady h (on_truth-steady (Decides x) hk)

  normal-steady : (x : Begin) {m n : Meaning} → Steady number 0 b m → Steady number 0 b n
      → Steady number 0 b (bind m (on_normal (Begins x) n))
  normal-steady x h k = bind-steady h (on_normal-steady (Begins x) k)

  on_product-steady : (o : Option ℤ) {k : ℤ → Meaning} → ((a : ℤ) → Steady number 0 b (k a))
      → Steady number 0 b (on_product o k)
  on_product-steady None h = trap-steady t.Division
  on_product-steady (Some a) h = h a

  -- ---- loops

  module _ (l : Loop) {x body change : Meaning} (hx : Steady number 0 b x)
      (hb : Steady number 0 b body) (hc : Steady number 0 b change) where
    body-steady : {m : Meaning} → Steady number 0 b m
        → Steady number 0 b (bind body (after_body l change m))
    body-steady h =
        bind-steady hb (on_body-steady (Looping l) (normal-steady (f.TurnDue l) hc h))

    turn-steady : {m : Meaning} → Steady number 0 b m
        → Steady number 0 b (bind x (after_test l body change m))
    turn-steady h = truth-steady (f.Testing l) hx
        (λ a. when-steady (loop_goes_on l a) (body-steady h) (stays refl))

module _ (l : Loop) (x body change : Meaning) (gx : Going x) (gb : Going body)
    (gc : Going change) where
  loop_still : (c : Config) → c.steps ≡ 0 → Still 0 c (loop l x body change c)
  unfolding turns
  loop_still c none = subst (λ n. Still 0 c (turns l x body change n c)) (sym none)
      (record { spent = none; few = omega arith; same = refl })

  abbrev next_turn : Meaning
  next_turn = turn l x body change gx gb gc (loop l x body change)

  module _ {number : ℕ → Option ℕ} where
    -- a loop does what its next turn does
    loop_moves : {b : ℕ} → Steady number 0 b next_turn → (c : Config) → c.steps < b
        → Next number c.steps (loop l x body change c) (loop l x body change (more c))
    loop_moves h c few = subst (λ r. Next number c.steps r (loop l x body change (more c)))
        (sym (loop_once l x body change gx gb gc c))
        (subst (λ r. Next number c.steps (next_turn c) r)
        (sym (loop_once l x body change gx gb gc (more c))) (h.moves c few))

    -- by the steps that are left, since each turn takes one
    loop-steady : (b : ℕ) → Steady number 0 b x → Steady number 0 b body
        → Steady number 0 b change → Steady number 0 b (loop l x body change)
    loop-steady zero hx hb hc = record {
      moves = λ c few. absurd (omega (arith, few));
      still = loop_still;
    }
    loop-steady (suc b) hx hb hc = let x_below = fewer (omega arith) hx in
        let body_below = fewer (omega arith) hb in let change_below = fewer (omega arith) hc in
        record {
          moves = loop_moves (tick-more (f.TurnDue l) (turn-steady l x_below body_below change_below
              (loop-steady b x_below body_below change_below)));
          still = loop_still;
        }

-- ---- values, conditions, changes and statements

module _ {number : ℕ → Option ℕ} {b : ℕ} (p : Program) (call : Calls) (going : GoingCalls call)
    (called : (name : List ℕ) (values : List ℤ) → Called number b (call name values)) where
  mutual
    eval-steady : (x : Expression) → Steady number 0 b (eval p call x)
    eval-steady (v.Number n) = stays refl
    eval-steady (v.Char byte) = stays refl
    eval-steady (v.Name name) = acts _ (λ w. w) (λ w. refl)
    eval-steady (v.Entry name words index) =
        value-steady (f.IndexOf name) (eval-steady index) (fetch-steady name)
    eval-steady (v.Call name xs) = eval_call-steady name [] xs
    eval-steady (v.Random x) = value-steady f.RangeOf (eval-steady x) random_to-steady
    eval-steady (v.Neg x) = value-steady f.Negates (eval-steady x) (λ a. stays refl)
    eval-steady (v.Sum x xs) =
        value-steady (f.SumFrom xs) (eval-steady x) (λ a. eval_sum-steady a xs)
    eval-steady (v.Product x xs) =
        value-steady (f.ProductFrom xs) (eval-steady x) (λ a. eval_product-steady a xs)

    eval_call-steady : (name : List ℕ) (values : List ℤ) (xs : Arguments)
        → Steady number 0 b (eval_call p call name values xs)
    eval_call-steady name values v.NoArguments =
        fewer (omega arith) (call-steady (f.CallDue name values) (called name values))
    eval_call-steady name values (v.MoreArguments x xs) =
        value-steady (f.Args name values xs) (eval-steady x)
        (λ a. eval_call-steady name (with_argument values a) xs)

    eval_sum-steady : (a : ℤ) (xs : Terms) → Steady number 0 b (eval_sum p call a xs)
    eval_sum-steady a v.NoTerms = stays refl
    eval_sum-steady a (v.MoreTerms op x xs) = value-steady (f.SumOnto op a xs) (eval-steady x)
        (λ c. eval_sum-steady (summed p.width op a c) xs)

    eval_product-steady : (a : ℤ) (xs : Factors) → Steady number 0 b (eval_product p call a xs)
    eval_product-steady a v.NoFactors = stays refl
    eval_product-steady a (v.MoreFactors op x xs) =
        value-steady (f.ProductOnto op a xs) (eval-steady x)
        (λ c. on_product-steady (multiplied p.width op a c) (λ e. eval_product-steady e xs))

  mutual
    test-steady : (x : Condition) → Steady number 0 b (test p call x)
    test-steady (d.Compare relation x y) = value-steady (f.LeftOf relation y) (eval-steady x)
        (λ a. value-steady (f.RightOf relation a) (eval-steady y) (λ c. stays refl))
    test-steady (d.Nonzero x) = value-steady f.IsNonzero (eval-steady x) (λ a. stays refl)
    test-steady (d.All xs) = test_all-steady xs
    test-steady (d.Any xs) = test_any-steady xs
    test-steady (d.Not x) = truth-steady f.Flips (test-steady x) (λ a. stays refl)

    test_all-steady : (xs : Conditions) → Steady number 0 b (test_all p call xs)
    test_all-steady d.NoConditions = stays refl
    test_all-steady (d.MoreConditions x xs) = truth-steady (f.AllOf xs) (test-steady x)
        (λ a. when-steady a (test_all-steady xs) (stays refl))

    test_any-steady : (xs : Conditions) → Steady number 0 b (test_any p call xs)
    test_any-steady d.NoConditions = stays refl
    test_any-steady (d.MoreConditions x xs) = truth-steady (f.AnyOf xs) (test-steady x)
        (λ a. when-steady a (stays refl) (test_any-steady xs))

  test_if_any-steady : (x : Option Condition) → Steady number 0 b (test_if_any p call x)
  test_if_any-steady None = stays refl
  test_if_any-steady (Some x) = test-steady x

  alter-steady : (x : Assignment) → Steady number 0 b (alter p call x)
  alter-steady (s.Set name x) =
      value-steady (f.Sets name) (eval-steady x) (λ a. changes-steady _)
  alter-steady (s.SetEntry name words x y) =
      value-steady (f.PlaceOf name words y) (eval-steady x)
      (λ i. value-steady (f.Stores name words i) (eval-steady y) (store-steady name words i))
  alter-steady (s.Inc name) = changes-steady _
  alter-steady (s.Dec name) = changes-steady _

  alter_if_any-steady : (x : Option Assignment) → Steady number 0 b (alter_if_any p call x)
  alter_if_any-steady None = stays refl
  alter_if_any-steady (Some x) = alter-steady x

  print_items-steady : (xs : List PrintItem) → Steady number 0 b (print_items p call xs)
  print_items-steady [] = stays refl
  print_items-steady (s.Text text ∷ xs) = saying-steady text (print_items-steady xs)
  print_items-steady (s.Value x ∷ xs) = value-steady (f.SaysNumber xs) (eval-steady x)
      (λ a. saying-steady (signed_decimal a) (print_items-steady xs))
  print_items-steady (s.Char x ∷ xs) = value-steady (f.SaysChar xs) (eval-steady x)
      (λ a. saying-steady (low_byte a ∷ []) (print_items-steady xs))

  mutual
    act-steady : (x : Statement) → Steady number 0 b (act p call x)
    act-steady s.Empty = stays refl
    act-steady (s.Block body) = exec_all-steady body
    act-steady (s.Assign x) = alter-steady x
    act-steady (s.Call name xs) =
        value-steady f.Forgets (eval_call-steady name [] xs) (λ a. stays refl)
    act-steady (s.If x body other) = truth-steady (f.Branches body other) (test-steady x)
        (λ a. when-steady a (exec_all-steady body) (exec_all-steady other))
    act-steady (s.While x body) = loop-steady (while_loop x body) _ _ _ (test-going p call going x)
        (exec_all-going p call going body) still-going b (test-steady x) (exec_all-steady body)
        (stays refl)
    act-steady (s.Do body x) = body-steady (do_loop body x) (test-steady x) (exec_all-steady body)
        (stays refl) (loop-steady (do_loop body x) _ _ _ (test-going p call going x)
        (exec_all-going p call going body) still-going b (test-steady x) (exec_all-steady body)
        (stays refl))
    act-steady (s.For first x change body) =
        normal-steady (f.TurnDue (for_loop x change body)) (alter_if_any-steady first)
        (loop-steady (for_loop x change body) _ _ _ (test_if_any-going p call going x)
        (exec_all-going p call going body) (alter_if_any-going p call going change) b
        (test_if_any-steady x) (exec_all-steady body) (alter_if_any-steady change))
    act-steady (s.Switch x xs rest) = value-steady (f.Picks xs rest) (eval-steady x)
        (λ a. exec_cases-steady a xs (exec_default-steady rest))
    act-steady s.Break = stays refl
    act-steady s.Continue = stays refl
    act-steady s.Quit = stays refl
    act-steady s.Rtrue = stays refl
    act-steady s.Rfalse = stays refl
    act-steady (s.Return None) = stays refl
    act-steady (s.Return (Some x)) = value-steady f.Gives (eval-steady x) (λ a. stays refl)
    act-steady s.NewLine = saying-steady (10 ∷ []) (stays refl)
    act-steady (s.Print xs) = print_items-steady xs
    act-steady (s.Read line words) = read_line-steady line

    pub exec_all-steady : (xs : Statements) → Steady number 0 b (exec_all p call xs)
    exec_all-steady s.NoStatements = stays refl
    exec_all-steady (s.MoreStatements x xs) =
        normal-steady (f.Blocks xs) (tick-steady (f.Due x) (act-steady x)) (exec_all-steady xs)

    exec_cases-steady : (a : ℤ) (xs : Cases) {rest : Meaning} → Steady number 0 b rest
        → Steady number 0 b (exec_cases p call a xs rest)
    exec_cases-steady a s.NoCases h = h
    exec_cases-steady a (s.MoreCases choices body xs) h = when-steady (fits_any p a choices)
        (exec_all-steady body) (exec_cases-steady a xs h)

    exec_default-steady : (x : Default) → Steady number 0 b (exec_default p call x)
    exec_default-steady s.NoDefault = stays refl
    exec_default-steady (s.SomeDefault body) = exec_all-steady body

-- ---- calls

module _ (p : Program) (call : Calls) where
  -- a body that isn't empty is spent at its first statement, where no step is left
  body_stops : (x : Statement) (xs : Statements) (outer : Scope) (c : Config) → c.steps ≡ 0
      → bind (exec_all p call (s.MoreStatements x xs)) (on_return outer) c
      ≡ (Waits Spent (Begins (f.Due x) ∷ Begins (f.Blocks xs) ∷ Calling outer ∷ []), c)
  unfolding bind tick on_normal on_return
  body_stops x xs outer c none =
      ap (λ n. bind (bind (λ c. tick_at n (Begins (f.Due x)) (act p call x) c)
      (on_normal (Begins (f.Blocks xs)) (exec_all p call xs))) (on_return outer) c) none

  module _ (number : ℕ → Option ℕ) (directive : ℕ) where
    not_numbered : number directive ≡ None → filter_map number (directive ∷ []) ≡ []
    not_numbered is = rw is

    numbered : (n : ℕ) → number directive ≡ Some n → filter_map number (directive ∷ []) ≡ n ∷ []
    numbered n is = rw is

    -- what is noted of a body that isn't empty is the number of its routine
    noted_there : (x : Statement) (xs : Statements) (o : Option ℕ) (past : List Step)
        → o ≡ number directive → noted (with_note (noted_body o (s.MoreStatements x xs)) past)
        ≡ noted past ++ filter_map number (directive ∷ [])
    noted_there x xs None past is = sym (ap (λ ys. noted past ++ ys) (not_numbered (sym is))
        ∙ append-nil (noted past))
    noted_there x xs (Some n) past is = filter_map-append noted_of past (Noted n ∷ [])
        ∙ sym (ap (λ ys. noted past ++ ys) (numbered n (sym is)))

    -- a body is open where no step is left, unless it is empty
    body_entry : (body : Statements) (o : Option ℕ) (outer : Scope) (c d : Config)
        → d.steps ≡ 0 → d.world.scope.directive ≡ directive → o ≡ number directive
        → d.past ≡ with_note (noted_body o body) c.past
        → Entry number c (bind (exec_all p call body) (on_return outer) d)
    unfolding bind on_return
    body_entry s.NoStatements None outer c d none at is past =
        passes _ (record { spent = none; few = omega arith; same = ap noted past })
    body_entry s.NoStatements (Some n) outer c d none at is past =
        passes _ (record { spent = none; few = omega arith; same = ap noted past })
    body_entry (s.MoreStatements x xs) o outer c d none at is past =
        subst (Entry number c) (sym (body_stops x xs outer d none))
        (enters (Begins (f.Due x) ∷ Begins (f.Blocks xs) ∷ Calling outer ∷ []) d tt none refl
        (ap noted past ∙ noted_there x xs o c.past is
        ∙ ap (λ i. noted c.past ++ filter_map number (i ∷ [])) (sym at)))

module _ {number : ℕ → Option ℕ} {b : ℕ} (p : Program)
    (notes : (name : List ℕ) (r : Routine) → p.routines name ≡ Some r
    → p.notes name r.directive ≡ number r.directive) where
  -- a call notes the routine that it enters, with one step more and also where no step is left
  enter-called : (call : Calls) → GoingCalls call
      → ((name : List ℕ) (values : List ℤ) → Called number b (call name values))
      → (name : List ℕ) (o : Option Routine)
      → ((r : Routine) → o ≡ Some r → p.notes name r.directive ≡ number r.directive)
      → (values : List ℤ) → Called number b (enter p call name o values)
  enter-called call going called name None at values = as_called (stays refl)
  enter-called call going called name (Some r) at values = record {
    moves = λ c few. bind-moves (entered p name r values c) few
        (exec_all-steady p call going called r.body) (on_return-steady c.world.scope);
    entry = λ c none. body_entry p call number r.directive r.body (p.notes name r.directive)
        c.world.scope c (entered p name r values c) none refl (at r refl) refl;
  }

  pub call_at-called : (n : ℕ) (name : List ℕ) (values : List ℤ)
      → Called number b (call_at p n name values)
  unfolding call_at
  call_at-called zero name values = as_called (trap-steady t.Depth)
  call_at-called (suc n) name values = enter-called (call_at p n) (call_at-going p n)
      (call_at-called n) name (p.routines name) (notes name) values
