-- Values, conditions, changes, statements, calls and whole runs of programs that differ in what
-- they note alone.
use Rattle.std.proofs.Common.{◌≡◌, ◌∙◌, ℕ, zero, suc, ℤ, Bool, List, [], ◌∷◌, Option, Some, None, codes, refl, sym, append-nil}
use Rattle.std.specs.Fmt.{signed_decimal}
use Rattle.inform_tree.specs.Values as v
use Rattle.inform_tree.specs.Values.{Expression, Arguments, Terms, Factors}
use Rattle.inform_tree.specs.Conditions as d
use Rattle.inform_tree.specs.Conditions.{Condition, Conditions}
use Rattle.inform_tree.specs.Statements as s
use Rattle.inform_tree.specs.Statements.{Statement, Statements, Cases, Default, Assignment, PrintItem}
use Rattle.inform_meaning.specs.declared.traps.Trap.TheVariants as t
use Rattle.inform_meaning.specs.Words.{summed, multiplied, low_byte}
use Rattle.inform_meaning.specs.Worlds.{Program, with_argument}
use Rattle.inform_meaning.specs.Frames as f
use Rattle.inform_meaning.specs.Frames.{Loop, Frame, Begins, Wants, Decides, Looping, Outcome, Meaning, bind, when, on_normal, on_value, on_truth, on_body}
use Rattle.inform_meaning.specs.Meaning.{Calls, on_product, eval, eval_call, eval_sum, eval_product, test, test_all, test_any, test_if_any, alter, alter_if_any, print_items}
use Rattle.inform_meaning.specs.Statements.{while_loop, do_loop, for_loop, loop_goes_on, after_body, after_test, turns, loop, fits_any, act, exec_all, exec_cases, exec_default}
use Rattle.std.proofs.lemmas.List.Elements.{filter_map-append}
use Rattle.adv_io.specs.Steps.{Step, Noted, event_of, trace_of}
use Rattle.inform_meaning.specs.Worlds.{Routine, with_note}
use Rattle.inform_meaning.specs.Runs.{noted_body, entered, enter, call_at, CALL_LIMIT, resume_at, resume, main_begun}
use Rattle.inform_meaning.specs.Programs.{program_in, routine_named, body_of, opening}
use Rattle.inform_logic.specs.Laws.{NotesCountForNothing}
use Rattle.inform_logic.proofs.ButNotes.{Alike, stays, bind-alike, when-alike, on_normal-alike, on_value-alike, on_truth-alike, on_body-alike, on_return-alike, on_main-alike, tick-alike, trap-alike, random_to-alike, changes-alike, fetch-alike, store-alike, saying-alike, read_line-alike}

-- a part that is evaluated or tested, and what is done with it
value-alike : (f : Frame) {m m' : Meaning} {k k' : ℤ → Meaning} → Alike m m'
    → ((a : ℤ) → Alike (k a) (k' a)) → Alike (bind m (on_value f k)) (bind m' (on_value f k'))
value-alike f h hk = bind-alike h (on_value-alike f hk)

truth-alike : (f : Frame) {m m' : Meaning} {k k' : Bool → Meaning} → Alike m m'
    → ((b : Bool) → Alike (k b) (k' b)) → Alike (bind m (on_truth f k)) (bind m' (on_truth f k'))
truth-alike f h hk = bind-alike h (on_truth-alike f hk)

normal-alike : (f : Frame) {m m' n n' : Meaning} → Alike m m' → Alike n n'
    → Alike (bind m (on_normal f n)) (bind m' (on_normal f n'))
normal-alike f h k = bind-alike h (on_normal-alike f k)

abbrev AlikeCalls : Calls → Calls → Type 0
AlikeCalls call call' = (name : List ℕ) (values : List ℤ) → Alike (call name values) (call' name values)

on_product-alike : (o : Option ℤ) {k k' : ℤ → Meaning} → ((a : ℤ) → Alike (k a) (k' a))
    → Alike (on_product o k) (on_product o k')
on_product-alike None h = trap-alike t.Division
on_product-alike (Some a) h = h a

-- ---- loops

module _ (l : Loop) {x x' body body' change change' : Meaning} (hx : Alike x x')
    (hb : Alike body body') (hc : Alike change change') where
  after_body-alike : {more more' : Meaning} → Alike more more' → (e : Outcome)
      → Alike (after_body l change more e) (after_body l change' more' e)
  after_body-alike h = on_body-alike (Looping l) (normal-alike (Begins (f.TurnDue l)) hc h)

  after_test-alike : {more more' : Meaning} → Alike more more' → (e : Outcome)
      → Alike (after_test l body change more e) (after_test l body' change' more' e)
  after_test-alike h = on_truth-alike (Decides (f.Testing l))
      (λ b. when-alike (loop_goes_on l b) (bind-alike hb (after_body-alike h)) stays)

  turns-alike : (n : ℕ) → Alike (turns l x body change n) (turns l x' body' change' n)
  unfolding turns
  turns-alike zero = stays
  turns-alike (suc n) =
      tick-alike (Begins (f.TurnDue l)) (bind-alike hx (after_test-alike (turns-alike n)))

  loop-alike : Alike (loop l x body change) (loop l x' body' change')
  loop-alike = record { by = λ c. (turns-alike c.steps).by c }

-- ---- values

module _ (p : Program) (g : List ℕ → ℕ → Option ℕ) (call call' : Calls)
    (hc : AlikeCalls call call') where
  -- the program with other notes
  abbrev other : Program
  other = record p { notes = g }

  mutual
    eval-alike : (x : Expression) → Alike (eval p call x) (eval other call' x)
    eval-alike (v.Number n) = stays
    eval-alike (v.Char byte) = stays
    eval-alike (v.Name name) =
        record { by = λ c past same. record { past = past; same = same; is = refl } }
    eval-alike (v.Entry name words index) = value-alike _ (eval-alike index) (fetch-alike name)
    eval-alike (v.Call name xs) = eval_call-alike name [] xs
    eval-alike (v.Random x) =
        value-alike (Wants f.RangeOf) (eval-alike x) random_to-alike
    eval-alike (v.Neg x) = value-alike _ (eval-alike x) (λ a. stays)
    eval-alike (v.Sum x xs) = value-alike _ (eval-alike x) (λ a. eval_sum-alike a xs)
    eval-alike (v.Product x xs) = value-alike _ (eval-alike x) (λ a. eval_product-alike a xs)

    eval_call-alike : (name : List ℕ) (values : List ℤ) (xs : Arguments)
        → Alike (eval_call p call name values xs) (eval_call other call' name values xs)
    eval_call-alike name values v.NoArguments =
        tick-alike (Begins (f.CallDue name values)) (hc name values)
    eval_call-alike name values (v.MoreArguments x xs) =
        value-alike _ (eval-alike x) (λ a. eval_call-alike name (with_argument values a) xs)

    eval_sum-alike : (a : ℤ) (xs : Terms) → Alike (eval_sum p call a xs) (eval_sum other call' a xs)
    eval_sum-alike a v.NoTerms = stays
    eval_sum-alike a (v.MoreTerms op x xs) =
        value-alike _ (eval-alike x) (λ b. eval_sum-alike (summed p.width op a b) xs)

    eval_product-alike : (a : ℤ) (xs : Factors) → Alike (eval_product p call a xs) (eval_product other call' a xs)
    eval_product-alike a v.NoFactors = stays
    eval_product-alike a (v.MoreFactors op x xs) = value-alike _ (eval-alike x)
        (λ b. on_product-alike (multiplied p.width op a b) (λ c. eval_product-alike c xs))

  mutual
    test-alike : (x : Condition) → Alike (test p call x) (test other call' x)
    test-alike (d.Compare relation x y) =
        value-alike _ (eval-alike x) (λ a. value-alike _ (eval-alike y) (λ b. stays))
    test-alike (d.Nonzero x) = value-alike _ (eval-alike x) (λ a. stays)
    test-alike (d.All xs) = test_all-alike xs
    test-alike (d.Any xs) = test_any-alike xs
    test-alike (d.Not x) = truth-alike _ (test-alike x) (λ b. stays)

    test_all-alike : (xs : Conditions) → Alike (test_all p call xs) (test_all other call' xs)
    test_all-alike d.NoConditions = stays
    test_all-alike (d.MoreConditions x xs) =
        truth-alike _ (test-alike x) (λ b. when-alike b (test_all-alike xs) stays)

    test_any-alike : (xs : Conditions) → Alike (test_any p call xs) (test_any other call' xs)
    test_any-alike d.NoConditions = stays
    test_any-alike (d.MoreConditions x xs) =
        truth-alike _ (test-alike x) (λ b. when-alike b stays (test_any-alike xs))

  test_if_any-alike : (x : Option Condition) → Alike (test_if_any p call x) (test_if_any other call' x)
  test_if_any-alike None = stays
  test_if_any-alike (Some x) = test-alike x

  alter-alike : (x : Assignment) → Alike (alter p call x) (alter other call' x)
  alter-alike (s.Set name x) = value-alike _ (eval-alike x) (λ a. changes-alike _)
  alter-alike (s.SetEntry name words x y) = value-alike _ (eval-alike x)
      (λ i. value-alike (Wants (f.Stores name words i))
      (eval-alike y) (store-alike name words i))
  alter-alike (s.Inc name) = changes-alike _
  alter-alike (s.Dec name) = changes-alike _

  alter_if_any-alike : (x : Option Assignment) → Alike (alter_if_any p call x) (alter_if_any other call' x)
  alter_if_any-alike None = stays
  alter_if_any-alike (Some x) = alter-alike x

  print_items-alike : (xs : List PrintItem) → Alike (print_items p call xs) (print_items other call' xs)
  print_items-alike [] = stays
  print_items-alike (s.Text text ∷ xs) = saying-alike text (print_items-alike xs)
  print_items-alike (s.Value x ∷ xs) = value-alike _ (eval-alike x)
      (λ a. saying-alike (signed_decimal a) (print_items-alike xs))
  print_items-alike (s.Char x ∷ xs) = value-alike _ (eval-alike x)
      (λ a. saying-alike (low_byte a ∷ []) (print_items-alike xs))

  -- ---- statements

  mutual
    act-alike : (x : Statement) → Alike (act p call x) (act other call' x)
    act-alike s.Empty = stays
    act-alike (s.Block body) = exec_all-alike body
    act-alike (s.Assign x) = alter-alike x
    act-alike (s.Call name xs) = value-alike _ (eval_call-alike name [] xs) (λ a. stays)
    act-alike (s.If x body other) = truth-alike _ (test-alike x)
        (λ b. when-alike b (exec_all-alike body) (exec_all-alike other))
    act-alike (s.While x body) =
        loop-alike (while_loop x body) (test-alike x) (exec_all-alike body) stays
    act-alike (s.Do body x) = bind-alike (exec_all-alike body)
        (after_body-alike (do_loop body x) (test-alike x) (exec_all-alike body) stays
        (loop-alike (do_loop body x) (test-alike x) (exec_all-alike body) stays))
    act-alike (s.For first x change body) = normal-alike _ (alter_if_any-alike first)
        (loop-alike (for_loop x change body) (test_if_any-alike x) (exec_all-alike body)
        (alter_if_any-alike change))
    act-alike (s.Switch x xs rest) = value-alike _ (eval-alike x)
        (λ a. exec_cases-alike a xs _ _ (exec_default-alike rest))
    act-alike s.Break = stays
    act-alike s.Continue = stays
    act-alike s.Quit = stays
    act-alike s.Rtrue = stays
    act-alike s.Rfalse = stays
    act-alike (s.Return None) = stays
    act-alike (s.Return (Some x)) = value-alike _ (eval-alike x) (λ a. stays)
    act-alike s.NewLine = saying-alike (10 ∷ []) stays
    act-alike (s.Print xs) = print_items-alike xs
    act-alike (s.Read line words) = read_line-alike line

    exec_all-alike : (xs : Statements) → Alike (exec_all p call xs) (exec_all other call' xs)
    exec_all-alike s.NoStatements = stays
    exec_all-alike (s.MoreStatements x xs) =
        normal-alike _ (tick-alike (Begins (f.Due x)) (act-alike x)) (exec_all-alike xs)

    exec_cases-alike : (a : ℤ) (xs : Cases) (rest rest' : Meaning) → Alike rest rest'
        → Alike (exec_cases p call a xs rest) (exec_cases other call' a xs rest')
    exec_cases-alike a s.NoCases rest rest' h = h
    exec_cases-alike a (s.MoreCases choices body xs) rest rest' h =
        when-alike (fits_any p a choices) (exec_all-alike body) (exec_cases-alike a xs rest rest' h)

    exec_default-alike : (x : Default) → Alike (exec_default p call x) (exec_default other call' x)
    exec_default-alike s.NoDefault = stays
    exec_default-alike (s.SomeDefault body) = exec_all-alike body

-- ---- calls and runs

-- a note leaves no trace
noted-alike : (o : Option ℕ) (xs ys : List Step) → trace_of xs ≡ trace_of ys
    → trace_of (with_note o xs) ≡ trace_of ys
noted-alike None xs ys h = h
noted-alike (Some number) xs ys h = filter_map-append event_of xs (Noted number ∷ [])
    ∙ append-nil (trace_of xs) ∙ h

module _ (p : Program) (g : List ℕ → ℕ → Option ℕ) where
  -- a routine that is entered does the same but for notes, if the calls in its body do
  enter-alike : (call call' : Calls) → AlikeCalls call call' → (name : List ℕ)
      (o : Option Routine) (values : List ℤ)
      → Alike (enter p call name o values) (enter (record p { notes = g }) call' name o values)
  enter-alike call call' hc name None values = stays
  enter-alike call call' hc name (Some r) values = record {
    by = λ c past same. (bind-alike (exec_all-alike p g call call' hc r.body)
        (on_return-alike c.world.scope)).by (entered p name r values c)
        (with_note (noted_body (g name r.directive) r.body) past)
        (noted-alike (noted_body (g name r.directive) r.body) past c.past same
        ∙ sym (noted-alike (noted_body (p.notes name r.directive) r.body) c.past c.past refl));
  }

  call_at-alike : (n : ℕ) → AlikeCalls (call_at p n) (call_at (record p { notes = g }) n)
  unfolding call_at
  call_at-alike zero name values = trap-alike t.Depth
  call_at-alike (suc n) name values = enter-alike (call_at p n)
      (call_at (record p { notes = g }) n) (call_at-alike n) name (p.routines name) values

  run-alike : (body : Statements)
      → Alike (resume p (main_begun body)) (resume (record p { notes = g }) (main_begun body))
  unfolding resume_at
  run-alike body = bind-alike (on_normal-alike (Begins (f.Blocks body))
      (exec_all-alike p g (call_at p CALL_LIMIT) (call_at (record p { notes = g }) CALL_LIMIT)
      (call_at-alike CALL_LIMIT) body) f.Normal)
      (λ e. bind-alike (on_main-alike e) (λ e. stays))

pub notes_count_for_nothing : NotesCountForNothing
notes_count_for_nothing width ds notes more steps lines draws = let
    alike = (run-alike (program_in width ds notes) more
    (body_of (routine_named width ds (codes "main")))).by (opening width ds steps lines draws) []
    refl in
    record { past = alike.past; same = alike.same; is = alike.is }
