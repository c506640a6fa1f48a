-- How calls, frames and whole runs go on with more, and what that says of runs.
use Rattle.std.proofs.Common.{◌≡◌, ◌∙◌, arith, ℕ, zero, suc, ℤ, Bool, true, false, List, [], ◌∷◌, ◌++◌, Option, Some, None, refl, sym, ap, append-nil}
use Rattle.std.specs.Fmt.{signed_decimal}
use Rattle.adv_io.specs.Steps.{Step}
use Rattle.inform_meaning.specs.declared.traps.Trap.TheVariants as t
use Rattle.inform_meaning.specs.Words.{summed, multiplied, low_byte}
use Rattle.inform_meaning.specs.Worlds.{Program, Routine, Config, with_argument}
use Rattle.inform_meaning.specs.Frames as f
use Rattle.inform_meaning.specs.Frames.{Begin, Want, Decide, Frame, Begins, Wants, Decides, Looping, Calling, Main, Over, Outcome, Value, Truth, Normal, Returns, Breaks, Continues, Halts, Waits, Meaning, gives, bind, on_truth, on_return}
use Rattle.inform_meaning.specs.Meaning.{eval, alter_if_any}
use Rattle.inform_meaning.specs.Statements.{act, exec_all, exec_default, loop_goes_on, turns_of}
use Rattle.inform_meaning.specs.Runs.{entered, enter, call_at, CALL_LIMIT, start, use_value, use_truth, hand, room_in, resume_at, resume}
use Rattle.inform_meaning.specs.Laws.{with_more, going_on, RunsSplit, MoreAddsOnly}
use Rattle.inform_meaning.proofs.GoingTrees.{eval-going, alter_if_any-going, exec_all-going}
use Rattle.inform_meaning.proofs.GoingRuns.{call_at-going, hand-going, runs_go}
use Rattle.inform_meaning.proofs.Splitting.{Settled, going_at, Splits, bind-splits, frame-splits}
use Rattle.inform_meaning.proofs.SplittingParts.{on_normal-settled, on_value-settled, on_truth-settled, on_body-settled, on_return-settled, on_main-settled, on_over-settled, begins-splits, wants-splits, when-splits, trap-splits, take_draw-splits, random_to-splits, take_line-splits, changes-splits, fetch-splits, store-splits, saying-splits, tick-splits}
use Rattle.inform_meaning.proofs.SplittingTrees.{loop-splits, on_product-splits, eval-splits, eval_call-splits, eval_sum-splits, eval_product-splits, test-splits, test_all-splits, test_any-splits, test_if_any-splits, alter-splits, alter_if_any-splits, print_items-splits, act-splits, exec_all-splits, exec_cases-splits, exec_default-splits}

module _ (p : Program) (k : ℕ) (ls : List (List ℕ)) (ds : List ℕ) (b : ℕ) where
  abbrev SplitCalls : ℕ → Type 0
  SplitCalls n = (name : List ℕ) (values : List ℤ) → Splits p k ls ds n b (call_at p n name values)

  -- ---- calls

  enter-splits : (n : ℕ) → SplitCalls n → (name : List ℕ) (o : Option Routine) (values : List ℤ)
      → Splits p k ls ds (suc n) b (enter p (call_at p n) name o values)
  enter-splits n calls name None values = λ c few. refl
  enter-splits n calls name (Some r) values = λ c few.
      frame-splits p k ls ds (suc n) b (Calling c.world.scope) (exec_all p (call_at p n) r.body)
      (exec_all-splits p k ls ds n b calls r.body)
      (exec_all-going p (call_at p n) (call_at-going p n) r.body)
      (on_return-settled p k ls ds (suc n) b c.world.scope) (entered p name r values c) few

  pub call_at-splits : (n : ℕ) → SplitCalls n
  unfolding call_at
  call_at-splits zero name values = trap-splits p k ls ds zero b t.Depth
  call_at-splits (suc n) name values =
      enter-splits n (call_at-splits n) name (p.routines name) values

  -- ---- frames

  module _ (n : ℕ) where
    abbrev S : Meaning → Type 0
    S m = Splits p k ls ds n b m

    abbrev calls : SplitCalls n
    calls = call_at-splits n

    turns_of-splits : (l : f.Loop) → S (turns_of p (call_at p n) l)
    turns_of-splits l = loop-splits p k ls ds n l b (test_if_any-splits p k ls ds n b calls l.test)
        (exec_all-splits p k ls ds n b calls l.body)
        (alter_if_any-splits p k ls ds n b calls l.change)

    start-splits : (x : Begin) → S (start p (call_at p n) x)
    start-splits (f.Evals x) = eval-splits p k ls ds n b calls x
    start-splits (f.CallDue name values) = tick-splits p k ls ds n b (f.CallDue name values)
        (call_at p n name values) (λ c. refl) (λ c few. calls name values c (omega (arith, few)))
    start-splits (f.DrawDue m) = take_draw-splits p k ls ds n b m
    start-splits (f.Tests x) = test-splits p k ls ds n b calls x
    start-splits (f.Alters x) = alter-splits p k ls ds n b calls x
    start-splits (f.Due x) = tick-splits p k ls ds n b (f.Due x) (act p (call_at p n) x) (λ c. refl)
        (λ c few. act-splits p k ls ds n b calls x c (omega (arith, few)))
    start-splits (f.Blocks xs) = exec_all-splits p k ls ds n b calls xs
    start-splits (f.Prints xs) = print_items-splits p k ls ds n b calls xs
    start-splits (f.LineDue name) = take_line-splits p k ls ds n b name
    start-splits (f.TurnDue l) = turns_of-splits l

    use_value-splits : (w : Want) (a : ℤ) → S (use_value p (call_at p n) w a)
    use_value-splits (f.IndexOf name) a = fetch-splits p k ls ds n b name a
    use_value-splits (f.Args name values xs) a =
        eval_call-splits p k ls ds n b calls name (with_argument values a) xs
    use_value-splits f.RangeOf a = random_to-splits p k ls ds n b a
    use_value-splits f.Negates a = λ c few. refl
    use_value-splits (f.SumFrom xs) a = eval_sum-splits p k ls ds n b calls a xs
    use_value-splits (f.SumOnto op o xs) a =
        eval_sum-splits p k ls ds n b calls (summed p.width op o a) xs
    use_value-splits (f.ProductFrom xs) a = eval_product-splits p k ls ds n b calls a xs
    use_value-splits (f.ProductOnto op o xs) a = on_product-splits p k ls ds n b calls
        (multiplied p.width op o a) _ (λ c. eval_product-splits p k ls ds n b calls c xs)
    use_value-splits (f.LeftOf relation y) a = wants-splits p k ls ds n b (f.RightOf relation a)
        (eval p (call_at p n) y) (eval-splits p k ls ds n b calls y)
        (eval-going p (call_at p n) (call_at-going p n) y) (λ o c few. refl)
    use_value-splits (f.RightOf relation o) a = λ c few. refl
    use_value-splits f.IsNonzero a = λ c few. refl
    use_value-splits (f.Sets name) a = changes-splits p k ls ds n b _
    use_value-splits (f.PlaceOf name words y) a = wants-splits p k ls ds n b (f.Stores name words a)
        (eval p (call_at p n) y) (eval-splits p k ls ds n b calls y)
        (eval-going p (call_at p n) (call_at-going p n) y) (store-splits p k ls ds n b name words a)
    use_value-splits (f.Stores name words i) a = store-splits p k ls ds n b name words i a
    use_value-splits f.Forgets a = λ c few. refl
    use_value-splits (f.Picks xs rest) a = exec_cases-splits p k ls ds n b calls a xs
        (exec_default p (call_at p n) rest) (exec_default-splits p k ls ds n b calls rest)
    use_value-splits f.Gives a = λ c few. refl
    use_value-splits (f.SaysNumber xs) a = saying-splits p k ls ds n b (signed_decimal a) _
        (print_items-splits p k ls ds n b calls xs)
    use_value-splits (f.SaysChar xs) a =
        saying-splits p k ls ds n b (low_byte a ∷ []) _ (print_items-splits p k ls ds n b calls xs)

    -- after the body of a loop, and after its test
    turn_due-splits : (l : f.Loop) → S
        (bind (alter_if_any p (call_at p n) l.change)
        (f.on_normal (Begins (f.TurnDue l)) (turns_of p (call_at p n) l)))
    turn_due-splits l = begins-splits p k ls ds n b (f.TurnDue l)
        (alter_if_any p (call_at p n) l.change) (alter_if_any-splits p k ls ds n b calls l.change)
        (alter_if_any-going p (call_at p n) (call_at-going p n) l.change) (turns_of-splits l)

    tested-splits : (l : f.Loop) (a : Bool) → S (use_truth p (call_at p n) (f.Testing l) a)
    unfolding on_truth
    tested-splits l a = when-splits p k ls ds n b (loop_goes_on l a) _ (gives Normal)
        (frame-splits p k ls ds n b (Looping l) (exec_all p (call_at p n) l.body)
        (exec_all-splits p k ls ds n b calls l.body)
        (exec_all-going p (call_at p n) (call_at-going p n) l.body)
        (on_body-settled p k ls ds n b (Looping l) _ (turn_due-splits l)))
        (λ c few. refl)

    use_truth-splits : (d : Decide) (a : Bool) → S (use_truth p (call_at p n) d a)
    use_truth-splits (f.AllOf xs) a = when-splits p k ls ds n b a _ (gives (Truth false))
        (test_all-splits p k ls ds n b calls xs) (λ c few. refl)
    use_truth-splits (f.AnyOf xs) a = when-splits p k ls ds n b a (gives (Truth true)) _
        (λ c few. refl) (test_any-splits p k ls ds n b calls xs)
    use_truth-splits f.Flips a = λ c few. refl
    use_truth-splits (f.Branches body other) a = when-splits p k ls ds n b a _ _
        (exec_all-splits p k ls ds n b calls body) (exec_all-splits p k ls ds n b calls other)
    use_truth-splits (f.Testing l) a = tested-splits l a

    -- what a frame does inside the frames around it, where `n` more calls may be open
    hand-splits : (x : Frame) (e : Outcome) → Settled e → S (hand p (call_at p n) x e)
    hand-splits (Begins x) = on_normal-settled p k ls ds n b (Begins x) _ (start-splits x)
    hand-splits (Wants w) = on_value-settled p k ls ds n b (Wants w) _ (use_value-splits w)
    hand-splits (Decides d) = on_truth-settled p k ls ds n b (Decides d) _ (use_truth-splits d)
    hand-splits (Looping l) = on_body-settled p k ls ds n b (Looping l) _ (turn_due-splits l)
    hand-splits (Calling s) = on_return-settled p k ls ds n b s
    hand-splits Main = on_main-settled p k ls ds n b
    hand-splits (Over halt) = on_over-settled p k ls ds n b halt

  -- ---- runs

  settled : (n : ℕ) (e : Outcome) → Settled e → Splits p k ls ds n b (gives e)
  settled n (Value a) h c few = refl
  settled n (Truth a) h c few = refl
  settled n Normal h c few = refl
  settled n (Returns a) h c few = refl
  settled n Breaks h c few = refl
  settled n Continues h c few = refl
  settled n (Halts halt) h c few = refl
  settled n (Waits lack fs) h c few = absurd h

  pub resume_at-splits : (n : ℕ) (fs : List Frame) (e : Outcome) → Settled e
      → Splits p k ls ds n b (resume_at p n fs e)
  unfolding resume_at
  resume_at-splits n [] e h = settled n e h
  resume_at-splits n (x ∷ fs) e h =
      bind-splits p k ls ds n b fs (hand p (call_at p (room_in n fs)) x e)
      (hand-splits (room_in n fs) x e h)
      (hand-going p (call_at p (room_in n fs)) (call_at-going p (room_in n fs)) x e)
      (resume_at-splits n fs)

-- ---- the laws

same_ending : (p : Program) (k : ℕ) (ls : List (List ℕ)) (ds : List ℕ) (e : Outcome) (c : Config)
    → going_at p k ls ds CALL_LIMIT e c ≡ going_on p k ls ds (e, c)
same_ending p k ls ds (Value a) c = refl
same_ending p k ls ds (Truth a) c = refl
same_ending p k ls ds Normal c = refl
same_ending p k ls ds (Returns a) c = refl
same_ending p k ls ds Breaks c = refl
same_ending p k ls ds Continues c = refl
same_ending p k ls ds (Halts halt) c = refl
same_ending p k ls ds (Waits lack fs) c = refl

pub runs_split : RunsSplit
runs_split p frames k ls ds c =
    resume_at-splits p k ls ds (suc c.steps) CALL_LIMIT frames Normal tt c (omega arith)
    ∙ same_ending p k ls ds (resume p frames c).0 (resume p frames c).1

-- what went on has only added to what was done
added : (p : Program) (k : ℕ) (ls : List (List ℕ)) (ds : List ℕ) (r : Outcome × Config)
    → (events : List Step) × ((going_on p k ls ds r).1.past ≡ r.1.past ++ events)
added p k ls ds (Waits lack fs, c) =
    ((runs_go p fs (with_more k ls ds c)).events, (runs_go p fs (with_more k ls ds c)).past)
added p k ls ds (Value a, c) = ([], sym (append-nil c.past))
added p k ls ds (Truth a, c) = ([], sym (append-nil c.past))
added p k ls ds (Normal, c) = ([], sym (append-nil c.past))
added p k ls ds (Returns a, c) = ([], sym (append-nil c.past))
added p k ls ds (Breaks, c) = ([], sym (append-nil c.past))
added p k ls ds (Continues, c) = ([], sym (append-nil c.past))
added p k ls ds (Halts halt, c) = ([], sym (append-nil c.past))

pub more_adds_only : MoreAddsOnly
more_adds_only p frames k ls ds c =
    let h = added p k ls ds (resume p frames c) in
    (h.0, ap (λ r. r.1.past) (runs_split p frames k ls ds c) ∙ h.1)
