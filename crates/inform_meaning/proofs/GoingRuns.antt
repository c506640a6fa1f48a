-- What calls, frames and whole runs do to what is left.
use Rattle.std.proofs.Common.{arith, ℕ, zero, suc, ℤ, Bool, List, [], ◌∷◌, Option, Some, None, refl, sym, append-nil}
use Rattle.std.specs.Fmt.{signed_decimal}
use Rattle.adv_io.specs.Steps.{Noted}
use Rattle.inform_meaning.specs.declared.traps.Trap.TheVariants as t
use Rattle.inform_meaning.specs.Words.{summed, multiplied, low_byte}
use Rattle.inform_meaning.specs.Worlds.{Program, Routine, World, Config, with_argument, with_note}
use Rattle.inform_meaning.specs.Frames as f
use Rattle.inform_meaning.specs.Frames.{Begin, Want, Decide, Frame, Begins, Wants, Decides, Looping, Calling, Main, Over, Outcome, bind, on_return, on_over}
use Rattle.inform_meaning.specs.Parts.{store}
use Rattle.inform_meaning.specs.Meaning.{Calls, eval, test_if_any, alter_if_any}
use Rattle.inform_meaning.specs.Statements.{exec_all, exec_default, turns_of, body_done, test_done}
use Rattle.inform_meaning.specs.Runs.{noted_body, entered, enter, call_at, CALL_LIMIT, start, use_value, use_truth, hand, room_in, resume_at}
use Rattle.inform_meaning.specs.Laws.{Goes, RunsGo, StopStays}
use Rattle.inform_meaning.proofs.Going.{Going, goes_on, stays, bind-going, when-going, on_normal-going, on_value-going, on_truth-going, on_return-going, on_main-going, on_over-going, tick-going, trap-going, take_draw-going, random_to-going, take_line-going, changes-going, fetch-going, store-going, saying-going}
use Rattle.inform_meaning.proofs.GoingTrees.{GoingCalls, value-going, on_product-going, after_body-going, after_test-going, loop-going, eval-going, eval_call-going, eval_sum-going, eval_product-going, test-going, test_all-going, test_any-going, test_if_any-going, alter-going, alter_if_any-going, print_items-going, act-going, exec_all-going, exec_cases-going, exec_default-going}

-- ---- calls

-- a note takes nothing
pub noted-goes : (o : Option ℕ) (c : Config) (w : World)
    → Goes c (record c { past = with_note o c.past; world = w })
noted-goes None c w = record {
  events = [];
  past = sym (append-nil c.past);
  steps =
      omega arith;
  spends = record { lines_spent = refl; draws_spent = refl };
}
noted-goes (Some number) c w = record {
  events = Noted number ∷ [];
  past = refl;
  steps = omega arith;
  spends =
      record { lines_spent = refl; draws_spent = refl };
}

entered-goes : (p : Program) (name : List ℕ) (r : Routine) (values : List ℤ) (c : Config)
    → Goes c (entered p name r values c)
entered-goes p name r values c = noted-goes (noted_body (p.notes name r.directive) r.body) c _

enter-going : (p : Program) (call : Calls) (hc : GoingCalls call) (name : List ℕ)
    (o : Option Routine) (values : List ℤ) → Going (enter p call name o values)
enter-going p call hc name None values c = stays c
enter-going p call hc name (Some r) values c =
    goes_on c (entered p name r values c) _ (entered-goes p name r values c)
    (bind-going _ _ (exec_all-going p call hc r.body) (on_return-going c.world.scope)
    (entered p name r values c))

pub call_at-going : (p : Program) (n : ℕ) → GoingCalls (call_at p n)
unfolding call_at
call_at-going p zero name values = trap-going t.Depth
call_at-going p (suc n) name values =
    enter-going p (call_at p n) (call_at-going p n) name (p.routines name) values

-- ---- frames

module _ (p : Program) (call : Calls) (hc : GoingCalls call) where
  pub turns_of-going : (l : f.Loop) → Going (turns_of p call l)
  turns_of-going l = loop-going l _ _ _ (test_if_any-going p call hc l.test)
      (exec_all-going p call hc l.body) (alter_if_any-going p call hc l.change)

  -- whatever begins adds to the past and uses what is left
  start-going : (b : Begin) → Going (start p call b)
  start-going (f.Evals x) = eval-going p call hc x
  start-going (f.CallDue name values) =
      tick-going (Begins (f.CallDue name values)) _ (hc name values)
  start-going (f.DrawDue n) = take_draw-going n
  start-going (f.Tests x) = test-going p call hc x
  start-going (f.Alters x) = alter-going p call hc x
  start-going (f.Due x) = tick-going (Begins (f.Due x)) _ (act-going p call hc x)
  start-going (f.Blocks xs) = exec_all-going p call hc xs
  start-going (f.Prints xs) = print_items-going p call hc xs
  start-going (f.LineDue name) = take_line-going name
  start-going (f.TurnDue l) = turns_of-going l

  -- what a frame does with the value that it wants adds to the past and uses what is left
  use_value-going : (w : Want) (a : ℤ) → Going (use_value p call w a)
  use_value-going (f.IndexOf name) a = fetch-going name a
  use_value-going (f.Args name values xs) a =
      eval_call-going p call hc name (with_argument values a) xs
  use_value-going f.RangeOf a = random_to-going a
  use_value-going f.Negates a = stays
  use_value-going (f.SumFrom xs) a = eval_sum-going p call hc a xs
  use_value-going (f.SumOnto op b xs) a = eval_sum-going p call hc (summed p.width op b a) xs
  use_value-going (f.ProductFrom xs) a = eval_product-going p call hc a xs
  use_value-going (f.ProductOnto op b xs) a =
      on_product-going (multiplied p.width op b a) _ (λ c. eval_product-going p call hc c xs)
  use_value-going (f.LeftOf relation y) a = value-going _ _ _ (eval-going p call hc y) (λ b. stays)
  use_value-going (f.RightOf relation b) a = stays
  use_value-going f.IsNonzero a = stays
  use_value-going (f.Sets name) a = changes-going _
  use_value-going (f.PlaceOf name words y) a = value-going (Wants (f.Stores name words a))
      (eval p call y) (store name words a) (eval-going p call hc y) (store-going name words a)
  use_value-going (f.Stores name words i) a = store-going name words i a
  use_value-going f.Forgets a = stays
  use_value-going (f.Picks xs rest) a = exec_cases-going p call hc a xs (exec_default p call rest)
      (exec_default-going p call hc rest)
  use_value-going f.Gives a = stays
  use_value-going (f.SaysNumber xs) a =
      saying-going (signed_decimal a) _ (print_items-going p call hc xs)
  use_value-going (f.SaysChar xs) a =
      saying-going (low_byte a ∷ []) _ (print_items-going p call hc xs)

  pub body_done-going : (l : f.Loop) (e : Outcome) → Going (body_done p call l e)
  body_done-going l = after_body-going l (test_if_any p call l.test) (exec_all p call l.body)
      (alter_if_any p call l.change) (test_if_any-going p call hc l.test)
      (exec_all-going p call hc l.body) (alter_if_any-going p call hc l.change) (turns_of p call l)
      (turns_of-going l)

  pub test_done-going : (l : f.Loop) (e : Outcome) → Going (test_done p call l e)
  test_done-going l = after_test-going l (test_if_any p call l.test) (exec_all p call l.body)
      (alter_if_any p call l.change) (test_if_any-going p call hc l.test)
      (exec_all-going p call hc l.body) (alter_if_any-going p call hc l.change) (turns_of p call l)
      (turns_of-going l)

  use_truth-going : (d : Decide) (b : Bool) → Going (use_truth p call d b)
  use_truth-going (f.AllOf xs) b = when-going b _ _ (test_all-going p call hc xs) stays
  use_truth-going (f.AnyOf xs) b = when-going b _ _ stays (test_any-going p call hc xs)
  use_truth-going f.Flips b = stays
  use_truth-going (f.Branches body other) b =
      when-going b _ _ (exec_all-going p call hc body) (exec_all-going p call hc other)
  use_truth-going (f.Testing l) b = test_done-going l (f.Truth b)

  pub hand-going : (x : Frame) (e : Outcome) → Going (hand p call x e)
  hand-going (Begins b) = on_normal-going (Begins b) _ (start-going b)
  hand-going (Wants w) = on_value-going (Wants w) _ (use_value-going w)
  hand-going (Decides d) = on_truth-going (Decides d) _ (use_truth-going d)
  hand-going (Looping l) = body_done-going l
  hand-going (Calling scope) = on_return-going scope
  hand-going Main = on_main-going
  hand-going (Over halt) = on_over-going halt

-- ---- runs

pub resume_at-going : (p : Program) (n : ℕ) (frames : List Frame) (e : Outcome)
    → Going (resume_at p n frames e)
unfolding resume_at
resume_at-going p n [] e = stays
resume_at-going p n (x ∷ frames) e = bind-going _ _
    (hand-going p _ (call_at-going p (room_in n frames)) x e) (resume_at-going p n frames)

pub runs_go : RunsGo
runs_go p frames c = resume_at-going p CALL_LIMIT frames f.Normal c

pub stop_stays : StopStays
unfolding resume_at bind on_over
stop_stays p halt c = refl
