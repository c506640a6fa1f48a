-- Calls, whole runs, and runs that go on where they stopped.
use Rattle.std.specs.Prelude.{ℕ, zero, suc, pred, ℤ, pos, Bool, true, false, List, [], ◌∷◌, Option, Some, None}
use Rattle.inform_tree.specs.Statements as s
use Rattle.inform_tree.specs.Statements.{Statements}
use Rattle.inform_meaning.specs.declared.traps.Trap.TheVariants as t
use Rattle.inform_meaning.specs.Words.{word_negation, summed, multiplied, compares, low_byte}
use Rattle.inform_meaning.specs.Worlds.{Routine, Program, Config, scope_of, assigned, with_argument, with_note}
use Rattle.inform_meaning.specs.Frames as f
use Rattle.inform_meaning.specs.Frames.{Begin, Want, Decide, Halt, Frame, Begins, Wants, Decides, Looping, Calling, Main, Over, Lack, Outcome, Value, Truth, Normal, Returns, Halts, Waits, Meaning, gives, bind, when, on_normal, on_value, on_truth, on_return, on_main, on_over}
use Rattle.inform_meaning.specs.Parts.{tick, trap, random_to, take_draw, take_line, changes, fetch, store, saying}
use Rattle.inform_meaning.specs.Meaning.{Calls, on_product, eval, eval_call, eval_sum, eval_product, test, test_all, test_any, alter, print_items}
use Rattle.inform_meaning.specs.Statements.{exec, exec_all, exec_cases, exec_default, turns_of, body_done, test_done}
use Rattle.std.specs.Fmt.{signed_decimal}
use Rattle.std.specs.Ordering.{int_eq}
use Rattle.std.specs.Prelude.{not}

-- ---- calls

-- the number that is noted for a routine; none for an empty body, which ends in the step that
-- enters it
abbrev pub noted_body : Option ℕ → Statements → Option ℕ
noted_body None body = None
noted_body (Some number) s.NoStatements = None
noted_body (Some number) (s.MoreStatements x xs) = Some number

abbrev pub entered : Program → List ℕ → Routine → List ℤ → Config → Config
entered p name r values c = record c {
  past = with_note (noted_body (p.notes name r.directive) r.body) c.past;
  world =
      record c.world { scope = scope_of r values };
}

-- the body of a routine, in a scope of its own
abbrev pub enter : Program → Calls → List ℕ → Option Routine → List ℤ → Meaning
enter p call name None values = gives (Value (pos 0))
enter p call name (Some r) values =
    λ c. bind (exec_all p call r.body) (on_return c.world.scope) (entered p name r values c)

-- a call, where so many more calls may be open
unfoldable pub call_at : Program → ℕ → Calls
call_at p zero name values = trap t.Depth
call_at p (suc n) name values = enter p (call_at p n) name (p.routines name) values

abbrev pub CALL_LIMIT : ℕ
CALL_LIMIT = 200

-- ---- what a frame does

abbrev pub start : Program → Calls → Begin → Meaning
start p call (f.Evals x) = eval p call x
start p call (f.CallDue name values) = tick (Begins (f.CallDue name values)) (call name values)
start p call (f.DrawDue n) = take_draw n
start p call (f.Tests x) = test p call x
start p call (f.Alters x) = alter p call x
start p call (f.Due x) = exec p call x
start p call (f.Blocks xs) = exec_all p call xs
start p call (f.Prints xs) = print_items p call xs
start p call (f.LineDue name) = take_line name
start p call (f.TurnDue l) = turns_of p call l

abbrev pub use_value : Program → Calls → Want → ℤ → Meaning
use_value p call (f.IndexOf name) = fetch name
use_value p call (f.Args name values xs) = λ a. eval_call p call name (with_argument values a) xs
use_value p call f.RangeOf = random_to
use_value p call f.Negates = λ a. gives (Value (word_negation p.width a))
use_value p call (f.SumFrom xs) = λ a. eval_sum p call a xs
use_value p call (f.SumOnto op a xs) = λ b. eval_sum p call (summed p.width op a b) xs
use_value p call (f.ProductFrom xs) = λ a. eval_product p call a xs
use_value p call (f.ProductOnto op a xs) =
    λ b. on_product (multiplied p.width op a b) (λ c. eval_product p call c xs)
use_value p call (f.LeftOf relation y) = λ a. bind (eval p call y)
    (on_value (Wants (f.RightOf relation a)) (λ b. gives (Truth (compares relation a b))))
use_value p call (f.RightOf relation a) = λ b. gives (Truth (compares relation a b))
use_value p call f.IsNonzero = λ a. gives (Truth (not (int_eq a (pos 0))))
use_value p call (f.Sets name) = λ a. changes (assigned name a)
use_value p call (f.PlaceOf name words y) =
    λ i. bind (eval p call y) (on_value (Wants (f.Stores name words i)) (store name words i))
use_value p call (f.Stores name words i) = store name words i
use_value p call f.Forgets = λ a. gives Normal
use_value p call (f.Picks xs rest) = λ a. exec_cases p call a xs (exec_default p call rest)
use_value p call f.Gives = λ a. gives (Returns a)
use_value p call (f.SaysNumber xs) = λ a. saying (signed_decimal a) (print_items p call xs)
use_value p call (f.SaysChar xs) = λ a. saying (low_byte a ∷ []) (print_items p call xs)

abbrev pub use_truth : Program → Calls → Decide → Bool → Meaning
use_truth p call (f.AllOf xs) = λ b. when b (test_all p call xs) (gives (Truth false))
use_truth p call (f.AnyOf xs) = λ b. when b (gives (Truth true)) (test_any p call xs)
use_truth p call f.Flips = λ b. gives (Truth (not b))
use_truth p call (f.Branches body other) =
    λ b. when b (exec_all p call body) (exec_all p call other)
use_truth p call (f.Testing l) = λ b. test_done p call l (Truth b)

-- what a frame does with the outcome of the part that it waited for; one that hasn't begun begins
abbrev pub hand : Program → Calls → Frame → Outcome → Meaning
hand p call (Begins b) = on_normal (Begins b) (start p call b)
hand p call (Wants w) = on_value (Wants w) (use_value p call w)
hand p call (Decides d) = on_truth (Decides d) (use_truth p call d)
hand p call (Looping l) = body_done p call l
hand p call (Calling s) = on_return s
hand p call Main = on_main
hand p call (Over halt) = on_over halt

-- ---- runs

-- one call less may be open inside a routine that was called
abbrev pub room_within : Frame → ℕ → ℕ
room_within (Calling s) n = pred n
room_within f n = n

-- how many more calls may be open inside these frames
abbrev pub room_in : ℕ → List Frame → ℕ
room_in n [] = n
room_in n (f ∷ fs) = room_within f (room_in n fs)

-- the innermost frame is finished, its outcome is handed to the next one, and so on
unfoldable pub resume_at : Program → ℕ → List Frame → Outcome → Meaning
resume_at p n [] e = gives e
resume_at p n (f ∷ fs) e = bind (hand p (call_at p (room_in n fs)) f e) (resume_at p n fs)

-- a run that goes on
abbrev pub resume : Program → List Frame → Meaning
resume p frames = resume_at p CALL_LIMIT frames Normal

-- why a run stopped
pub data Stop : Type 0 where
  Halted : Halt → Stop
  Lacking : Lack → Stop

abbrev pub stop_of : Outcome → Stop
stop_of (Halts halt) = Halted halt
stop_of (Waits lack fs) = Lacking lack
stop_of e = Halted f.Quits

-- what has begun where a run stopped: a run that is over is that alone
abbrev pub begun_of : Outcome → List Frame
begun_of (Halts halt) = Over halt ∷ []
begun_of (Waits lack fs) = fs
begun_of e = Over f.Quits ∷ []

-- `Main` has begun
abbrev pub main_begun : Statements → List Frame
main_begun body = Begins (f.Blocks body) ∷ Main ∷ []
