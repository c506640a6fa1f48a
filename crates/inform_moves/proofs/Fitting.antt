-- The frames of each move keep within the height of the frame whose place they take.
use Rattle.std.proofs.Common.{◌≡◌, ◌∙◌, arith, ℕ, zero, suc, pred, ◌+◌, ◌-◌, ◌*◌, ◌≤◌, max, ℤ, pos, Bool, true, false, List, [], ◌∷◌, length, Option, Some, None, refl, ap}
use Rattle.std.specs.Prelude.{⊤, int_lt, if◌then◌else◌}
use Rattle.inform_tree.specs.Depths.{expression_depth, arguments_depth, terms_depth, factors_depth, condition_depth, conditions_depth, assignment_depth, items_depth, statement_depth, statements_depth, cases_depth, default_depth, optional_depth}
use Rattle.inform_tree.specs.Values as v
use Rattle.inform_tree.specs.Values.{Expression, Arguments, Terms, Factors}
use Rattle.inform_tree.specs.Conditions as d
use Rattle.inform_tree.specs.Conditions.{Condition, Conditions}
use Rattle.inform_tree.specs.Statements as s
use Rattle.inform_tree.specs.Statements.{Statement, Statements, Cases, Default, Assignment, PrintItem}
use Rattle.inform_meaning.specs.Worlds.{Program, Routine, World, entries_of, entry_at, has_room, with_argument, stored}
use Rattle.inform_meaning.specs.Words.{summed, multiplied}
use Rattle.inform_meaning.specs.Frames as f
use Rattle.inform_meaning.specs.Frames.{Loop, Begin, Want, Decide, Frame, Begins, Wants, Decides, Looping, Calling, Main, Over, Outcome, Value, Truth, Normal, Returns, Breaks, Continues, Halts, Waits}
use Rattle.inform_meaning.specs.Statements.{for_loop, loop_goes_on, fits_any}
use Rattle.inform_moves.specs.Immediate.{immediate_value, immediate_sum, immediate_product, immediate_arguments, immediate_truth}
use Rattle.inform_moves.specs.Moves.{Move, Goes, Ticks, Reads, Draws, at_once, goes_to, argument_parts, arguments_move, sum_parts, sum_move, product_parts, product_move, factor_move, value_parts, eval_move, all_move, any_move, truth_parts, test_move, alter_move, prints_move, enter_move, call_move, ticked, turn_test, turn_move, picked_move, change_frames, call_parts, call_alone, tested_move, branch_move, switch_move, return_move, read_move, statement_move, block_move, default_move, cases_move, begin_move, entry_move, store_by, place_move, range_move, value_move, truth_move, next}
use Rattle.inform_moves.specs.Heights.{ROUTINE_FRAMES, loop_height, begin_height, want_height, decide_height, height, Within, standing, Fits, calls_open}
use Rattle.inform_moves.specs.Laws.{OpensAtMost, MovesOpen, FramesAreFew, RoomIsLeft}
use Rattle.inform_moves.proofs.AtOnce.{at_once-all}

-- the frames of a move keep within so many
abbrev pub Keeping : ℕ → Move → Type 0
Keeping most (Goes frames e effect) = Within most frames
Keeping most (Ticks frames e effect) = Within most frames
Keeping most (Reads name) = ⊤
Keeping most (Draws n) = ⊤

argument_parts-keep : (name : List ℕ) (values : List ℤ) (xs : Arguments)
    → Keeping (arguments_depth xs + 1) (argument_parts name values xs)
argument_parts-keep name values v.NoArguments = (omega arith, tt, tt)
argument_parts-keep name values (v.MoreArguments x xs) = (omega arith, tt, (omega arith, tt, tt))

arguments-keep : (p : Program) (w : World) (name : List ℕ) (values : List ℤ) (xs : Arguments)
    → Keeping (arguments_depth xs + 1) (arguments_move p w name values xs)
arguments-keep p w name values xs =
    at_once-all (Keeping (arguments_depth xs + 1)) (immediate_arguments p w values xs) _ _ (λ all. (omega arith, tt, tt)) (argument_parts-keep name values xs)

sum_parts-keep : (a : ℤ) (xs : Terms) → Keeping (terms_depth xs + 1) (sum_parts a xs)
sum_parts-keep a v.NoTerms = tt
sum_parts-keep a (v.MoreTerms op x xs) = (omega arith, tt, (omega arith, tt, tt))

sum-keeps : (p : Program) (w : World) (a : ℤ) (xs : Terms) → Keeping (terms_depth xs + 1) (sum_move p w a xs)
sum-keeps p w a xs =
    at_once-all (Keeping (terms_depth xs + 1)) (immediate_sum p w a xs) _ _ (λ b. tt) (sum_parts-keep a xs)

product_parts-keep : (a : ℤ) (xs : Factors) → Keeping (factors_depth xs + 1) (product_parts a xs)
product_parts-keep a v.NoFactors = tt
product_parts-keep a (v.MoreFactors op x xs) = (omega arith, tt, (omega arith, tt, tt))

product-keeps : (p : Program) (w : World) (a : ℤ) (xs : Factors) → Keeping (factors_depth xs + 1) (product_move p w a xs)
product-keeps p w a xs =
    at_once-all (Keeping (factors_depth xs + 1)) (immediate_product p w a xs) _ _ (λ b. tt) (product_parts-keep a xs)

factor-keeps : (p : Program) (w : World) (o : Option ℤ) (xs : Factors)
    → Keeping (factors_depth xs + 1) (factor_move p w o xs)
factor-keeps p w None xs = tt
factor-keeps p w (Some a) xs = product-keeps p w a xs

-- the frames of the parts of an expression keep within its depth
value_parts-keep : (p : Program) (w : World) (x : Expression)
    → Keeping (expression_depth x) (value_parts p w x)
value_parts-keep p w (v.Number n) = tt
value_parts-keep p w (v.Char byte) = tt
value_parts-keep p w (v.Name name) = tt
value_parts-keep p w (v.Entry name words index) = (omega arith, tt, (omega arith, tt, tt))
value_parts-keep p w (v.Call name xs) = arguments-keep p w name [] xs
value_parts-keep p w (v.Random x) = (omega arith, tt, (omega arith, tt, tt))
value_parts-keep p w (v.Neg x) = (omega arith, tt, (omega arith, tt, tt))
value_parts-keep p w (v.Sum x xs) = (omega arith, tt, (omega arith, tt, tt))
value_parts-keep p w (v.Product x xs) = (omega arith, tt, (omega arith, tt, tt))

eval-keeps : (p : Program) (w : World) (x : Expression)
    → Keeping (expression_depth x) (eval_move p w x)
eval-keeps p w x =
    at_once-all (Keeping (expression_depth x)) (immediate_value p w x) _ _ (λ a. tt) (value_parts-keep p w x)

all-keeps : (xs : Conditions) → Keeping (conditions_depth xs + 1) (all_move xs)
all-keeps d.NoConditions = tt
all-keeps (d.MoreConditions x xs) = (omega arith, tt, (omega arith, tt, tt))

any-keeps : (xs : Conditions) → Keeping (conditions_depth xs + 1) (any_move xs)
any-keeps d.NoConditions = tt
any-keeps (d.MoreConditions x xs) = (omega arith, tt, (omega arith, tt, tt))

truth_parts-keep : (x : Condition) → Keeping (condition_depth x) (truth_parts x)
truth_parts-keep (d.Compare relation x y) = (omega arith, tt, (omega arith, tt, tt))
truth_parts-keep (d.Nonzero x) = (omega arith, tt, (omega arith, tt, tt))
truth_parts-keep (d.All xs) = all-keeps xs
truth_parts-keep (d.Any xs) = any-keeps xs
truth_parts-keep (d.Not x) = (omega arith, tt, (omega arith, tt, tt))

test-keeps : (p : Program) (w : World) (x : Condition) → Keeping (condition_depth x) (test_move p w x)
test-keeps p w x =
    at_once-all (Keeping (condition_depth x)) (immediate_truth p w x) _ _ (λ b. tt) (truth_parts-keep x)

store-keeps : (most : ℕ) (w : World) (o : Option ℤ) (after : World) → Keeping most (store_by w o after)
store-keeps most w None after = tt
store-keeps most w (Some a) after = tt

place-keeps : (p : Program) (w : World) (most : ℕ) (name : List ℕ) (words : Bool) (i : ℤ) (y : Expression)
    → expression_depth y + 1 ≤ most → Keeping most (place_move p w name words i y)
place-keeps p w most name words i y h =
    at_once-all (Keeping most) (immediate_value p w y) _ _
    (λ a. store-keeps most w (entry_at (entries_of name w) i) (stored name words i a w)) (omega (arith, h), tt, (omega (arith, h), tt, tt))

alter-keeps : (p : Program) (w : World) (most : ℕ) (x : Assignment) → assignment_depth x + 1 ≤ most
    → Keeping most (alter_move p w x)
alter-keeps p w most (s.Set name x) h =
    at_once-all (Keeping most) (immediate_value p w x) _ _ (λ a. tt) (omega (arith, h), tt, (omega (arith, h), tt, tt))
alter-keeps p w most (s.SetEntry name words x y) h =
    at_once-all (Keeping most) (immediate_value p w x) _ _ (λ i. place-keeps p w most name words i y (omega (arith, h)))
    (omega (arith, h), tt, (omega (arith, h), tt, tt))
alter-keeps p w most (s.Inc name) h = tt
alter-keeps p w most (s.Dec name) h = tt

prints-keep : (p : Program) (w : World) (xs : List PrintItem)
    → Keeping (items_depth xs + 1) (prints_move p w xs)
prints-keep p w [] = tt
prints-keep p w (s.Text text ∷ xs) = (omega arith, tt, tt)
prints-keep p w (s.Value x ∷ xs) =
    at_once-all (Keeping (max (expression_depth x) (items_depth xs) + 1)) (immediate_value p w x) _ _ (λ a. (omega arith, tt, tt)) (omega arith, tt, (omega arith, tt, tt))
prints-keep p w (s.Char x ∷ xs) =
    at_once-all (Keeping (max (expression_depth x) (items_depth xs) + 1)) (immediate_value p w x) _ _ (λ a. (omega arith, tt, tt)) (omega arith, tt, (omega arith, tt, tt))

block-keeps : (xs : Statements) → Keeping (2 * statements_depth xs + 1) (block_move xs)
block-keeps s.NoStatements = tt
block-keeps (s.MoreStatements x xs) = (omega arith, tt, (omega arith, tt, tt))

default-keeps : (most : ℕ) (x : Default) → 2 * default_depth x + 1 ≤ most
    → Keeping most (default_move x)
default-keeps most s.NoDefault h = tt
default-keeps most (s.SomeDefault body) h = (omega (arith, h), tt, tt)

cases-keep : (p : Program) (a : ℤ) (most : ℕ) (xs : Cases) (rest : Default)
    → 2 * cases_depth xs + 1 ≤ most → 2 * default_depth rest + 1 ≤ most
    → Keeping most (cases_move p a xs rest)
cases-keep p a most s.NoCases rest h k = default-keeps most rest k
cases-keep p a most (s.MoreCases choices body xs) rest h k =
    by (fits_any p a choices) (cases-keep p a most xs rest (omega (arith, h)) k) where
      by : (b : Bool) → Keeping most (cases_move p a xs rest)
          → Keeping most (if b then goes_to (Begins (f.Blocks body)) else cases_move p a xs rest)
      by true g = (omega (arith, h), tt, tt)
      by false g = g

change-keeps : (l : Loop) (most : ℕ) (x : Option Assignment) → loop_height l ≤ most
    → optional_depth assignment_depth x + 2 ≤ most → Within most (change_frames l x)
change-keeps l most None h k = (omega (arith, h), tt, tt)
change-keeps l most (Some x) h k = (omega (arith, k), tt, (omega (arith, h), tt, tt))

entry-keeps : (w : World) (o : Option ℤ) → Keeping 1 (entry_move w o)
entry-keeps w None = tt
entry-keeps w (Some a) = tt

range-keeps : (w : World) (a : ℤ) (b : Bool) → Keeping 1 (range_move w a b)
range-keeps w a true = tt
range-keeps w a false = (omega arith, tt, tt)

ticked-keeps : (most : ℕ) (m : Move) → Keeping most m → Keeping most (ticked m)
ticked-keeps most (Goes frames e effect) h = h
ticked-keeps most (Ticks frames e effect) h = h
ticked-keeps most (Reads name) h = h
ticked-keeps most (Draws n) h = h

tested-keeps : (l : Loop) (b : Bool) → Keeping (loop_height l) (tested_move l b)
tested-keeps l true = (omega arith, tt, (omega arith, tt, tt))
tested-keeps l false = tt

turn-keeps : (p : Program) (w : World) (l : Loop) (x : Option Condition)
    → optional_depth condition_depth x + 1 ≤ loop_height l
    → Keeping (loop_height l) (turn_move p w l x)
turn-keeps p w l None h = (omega arith, tt, tt)
turn-keeps p w l (Some x) h = ticked-keeps (loop_height l) (turn_test p w l x)
    (at_once-all (Keeping (loop_height l)) (immediate_truth p w x) _ _ (λ b. tested-keeps l (loop_goes_on l b)) (omega (arith, h), tt, (omega arith, tt, tt)))

read-keeps : (w : World) (name : List ℕ) (b : Bool) → Keeping 2 (read_move w name b)
read-keeps w name true = (omega arith, tt, tt)
read-keeps w name false = tt

call_parts-keep : (name : List ℕ) (xs : Arguments)
    → Keeping (2 * (arguments_depth xs + 1)) (call_parts name xs)
call_parts-keep name v.NoArguments = (omega arith, tt, (omega arith, tt, tt))
call_parts-keep name (v.MoreArguments x xs) =
    (omega arith, tt, (omega arith, tt, (omega arith, tt, tt)))

picked-keeps : (most : ℕ) (body other : Statements) → 2 * statements_depth body + 1 ≤ most
    → 2 * statements_depth other + 1 ≤ most → (b : Bool) → Keeping most (picked_move body other b)
picked-keeps most body other h k true = (omega (arith, h), tt, tt)
picked-keeps most body other h k false = (omega (arith, k), tt, tt)

-- the frames of a statement keep within twice its depth
pub statement-keeps : (p : Program) (w : World) (x : Statement)
    → Keeping (2 * statement_depth x) (statement_move p w x)
statement-keeps p w s.Empty = tt
statement-keeps p w (s.Block body) = (omega arith, tt, tt)
statement-keeps p w (s.Assign x) =
    ticked-keeps _ (alter_move p w x) (alter-keeps p w _ x (omega arith))
statement-keeps p w (s.Call name xs) = ticked-keeps _ (call_alone p w name xs)
    (at_once-all (Keeping (2 * (arguments_depth xs + 1))) (immediate_arguments p w [] xs) _ _ (λ all. (omega arith, tt, (omega arith, tt, tt))) (call_parts-keep name xs))
statement-keeps p w (s.If x body other) = ticked-keeps _ (branch_move p w x body other)
    (at_once-all (Keeping (2 * statement_depth (s.If x body other))) (immediate_truth p w x) _ _ (picked-keeps _ body other (omega arith) (omega arith)) (omega arith, tt, (omega arith, tt, tt)))
statement-keeps p w (s.While x body) = (omega arith, tt, tt)
statement-keeps p w (s.Do body x) = (omega arith, tt, (omega arith, tt, tt))
statement-keeps p w (s.For first x change body) =
    change-keeps (for_loop x change body) _ first (omega arith) (omega arith)
statement-keeps p w (s.Switch x xs rest) = ticked-keeps _ (switch_move p w x xs rest)
    (at_once-all (Keeping (2 * statement_depth (s.Switch x xs rest))) (immediate_value p w x) _ _ (λ a. cases-keep p a _ xs rest (omega arith) (omega arith)) (omega arith, tt, (omega arith, tt, tt)))
statement-keeps p w s.Break = tt
statement-keeps p w s.Continue = tt
statement-keeps p w s.Quit = tt
statement-keeps p w s.Rtrue = tt
statement-keeps p w s.Rfalse = tt
statement-keeps p w (s.Return None) = tt
statement-keeps p w (s.Return (Some x)) = ticked-keeps _ (return_move p w x)
    (at_once-all (Keeping (2 * (expression_depth x + 1))) (immediate_value p w x) _ _ (λ a. tt) (omega arith, tt, (omega arith, tt, tt)))
statement-keeps p w s.NewLine = tt
statement-keeps p w (s.Print xs) = (omega arith, tt, tt)
statement-keeps p w (s.Read line words) = read-keeps w line (has_room (entries_of line w))

-- the frames of what gets the value that it wants keep within its height
value-keeps : (p : Program) (w : World) (x : Want) (a : ℤ)
    → Keeping (want_height x) (value_move p w x a)
value-keeps p w (f.IndexOf name) a = entry-keeps w (entry_at (entries_of name w) a)
value-keeps p w (f.Args name values xs) a = arguments-keep p w name (with_argument values a) xs
value-keeps p w f.RangeOf a = range-keeps w a (int_lt a (pos 1))
value-keeps p w f.Negates a = tt
value-keeps p w (f.SumFrom xs) a = sum-keeps p w a xs
value-keeps p w (f.SumOnto op b xs) a = sum-keeps p w (summed p.width op b a) xs
value-keeps p w (f.ProductFrom xs) a = product-keeps p w a xs
value-keeps p w (f.ProductOnto op b xs) a = factor-keeps p w (multiplied p.width op b a) xs
value-keeps p w (f.LeftOf relation y) a =
    at_once-all (Keeping (expression_depth y + 1)) (immediate_value p w y) _ _ (λ b. tt) (omega arith, tt, (omega arith, tt, tt))
value-keeps p w (f.RightOf relation b) a = tt
value-keeps p w f.IsNonzero a = tt
value-keeps p w (f.Sets name) a = tt
value-keeps p w (f.PlaceOf name words y) a = place-keeps p w _ name words a y (omega arith)
value-keeps p w (f.Stores name words i) a =
    store-keeps 1 w (entry_at (entries_of name w) i) (stored name words i a w)
value-keeps p w f.Forgets a = tt
value-keeps p w (f.Picks xs rest) a = cases-keep p a _ xs rest (omega arith) (omega arith)
value-keeps p w f.Gives a = tt
value-keeps p w (f.SaysNumber xs) a = (omega arith, tt, tt)
value-keeps p w (f.SaysChar xs) a = (omega arith, tt, tt)

truth-keeps : (x : Decide) (b : Bool) → Keeping (decide_height x) (truth_move x b)
truth-keeps (f.AllOf xs) true = all-keeps xs
truth-keeps (f.AllOf xs) false = tt
truth-keeps (f.AnyOf xs) true = tt
truth-keeps (f.AnyOf xs) false = any-keeps xs
truth-keeps f.Flips b = tt
truth-keeps (f.Branches body other) true = (omega arith, tt, tt)
truth-keeps (f.Branches body other) false = (omega arith, tt, tt)
truth-keeps (f.Testing l) b = tested-keeps l (loop_goes_on l b)

-- what has begun, and isn't a call
abbrev pub IsNoCall : Frame → Type 0
IsNoCall (Begins (f.CallDue name values)) = ⊥
IsNoCall x = ⊤

-- the frames of what begins, and is no call, keep within its height
begin-keeps : (p : Program) (n : ℕ) (w : World) (x : Begin) → IsNoCall (Begins x)
    → Keeping (begin_height x) (begin_move p n w x)
begin-keeps p n w (f.Evals x) h = eval-keeps p w x
begin-keeps p n w (f.CallDue name values) h = absurd h
begin-keeps p n w (f.DrawDue m) h = tt
begin-keeps p n w (f.Tests x) h = test-keeps p w x
begin-keeps p n w (f.Alters x) h = alter-keeps p w _ x (omega arith)
begin-keeps p n w (f.Due x) h = statement-keeps p w x
begin-keeps p n w (f.Blocks xs) h = block-keeps xs
begin-keeps p n w (f.Prints xs) h = prints-keep p w xs
begin-keeps p n w (f.LineDue name) h = tt
begin-keeps p n w (f.TurnDue l) h = turn-keeps p w l l.test (omega arith)

-- a frame that is no call
pub next-keeps : (p : Program) (n : ℕ) (w : World) (x : Frame) (e : Outcome) → IsNoCall x
    → Keeping (height x) (next p n w x e)
next-keeps p n w (Begins x) (Value a) h = tt
next-keeps p n w (Begins x) (Truth b) h = tt
next-keeps p n w (Begins x) Normal h = begin-keeps p n w x h
next-keeps p n w (Begins x) (Returns a) h = tt
next-keeps p n w (Begins x) Breaks h = tt
next-keeps p n w (Begins x) Continues h = tt
next-keeps p n w (Begins x) (Halts halt) h = tt
next-keeps p n w (Begins x) (Waits lack fs) h = tt
next-keeps p n w (Wants x) (Value a) h = value-keeps p w x a
next-keeps p n w (Wants x) (Truth b) h = tt
next-keeps p n w (Wants x) Normal h = tt
next-keeps p n w (Wants x) (Returns a) h = tt
next-keeps p n w (Wants x) Breaks h = tt
next-keeps p n w (Wants x) Continues h = tt
next-keeps p n w (Wants x) (Halts halt) h = tt
next-keeps p n w (Wants x) (Waits lack fs) h = tt
next-keeps p n w (Decides x) (Value a) h = tt
next-keeps p n w (Decides x) (Truth b) h = truth-keeps x b
next-keeps p n w (Decides x) Normal h = tt
next-keeps p n w (Decides x) (Returns a) h = tt
next-keeps p n w (Decides x) Breaks h = tt
next-keeps p n w (Decides x) Continues h = tt
next-keeps p n w (Decides x) (Halts halt) h = tt
next-keeps p n w (Decides x) (Waits lack fs) h = tt
next-keeps p n w (Looping l) (Value a) h = tt
next-keeps p n w (Looping l) (Truth b) h = tt
next-keeps p n w (Looping l) Normal h = change-keeps l _ l.change (omega arith) (omega arith)
next-keeps p n w (Looping l) (Returns a) h = tt
next-keeps p n w (Looping l) Breaks h = tt
next-keeps p n w (Looping l) Continues h = change-keeps l _ l.change (omega arith) (omega arith)
next-keeps p n w (Looping l) (Halts halt) h = tt
next-keeps p n w (Looping l) (Waits lack fs) h = tt
next-keeps p n w (Calling scope) e h = tt
next-keeps p n w Main e h = tt
next-keeps p n w (Over halt) e h = tt

-- ---- calls

no-calls : (most : ℕ) (gs : List Frame) → Within most gs → calls_open gs ≡ 0
no-calls most [] h = refl
no-calls most (Begins x ∷ gs) h = no-calls most gs h.2
no-calls most (Wants x ∷ gs) h = no-calls most gs h.2
no-calls most (Decides x ∷ gs) h = no-calls most gs h.2
no-calls most (Looping x ∷ gs) h = no-calls most gs h.2
no-calls most (Calling x ∷ gs) h = absurd h.1
no-calls most (Main ∷ gs) h = no-calls most gs h.2
no-calls most (Over x ∷ gs) h = no-calls most gs h.2

-- ---- moves

entering-opens : (p : Program) (n : ℕ) (w : World) (name : List ℕ) (o : Option Routine) (values : List ℤ)
    → OpensAtMost (suc n) (enter_move p w name o values)
entering-opens p n w name None values = omega arith
entering-opens p n w name (Some r) values = omega arith

calling-opens : (p : Program) (n : ℕ) (w : World) (name : List ℕ) (values : List ℤ)
    → OpensAtMost n (call_move p n w name values)
calling-opens p zero w name values = omega arith
calling-opens p (suc n) w name values = entering-opens p n w name (p.routines name) values

keeping-opens : (most n : ℕ) (m : Move) → Keeping most m → OpensAtMost n m
keeping-opens most n (Goes gs e effect) h = omega (arith, no-calls most gs h)
keeping-opens most n (Ticks gs e effect) h = omega (arith, no-calls most gs h)
keeping-opens most n (Reads name) h = tt
keeping-opens most n (Draws m) h = tt

-- whether a frame is a call that is due, and gets its outcome
data Kind : Frame → Outcome → Type 0 where
  call : {name : List ℕ} {values : List ℤ} → Kind (Begins (f.CallDue name values)) Normal
  other : {x : Frame} {e : Outcome}
      → ((p : Program) (n : ℕ) (w : World) → Keeping (height x) (next p n w x e)) → Kind x e

-- each frame is a call that is due and gets its outcome, or its moves keep within its height
kind : (x : Frame) (e : Outcome) → Kind x e
kind (Begins (f.CallDue name values)) Normal = call
kind (Begins (f.CallDue name values)) (Value a) = other (λ p n w. tt)
kind (Begins (f.CallDue name values)) (Truth b) = other (λ p n w. tt)
kind (Begins (f.CallDue name values)) (Returns a) = other (λ p n w. tt)
kind (Begins (f.CallDue name values)) Breaks = other (λ p n w. tt)
kind (Begins (f.CallDue name values)) Continues = other (λ p n w. tt)
kind (Begins (f.CallDue name values)) (Halts halt) = other (λ p n w. tt)
kind (Begins (f.CallDue name values)) (Waits lack fs) = other (λ p n w. tt)
kind (Begins (f.Evals x)) e = other (λ p n w. next-keeps p n w (Begins (f.Evals x)) e tt)
kind (Begins (f.DrawDue m)) e = other (λ p n w. next-keeps p n w (Begins (f.DrawDue m)) e tt)
kind (Begins (f.Tests x)) e = other (λ p n w. next-keeps p n w (Begins (f.Tests x)) e tt)
kind (Begins (f.Alters x)) e = other (λ p n w. next-keeps p n w (Begins (f.Alters x)) e tt)
kind (Begins (f.Due x)) e = other (λ p n w. next-keeps p n w (Begins (f.Due x)) e tt)
kind (Begins (f.Blocks xs)) e = other (λ p n w. next-keeps p n w (Begins (f.Blocks xs)) e tt)
kind (Begins (f.Prints xs)) e = other (λ p n w. next-keeps p n w (Begins (f.Prints xs)) e tt)
kind (Begins (f.LineDue name)) e = other (λ p n w. next-keeps p n w (Begins (f.LineDue name)) e tt)
kind (Begins (f.TurnDue l)) e = other (λ p n w. next-keeps p n w (Begins (f.TurnDue l)) e tt)
kind (Wants w) e = other (λ p n v. next-keeps p n v (Wants w) e tt)
kind (Decides d) e = other (λ p n w. next-keeps p n w (Decides d) e tt)
kind (Looping l) e = other (λ p n w. next-keeps p n w (Looping l) e tt)
kind (Calling scope) e = other (λ p n w. next-keeps p n w (Calling scope) e tt)
kind Main e = other (λ p n w. next-keeps p n w Main e tt)
kind (Over halt) e = other (λ p n w. next-keeps p n w (Over halt) e tt)

pub moves_open : MovesOpen
moves_open p n w x e = by x e (kind x e) where
  by : (x : Frame) (e : Outcome) → Kind x e → OpensAtMost n (next p n w x e)
  by _ _ (call {name} {values}) = calling-opens p n w name values
  by x e (other keeps) = keeping-opens (height x) n (next p n w x e) (keeps p n w)

-- ---- how many frames there are

-- the frames of the routines that wait are full at most
spread : (fs : List Frame) → Fits fs
    → length fs + ROUTINE_FRAMES ≤ ROUTINE_FRAMES * (calls_open fs + 1) + standing fs
spread [] fits = omega arith
spread (Begins x ∷ fs) fits = omega (arith, spread fs fits.1)
spread (Wants x ∷ fs) fits = omega (arith, spread fs fits.1)
spread (Decides x ∷ fs) fits = omega (arith, spread fs fits.1)
spread (Looping x ∷ fs) fits = omega (arith, spread fs fits.1)
spread (Calling x ∷ fs) fits = omega (arith, spread fs fits.1, fits.0)
spread (Main ∷ fs) fits = omega (arith, spread fs fits.1)
spread (Over x ∷ fs) fits = omega (arith, spread fs fits.1)

pub frames_are_few : FramesAreFew
frames_are_few x fs fits = omega (arith, spread fs fits.1, fits.0)

-- ---- the room for calls

less : (n m : ℕ) → pred (n - m) ≡ n - (m + 1)
less n m = by (n - m) refl where
  by : (k : ℕ) → n - m ≡ k → pred k ≡ n - (m + 1)
  by zero is = omega (arith, is)
  by (suc k) is = omega (arith, is)

pub room_is_left : RoomIsLeft
room_is_left n [] = omega arith
room_is_left n (Begins x ∷ fs) = room_is_left n fs
room_is_left n (Wants x ∷ fs) = room_is_left n fs
room_is_left n (Decides x ∷ fs) = room_is_left n fs
room_is_left n (Looping x ∷ fs) = room_is_left n fs
room_is_left n (Calling x ∷ fs) = ap pred (room_is_left n fs) ∙ less n (calls_open fs)
room_is_left n (Main ∷ fs) = room_is_left n fs
room_is_left n (Over x ∷ fs) = room_is_left n fs
