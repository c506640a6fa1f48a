-- What a move needs is told by the frame and by what is handed to it.
use Rattle.std.proofs.Common.{◌≡◌, ℕ, zero, suc, ℤ, pos, Bool, true, false, List, [], ◌∷◌, Option, Some, None, refl}
use Rattle.std.specs.Prelude.{int_lt, if◌then◌else◌}
use Rattle.inform_tree.specs.Values as v
use Rattle.inform_tree.specs.Values.{Expression, Arguments, Terms, Factors}
use Rattle.inform_tree.specs.Conditions as d
use Rattle.inform_tree.specs.Conditions.{Condition, Conditions}
use Rattle.inform_tree.specs.Statements as s
use Rattle.inform_tree.specs.Statements.{Statement, Statements, Cases, Default, Assignment, PrintItem}
use Rattle.inform_meaning.specs.Worlds.{Program, Routine, World, entries_of, entry_at, has_room, with_argument, stored}
use Rattle.inform_meaning.specs.Words.{summed, multiplied}
use Rattle.inform_meaning.specs.Frames as f
use Rattle.inform_meaning.specs.Frames.{Loop, Begin, Want, Decide, Begins, Wants, Decides, Looping, Calling, Main, Over, Value, Truth, Normal, Returns, Breaks, Continues, Halts, Waits}
use Rattle.inform_meaning.specs.Statements.{loop_goes_on, fits_any}
use Rattle.inform_moves.specs.Immediate.{immediate_value, immediate_sum, immediate_product, immediate_arguments, immediate_truth}
use Rattle.inform_moves.specs.Moves.{Move, Goes, Ticks, Reads, Draws, at_once, goes_to, argument_parts, arguments_move, sum_parts, sum_move, product_parts, product_move, factor_move, value_parts, eval_move, all_move, any_move, truth_parts, test_move, alter_move, prints_move, enter_move, call_move, ticked, turn_test, turn_move, picked_move, call_parts, call_alone, tested_move, branch_move, switch_move, return_move, read_move, statement_move, block_move, default_move, cases_move, begin_move, entry_move, store_by, place_move, range_move, value_move, truth_move}
use Rattle.inform_moves.specs.Needs.{Nothing, AStep, begin_need, need_in}
use Rattle.inform_moves.specs.Laws.{MovesNeed}
use Rattle.inform_moves.proofs.AtOnce.{at_once-all}

-- it needs nothing
abbrev pub Quiet : Move → Type 0
Quiet m = need_in m ≡ Nothing

argument_parts-quiet : (name : List ℕ) (values : List ℤ) (xs : Arguments)
    → Quiet (argument_parts name values xs)
argument_parts-quiet name values v.NoArguments = refl
argument_parts-quiet name values (v.MoreArguments x xs) = refl

arguments-quiet : (p : Program) (w : World) (name : List ℕ) (values : List ℤ) (xs : Arguments)
    → Quiet (arguments_move p w name values xs)
arguments-quiet p w name values xs =
    at_once-all Quiet (immediate_arguments p w values xs) _ _ (λ all. refl) (argument_parts-quiet name values xs)

sum_parts-quiet : (a : ℤ) (xs : Terms) → Quiet (sum_parts a xs)
sum_parts-quiet a v.NoTerms = refl
sum_parts-quiet a (v.MoreTerms op x xs) = refl

sum-quiet : (p : Program) (w : World) (a : ℤ) (xs : Terms) → Quiet (sum_move p w a xs)
sum-quiet p w a xs =
    at_once-all Quiet (immediate_sum p w a xs) _ _ (λ b. refl) (sum_parts-quiet a xs)

product_parts-quiet : (a : ℤ) (xs : Factors) → Quiet (product_parts a xs)
product_parts-quiet a v.NoFactors = refl
product_parts-quiet a (v.MoreFactors op x xs) = refl

product-quiet : (p : Program) (w : World) (a : ℤ) (xs : Factors)
    → Quiet (product_move p w a xs)
product-quiet p w a xs =
    at_once-all Quiet (immediate_product p w a xs) _ _ (λ b. refl) (product_parts-quiet a xs)

factor-quiet : (p : Program) (w : World) (o : Option ℤ) (xs : Factors)
    → Quiet (factor_move p w o xs)
factor-quiet p w None xs = refl
factor-quiet p w (Some a) xs = product-quiet p w a xs

-- the move to the parts of an expression needs nothing
value_parts-quiet : (p : Program) (w : World) (x : Expression)
    → Quiet (value_parts p w x)
value_parts-quiet p w (v.Number n) = refl
value_parts-quiet p w (v.Char byte) = refl
value_parts-quiet p w (v.Name name) = refl
value_parts-quiet p w (v.Entry name words index) = refl
value_parts-quiet p w (v.Call name xs) = arguments-quiet p w name [] xs
value_parts-quiet p w (v.Random x) = refl
value_parts-quiet p w (v.Neg x) = refl
value_parts-quiet p w (v.Sum x xs) = refl
value_parts-quiet p w (v.Product x xs) = refl

eval-quiet : (p : Program) (w : World) (x : Expression) → Quiet (eval_move p w x)
eval-quiet p w x =
    at_once-all Quiet (immediate_value p w x) _ _ (λ a. refl) (value_parts-quiet p w x)

all-quiet : (xs : Conditions) → Quiet (all_move xs)
all-quiet d.NoConditions = refl
all-quiet (d.MoreConditions x xs) = refl

any-quiet : (xs : Conditions) → Quiet (any_move xs)
any-quiet d.NoConditions = refl
any-quiet (d.MoreConditions x xs) = refl

truth_parts-quiet : (x : Condition) → Quiet (truth_parts x)
truth_parts-quiet (d.Compare relation x z) = refl
truth_parts-quiet (d.Nonzero x) = refl
truth_parts-quiet (d.All xs) = all-quiet xs
truth_parts-quiet (d.Any xs) = any-quiet xs
truth_parts-quiet (d.Not x) = refl

test-quiet : (p : Program) (w : World) (x : Condition) → Quiet (test_move p w x)
test-quiet p w x =
    at_once-all Quiet (immediate_truth p w x) _ _ (λ b. refl) (truth_parts-quiet x)

store-quiet : (w : World) (o : Option ℤ) (after : World) → Quiet (store_by w o after)
store-quiet w None after = refl
store-quiet w (Some a) after = refl

place-quiet : (p : Program) (w : World) (name : List ℕ) (words : Bool) (i : ℤ) (x : Expression)
    → Quiet (place_move p w name words i x)
place-quiet p w name words i x = at_once-all Quiet (immediate_value p w x) _ _
    (λ a. store-quiet w (entry_at (entries_of name w) i) (stored name words i a w)) refl

pub alter-quiet : (p : Program) (w : World) (x : Assignment) → Quiet (alter_move p w x)
alter-quiet p w (s.Set name x) =
    at_once-all Quiet (immediate_value p w x) _ _ (λ a. refl) refl
alter-quiet p w (s.SetEntry name words x z) =
    at_once-all Quiet (immediate_value p w x) _ _ (λ i. place-quiet p w name words i z) refl
alter-quiet p w (s.Inc name) = refl
alter-quiet p w (s.Dec name) = refl

prints-quiet : (p : Program) (w : World) (xs : List PrintItem) → Quiet (prints_move p w xs)
prints-quiet p w [] = refl
prints-quiet p w (s.Text text ∷ xs) = refl
prints-quiet p w (s.Value x ∷ xs) =
    at_once-all Quiet (immediate_value p w x) _ _ (λ a. refl) refl
prints-quiet p w (s.Char x ∷ xs) =
    at_once-all Quiet (immediate_value p w x) _ _ (λ a. refl) refl

block-quiet : (xs : Statements) → Quiet (block_move xs)
block-quiet s.NoStatements = refl
block-quiet (s.MoreStatements x xs) = refl

default-quiet : (x : Default) → Quiet (default_move x)
default-quiet s.NoDefault = refl
default-quiet (s.SomeDefault body) = refl

cases-quiet : (p : Program) (a : ℤ) (xs : Cases) (rest : Default)
    → Quiet (cases_move p a xs rest)
cases-quiet p a s.NoCases rest = default-quiet rest
cases-quiet p a (s.MoreCases choices body xs) rest =
    by (fits_any p a choices) (cases-quiet p a xs rest) where
      by : (b : Bool) → Quiet (cases_move p a xs rest)
          → Quiet (if b then goes_to (Begins (f.Blocks body)) else cases_move p a xs rest)
      by true h = refl
      by false h = h

entry-quiet : (w : World) (o : Option ℤ) → Quiet (entry_move w o)
entry-quiet w None = refl
entry-quiet w (Some a) = refl

range-quiet : (w : World) (a : ℤ) (b : Bool) → Quiet (range_move w a b)
range-quiet w a true = refl
range-quiet w a false = refl

-- a quiet move, after a step
ticked-steps : (m : Move) → Quiet m → need_in (ticked m) ≡ AStep
ticked-steps (Goes frames e effect) h = refl
ticked-steps (Ticks frames e effect) h = refl
ticked-steps (Reads name) h = absurd cc
ticked-steps (Draws n) h = absurd cc

tested-quiet : (l : Loop) (b : Bool) → Quiet (tested_move l b)
tested-quiet l true = refl
tested-quiet l false = refl

pub turn_test-quiet : (p : Program) (w : World) (l : Loop) (x : Condition) → Quiet (turn_test p w l x)
turn_test-quiet p w l x =
    at_once-all Quiet (immediate_truth p w x) _ _ (λ b. tested-quiet l (loop_goes_on l b)) refl

turn-steps : (p : Program) (w : World) (l : Loop) (x : Option Condition)
    → need_in (turn_move p w l x) ≡ AStep
turn-steps p w l None = refl
turn-steps p w l (Some x) = ticked-steps (turn_test p w l x) (turn_test-quiet p w l x)

enter-steps : (p : Program) (w : World) (name : List ℕ) (o : Option Routine) (values : List ℤ)
    → need_in (enter_move p w name o values) ≡ AStep
enter-steps p w name None values = refl
enter-steps p w name (Some r) values = refl

call-steps : (p : Program) (n : ℕ) (w : World) (name : List ℕ) (values : List ℤ)
    → need_in (call_move p n w name values) ≡ AStep
call-steps p zero w name values = refl
call-steps p (suc n) w name values = enter-steps p w name (p.routines name) values

read-steps : (w : World) (name : List ℕ) (b : Bool) → need_in (read_move w name b) ≡ AStep
read-steps w name true = refl
read-steps w name false = refl

call_parts-quiet : (name : List ℕ) (xs : Arguments) → Quiet (call_parts name xs)
call_parts-quiet name v.NoArguments = refl
call_parts-quiet name (v.MoreArguments x xs) = refl

pub call_alone-quiet : (p : Program) (w : World) (name : List ℕ) (xs : Arguments)
    → Quiet (call_alone p w name xs)
call_alone-quiet p w name xs =
    at_once-all Quiet (immediate_arguments p w [] xs) _ _ (λ all. refl) (call_parts-quiet name xs)

pub branch-quiet : (p : Program) (w : World) (x : Condition) (body other : Statements)
    → Quiet (branch_move p w x body other)
branch-quiet p w x body other =
    at_once-all Quiet (immediate_truth p w x) (picked_move body other) _ (λ b. refl) refl

pub switch-quiet : (p : Program) (w : World) (x : Expression) (xs : Cases) (rest : Default)
    → Quiet (switch_move p w x xs rest)
switch-quiet p w x xs rest =
    at_once-all Quiet (immediate_value p w x) _ _ (λ a. cases-quiet p a xs rest) refl

pub return-quiet : (p : Program) (w : World) (x : Expression) → Quiet (return_move p w x)
return-quiet p w x = at_once-all Quiet (immediate_value p w x) _ _ (λ a. refl) refl

-- the move of a statement needs a step
statement-steps : (p : Program) (w : World) (x : Statement) → need_in (statement_move p w x) ≡ AStep
statement-steps p w s.Empty = refl
statement-steps p w (s.Block body) = refl
statement-steps p w (s.Assign x) = ticked-steps (alter_move p w x) (alter-quiet p w x)
statement-steps p w (s.Call name xs) =
    ticked-steps (call_alone p w name xs) (call_alone-quiet p w name xs)
statement-steps p w (s.If x body other) =
    ticked-steps (branch_move p w x body other) (branch-quiet p w x body other)
statement-steps p w (s.While x body) = refl
statement-steps p w (s.Do body x) = refl
statement-steps p w (s.For first x change body) = refl
statement-steps p w (s.Switch x xs rest) =
    ticked-steps (switch_move p w x xs rest) (switch-quiet p w x xs rest)
statement-steps p w s.Break = refl
statement-steps p w s.Continue = refl
statement-steps p w s.Quit = refl
statement-steps p w s.Rtrue = refl
statement-steps p w s.Rfalse = refl
statement-steps p w (s.Return None) = refl
statement-steps p w (s.Return (Some x)) = ticked-steps (return_move p w x) (return-quiet p w x)
statement-steps p w s.NewLine = refl
statement-steps p w (s.Print xs) = refl
statement-steps p w (s.Read line words) = read-steps w line (has_room (entries_of line w))

-- the move of what gets the value that it wants needs nothing
value-quiet : (p : Program) (w : World) (x : Want) (a : ℤ)
    → Quiet (value_move p w x a)
value-quiet p w (f.IndexOf name) a = entry-quiet w (entry_at (entries_of name w) a)
value-quiet p w (f.Args name values xs) a = arguments-quiet p w name (with_argument values a) xs
value-quiet p w f.RangeOf a = range-quiet w a (int_lt a (pos 1))
value-quiet p w f.Negates a = refl
value-quiet p w (f.SumFrom xs) a = sum-quiet p w a xs
value-quiet p w (f.SumOnto op b xs) a = sum-quiet p w (summed p.width op b a) xs
value-quiet p w (f.ProductFrom xs) a = product-quiet p w a xs
value-quiet p w (f.ProductOnto op b xs) a = factor-quiet p w (multiplied p.width op b a) xs
value-quiet p w (f.LeftOf relation x) a =
    at_once-all Quiet (immediate_value p w x) _ _ (λ b. refl) refl
value-quiet p w (f.RightOf relation b) a = refl
value-quiet p w f.IsNonzero a = refl
value-quiet p w (f.Sets name) a = refl
value-quiet p w (f.PlaceOf name words x) a = place-quiet p w name words a x
value-quiet p w (f.Stores name words i) a =
    store-quiet w (entry_at (entries_of name w) i) (stored name words i a w)
value-quiet p w f.Forgets a = refl
value-quiet p w (f.Picks xs rest) a = cases-quiet p a xs rest
value-quiet p w f.Gives a = refl
value-quiet p w (f.SaysNumber xs) a = refl
value-quiet p w (f.SaysChar xs) a = refl

truth-quiet : (x : Decide) (b : Bool) → Quiet (truth_move x b)
truth-quiet (f.AllOf xs) true = all-quiet xs
truth-quiet (f.AllOf xs) false = refl
truth-quiet (f.AnyOf xs) true = refl
truth-quiet (f.AnyOf xs) false = any-quiet xs
truth-quiet f.Flips b = refl
truth-quiet (f.Branches body other) true = refl
truth-quiet (f.Branches body other) false = refl
truth-quiet (f.Testing l) b = tested-quiet l (loop_goes_on l b)

-- the move of what begins needs what is told by what begins
begin-needs : (p : Program) (n : ℕ) (w : World) (x : Begin)
    → need_in (begin_move p n w x) ≡ begin_need x
begin-needs p n w (f.Evals x) = eval-quiet p w x
begin-needs p n w (f.CallDue name values) = call-steps p n w name values
begin-needs p n w (f.DrawDue m) = refl
begin-needs p n w (f.Tests x) = test-quiet p w x
begin-needs p n w (f.Alters x) = alter-quiet p w x
begin-needs p n w (f.Due x) = statement-steps p w x
begin-needs p n w (f.Blocks xs) = block-quiet xs
begin-needs p n w (f.Prints xs) = prints-quiet p w xs
begin-needs p n w (f.LineDue name) = refl
begin-needs p n w (f.TurnDue l) = turn-steps p w l l.test

-- the move of any frame needs what is told by the frame and by what is handed to it
pub moves_need : MovesNeed
moves_need p n w (Begins x) (Value a) = refl
moves_need p n w (Begins x) (Truth b) = refl
moves_need p n w (Begins x) Normal = begin-needs p n w x
moves_need p n w (Begins x) (Returns a) = refl
moves_need p n w (Begins x) Breaks = refl
moves_need p n w (Begins x) Continues = refl
moves_need p n w (Begins x) (Halts halt) = refl
moves_need p n w (Begins x) (Waits lack fs) = refl
moves_need p n w (Wants x) (Value a) = value-quiet p w x a
moves_need p n w (Wants x) (Truth b) = refl
moves_need p n w (Wants x) Normal = refl
moves_need p n w (Wants x) (Returns a) = refl
moves_need p n w (Wants x) Breaks = refl
moves_need p n w (Wants x) Continues = refl
moves_need p n w (Wants x) (Halts halt) = refl
moves_need p n w (Wants x) (Waits lack fs) = refl
moves_need p n w (Decides x) (Value a) = refl
moves_need p n w (Decides x) (Truth b) = truth-quiet x b
moves_need p n w (Decides x) Normal = refl
moves_need p n w (Decides x) (Returns a) = refl
moves_need p n w (Decides x) Breaks = refl
moves_need p n w (Decides x) Continues = refl
moves_need p n w (Decides x) (Halts halt) = refl
moves_need p n w (Decides x) (Waits lack fs) = refl
moves_need p n w (Looping l) (Value a) = refl
moves_need p n w (Looping l) (Truth b) = refl
moves_need p n w (Looping l) Normal = refl
moves_need p n w (Looping l) (Returns a) = refl
moves_need p n w (Looping l) Breaks = refl
moves_need p n w (Looping l) Continues = refl
moves_need p n w (Looping l) (Halts halt) = refl
moves_need p n w (Looping l) (Waits lack fs) = refl
moves_need p n w (Calling scope) e = refl
moves_need p n w Main e = refl
moves_need p n w (Over halt) e = refl
