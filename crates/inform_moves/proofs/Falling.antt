-- Each move that takes no step leaves less work.
use Rattle.std.proofs.Common.{arith, ℕ, zero, suc, ◌+◌, ◌<◌, ℤ, pos, Bool, true, false, List, [], ◌∷◌, Option, Some, None}
use Rattle.std.specs.Prelude.{int_lt, if◌then◌else◌}
use Rattle.inform_tree.specs.Values as v
use Rattle.inform_tree.specs.Values.{Expression, Arguments, Terms, Factors}
use Rattle.inform_tree.specs.Conditions as d
use Rattle.inform_tree.specs.Conditions.{Condition, Conditions}
use Rattle.inform_tree.specs.Statements as s
use Rattle.inform_tree.specs.Statements.{Statement, Statements, Cases, Default, Assignment, PrintItem}
use Rattle.inform_meaning.specs.Worlds.{Program, Routine, World, entries_of, entry_at, has_room, with_argument, stored}
use Rattle.inform_meaning.specs.Words.{summed, multiplied}
use Rattle.inform_meaning.specs.Frames as f
use Rattle.inform_meaning.specs.Frames.{Loop, Begin, Want, Decide, Frame, Begins, Wants, Decides, Looping, Calling, Main, Over, Outcome, Value, Truth, Normal, Returns, Breaks, Continues, Halts, Waits}
use Rattle.inform_meaning.specs.Statements.{loop_goes_on, fits_any}
use Rattle.inform_moves.specs.Immediate.{immediate_value, immediate_sum, immediate_product, immediate_arguments, immediate_truth}
use Rattle.inform_moves.specs.Moves.{Move, Goes, Ticks, Reads, Draws, at_once, goes_to, argument_parts, arguments_move, sum_parts, sum_move, product_parts, product_move, factor_move, value_parts, eval_move, all_move, any_move, truth_parts, test_move, alter_move, prints_move, enter_move, call_move, ticked, turn_test, turn_move, change_frames, call_alone, tested_move, branch_move, switch_move, return_move, read_move, statement_move, block_move, default_move, cases_move, begin_move, entry_move, store_by, store_move, place_move, range_move, value_move, truth_move, next}
use Rattle.inform_moves.specs.Laws.{FallsBelow, MovesFall}
use Rattle.inform_moves.proofs.AtOnce.{at_once-all}
use Rattle.inform_moves.specs.Works.{expression_work, arguments_work, terms_work, factors_work, condition_work, conditions_work, assignment_work, change_work, items_work, block_work, cases_work, default_work, begin_work, want_work, loop_work, decide_work, work, works}

-- the frames of a move without a step have less than so much to do
abbrev pub Falls : ℕ → Move → Type 0
Falls = FallsBelow

expression-positive : (x : Expression) → 0 < expression_work x
expression-positive (v.Number n) = omega arith
expression-positive (v.Char byte) = omega arith
expression-positive (v.Name name) = omega arith
expression-positive (v.Entry name words index) = omega arith
expression-positive (v.Call name xs) = omega arith
expression-positive (v.Random x) = omega arith
expression-positive (v.Neg x) = omega arith
expression-positive (v.Sum x xs) = omega arith
expression-positive (v.Product x xs) = omega arith

condition-positive : (x : Condition) → 0 < condition_work x
condition-positive (d.Compare relation x y) = omega arith
condition-positive (d.Nonzero x) = omega arith
condition-positive (d.All xs) = omega arith
condition-positive (d.Any xs) = omega arith
condition-positive (d.Not x) = omega arith

assignment-positive : (x : Assignment) → 0 < assignment_work x
assignment-positive (s.Set name x) = omega arith
assignment-positive (s.SetEntry name words x y) = omega arith
assignment-positive (s.Inc name) = omega arith
assignment-positive (s.Dec name) = omega arith

block-positive : (xs : Statements) → 0 < block_work xs
block-positive s.NoStatements = omega arith
block-positive (s.MoreStatements x xs) = omega arith

-- whatever begins has some work
begin-positive : (x : Begin) → 0 < begin_work x
begin-positive (f.Evals x) = expression-positive x
begin-positive (f.CallDue name values) = omega arith
begin-positive (f.DrawDue n) = omega arith
begin-positive (f.Tests x) = condition-positive x
begin-positive (f.Alters x) = assignment-positive x
begin-positive (f.Due x) = omega arith
begin-positive (f.Blocks xs) = block-positive xs
begin-positive (f.Prints xs) = omega arith
begin-positive (f.LineDue name) = omega arith
begin-positive (f.TurnDue l) = omega arith

-- whatever wants a value has some work
want-positive : (w : Want) → 0 < want_work w
want-positive (f.IndexOf name) = omega arith
want-positive (f.Args name values xs) = omega arith
want-positive f.RangeOf = omega arith
want-positive f.Negates = omega arith
want-positive (f.SumFrom xs) = omega arith
want-positive (f.SumOnto op a xs) = omega arith
want-positive (f.ProductFrom xs) = omega arith
want-positive (f.ProductOnto op a xs) = omega arith
want-positive (f.LeftOf relation y) = omega arith
want-positive (f.RightOf relation a) = omega arith
want-positive f.IsNonzero = omega arith
want-positive (f.Sets name) = omega arith
want-positive (f.PlaceOf name words y) = omega arith
want-positive (f.Stores name words i) = omega arith
want-positive f.Forgets = omega arith
want-positive (f.Picks xs rest) = omega arith
want-positive f.Gives = omega arith
want-positive (f.SaysNumber xs) = omega arith
want-positive (f.SaysChar xs) = omega arith

decide-positive : (x : Decide) → 0 < decide_work x
decide-positive (f.AllOf xs) = omega arith
decide-positive (f.AnyOf xs) = omega arith
decide-positive f.Flips = omega arith
decide-positive (f.Branches body other) = omega arith
decide-positive (f.Testing l) = omega arith

-- ---- moves

more-room : (a b : ℕ) (m : Move) → a < b + 1 → Falls a m → Falls b m
more-room a b (Goes frames e effect) h k = omega (arith, h, k)
more-room a b (Ticks frames e effect) h k = tt
more-room a b (Reads name) h k = omega (arith, h, k)
more-room a b (Draws n) h k = omega (arith, h, k)

argument_parts-fall : (name : List ℕ) (values : List ℤ) (xs : Arguments)
    → Falls (arguments_work xs + 2) (argument_parts name values xs)
argument_parts-fall name values v.NoArguments = omega arith
argument_parts-fall name values (v.MoreArguments x xs) = omega arith

arguments-fall : (p : Program) (w : World) (name : List ℕ) (values : List ℤ) (xs : Arguments)
    → Falls (arguments_work xs + 2) (arguments_move p w name values xs)
arguments-fall p w name values xs =
    at_once-all (Falls (arguments_work xs + 2)) (immediate_arguments p w values xs) _ _ (λ all. omega arith) (argument_parts-fall name values xs)

sum_parts-fall : (a : ℤ) (xs : Terms) → Falls (terms_work xs + 1) (sum_parts a xs)
sum_parts-fall a v.NoTerms = omega arith
sum_parts-fall a (v.MoreTerms op x xs) = omega arith

sum-falls : (p : Program) (w : World) (a : ℤ) (xs : Terms) → Falls (terms_work xs + 1) (sum_move p w a xs)
sum-falls p w a xs =
    at_once-all (Falls (terms_work xs + 1)) (immediate_sum p w a xs) _ _ (λ b. omega arith) (sum_parts-fall a xs)

product_parts-fall : (a : ℤ) (xs : Factors) → Falls (factors_work xs + 1) (product_parts a xs)
product_parts-fall a v.NoFactors = omega arith
product_parts-fall a (v.MoreFactors op x xs) = omega arith

product-falls : (p : Program) (w : World) (a : ℤ) (xs : Factors) → Falls (factors_work xs + 1) (product_move p w a xs)
product-falls p w a xs =
    at_once-all (Falls (factors_work xs + 1)) (immediate_product p w a xs) _ _ (λ b. omega arith) (product_parts-fall a xs)

factor-falls : (p : Program) (w : World) (o : Option ℤ) (xs : Factors)
    → Falls (factors_work xs + 1) (factor_move p w o xs)
factor-falls p w None xs = omega arith
factor-falls p w (Some a) xs = product-falls p w a xs

-- the parts of an expression have less work than the expression
value_parts-fall : (p : Program) (w : World) (x : Expression)
    → Falls (expression_work x) (value_parts p w x)
value_parts-fall p w (v.Number n) = omega arith
value_parts-fall p w (v.Char byte) = omega arith
value_parts-fall p w (v.Name name) = omega arith
value_parts-fall p w (v.Entry name words index) = omega arith
value_parts-fall p w (v.Call name xs) = arguments-fall p w name [] xs
value_parts-fall p w (v.Random x) = omega arith
value_parts-fall p w (v.Neg x) = omega arith
value_parts-fall p w (v.Sum x xs) = omega arith
value_parts-fall p w (v.Product x xs) = omega arith

eval-falls : (p : Program) (w : World) (x : Expression)
    → Falls (expression_work x) (eval_move p w x)
eval-falls p w x =
    at_once-all (Falls (expression_work x)) (immediate_value p w x) _ _ (λ a. expression-positive x) (value_parts-fall p w x)

all-falls : (xs : Conditions) → Falls (conditions_work xs + 1) (all_move xs)
all-falls d.NoConditions = omega arith
all-falls (d.MoreConditions x xs) = omega arith

any-falls : (xs : Conditions) → Falls (conditions_work xs + 1) (any_move xs)
any-falls d.NoConditions = omega arith
any-falls (d.MoreConditions x xs) = omega arith

truth_parts-fall : (x : Condition) → Falls (condition_work x) (truth_parts x)
truth_parts-fall (d.Compare relation x y) = omega arith
truth_parts-fall (d.Nonzero x) = omega arith
truth_parts-fall (d.All xs) = all-falls xs
truth_parts-fall (d.Any xs) = any-falls xs
truth_parts-fall (d.Not x) = omega arith

test-falls : (p : Program) (w : World) (x : Condition) → Falls (condition_work x) (test_move p w x)
test-falls p w x =
    at_once-all (Falls (condition_work x)) (immediate_truth p w x) _ _ (λ b. condition-positive x) (truth_parts-fall x)

store_by-falls : (most : ℕ) → 0 < most → (w : World) (o : Option ℤ) (after : World)
    → Falls most (store_by w o after)
store_by-falls most h w None after = h
store_by-falls most h w (Some a) after = h

store-falls : (most : ℕ) → 0 < most → (w : World) (name : List ℕ) (words : Bool) (i a : ℤ)
    → Falls most (store_move w name words i a)
store-falls most h w name words i a =
    store_by-falls most h w (entry_at (entries_of name w) i) (stored name words i a w)

place-falls : (p : Program) (w : World) (name : List ℕ) (words : Bool) (i : ℤ) (y : Expression)
    → Falls (expression_work y + 2) (place_move p w name words i y)
place-falls p w name words i y =
    at_once-all (Falls (expression_work y + 2)) (immediate_value p w y) _ _ (λ a. store-falls _ (omega arith) w name words i a) (omega arith)

alter-falls : (p : Program) (w : World) (x : Assignment)
    → Falls (assignment_work x) (alter_move p w x)
alter-falls p w (s.Set name x) =
    at_once-all (Falls (expression_work x + 2)) (immediate_value p w x) _ _ (λ a. omega arith) (omega arith)
alter-falls p w (s.SetEntry name words x y) =
    at_once-all (Falls (expression_work x + (expression_work y + 3))) (immediate_value p w x) _ _
    (λ i. more-room _ _ (place_move p w name words i y) (omega arith) (place-falls p w name words i y)) (omega arith)
alter-falls p w (s.Inc name) = omega arith
alter-falls p w (s.Dec name) = omega arith

prints-fall : (p : Program) (w : World) (xs : List PrintItem)
    → Falls (items_work xs + 1) (prints_move p w xs)
prints-fall p w [] = omega arith
prints-fall p w (s.Text text ∷ xs) = omega arith
prints-fall p w (s.Value x ∷ xs) =
    at_once-all (Falls (expression_work x + (items_work xs + 2) + 1)) (immediate_value p w x) _ _ (λ a. omega arith) (omega arith)
prints-fall p w (s.Char x ∷ xs) =
    at_once-all (Falls (expression_work x + (items_work xs + 2) + 1)) (immediate_value p w x) _ _ (λ a. omega arith) (omega arith)

block-falls : (xs : Statements) → Falls (block_work xs) (block_move xs)
block-falls s.NoStatements = omega arith
block-falls (s.MoreStatements x xs) = omega arith

default-falls : (x : Default) → Falls (default_work x + 1) (default_move x)
default-falls s.NoDefault = omega arith
default-falls (s.SomeDefault body) = omega arith

cases-fall : (p : Program) (a : ℤ) (xs : Cases) (rest : Default)
    → Falls (cases_work xs + (default_work rest + 1)) (cases_move p a xs rest)
cases-fall p a s.NoCases rest = more-room _ _ (default_move rest) (omega arith) (default-falls rest)
cases-fall p a (s.MoreCases choices body xs) rest =
    by (fits_any p a choices) (cases-fall p a xs rest) where
      by : (b : Bool) → Falls (cases_work xs + (default_work rest + 1)) (cases_move p a xs rest)
          → Falls (block_work body + cases_work xs + (default_work rest + 1)) (if b then goes_to (Begins (f.Blocks body)) else cases_move p a xs rest)
      by true h = omega arith
      by false h = more-room _ _ (cases_move p a xs rest) (omega arith) h

change-falls : (l : Loop) (x : Option Assignment) → works (change_frames l x) < change_work x + 2
change-falls l None = omega arith
change-falls l (Some x) = omega arith

entry-falls : (w : World) (o : Option ℤ) → Falls 1 (entry_move w o)
entry-falls w None = omega arith
entry-falls w (Some a) = omega arith

range-falls : (w : World) (a : ℤ) (b : Bool) → Falls 2 (range_move w a b)
range-falls w a true = omega arith
range-falls w a false = omega arith

enter-falls : (p : Program) (w : World) (name : List ℕ) (o : Option Routine) (values : List ℤ)
    → Falls 1 (enter_move p w name o values)
enter-falls p w name None values = tt
enter-falls p w name (Some r) values = tt

call-falls : (p : Program) (n : ℕ) (w : World) (name : List ℕ) (values : List ℤ)
    → Falls 1 (call_move p n w name values)
call-falls p zero w name values = tt
call-falls p (suc n) w name values = enter-falls p w name (p.routines name) values

ticked-falls : (m : Move) → Falls 1 (ticked m)
ticked-falls (Goes frames e effect) = tt
ticked-falls (Ticks frames e effect) = tt
ticked-falls (Reads name) = omega arith
ticked-falls (Draws n) = omega arith

turn-falls : (p : Program) (w : World) (l : Loop) (x : Option Condition)
    → Falls 1 (turn_move p w l x)
turn-falls p w l None = tt
turn-falls p w l (Some x) = ticked-falls (turn_test p w l x)

read-falls : (w : World) (name : List ℕ) (b : Bool) → Falls 1 (read_move w name b)
read-falls w name true = tt
read-falls w name false = tt

-- the move of a statement leaves no work, unless it takes a step
statement-falls : (p : Program) (w : World) (x : Statement) → Falls 1 (statement_move p w x)
statement-falls p w s.Empty = tt
statement-falls p w (s.Block body) = tt
statement-falls p w (s.Assign x) = ticked-falls (alter_move p w x)
statement-falls p w (s.Call name xs) = ticked-falls (call_alone p w name xs)
statement-falls p w (s.If x body other) = ticked-falls (branch_move p w x body other)
statement-falls p w (s.While x body) = tt
statement-falls p w (s.Do body x) = tt
statement-falls p w (s.For first x change body) = tt
statement-falls p w (s.Switch x xs rest) = ticked-falls (switch_move p w x xs rest)
statement-falls p w s.Break = tt
statement-falls p w s.Continue = tt
statement-falls p w s.Quit = tt
statement-falls p w s.Rtrue = tt
statement-falls p w s.Rfalse = tt
statement-falls p w (s.Return None) = tt
statement-falls p w (s.Return (Some x)) = ticked-falls (return_move p w x)
statement-falls p w s.NewLine = tt
statement-falls p w (s.Print xs) = tt
statement-falls p w (s.Read line words) = read-falls w line (has_room (entries_of line w))

-- the move of what begins leaves less work, unless it takes a step
begin-falls : (p : Program) (n : ℕ) (w : World) (x : Begin)
    → Falls (begin_work x) (begin_move p n w x)
begin-falls p n w (f.Evals x) = eval-falls p w x
begin-falls p n w (f.CallDue name values) = call-falls p n w name values
begin-falls p n w (f.DrawDue m) = omega arith
begin-falls p n w (f.Tests x) = test-falls p w x
begin-falls p n w (f.Alters x) = alter-falls p w x
begin-falls p n w (f.Due x) = statement-falls p w x
begin-falls p n w (f.Blocks xs) = block-falls xs
begin-falls p n w (f.Prints xs) = prints-fall p w xs
begin-falls p n w (f.LineDue name) = omega arith
begin-falls p n w (f.TurnDue l) = turn-falls p w l l.test

-- the move of what gets the value that it wants leaves less work, unless it takes a step
value-falls : (p : Program) (w : World) (x : Want) (a : ℤ)
    → Falls (want_work x) (value_move p w x a)
value-falls p w (f.IndexOf name) a = entry-falls w (entry_at (entries_of name w) a)
value-falls p w (f.Args name values xs) a = arguments-fall p w name (with_argument values a) xs
value-falls p w f.RangeOf a = range-falls w a (int_lt a (pos 1))
value-falls p w f.Negates a = omega arith
value-falls p w (f.SumFrom xs) a = sum-falls p w a xs
value-falls p w (f.SumOnto op b xs) a = sum-falls p w (summed p.width op b a) xs
value-falls p w (f.ProductFrom xs) a = product-falls p w a xs
value-falls p w (f.ProductOnto op b xs) a = factor-falls p w (multiplied p.width op b a) xs
value-falls p w (f.LeftOf relation y) a =
    at_once-all (Falls (expression_work y + 2)) (immediate_value p w y) _ _ (λ b. omega arith) (omega arith)
value-falls p w (f.RightOf relation b) a = omega arith
value-falls p w f.IsNonzero a = omega arith
value-falls p w (f.Sets name) a = omega arith
value-falls p w (f.PlaceOf name words y) a = place-falls p w name words a y
value-falls p w (f.Stores name words i) a = store-falls 1 (omega arith) w name words i a
value-falls p w f.Forgets a = omega arith
value-falls p w (f.Picks xs rest) a = cases-fall p a xs rest
value-falls p w f.Gives a = omega arith
value-falls p w (f.SaysNumber xs) a = omega arith
value-falls p w (f.SaysChar xs) a = omega arith

tested-falls : (l : Loop) (b : Bool)
    → Falls (block_work l.body + (loop_work l + 1)) (tested_move l b)
tested-falls l true = omega arith
tested-falls l false = omega arith

truth-falls : (x : Decide) (b : Bool) → Falls (decide_work x) (truth_move x b)
truth-falls (f.AllOf xs) true = all-falls xs
truth-falls (f.AllOf xs) false = omega arith
truth-falls (f.AnyOf xs) true = omega arith
truth-falls (f.AnyOf xs) false = any-falls xs
truth-falls f.Flips b = omega arith
truth-falls (f.Branches body other) true = omega arith
truth-falls (f.Branches body other) false = omega arith
truth-falls (f.Testing l) b = tested-falls l (loop_goes_on l b)

-- the move of any frame leaves less work than the frame has, unless it takes a step
pub next-falls : (p : Program) (n : ℕ) (w : World) (x : Frame) (e : Outcome)
    → Falls (work x) (next p n w x e)
next-falls p n w (Begins x) (Value a) = begin-positive x
next-falls p n w (Begins x) (Truth b) = begin-positive x
next-falls p n w (Begins x) Normal = begin-falls p n w x
next-falls p n w (Begins x) (Returns a) = begin-positive x
next-falls p n w (Begins x) Breaks = begin-positive x
next-falls p n w (Begins x) Continues = begin-positive x
next-falls p n w (Begins x) (Halts halt) = begin-positive x
next-falls p n w (Begins x) (Waits lack fs) = begin-positive x
next-falls p n w (Wants x) (Value a) = value-falls p w x a
next-falls p n w (Wants x) (Truth b) = want-positive x
next-falls p n w (Wants x) Normal = want-positive x
next-falls p n w (Wants x) (Returns a) = want-positive x
next-falls p n w (Wants x) Breaks = want-positive x
next-falls p n w (Wants x) Continues = want-positive x
next-falls p n w (Wants x) (Halts halt) = want-positive x
next-falls p n w (Wants x) (Waits lack fs) = want-positive x
next-falls p n w (Decides x) (Value a) = decide-positive x
next-falls p n w (Decides x) (Truth b) = truth-falls x b
next-falls p n w (Decides x) Normal = decide-positive x
next-falls p n w (Decides x) (Returns a) = decide-positive x
next-falls p n w (Decides x) Breaks = decide-positive x
next-falls p n w (Decides x) Continues = decide-positive x
next-falls p n w (Decides x) (Halts halt) = decide-positive x
next-falls p n w (Decides x) (Waits lack fs) = decide-positive x
next-falls p n w (Looping l) (Value a) = omega arith
next-falls p n w (Looping l) (Truth b) = omega arith
next-falls p n w (Looping l) Normal = change-falls l l.change
next-falls p n w (Looping l) (Returns a) = omega arith
next-falls p n w (Looping l) Breaks = omega arith
next-falls p n w (Looping l) Continues = change-falls l l.change
next-falls p n w (Looping l) (Halts halt) = omega arith
next-falls p n w (Looping l) (Waits lack fs) = omega arith
next-falls p n w (Calling scope) e = omega arith
next-falls p n w Main e = omega arith
next-falls p n w (Over halt) e = omega arith

pub moves_fall : MovesFall
moves_fall p n w x e = next-falls p n w x e
