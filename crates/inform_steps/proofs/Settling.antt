-- What a move hands on isn't the outcome of a part that waits.
use Rattle.std.proofs.Common.{ℕ, zero, suc, ℤ, pos, Bool, true, false, List, [], ◌∷◌, Option, Some, None}
use Rattle.std.specs.Prelude.{int_lt, if◌then◌else◌}
use Rattle.inform_tree.specs.Values as v
use Rattle.inform_tree.specs.Values.{Expression, Arguments, Terms, Factors}
use Rattle.inform_tree.specs.Conditions as d
use Rattle.inform_tree.specs.Conditions.{Condition, Conditions}
use Rattle.inform_tree.specs.Statements as s
use Rattle.inform_tree.specs.Statements.{Statement, Statements, Cases, Default, Assignment, PrintItem}
use Rattle.inform_meaning.specs.Worlds.{Program, Routine, World, entries_of, entry_at, has_room, with_argument, stored}
use Rattle.inform_meaning.specs.Words.{summed, multiplied}
use Rattle.inform_meaning.specs.Frames as f
use Rattle.inform_meaning.specs.Frames.{Loop, Begin, Want, Decide, Frame, Begins, Wants, Decides, Looping, Calling, Main, Over, Outcome, Value, Truth, Normal, Returns, Breaks, Continues, Halts, Waits, returned}
use Rattle.inform_meaning.specs.Statements.{loop_goes_on, fits_any}
use Rattle.inform_moves.specs.Immediate.{immediate_value, immediate_sum, immediate_product, immediate_arguments, immediate_truth}
use Rattle.inform_moves.specs.Moves.{outcome_in, begun_move, wanted_move, decided_move, body_move, Move, Goes, Ticks, Reads, Draws, goes_to, argument_parts, arguments_move, sum_parts, sum_move, product_parts, product_move, factor_move, value_parts, eval_move, all_move, any_move, truth_parts, test_move, alter_move, prints_move, enter_move, call_move, ticked, turn_test, turn_move, picked_move, call_parts, call_alone, tested_move, branch_move, switch_move, return_move, read_move, statement_move, block_move, default_move, cases_move, begin_move, entry_move, store_by, place_move, range_move, value_move, truth_move, next}
use Rattle.inform_moves.specs.Laws.{IsSettled}
use Rattle.inform_moves.proofs.AtOnce.{at_once-all}

-- its outcome isn't that of a part that waits
abbrev Calm : Move → Type 0
Calm m = IsSettled (outcome_in m)

argument_parts-calm : (name : List ℕ) (values : List ℤ) (xs : Arguments)
    → Calm (argument_parts name values xs)
argument_parts-calm name values v.NoArguments = tt
argument_parts-calm name values (v.MoreArguments x xs) = tt

arguments-calm : (p : Program) (w : World) (name : List ℕ) (values : List ℤ) (xs : Arguments)
    → Calm (arguments_move p w name values xs)
arguments-calm p w name values xs =
    at_once-all Calm (immediate_arguments p w values xs) _ _ (λ all. tt) (argument_parts-calm name values xs)

sum_parts-calm : (a : ℤ) (xs : Terms) → Calm (sum_parts a xs)
sum_parts-calm a v.NoTerms = tt
sum_parts-calm a (v.MoreTerms op x xs) = tt

sum-calm : (p : Program) (w : World) (a : ℤ) (xs : Terms) → Calm (sum_move p w a xs)
sum-calm p w a xs =
    at_once-all Calm (immediate_sum p w a xs) _ _ (λ b. tt) (sum_parts-calm a xs)

product_parts-calm : (a : ℤ) (xs : Factors) → Calm (product_parts a xs)
product_parts-calm a v.NoFactors = tt
product_parts-calm a (v.MoreFactors op x xs) = tt

product-calm : (p : Program) (w : World) (a : ℤ) (xs : Factors)
    → Calm (product_move p w a xs)
product-calm p w a xs =
    at_once-all Calm (immediate_product p w a xs) _ _ (λ b. tt) (product_parts-calm a xs)

factor-calm : (p : Program) (w : World) (o : Option ℤ) (xs : Factors)
    → Calm (factor_move p w o xs)
factor-calm p w None xs = tt
factor-calm p w (Some a) xs = product-calm p w a xs

-- the move to the parts of an expression hands on nothing that waits
value_parts-calm : (p : Program) (w : World) (x : Expression)
    → Calm (value_parts p w x)
value_parts-calm p w (v.Number n) = tt
value_parts-calm p w (v.Char byte) = tt
value_parts-calm p w (v.Name name) = tt
value_parts-calm p w (v.Entry name words index) = tt
value_parts-calm p w (v.Call name xs) = arguments-calm p w name [] xs
value_parts-calm p w (v.Random x) = tt
value_parts-calm p w (v.Neg x) = tt
value_parts-calm p w (v.Sum x xs) = tt
value_parts-calm p w (v.Product x xs) = tt

eval-calm : (p : Program) (w : World) (x : Expression) → Calm (eval_move p w x)
eval-calm p w x =
    at_once-all Calm (immediate_value p w x) _ _ (λ a. tt) (value_parts-calm p w x)

all-calm : (xs : Conditions) → Calm (all_move xs)
all-calm d.NoConditions = tt
all-calm (d.MoreConditions x xs) = tt

any-calm : (xs : Conditions) → Calm (any_move xs)
any-calm d.NoConditions = tt
any-calm (d.MoreConditions x xs) = tt

truth_parts-calm : (x : Condition) → Calm (truth_parts x)
truth_parts-calm (d.Compare relation x z) = tt
truth_parts-calm (d.Nonzero x) = tt
truth_parts-calm (d.All xs) = all-calm xs
truth_parts-calm (d.Any xs) = any-calm xs
truth_parts-calm (d.Not x) = tt

test-calm : (p : Program) (w : World) (x : Condition) → Calm (test_move p w x)
test-calm p w x =
    at_once-all Calm (immediate_truth p w x) _ _ (λ b. tt) (truth_parts-calm x)

store-calm : (w : World) (o : Option ℤ) (after : World) → Calm (store_by w o after)
store-calm w None after = tt
store-calm w (Some a) after = tt

place-calm : (p : Program) (w : World) (name : List ℕ) (words : Bool) (i : ℤ) (x : Expression)
    → Calm (place_move p w name words i x)
place-calm p w name words i x = at_once-all Calm (immediate_value p w x) _ _
    (λ a. store-calm w (entry_at (entries_of name w) i) (stored name words i a w)) tt

alter-calm : (p : Program) (w : World) (x : Assignment) → Calm (alter_move p w x)
alter-calm p w (s.Set name x) =
    at_once-all Calm (immediate_value p w x) _ _ (λ a. tt) tt
alter-calm p w (s.SetEntry name words x z) =
    at_once-all Calm (immediate_value p w x) _ _ (λ i. place-calm p w name words i z) tt
alter-calm p w (s.Inc name) = tt
alter-calm p w (s.Dec name) = tt

prints-calm : (p : Program) (w : World) (xs : List PrintItem) → Calm (prints_move p w xs)
prints-calm p w [] = tt
prints-calm p w (s.Text text ∷ xs) = tt
prints-calm p w (s.Value x ∷ xs) =
    at_once-all Calm (immediate_value p w x) _ _ (λ a. tt) tt
prints-calm p w (s.Char x ∷ xs) =
    at_once-all Calm (immediate_value p w x) _ _ (λ a. tt) tt

block-calm : (xs : Statements) → Calm (block_move xs)
block-calm s.NoStatements = tt
block-calm (s.MoreStatements x xs) = tt

default-calm : (x : Default) → Calm (default_move x)
default-calm s.NoDefault = tt
default-calm (s.SomeDefault body) = tt

cases-calm : (p : Program) (a : ℤ) (xs : Cases) (rest : Default)
    → Calm (cases_move p a xs rest)
cases-calm p a s.NoCases rest = default-calm rest
cases-calm p a (s.MoreCases choices body xs) rest =
    by (fits_any p a choices) (cases-calm p a xs rest) where
      by : (b : Bool) → Calm (cases_move p a xs rest)
          → Calm (if b then goes_to (Begins (f.Blocks body)) else cases_move p a xs rest)
      by true h = tt
      by false h = h

entry-calm : (w : World) (o : Option ℤ) → Calm (entry_move w o)
entry-calm w None = tt
entry-calm w (Some a) = tt

range-calm : (w : World) (a : ℤ) (b : Bool) → Calm (range_move w a b)
range-calm w a true = tt
range-calm w a false = tt

-- the same after a step
ticked-calm : (m : Move) → Calm m → Calm (ticked m)
ticked-calm (Goes frames e effect) h = h
ticked-calm (Ticks frames e effect) h = h
ticked-calm (Reads name) h = tt
ticked-calm (Draws n) h = tt

tested-calm : (l : Loop) (b : Bool) → Calm (tested_move l b)
tested-calm l true = tt
tested-calm l false = tt

turn_test-calm : (p : Program) (w : World) (l : Loop) (x : Condition) → Calm (turn_test p w l x)
turn_test-calm p w l x =
    at_once-all Calm (immediate_truth p w x) _ _ (λ b. tested-calm l (loop_goes_on l b)) tt

turn-calm : (p : Program) (w : World) (l : Loop) (x : Option Condition)
    → Calm (turn_move p w l x)
turn-calm p w l None = tt
turn-calm p w l (Some x) = ticked-calm (turn_test p w l x) (turn_test-calm p w l x)

enter-calm : (p : Program) (w : World) (name : List ℕ) (o : Option Routine) (values : List ℤ)
    → Calm (enter_move p w name o values)
enter-calm p w name None values = tt
enter-calm p w name (Some r) values = tt

call-calm : (p : Program) (n : ℕ) (w : World) (name : List ℕ) (values : List ℤ)
    → Calm (call_move p n w name values)
call-calm p zero w name values = tt
call-calm p (suc n) w name values = enter-calm p w name (p.routines name) values

read-calm : (w : World) (name : List ℕ) (b : Bool) → Calm (read_move w name b)
read-calm w name true = tt
read-calm w name false = tt

call_parts-calm : (name : List ℕ) (xs : Arguments) → Calm (call_parts name xs)
call_parts-calm name v.NoArguments = tt
call_parts-calm name (v.MoreArguments x xs) = tt

call_alone-calm : (p : Program) (w : World) (name : List ℕ) (xs : Arguments)
    → Calm (call_alone p w name xs)
call_alone-calm p w name xs =
    at_once-all Calm (immediate_arguments p w [] xs) _ _ (λ all. tt) (call_parts-calm name xs)

branch-calm : (p : Program) (w : World) (x : Condition) (body other : Statements)
    → Calm (branch_move p w x body other)
branch-calm p w x body other =
    at_once-all Calm (immediate_truth p w x) (picked_move body other) _ (λ b. tt) tt

switch-calm : (p : Program) (w : World) (x : Expression) (xs : Cases) (rest : Default)
    → Calm (switch_move p w x xs rest)
switch-calm p w x xs rest =
    at_once-all Calm (immediate_value p w x) _ _ (λ a. cases-calm p a xs rest) tt

return-calm : (p : Program) (w : World) (x : Expression) → Calm (return_move p w x)
return-calm p w x = at_once-all Calm (immediate_value p w x) _ _ (λ a. tt) tt

-- the move of a statement hands on nothing that waits
statement-calm : (p : Program) (w : World) (x : Statement) → Calm (statement_move p w x)
statement-calm p w s.Empty = tt
statement-calm p w (s.Block body) = tt
statement-calm p w (s.Assign x) = ticked-calm (alter_move p w x) (alter-calm p w x)
statement-calm p w (s.Call name xs) =
    ticked-calm (call_alone p w name xs) (call_alone-calm p w name xs)
statement-calm p w (s.If x body other) =
    ticked-calm (branch_move p w x body other) (branch-calm p w x body other)
statement-calm p w (s.While x body) = tt
statement-calm p w (s.Do body x) = tt
statement-calm p w (s.For first x change body) = tt
statement-calm p w (s.Switch x xs rest) =
    ticked-calm (switch_move p w x xs rest) (switch-calm p w x xs rest)
statement-calm p w s.Break = tt
statement-calm p w s.Continue = tt
statement-calm p w s.Quit = tt
statement-calm p w s.Rtrue = tt
statement-calm p w s.Rfalse = tt
statement-calm p w (s.Return None) = tt
statement-calm p w (s.Return (Some x)) = ticked-calm (return_move p w x) (return-calm p w x)
statement-calm p w s.NewLine = tt
statement-calm p w (s.Print xs) = tt
statement-calm p w (s.Read line words) = read-calm w line (has_room (entries_of line w))

-- the move of what gets the value that it wants hands on nothing that waits
value-calm : (p : Program) (w : World) (x : Want) (a : ℤ)
    → Calm (value_move p w x a)
value-calm p w (f.IndexOf name) a = entry-calm w (entry_at (entries_of name w) a)
value-calm p w (f.Args name values xs) a = arguments-calm p w name (with_argument values a) xs
value-calm p w f.RangeOf a = range-calm w a (int_lt a (pos 1))
value-calm p w f.Negates a = tt
value-calm p w (f.SumFrom xs) a = sum-calm p w a xs
value-calm p w (f.SumOnto op b xs) a = sum-calm p w (summed p.width op b a) xs
value-calm p w (f.ProductFrom xs) a = product-calm p w a xs
value-calm p w (f.ProductOnto op b xs) a = factor-calm p w (multiplied p.width op b a) xs
value-calm p w (f.LeftOf relation x) a =
    at_once-all Calm (immediate_value p w x) _ _ (λ b. tt) tt
value-calm p w (f.RightOf relation b) a = tt
value-calm p w f.IsNonzero a = tt
value-calm p w (f.Sets name) a = tt
value-calm p w (f.PlaceOf name words x) a = place-calm p w name words a x
value-calm p w (f.Stores name words i) a =
    store-calm w (entry_at (entries_of name w) i) (stored name words i a w)
value-calm p w f.Forgets a = tt
value-calm p w (f.Picks xs rest) a = cases-calm p a xs rest
value-calm p w f.Gives a = tt
value-calm p w (f.SaysNumber xs) a = tt
value-calm p w (f.SaysChar xs) a = tt

truth-calm : (x : Decide) (b : Bool) → Calm (truth_move x b)
truth-calm (f.AllOf xs) true = all-calm xs
truth-calm (f.AllOf xs) false = tt
truth-calm (f.AnyOf xs) true = tt
truth-calm (f.AnyOf xs) false = any-calm xs
truth-calm f.Flips b = tt
truth-calm (f.Branches body other) true = tt
truth-calm (f.Branches body other) false = tt
truth-calm (f.Testing l) b = tested-calm l (loop_goes_on l b)

-- the move of what begins hands on nothing that waits
begin-calm : (p : Program) (n : ℕ) (w : World) (x : Begin)
    → Calm (begin_move p n w x)
begin-calm p n w (f.Evals x) = eval-calm p w x
begin-calm p n w (f.CallDue name values) = call-calm p n w name values
begin-calm p n w (f.DrawDue m) = tt
begin-calm p n w (f.Tests x) = test-calm p w x
begin-calm p n w (f.Alters x) = alter-calm p w x
begin-calm p n w (f.Due x) = statement-calm p w x
begin-calm p n w (f.Blocks xs) = block-calm xs
begin-calm p n w (f.Prints xs) = prints-calm p w xs
begin-calm p n w (f.LineDue name) = tt
begin-calm p n w (f.TurnDue l) = turn-calm p w l l.test

begun-calm : (p : Program) (n : ℕ) (w : World) (x : Begin) (e : Outcome) → IsSettled e
    → Calm (begun_move p n w x e)
begun-calm p n w x (Value a) h = tt
begun-calm p n w x (Truth b) h = tt
begun-calm p n w x Normal h = begin-calm p n w x
begun-calm p n w x (Returns a) h = tt
begun-calm p n w x Breaks h = tt
begun-calm p n w x Continues h = tt
begun-calm p n w x (Halts halt) h = tt
begun-calm p n w x (Waits lack fs) h = h

wanted-calm : (p : Program) (w : World) (x : Want) (e : Outcome) → IsSettled e
    → Calm (wanted_move p w x e)
wanted-calm p w x (Value a) h = value-calm p w x a
wanted-calm p w x (Truth b) h = tt
wanted-calm p w x Normal h = tt
wanted-calm p w x (Returns a) h = tt
wanted-calm p w x Breaks h = tt
wanted-calm p w x Continues h = tt
wanted-calm p w x (Halts halt) h = tt
wanted-calm p w x (Waits lack fs) h = h

decided-calm : (x : Decide) (e : Outcome) → IsSettled e → Calm (decided_move x e)
decided-calm x (Value a) h = tt
decided-calm x (Truth b) h = truth-calm x b
decided-calm x Normal h = tt
decided-calm x (Returns a) h = tt
decided-calm x Breaks h = tt
decided-calm x Continues h = tt
decided-calm x (Halts halt) h = tt
decided-calm x (Waits lack fs) h = h

body-calm : (l : Loop) (e : Outcome) → IsSettled e → Calm (body_move l e)
body-calm l (Value a) h = tt
body-calm l (Truth b) h = tt
body-calm l Normal h = tt
body-calm l (Returns a) h = tt
body-calm l Breaks h = tt
body-calm l Continues h = tt
body-calm l (Halts halt) h = tt
body-calm l (Waits lack fs) h = h

returned-calm : (e : Outcome) → IsSettled e → IsSettled (returned e)
returned-calm (Value a) h = tt
returned-calm (Truth b) h = tt
returned-calm Normal h = tt
returned-calm (Returns a) h = tt
returned-calm Breaks h = tt
returned-calm Continues h = tt
returned-calm (Halts halt) h = tt
returned-calm (Waits lack fs) h = h

pub moves_settle : (p : Program) (n : ℕ) (w : World) (x : Frame) (e : Outcome) → IsSettled e
    → IsSettled (outcome_in (next p n w x e))
moves_settle p n w (Begins x) e h = begun-calm p n w x e h
moves_settle p n w (Wants x) e h = wanted-calm p w x e h
moves_settle p n w (Decides x) e h = decided-calm x e h
moves_settle p n w (Looping l) e h = body-calm l e h
moves_settle p n w (Calling scope) e h = returned-calm e h
moves_settle p n w Main e h = tt
moves_settle p n w (Over halt) e h = tt
