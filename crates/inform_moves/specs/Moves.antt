-- One move of a run: what takes the place of the innermost frame when an outcome is handed to it.
use Rattle.std.specs.Prelude.{ℕ, zero, suc, ℤ, pos, negsuc, int_lt, Bool, true, false, not, if◌then◌else◌, List, [], ◌∷◌, Option, Some, None}
use Rattle.std.specs.Fmt.{signed_decimal}
use Rattle.std.specs.Ordering.{int_eq}
use Rattle.inform_tree.specs.Values as v
use Rattle.inform_tree.specs.Values.{Expression, Arguments, Terms, Factors}
use Rattle.inform_tree.specs.Conditions as d
use Rattle.inform_tree.specs.Conditions.{Condition, Conditions}
use Rattle.inform_tree.specs.Statements as s
use Rattle.inform_tree.specs.declared.conditions.Relation.{Relation}
use Rattle.inform_tree.specs.Statements.{Statement, Statements, Cases, Default, Assignment, PrintItem}
use Rattle.inform_meaning.specs.declared.traps.Trap.{Trap}
use Rattle.inform_meaning.specs.declared.traps.Trap.TheVariants as t
use Rattle.inform_meaning.specs.Words.{number_word, word_negation, word_sum, summed, multiplied, compares, low_byte}
use Rattle.inform_meaning.specs.Worlds.{Routine, Program, World, value_of, assigned, entries_of, entry_at, stored, has_room, with_argument, scope_of}
use Rattle.inform_meaning.specs.Frames as f
use Rattle.inform_meaning.specs.Frames.{Loop, Begin, Want, Decide, Trapped, Quits, Frame, Begins, Wants, Decides, Looping, Calling, Main, Over, Outcome, Value, Truth, Normal, Returns, Breaks, Continues, Halts, returned, halt_of}
use Rattle.inform_meaning.specs.Statements.{while_loop, do_loop, for_loop, loop_goes_on, fits_any}
use Rattle.inform_meaning.specs.Runs.{noted_body}
use Rattle.inform_moves.specs.Immediate.{immediate_value, immediate_sum, immediate_product, immediate_arguments, immediate_truth}

-- ---- moves

-- what a move does to the world and to what was said
pub data Effect : Type 0 where
  Keeps : Effect
  Becomes : World → Effect
  Says : List ℕ → Effect
  Enters : World → Option ℕ → Effect  -- a routine is entered, and this number noted

pub data Move : Type 0 where
  Goes : List Frame → Outcome → Effect → Move  -- these frames, and an outcome for the first
  Ticks : List Frame → Outcome → Effect → Move  -- the same after a step
  Reads : List ℕ → Move  -- a line into this buffer
  Draws : ℤ → Move  -- a draw for a number up to this one

-- the frames of a move, and what else it does
abbrev pub pushed_in : Move → List Frame
pushed_in (Goes frames e effect) = frames
pushed_in (Ticks frames e effect) = frames
pushed_in (Reads name) = []
pushed_in (Draws n) = []

abbrev pub outcome_in : Move → Outcome
outcome_in (Goes frames e effect) = e
outcome_in (Ticks frames e effect) = e
outcome_in (Reads name) = Normal
outcome_in (Draws n) = Normal

abbrev pub effect_in : Move → Effect
effect_in (Goes frames e effect) = effect
effect_in (Ticks frames e effect) = effect
effect_in (Reads name) = Keeps
effect_in (Draws n) = Keeps

-- one frame, or two
abbrev pub goes_to : Frame → Move
goes_to x = Goes (x ∷ []) Normal Keeps

abbrev pub goes_with : Frame → Frame → Move
goes_with x y = Goes (x ∷ y ∷ []) Normal Keeps

-- the frame is finished
abbrev pub done : Outcome → Move
done e = Goes [] e Keeps

abbrev pub alters : World → Move
alters w = Goes [] Normal (Becomes w)

abbrev pub trapped : World → Trap → Move
trapped w kind = done (Halts (Trapped kind w.scope.directive))

-- a value is due, and then this frame
abbrev pub evals : Expression → Frame → Move
evals x y = goes_with (Begins (f.Evals x)) y

-- what is there at once is used at once; else the move is another one
abbrev pub at_once : {X : Type 0} → Option X → (X → Move) → Move → Move
at_once None follow other = other
at_once (Some x) follow other = follow x

-- ---- values

abbrev pub argument_parts : List ℕ → List ℤ → Arguments → Move
argument_parts name values v.NoArguments = goes_to (Begins (f.CallDue name values))
argument_parts name values (v.MoreArguments x xs) = evals x (Wants (f.Args name values xs))

abbrev pub arguments_move : Program → World → List ℕ → List ℤ → Arguments → Move
arguments_move p w name values xs = at_once (immediate_arguments p w values xs)
    (λ all. goes_to (Begins (f.CallDue name all))) (argument_parts name values xs)

abbrev pub sum_parts : ℤ → Terms → Move
sum_parts a v.NoTerms = done (Value a)
sum_parts a (v.MoreTerms op x xs) = evals x (Wants (f.SumOnto op a xs))

abbrev pub sum_move : Program → World → ℤ → Terms → Move
sum_move p w a xs = at_once (immediate_sum p w a xs) (λ b. done (Value b)) (sum_parts a xs)

abbrev pub product_parts : ℤ → Factors → Move
product_parts a v.NoFactors = done (Value a)
product_parts a (v.MoreFactors op x xs) = evals x (Wants (f.ProductOnto op a xs))

abbrev pub product_move : Program → World → ℤ → Factors → Move
product_move p w a xs =
    at_once (immediate_product p w a xs) (λ b. done (Value b)) (product_parts a xs)

abbrev pub factor_move : Program → World → Option ℤ → Factors → Move
factor_move p w None xs = trapped w t.Division
factor_move p w (Some a) xs = product_move p w a xs

abbrev pub value_parts : Program → World → Expression → Move
value_parts p w (v.Number n) = done (Value (number_word p.width n))
value_parts p w (v.Char byte) = done (Value (pos byte))
value_parts p w (v.Name name) = done (Value (value_of p name w))
value_parts p w (v.Entry name words index) = evals index (Wants (f.IndexOf name))
value_parts p w (v.Call name xs) = arguments_move p w name [] xs
value_parts p w (v.Random x) = evals x (Wants f.RangeOf)
value_parts p w (v.Neg x) = evals x (Wants f.Negates)
value_parts p w (v.Sum x xs) = evals x (Wants (f.SumFrom xs))
value_parts p w (v.Product x xs) = evals x (Wants (f.ProductFrom xs))

abbrev pub eval_move : Program → World → Expression → Move
eval_move p w x = at_once (immediate_value p w x) (λ a. done (Value a)) (value_parts p w x)

-- ---- conditions

abbrev pub tests : Condition → Frame → Move
tests x y = goes_with (Begins (f.Tests x)) y

abbrev pub all_move : Conditions → Move
all_move d.NoConditions = done (Truth true)
all_move (d.MoreConditions x xs) = tests x (Decides (f.AllOf xs))

abbrev pub any_move : Conditions → Move
any_move d.NoConditions = done (Truth false)
any_move (d.MoreConditions x xs) = tests x (Decides (f.AnyOf xs))

abbrev pub truth_parts : Condition → Move
truth_parts (d.Compare relation x y) = evals x (Wants (f.LeftOf relation y))
truth_parts (d.Nonzero x) = evals x (Wants f.IsNonzero)
truth_parts (d.All xs) = all_move xs
truth_parts (d.Any xs) = any_move xs
truth_parts (d.Not x) = tests x (Decides f.Flips)

abbrev pub test_move : Program → World → Condition → Move
test_move p w x = at_once (immediate_truth p w x) (λ b. done (Truth b)) (truth_parts x)

-- the right side of a comparison
abbrev pub right_move : Program → World → Relation → ℤ → Expression → Move
right_move p w relation a y = at_once (immediate_value p w y)
    (λ b. done (Truth (compares relation a b))) (evals y (Wants (f.RightOf relation a)))

-- ---- entries

abbrev pub entry_move : World → Option ℤ → Move
entry_move w None = trapped w t.Index
entry_move w (Some a) = done (Value a)

abbrev pub store_by : World → Option ℤ → World → Move
store_by w None after = trapped w t.Index
store_by w (Some a) after = alters after

abbrev pub store_move : World → List ℕ → Bool → ℤ → ℤ → Move
store_move w name words i a =
    store_by w (entry_at (entries_of name w) i) (stored name words i a w)

-- the value for an entry whose place is known
abbrev pub place_move : Program → World → List ℕ → Bool → ℤ → Expression → Move
place_move p w name words i y = at_once (immediate_value p w y)
    (λ a. store_move w name words i a) (evals y (Wants (f.Stores name words i)))

-- ---- changes and print

-- a variable counts by 1 or -1
abbrev pub counts_move : Program → World → List ℕ → ℤ → Move
counts_move p w name by = alters (assigned name (word_sum p.width (value_of p name w) by) w)

abbrev pub alter_move : Program → World → Assignment → Move
alter_move p w (s.Set name x) = at_once (immediate_value p w x)
    (λ a. alters (assigned name a w)) (evals x (Wants (f.Sets name)))
alter_move p w (s.SetEntry name words x y) = at_once (immediate_value p w x)
    (λ i. place_move p w name words i y) (evals x (Wants (f.PlaceOf name words y)))
alter_move p w (s.Inc name) = counts_move p w name (pos 1)
alter_move p w (s.Dec name) = counts_move p w name (negsuc 0)

abbrev pub says_move : List ℕ → List PrintItem → Move
says_move bytes xs = Goes (Begins (f.Prints xs) ∷ []) Normal (Says bytes)

abbrev pub prints_move : Program → World → List PrintItem → Move
prints_move p w [] = done Normal
prints_move p w (s.Text text ∷ xs) = says_move text xs
prints_move p w (s.Value x ∷ xs) = at_once (immediate_value p w x)
    (λ a. says_move (signed_decimal a) xs) (evals x (Wants (f.SaysNumber xs)))
prints_move p w (s.Char x ∷ xs) = at_once (immediate_value p w x)
    (λ a. says_move (low_byte a ∷ []) xs) (evals x (Wants (f.SaysChar xs)))

-- ---- calls

abbrev pub enter_move : Program → World → List ℕ → Option Routine → List ℤ → Move
enter_move p w name None values = Ticks [] (Value (pos 0)) Keeps
enter_move p w name (Some r) values =
    Ticks (Begins (f.Blocks r.body) ∷ Calling w.scope ∷ []) Normal
    (Enters (record w { scope = scope_of r values }) (noted_body (p.notes name r.directive) r.body))

-- where so many more calls may be open
abbrev pub call_move : Program → ℕ → World → List ℕ → List ℤ → Move
call_move p zero w name values = Ticks [] (Halts (Trapped t.Depth w.scope.directive)) Keeps
call_move p (suc n) w name values = enter_move p w name (p.routines name) values

-- the same after a step
abbrev pub ticked : Move → Move
ticked (Goes frames e effect) = Ticks frames e effect
ticked other = other

-- ---- loops

abbrev pub tested_move : Loop → Bool → Move
tested_move l true = goes_with (Begins (f.Blocks l.body)) (Looping l)
tested_move l false = done Normal

abbrev pub turn_test : Program → World → Loop → Condition → Move
turn_test p w l x = at_once (immediate_truth p w x) (λ b. tested_move l (loop_goes_on l b))
    (goes_with (Begins (f.Tests x)) (Decides (f.Testing l)))

-- a turn: its test, if it has one
abbrev pub turn_move : Program → World → Loop → Option Condition → Move
turn_move p w l None = Ticks (Decides (f.Testing l) ∷ []) (Truth true) Keeps
turn_move p w l (Some x) = ticked (turn_test p w l x)

-- a change, if there is one, and then a turn
abbrev pub change_frames : Loop → Option Assignment → List Frame
change_frames l None = Begins (f.TurnDue l) ∷ []
change_frames l (Some x) = Begins (f.Alters x) ∷ Begins (f.TurnDue l) ∷ []

abbrev pub body_move : Loop → Outcome → Move
body_move l Normal = Goes (change_frames l l.change) Normal Keeps
body_move l Continues = Goes (change_frames l l.change) Normal Keeps
body_move l Breaks = done Normal
body_move l e = done e

-- ---- statements

-- a call that stands alone: its value is forgotten
abbrev pub call_parts : List ℕ → Arguments → Move
call_parts name v.NoArguments = goes_with (Begins (f.CallDue name [])) (Wants f.Forgets)
call_parts name (v.MoreArguments x xs) =
    Goes (Begins (f.Evals x) ∷ Wants (f.Args name [] xs) ∷ Wants f.Forgets ∷ []) Normal Keeps

abbrev pub call_alone : Program → World → List ℕ → Arguments → Move
call_alone p w name xs = at_once (immediate_arguments p w [] xs)
    (λ all. goes_with (Begins (f.CallDue name all)) (Wants f.Forgets)) (call_parts name xs)

abbrev pub default_move : Default → Move
default_move s.NoDefault = done Normal
default_move (s.SomeDefault body) = goes_to (Begins (f.Blocks body))

-- the first case that fits a value
abbrev pub cases_move : Program → ℤ → Cases → Default → Move
cases_move p a s.NoCases rest = default_move rest
cases_move p a (s.MoreCases choices body xs) rest =
    if fits_any p a choices then goes_to (Begins (f.Blocks body)) else cases_move p a xs rest

abbrev pub picked_move : Statements → Statements → Bool → Move
picked_move body other b = goes_to (Begins (f.Blocks (if b then body else other)))

abbrev pub branch_move : Program → World → Condition → Statements → Statements → Move
branch_move p w x body other = at_once (immediate_truth p w x) (picked_move body other)
    (goes_with (Begins (f.Tests x)) (Decides (f.Branches body other)))

abbrev pub switch_move : Program → World → Expression → Cases → Default → Move
switch_move p w x xs rest = at_once (immediate_value p w x)
    (λ a. cases_move p a xs rest) (evals x (Wants (f.Picks xs rest)))

abbrev pub return_move : Program → World → Expression → Move
return_move p w x = at_once (immediate_value p w x)
    (λ a. done (Returns a)) (evals x (Wants f.Gives))

-- after the step of the statement
abbrev pub steps_to : List Frame → Move
steps_to frames = Ticks frames Normal Keeps

abbrev pub ends : Outcome → Move
ends e = Ticks [] e Keeps

abbrev pub read_move : World → List ℕ → Bool → Move
read_move w name true = steps_to (Begins (f.LineDue name) ∷ [])
read_move w name false = ends (Halts (Trapped t.Line w.scope.directive))

abbrev pub statement_move : Program → World → Statement → Move
statement_move p w s.Empty = ends Normal
statement_move p w (s.Block body) = steps_to (Begins (f.Blocks body) ∷ [])
statement_move p w (s.Assign x) = ticked (alter_move p w x)
statement_move p w (s.Call name xs) = ticked (call_alone p w name xs)
statement_move p w (s.If x body other) = ticked (branch_move p w x body other)
statement_move p w (s.While x body) = steps_to (Begins (f.TurnDue (while_loop x body)) ∷ [])
statement_move p w (s.Do body x) = steps_to (Begins (f.Blocks body) ∷ Looping (do_loop body x) ∷ [])
statement_move p w (s.For first x change body) =
    steps_to (change_frames (for_loop x change body) first)
statement_move p w (s.Switch x xs rest) = ticked (switch_move p w x xs rest)
statement_move p w s.Break = ends Breaks
statement_move p w s.Continue = ends Continues
statement_move p w s.Quit = ends (Halts Quits)
statement_move p w s.Rtrue = ends (Returns (pos 1))
statement_move p w s.Rfalse = ends (Returns (pos 0))
statement_move p w (s.Return None) = ends (Returns (pos 1))
statement_move p w (s.Return (Some x)) = ticked (return_move p w x)
statement_move p w s.NewLine = Ticks [] Normal (Says (10 ∷ []))
statement_move p w (s.Print xs) = steps_to (Begins (f.Prints xs) ∷ [])
statement_move p w (s.Read line words) = read_move w line (has_room (entries_of line w))

abbrev pub block_move : Statements → Move
block_move s.NoStatements = done Normal
block_move (s.MoreStatements x xs) = goes_with (Begins (f.Due x)) (Begins (f.Blocks xs))

-- ---- a frame that hasn't begun

abbrev pub begin_move : Program → ℕ → World → Begin → Move
begin_move p n w (f.Evals x) = eval_move p w x
begin_move p n w (f.CallDue name values) = call_move p n w name values
begin_move p n w (f.DrawDue m) = Draws m
begin_move p n w (f.Tests x) = test_move p w x
begin_move p n w (f.Alters x) = alter_move p w x
begin_move p n w (f.Due x) = statement_move p w x
begin_move p n w (f.Blocks xs) = block_move xs
begin_move p n w (f.Prints xs) = prints_move p w xs
begin_move p n w (f.LineDue name) = Reads name
begin_move p n w (f.TurnDue l) = turn_move p w l l.test

-- ---- a frame that waited for a value

abbrev pub range_move : World → ℤ → Bool → Move
range_move w a true = trapped w t.Random
range_move w a false = goes_to (Begins (f.DrawDue a))

abbrev pub value_move : Program → World → Want → ℤ → Move
value_move p w (f.IndexOf name) a = entry_move w (entry_at (entries_of name w) a)
value_move p w (f.Args name values xs) a = arguments_move p w name (with_argument values a) xs
value_move p w f.RangeOf a = range_move w a (int_lt a (pos 1))
value_move p w f.Negates a = done (Value (word_negation p.width a))
value_move p w (f.SumFrom xs) a = sum_move p w a xs
value_move p w (f.SumOnto op b xs) a = sum_move p w (summed p.width op b a) xs
value_move p w (f.ProductFrom xs) a = product_move p w a xs
value_move p w (f.ProductOnto op b xs) a =
    factor_move p w (multiplied p.width op b a) xs
value_move p w (f.LeftOf relation y) a = right_move p w relation a y
value_move p w (f.RightOf relation b) a = done (Truth (compares relation b a))
value_move p w f.IsNonzero a = done (Truth (not (int_eq a (pos 0))))
value_move p w (f.Sets name) a = alters (assigned name a w)
value_move p w (f.PlaceOf name words y) a = place_move p w name words a y
value_move p w (f.Stores name words i) a = store_move w name words i a
value_move p w f.Forgets a = done Normal
value_move p w (f.Picks xs rest) a = cases_move p a xs rest
value_move p w f.Gives a = done (Returns a)
value_move p w (f.SaysNumber xs) a = says_move (signed_decimal a) xs
value_move p w (f.SaysChar xs) a = says_move (low_byte a ∷ []) xs

-- ---- a frame that waited for a truth value

abbrev pub truth_move : Decide → Bool → Move
truth_move (f.AllOf xs) b = if b then all_move xs else done (Truth false)
truth_move (f.AnyOf xs) b = if b then done (Truth true) else any_move xs
truth_move f.Flips b = done (Truth (not b))
truth_move (f.Branches body other) b = picked_move body other b
truth_move (f.Testing l) b = tested_move l (loop_goes_on l b)

-- ---- any frame, where so many more calls may be open

abbrev pub begun_move : Program → ℕ → World → Begin → Outcome → Move
begun_move p n w x Normal = begin_move p n w x
begun_move p n w x e = done e

abbrev pub wanted_move : Program → World → Want → Outcome → Move
wanted_move p w x (Value a) = value_move p w x a
wanted_move p w x e = done e

abbrev pub decided_move : Decide → Outcome → Move
decided_move x (Truth b) = truth_move x b
decided_move x e = done e

abbrev pub next : Program → ℕ → World → Frame → Outcome → Move
next p n w (Begins x) e = begun_move p n w x e
next p n w (Wants x) e = wanted_move p w x e
next p n w (Decides x) e = decided_move x e
next p n w (Looping l) e = body_move l e
next p n w (Calling scope) e = Goes [] (returned e) (Becomes (record w { scope = scope }))
next p n w Main e = done (Halts (halt_of e))
next p n w (Over halt) e = done (Halts halt)
