-- Worked routines, as trees, and what they do in every program that has them.
use Rattle.std.specs.Prelude.{◌≡◌, ℕ, zero, suc, ◌+◌, ◌-◌, ◌*◌, ◌/◌, ◌%◌, ◌<◌, ℤ, pos, nat_eq, nat_le, Bool, true, false, not, ◌&&◌, ◌||◌, decimal, if◌then◌else◌, List, [], ◌∷◌, ◌++◌, map, set, length, count_by, codes, Some, None}
use Rattle.std.specs.List.{prefix_len}
use Rattle.adv_io.specs.Steps.{Drew, Noted}
use Rattle.inform_tree.specs.declared.values.Const.TheVariants as k
use Rattle.inform_tree.specs.declared.values.SumOp.TheVariants.{Add}
use Rattle.inform_tree.specs.declared.values.ProdOp.TheVariants.{Div, Rem}
use Rattle.inform_tree.specs.declared.conditions.Relation.TheVariants.{Eq, Ne, Lt}
use Rattle.inform_tree.specs.Values as v
use Rattle.inform_tree.specs.Values.{Expression}
use Rattle.inform_tree.specs.Conditions as c
use Rattle.inform_tree.specs.Statements as t
use Rattle.inform_tree.specs.Statements.{Statement, Statements, statements}
use Rattle.inform_tree.specs.Programs.{RoutineTree}
use Rattle.inform_meaning.specs.Worlds.{Program, has_room}
use Rattle.inform_meaning.specs.Frames.{Loop, Quits, Trapped, NeedsLine}
use Rattle.inform_meaning.specs.declared.traps.Trap.TheVariants.{Division}
use Rattle.inform_meaning.specs.Statements.{while_loop, for_loop}
use Rattle.inform_meaning.specs.Runs.{Halted, Lacking}
use Rattle.inform_logic.specs.Stages.{Stage, with_past, with_global, with_array, line_taken, said}
use Rattle.inform_logic.specs.Leading.{Does}
use Rattle.inform_logic.specs.Holding.{Has, Notes}
use Rattle.inform_logic.specs.Stopping.{CallStops}

-- ---- short words for trees

abbrev routine : List ℕ → List (List ℕ) → List Statement → RoutineTree
routine name locals body = record { name = name; locals = locals; body = statements body }

abbrev name : List ℕ → Expression
name x = v.Name x

abbrev assign : List ℕ → Expression → Statement
assign x y = t.Assign (t.Set x y)

abbrev increment : List ℕ → Statement
increment x = t.Assign (t.Inc x)

abbrev entry : List ℕ → List ℕ → Expression
entry a i = v.Entry a true (v.Name i)

abbrev call : List ℕ → List Expression → Expression
call f xs = v.Call f (v.arguments xs)

abbrev if_only : c.Condition → List Statement → Statement
if_only x body = t.If x (statements body) t.NoStatements

abbrev for : t.Assignment → Loop → Statement
for first l = t.For (Some first) l.test l.change l.body

abbrev return : Expression → Statement
return x = t.Return (Some x)

abbrev text : List ℕ → Statement
text bytes = t.Print (t.Text bytes ∷ [])

-- ---- `[ carried i n; for (i = 0 : i < ITEMS : i++) { if (item-->i == 255) n++; } return n; ];`

abbrev pub item_is_held : c.Condition
item_is_held = c.Compare Eq (entry (codes "item") (codes "i")) (v.Number 255)

abbrev pub item_below : ℕ → c.Condition
item_below items = c.Compare Lt (name (codes "i")) (v.Number items)

abbrev pub carried_loop : ℕ → Loop
carried_loop items = for_loop (Some (item_below items)) (Some (t.Inc (codes "i")))
    (statements (if_only item_is_held (increment (codes "n") ∷ []) ∷ []))

abbrev pub carried : ℕ → RoutineTree
carried items = routine (codes "carried") (codes "i" ∷ codes "n" ∷ [])
    (for (t.Set (codes "i") (v.Number 0)) (carried_loop items) ∷ return (name (codes "n")) ∷ [])

-- It gives the number of items whose place is 255, and changes nothing.
abbrev pub CarriedIsCounted : Type 0
CarriedIsCounted = (p : Program) (d : ℕ) (w : Stage) (places : List ℕ) → length places < 32768
    → Has p (carried (length places)) → w.arrays (codes "item") ≡ Some (map pos places)
    → Does p (suc d) (codes "carried") [] w (pos (count_by (λ place. nat_eq place 255) places)) w
    (3 * length places + 3)

-- ---- `[ move_to r old; old = here; here = r; return old; ];` and
-- `[ swap; saved = move_to(saved); ];`

abbrev pub move_to : RoutineTree
move_to = routine (codes "move_to") (codes "r" ∷ codes "old" ∷ [])
    (assign (codes "old") (name (codes "here")) ∷ assign (codes "here") (name (codes "r"))
    ∷ return (name (codes "old")) ∷ [])

abbrev pub swap : RoutineTree
swap = routine (codes "swap") []
    (assign (codes "saved") (call (codes "move_to") (name (codes "saved") ∷ [])) ∷ [])

-- The two globals have each other's value.
abbrev pub GlobalsAreSwapped : Type 0
GlobalsAreSwapped = (p : Program) (d : ℕ) (w : Stage) (here saved : ℤ) → Has p move_to → Has p swap
    → w.globals (codes "here") ≡ Some here → w.globals (codes "saved") ≡ Some saved
    → Does p (suc (suc d)) (codes "swap") [] w (pos 1)
    (with_global (codes "saved") here (with_global (codes "here") saved w)) 5

-- ---- `[ move_item i r; item-->i = r; moved->i = 1; new_line; ];`, where `moved` has bytes

abbrev pub move_item : RoutineTree
move_item = routine (codes "move_item") (codes "i" ∷ codes "r" ∷ [])
    (t.Assign (t.SetEntry (codes "item") true (name (codes "i")) (name (codes "r")))
    ∷ t.Assign (t.SetEntry (codes "moved") false (name (codes "i")) (v.Number 1))
    ∷ t.NewLine ∷ [])

-- The item has the place and is marked, and a new line is said.
abbrev pub ItemIsMoved : Type 0
ItemIsMoved = (p : Program) (d : ℕ) (w : Stage) (items marks : List ℤ) (i r : ℕ)
    → Has p move_item → w.arrays (codes "item") ≡ Some items
    → w.arrays (codes "moved") ≡ Some marks → i < length items → i < length marks
    → Does p (suc d) (codes "move_item") (pos i ∷ pos r ∷ []) w (pos 1) (said (10 ∷ [])
    (with_array (codes "moved") (set marks i (pos 1))
    (with_array (codes "item") (set items i (pos r)) w))) 3

-- ---- `[ say_place n; switch (n) { 0: print "nowhere"; 1 to 9: print "room ", n;
-- default: print "held"; } ];`

abbrev pub say_place : RoutineTree
say_place = routine (codes "say_place") (codes "n" ∷ []) (t.Switch (name (codes "n"))
    (t.MoreCases ((k.Number 0, None) ∷ []) (statements (text (codes "nowhere") ∷ []))
    (t.MoreCases ((k.Number 1, Some (k.Number 9)) ∷ [])
    (statements (t.Print (t.Text (codes "room ") ∷ t.Value (name (codes "n")) ∷ []) ∷ []))
    t.NoCases))
    (t.SomeDefault (statements (text (codes "held") ∷ []))) ∷ [])

abbrev pub place_text : ℕ → List ℕ
place_text n = if nat_eq n 0 then codes "nowhere" else
    if nat_le n 9 then codes "room " ++ decimal n else codes "held"

-- It says where the place is, and nothing else happens.
abbrev pub PlaceIsSaid : Type 0
PlaceIsSaid = (p : Program) (d : ℕ) (w : Stage) (n : ℕ) → Has p say_place
    → Does p (suc d) (codes "say_place") (pos n ∷ []) w (pos 1) (said (place_text n) w) 2

-- ---- `[ first_clear i; while (1 == 1) { if (flag-->i == 0) break; i++; } return i; ];`

abbrev pub flag_is_clear : c.Condition
flag_is_clear = c.Compare Eq (entry (codes "flag") (codes "i")) (v.Number 0)

abbrev pub clear_loop : Loop
clear_loop = while_loop (c.Compare Eq (v.Number 1) (v.Number 1))
    (statements (if_only flag_is_clear (t.Break ∷ []) ∷ increment (codes "i") ∷ []))

abbrev pub first_clear : RoutineTree
first_clear = routine (codes "first_clear") (codes "i" ∷ [])
    (t.While (c.Compare Eq (v.Number 1) (v.Number 1)) clear_loop.body
    ∷ return (name (codes "i")) ∷ [])

-- how many flags there are before the first that is 0
abbrev pub set_flags : List ℕ → ℕ
set_flags flags = prefix_len (λ flag. not (nat_eq flag 0)) flags

-- Where a flag is 0, it gives the number of the first one, and changes nothing.
abbrev pub FirstClearIsFound : Type 0
FirstClearIsFound = (p : Program) (d : ℕ) (w : Stage) (flags : List ℕ) → length flags < 32768
    → set_flags flags < length flags → Has p first_clear
    → w.arrays (codes "flag") ≡ Some (map pos flags)
    → Does p (suc d) (codes "first_clear") [] w (pos (set_flags flags)) w (3 * set_flags flags + 5)

-- ---- `[ ask n; read buf pbuf; quit; ];`

abbrev pub ask : RoutineTree
ask = routine (codes "ask") (codes "n" ∷ []) (t.Read (codes "buf") (codes "pbuf") ∷ t.Quit ∷ [])

-- With a line it takes it into the buffer, and the run is over.
abbrev pub LineIsTaken : Type 0
LineIsTaken = (p : Program) (d : ℕ) (values : List ℤ) (w : Stage) (entries : List ℤ)
    (line : List ℕ) (lines : List (List ℕ)) → Has p ask → w.arrays (codes "buf") ≡ Some entries
    → has_room entries ≡ true → w.lines ≡ line ∷ lines
    → CallStops p (suc d) (codes "ask") values w (Halted Quits)
    (line_taken (codes "buf") entries line lines w) 2

-- Without one the run waits for it, and nothing has happened.
abbrev pub LineIsAwaited : Type 0
LineIsAwaited = (p : Program) (d : ℕ) (values : List ℤ) (w : Stage) (entries : List ℤ)
    → Has p ask
    → w.arrays (codes "buf") ≡ Some entries → has_room entries ≡ true → w.lines ≡ []
    → CallStops p (suc d) (codes "ask") values w (Lacking NeedsLine) w 1

-- ---- `[ share n; return 100 / n; ];`

abbrev pub share : RoutineTree
share = routine (codes "share") (codes "n" ∷ [])
    (return (v.Product (v.Number 100) (v.factors ((Div, name (codes "n")) ∷ []))) ∷ [])

-- It gives the quotient, and traps where there is none.
abbrev pub SharesAreGiven : Type 0
SharesAreGiven = (p : Program) (d : ℕ) (w : Stage) (n : ℕ) → 0 < n → Has p share
    → Does p (suc d) (codes "share") (pos n ∷ []) w (pos (100 / n)) w 1

abbrev pub NoShareTraps : Type 0
NoShareTraps = (p : Program) (d : ℕ) (w : Stage) (has : Has p share)
    → CallStops p (suc d) (codes "share") (pos 0 ∷ []) w (Halted (Trapped Division has.at)) w 1

-- ---- `[ line_1; carried(); return 2; ];`, which is noted

abbrev pub line_one : RoutineTree
line_one = routine (codes "line_1") [] (t.Call (codes "carried") v.NoArguments ∷ return (v.Number 2)
    ∷ [])

-- Its number is noted before what it does.
abbrev pub LineIsNoted : Type 0
LineIsNoted = (p : Program) (d : ℕ) (w : Stage) (places : List ℕ) (number : ℕ)
    → length places < 32768 → Notes p line_one number
    → Has p (carried (length places)) → w.arrays (codes "item") ≡ Some (map pos places)
    → Does p (suc (suc d)) (codes "line_1") [] w (pos 2)
    (with_past (w.past ++ Noted number ∷ []) w) (3 * length places + 6)

-- ---- `[ numbers n i; for (i = 0 : i < n : i++) print i, " "; ];`

abbrev pub numbers_loop : Loop
numbers_loop = for_loop (Some (c.Compare Lt (name (codes "i")) (name (codes "n"))))
    (Some (t.Inc (codes "i")))
    (statements (t.Print (t.Value (name (codes "i")) ∷ t.Text (codes " ") ∷ []) ∷ []))

abbrev pub numbers : RoutineTree
numbers = routine (codes "numbers") (codes "n" ∷ codes "i" ∷ [])
    (for (t.Set (codes "i") (v.Number 0)) numbers_loop ∷ [])

-- so many numbers from the first one on, a space after each
abbrev pub numbers_text : ℕ → ℕ → List ℕ
numbers_text first zero = []
numbers_text first (suc count) = (decimal first ++ codes " ") ++ numbers_text (first + 1) count

-- It says the numbers below n.
abbrev pub NumbersAreSaid : Type 0
NumbersAreSaid = (p : Program) (d : ℕ) (w : Stage) (n : ℕ) → n < 32768 → Has p numbers
    → Does p (suc d) (codes "numbers") (pos n ∷ []) w (pos 1) (said (numbers_text 0 n) w)
    (2 * n + 2)

-- ---- `[ is_leap y; if ((y % 4 == 0 && y % 100 ~= 0) || y % 400 == 0) rtrue; rfalse; ];`

abbrev pub year_rest : ℕ → Expression
year_rest n = v.Product (name (codes "y")) (v.factors ((Rem, v.Number n) ∷ []))

abbrev pub leap_test : c.Condition
leap_test = c.Any (c.conditions (c.All (c.conditions (c.Compare Eq (year_rest 4) (v.Number 0)
    ∷ c.Compare Ne (year_rest 100) (v.Number 0) ∷ []))
    ∷ c.Compare Eq (year_rest 400) (v.Number 0) ∷ []))

abbrev pub is_leap : RoutineTree
is_leap = routine (codes "is_leap") (codes "y" ∷ [])
    (if_only leap_test (t.Rtrue ∷ []) ∷ t.Rfalse ∷ [])

abbrev pub leap_year : ℕ → Bool
leap_year y = (nat_eq (y % 4) 0 && not (nat_eq (y % 100) 0)) || nat_eq (y % 400) 0

-- It gives 1 for a leap year and 0 for any other.
abbrev pub LeapYearsAreKnown : Type 0
LeapYearsAreKnown = (p : Program) (d : ℕ) (w : Stage) (y : ℕ) → Has p is_leap
    → Does p (suc d) (codes "is_leap") (pos y ∷ []) w (pos (if leap_year y then 1 else 0)) w 2

-- ---- `[ throws n t; do { t = t + random(6); n--; } until (n == 0); return t; ];`

abbrev pub throw : Statements
throw = statements
    (assign (codes "t") (v.Sum (name (codes "t")) (v.terms ((Add, v.Random (v.Number 6)) ∷ [])))
    ∷ t.Assign (t.Dec (codes "n")) ∷ [])

abbrev pub all_thrown : c.Condition
all_thrown = c.Compare Eq (name (codes "n")) (v.Number 0)

abbrev pub throws : RoutineTree
throws = routine (codes "throws") (codes "n" ∷ codes "t" ∷ [])
    (t.Do throw all_thrown ∷ return (name (codes "t")) ∷ [])

-- the sum of dice, and the stage after they were thrown
abbrev pub thrown : ℕ → List ℕ → ℕ
thrown t [] = t
thrown t (draw ∷ draws) = thrown (t + ((draw - 1) % 6 + 1)) draws

abbrev pub after_draws : List ℕ → List ℕ → Stage → Stage
after_draws draws rest w = record w { draws = rest; past = w.past ++ map Drew draws }

-- It gives the sum of as many dice as it is told, one for each draw.
abbrev pub DiceAreAdded : Type 0
DiceAreAdded = (p : Program) (d : ℕ) (w : Stage) (draw : ℕ) (draws rest : List ℕ)
    → 6 * length (draw ∷ draws) < 32768 → Has p throws → w.draws ≡ draw ∷ draws ++ rest
    → Does p (suc d) (codes "throws") (pos (length (draw ∷ draws)) ∷ []) w
    (pos (thrown 0 (draw ∷ draws))) (after_draws (draw ∷ draws) rest w)
    (3 * length (draw ∷ draws) + 2)
