-- Worked examples: small programs, and what their runs come to.
use Rattle.std.specs.Prelude.{◌≡◌, ℕ, pos, true, false, List, [], ◌∷◌, ◌++◌, codes, Some, None}
use Rattle.adv_io.specs.History.{says}
use Rattle.adv_io.specs.Steps.{trace_of, noted}
use Rattle.adv_io.specs.declared.events.Event.{Event}
use Rattle.adv_io.specs.declared.events.Event.TheVariants.{Take, Draw}
use Rattle.inform_tree.specs.declared.widths.Width.{Width}
use Rattle.inform_tree.specs.declared.widths.Width.TheVariants.{W16, W32}
use Rattle.inform_tree.specs.declared.values.Const.TheVariants as k
use Rattle.inform_tree.specs.declared.values.SumOp.TheVariants.{Add}
use Rattle.inform_tree.specs.declared.values.ProdOp.TheVariants.{Mul, Div, Rem}
use Rattle.inform_tree.specs.declared.conditions.Relation.TheVariants.{Eq, Lt}
use Rattle.inform_tree.specs.Values as v
use Rattle.inform_tree.specs.Values.{Expression}
use Rattle.inform_tree.specs.Conditions as c
use Rattle.inform_tree.specs.Statements as s
use Rattle.inform_tree.specs.Statements.{Statement, statements}
use Rattle.inform_tree.specs.Programs as d
use Rattle.inform_tree.specs.Programs.{DirectiveTree}
use Rattle.inform_meaning.specs.declared.traps.Trap.TheVariants as t
use Rattle.inform_meaning.specs.Worlds.{Program, Config}
use Rattle.inform_meaning.specs.Frames.{Blocks, DrawDue, Begins, Wants, SaysNumber, Main, Quits, Trapped, NeedsLine, NeedsDraw, Spent, Outcome}
use Rattle.inform_meaning.specs.Runs.{resume, Stop, Halted, Lacking, stop_of, begun_of}
use Rattle.inform_meaning.specs.Programs.{no_notes, opening, run_of}

-- ---- programs

abbrev routine : List ℕ → List (List ℕ) → List Statement → DirectiveTree
routine name locals body =
    d.Routine (record { name = name; locals = locals; body = statements body })

abbrev main : List Statement → DirectiveTree
main body = routine (codes "main") [] body

abbrev call : List ℕ → List Expression → Expression
call name xs = v.Call name (v.arguments xs)

-- ---- what a run gives: why it stopped, what happened, and the steps that are left

abbrev ended : Outcome × Config → Stop × List Event × ℕ
ended r = (stop_of r.0, trace_of r.1.past, r.1.steps)

-- with these steps, lines and draws, at 16 bits
abbrev Ends : List DirectiveTree → ℕ → List (List ℕ) → List ℕ → Stop → List Event → ℕ → Type 0
Ends ds steps lines draws stop events left =
    ended (run_of W16 ds no_notes steps lines draws) ≡ (stop, events, left)

-- what a `Main` says that prints one value
abbrev Prints : Width → Expression → List ℕ → Type 0
Prints width x said = ended (run_of width (main (s.Print (s.Value x ∷ []) ∷ []) ∷ []) no_notes 9 []
    []) ≡ (Halted Quits, says said, 8)

-- `[ Main; print 1 / 0; ];`
abbrev pub DivisionTraps : Type 0
DivisionTraps = Ends (main (s.Print (s.Value
    (v.Product (v.Number 1) (v.factors ((Div, v.Number 0) ∷ []))) ∷ []) ∷ []) ∷ []) 9 [] []
    (Halted (Trapped t.Division 0)) [] 8

-- `[ Main; while (1 == 1) { } ];` with 1 step and with 6
abbrev endless : List DirectiveTree
endless = main (s.While (c.Compare Eq (v.Number 1) (v.Number 1)) (statements []) ∷ []) ∷ []

abbrev pub StepsAreSpent : Type 0
StepsAreSpent = Ends endless 1 [] [] (Lacking Spent) [] 0
    × Ends endless 6 [] [] (Lacking Spent) [] 0

-- a program in which every name is that of a routine that calls itself: `[ F; F(); ];`
abbrev itself : s.Statements
itself = statements (s.Call (codes "f") v.NoArguments ∷ [])

abbrev nested : Program
nested = record {
  width = W16;
  constants = λ name. None;
  routines =
      λ name. Some (record { directive = 1; locals = []; body = itself });
  notes = no_notes;
}

abbrev nested_end : Outcome × Config
nested_end = resume nested (Begins (Blocks itself) ∷ Main ∷ []) (opening W16 [] 999 [] [])

-- 200 calls may be open, and one more is a trap in the routine that calls: two steps for each of
-- the 201
abbrev pub CallsNest : Type 0
CallsNest = ended nested_end ≡ (Halted (Trapped t.Depth 1), [], 597)

-- `32767 + 1`, and `-32768 / -1`
abbrev pub WordsWrap : Type 0
WordsWrap =
    Prints W16 (v.Sum (v.Number 32767) (v.terms ((Add, v.Number 1) ∷ []))) (codes "-32768")
    × Prints W32 (v.Sum (v.Number 32767) (v.terms ((Add, v.Number 1) ∷ []))) (codes "32768")
    × Prints W16 (v.Product (v.Neg (v.Number 32768)) (v.factors ((Div, v.Neg (v.Number 1)) ∷ [])))
    (codes "-32768")
    × Prints W32 (v.Product (v.Neg (v.Number 32768)) (v.factors ((Div, v.Neg (v.Number 1)) ∷ [])))
    (codes "32768")
    × Prints W32 (v.Number 65536) (codes "65536")
    × Prints W32 (v.Sum (v.Number 2147483647) (v.terms ((Add, v.Number 1) ∷ [])))
    (codes "-2147483648")

-- `-7 / 2`, `-7 % 2`, `7 % -2`
abbrev pub DivisionGoesTowardZero : Type 0
DivisionGoesTowardZero =
    Prints W16 (v.Product (v.Neg (v.Number 7)) (v.factors ((Div, v.Number 2) ∷ []))) (codes "-3")
    × Prints W16 (v.Product (v.Neg (v.Number 7)) (v.factors ((Rem, v.Number 2) ∷ []))) (codes "-1")
    × Prints W16 (v.Product (v.Number 7) (v.factors ((Rem, v.Neg (v.Number 2)) ∷ []))) (codes "1")

-- `1 / 0 * F()` doesn't call F
abbrev pub ChainsGoFromTheLeft : Type 0
ChainsGoFromTheLeft = Ends
    (main (s.Print (s.Value (v.Product (v.Number 1)
    (v.factors ((Div, v.Number 0) ∷ (Mul, call (codes "f") []) ∷ []))) ∷ []) ∷ [])
    ∷ routine (codes "f") [] (s.NewLine ∷ []) ∷ []) 9 [] []
    (Halted (Trapped t.Division 0)) [] 8

-- `Array a --> 2; [ Main; a-->2 = F(); ]; [ F; print "f"; ];`: the value comes before the test of
-- the index
abbrev pub IndexIsTestedLast : Type 0
IndexIsTestedLast = Ends
    (d.Array (codes "a") true (k.Number 2 ∷ []) ∷ main
    (s.Assign (s.SetEntry (codes "a") true (v.Number 2) (call (codes "f") [])) ∷ [])
    ∷ routine (codes "f") [] (s.Print (s.Text (codes "f") ∷ []) ∷ []) ∷ []) 9 [] []
    (Halted (Trapped t.Index 1)) (says (codes "f")) 6

-- `if (i == n) x`
abbrev if_i_is : ℕ → Statement → Statement
if_i_is n x = s.If (c.Compare Eq (v.Name (codes "i")) (v.Number n)) (statements (x ∷ []))
    s.NoStatements

-- `for (i = 0 : i < 5 : i++) { if (i == 1) continue; if (i == 3) break; print i; }`
abbrev pub LoopsAreLeft : Type 0
LoopsAreLeft = Ends
    (d.Global (codes "i") None
    ∷ main (s.For (Some (s.Set (codes "i") (v.Number 0)))
    (Some (c.Compare Lt (v.Name (codes "i")) (v.Number 5))) (Some (s.Inc (codes "i")))
    (statements (if_i_is 1 s.Continue ∷ if_i_is 3 s.Break
    ∷ s.Print (s.Value (v.Name (codes "i")) ∷ []) ∷ [])) ∷ []) ∷ []) 99 [] []
    (Halted Quits) (says (codes "02")) 83

-- `for (::) break;`: a step for the statement, one for the absent test, and one for `break`
abbrev pub AbsentTestsTakeAStep : Type 0
AbsentTestsTakeAStep = Ends
    (main (s.For None None None (statements (s.Break ∷ [])) ∷ []) ∷ []) 9 [] []
    (Halted Quits) [] 6

-- `{ i++; if (i == 2) continue; print i; }`
abbrev counting : s.Statements
counting = statements (s.Assign (s.Inc (codes "i")) ∷ if_i_is 2 s.Continue
    ∷ s.Print (s.Value (v.Name (codes "i")) ∷ []) ∷ [])

-- that is the body of `while (i < 2)`, and of `do .. until (i == 2);`: both loops end at their test
abbrev pub ContinueGoesToTheTest : Type 0
ContinueGoesToTheTest =
    Ends (d.Global (codes "i") None
    ∷ main (s.While (c.Compare Lt (v.Name (codes "i")) (v.Number 2)) counting ∷ []) ∷ []) 99 [] []
    (Halted Quits) (says (codes "1")) 89
    × Ends (d.Global (codes "i") None
    ∷ main (s.Do counting (c.Compare Eq (v.Name (codes "i")) (v.Number 2)) ∷ []) ∷ []) 99 [] []
    (Halted Quits) (says (codes "1")) 90

-- `do print 1; until (1 == 1);` does its body once
abbrev pub BodyComesFirst : Type 0
BodyComesFirst = Ends
    (main (s.Do (statements (s.Print (s.Value (v.Number 1) ∷ []) ∷ []))
    (c.Compare Eq (v.Number 1) (v.Number 1)) ∷ []) ∷ []) 99 [] []
    (Halted Quits) (says (codes "1")) 96

-- `switch (k) { 1, 3 to 5: print "a"; default: print "b"; }`
abbrev switched : ℕ → List DirectiveTree
switched n = main (s.Switch (v.Number n)
    (s.MoreCases ((k.Number 1, None) ∷ (k.Number 3, Some (k.Number 5)) ∷ [])
    (statements (s.Print (s.Text (codes "a") ∷ []) ∷ [])) s.NoCases)
    (s.SomeDefault (statements (s.Print (s.Text (codes "b") ∷ []) ∷ []))) ∷ []) ∷ []

abbrev pub OneCaseIsDone : Type 0
OneCaseIsDone =
    Ends (switched 5) 9 [] [] (Halted Quits) (says (codes "a")) 7
    × Ends (switched 2) 9 [] [] (Halted Quits) (says (codes "b")) 7
    × Ends (switched 1) 1 [] [] (Lacking Spent) [] 0

-- `[ Main; print random(6), random(6); ];` with one draw, and a run that goes on with another
abbrev dice : List DirectiveTree
dice = main (s.Print (s.Value (v.Random (v.Number 6)) ∷ s.Value (v.Random (v.Number 6)) ∷ []) ∷ [])
    ∷ []

abbrev pub DrawsAreTaken : Type 0
DrawsAreTaken =
    Ends dice 9 [] (8 ∷ []) (Lacking NeedsDraw) (Draw 8 ∷ says (codes "2")) 8
    × Ends dice 9 [] (8 ∷ 6 ∷ 1 ∷ []) (Halted Quits)
    (Draw 8 ∷ says (codes "2") ++ Draw 6 ∷ says (codes "6")) 8
    × (begun_of (run_of W16 dice no_notes 9 [] (8 ∷ [])).0 ≡ Begins (DrawDue (pos 6))
    ∷ Wants (SaysNumber []) ∷ Begins (Blocks s.NoStatements) ∷ Main ∷ [])

-- `print random(0);` and `print random(-1);`: no draw is taken
abbrev drawn : Expression → List DirectiveTree
drawn x = main (s.Print (s.Value (v.Random x) ∷ []) ∷ []) ∷ []

abbrev pub RandomBelowOneTraps : Type 0
RandomBelowOneTraps =
    Ends (drawn (v.Number 0)) 9 [] (8 ∷ []) (Halted (Trapped t.Random 0)) [] 8
    × Ends (drawn (v.Neg (v.Number 1))) 9 [] (8 ∷ []) (Halted (Trapped t.Random 0)) [] 8

-- `Array t -> 2 0 0 0; Array p -> 1; [ Main; read t p; print t->1, (char) t->2; ];`
abbrev reader : List DirectiveTree
reader = d.Array (codes "t") false (k.Number 2 ∷ k.Number 0 ∷ k.Number 0 ∷ k.Number 0 ∷ [])
    ∷ d.Array (codes "p") false (k.Number 1 ∷ [])
    ∷ main (s.Read (codes "t") (codes "p") ∷ s.Print
    (s.Value (v.Entry (codes "t") false (v.Number 1))
    ∷ s.Char (v.Entry (codes "t") false (v.Number 2)) ∷ []) ∷ []) ∷ []

abbrev pub LinesAreKept : Type 0
LinesAreKept =
    Ends reader 9 [] [] (Lacking NeedsLine) [] 8
    × Ends reader 9 (codes "look" ∷ []) [] (Halted Quits) (Take (codes "look") ∷ says (codes "2l"))
    7

-- `Array t -> 2 0 0; Array p -> 1; [ Main; read t p; ];`: no line is taken
abbrev pub ShortBuffersTrap : Type 0
ShortBuffersTrap = Ends
    (d.Array (codes "t") false (k.Number 2 ∷ k.Number 0 ∷ k.Number 0 ∷ [])
    ∷ d.Array (codes "p") false (k.Number 1 ∷ [])
    ∷ main (s.Read (codes "t") (codes "p") ∷ []) ∷ []) 9 (codes "look" ∷ []) []
    (Halted (Trapped t.Line 2)) [] 8

-- `print a->0, " ", a->1;`
abbrev two_bytes : Statement
two_bytes = s.Print (s.Value (v.Entry (codes "a") false (v.Number 0)) ∷ s.Text (codes " ")
    ∷ s.Value (v.Entry (codes "a") false (v.Number 1)) ∷ [])

-- `a->INDEX = VALUE;`
abbrev store_byte : ℕ → Expression → Statement
store_byte index x = s.Assign (s.SetEntry (codes "a") false (v.Number index) x)

-- `Array a -> 300 (-1); [ Main; print a->0, " ", a->1; ];`, and `Array a -> 2;` whose entries are
-- stored before that
abbrev pub BytesAreLow : Type 0
BytesAreLow =
    Ends (d.Array (codes "a") false (k.Number 300 ∷ k.Minus 1 ∷ []) ∷ main (two_bytes ∷ []) ∷ [])
    9 [] [] (Halted Quits) (says (codes "44 255")) 8
    × Ends (d.Array (codes "a") false (k.Number 2 ∷ [])
    ∷ main (store_byte 0 (v.Number 300) ∷ store_byte 1 (v.Neg (v.Number 1)) ∷ two_bytes ∷ []) ∷ [])
    9 [] [] (Halted Quits) (says (codes "44 255")) 6

-- `print (char) -159;` says `a`, which is 97
abbrev pub CharactersAreLow : Type 0
CharactersAreLow = Ends
    (main (s.Print (s.Char (v.Neg (v.Number 159)) ∷ []) ∷ []) ∷ []) 9 [] []
    (Halted Quits) (says (codes "a")) 8

-- `[ Main; F(); print "a"; ]; [ F; quit; ];`, and a `Main` that is called
abbrev pub QuitEndsTheRun : Type 0
QuitEndsTheRun = Ends
    (main (s.Call (codes "f") v.NoArguments ∷ s.Print (s.Text (codes "a") ∷ []) ∷ [])
    ∷ routine (codes "f") [] (s.Quit ∷ []) ∷ []) 9 [] []
    (Halted Quits) [] 6

-- `[ Main; print F(), G(), H(), I(), J(); ];`, where these end, `return;`, `rtrue;`, `rfalse;` and
-- `return 7;`
abbrev pub RoutinesGiveValues : Type 0
RoutinesGiveValues = Ends
    (main (s.Print (s.Value (call (codes "f") []) ∷ s.Value (call (codes "g") [])
    ∷ s.Value (call (codes "h") []) ∷ s.Value (call (codes "i") []) ∷ s.Value (call (codes "j") [])
    ∷ [])
    ∷ [])
    ∷ routine (codes "f") [] [] ∷ routine (codes "g") [] (s.Return None ∷ [])
    ∷ routine (codes "h") [] (s.Rtrue ∷ []) ∷ routine (codes "i") [] (s.Rfalse ∷ [])
    ∷ routine (codes "j") [] (s.Return (Some (v.Number 7)) ∷ []) ∷ []) 99 [] []
    (Halted Quits) (says (codes "11107")) 89

-- `Global x = 7; [ Main; F(1); print x; ]; [ F x; x = 2; print x; ];`
abbrev pub LocalsHide : Type 0
LocalsHide = Ends
    (d.Global (codes "x") (Some (k.Number 7)) ∷ main
    (s.Call (codes "f") (v.arguments (v.Number 1 ∷ []))
    ∷ s.Print (s.Value (v.Name (codes "x")) ∷ []) ∷ [])
    ∷ routine (codes "f") (codes "x" ∷ [])
    (s.Assign (s.Set (codes "x") (v.Number 2)) ∷ s.Print (s.Value (v.Name (codes "x")) ∷ [])
    ∷ []) ∷ []) 9 [] []
    (Halted Quits) (says (codes "27")) 4

-- a routine that is noted where it is entered, unless its body is empty
abbrev pub RoutinesAreNoted : Type 0
RoutinesAreNoted = noted (run_of W16
    (main (s.Call (codes "f") v.NoArguments ∷ s.Call (codes "g") v.NoArguments
    ∷ s.Call (codes "f") v.NoArguments ∷ [])
    ∷ routine (codes "f") [] (s.Empty ∷ []) ∷ routine (codes "g") [] [] ∷ []) (λ name at. Some at)
    99 [] []).1.past ≡ 1 ∷ 1 ∷ []
