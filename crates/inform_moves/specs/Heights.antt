-- How many frames may stand in the place of one, itself among them, inside the routine that runs.
use Rattle.std.specs.Prelude.{ℕ, ◌+◌, ◌*◌, ◌≤◌, max, List, [], ◌∷◌, length, ⊤}
use Rattle.inform_tree.specs.Depths.{expression_depth, arguments_depth, terms_depth, factors_depth, condition_depth, conditions_depth, assignment_depth, items_depth, statement_depth, statements_depth, cases_depth, default_depth, optional_depth}
use Rattle.inform_meaning.specs.Frames as f
use Rattle.inform_meaning.specs.Frames.{Loop, Begin, Want, Decide, Frame, Begins, Wants, Decides, Looping, Calling, Main, Over}

-- a loop: its test and what waits for it, its body and the loop, its change and the next turn
abbrev pub loop_height : Loop → ℕ
loop_height l = max (optional_depth condition_depth l.test + 1)
    (max (2 * statements_depth l.body + 2) (optional_depth assignment_depth l.change + 2))

abbrev pub begin_height : Begin → ℕ
begin_height (f.Evals x) = expression_depth x
begin_height (f.CallDue name values) = 1
begin_height (f.DrawDue n) = 1
begin_height (f.Tests x) = condition_depth x
begin_height (f.Alters x) = assignment_depth x + 1
begin_height (f.Due x) = 2 * statement_depth x
begin_height (f.Blocks xs) = 2 * statements_depth xs + 1
begin_height (f.Prints xs) = items_depth xs + 1
begin_height (f.LineDue name) = 1
begin_height (f.TurnDue l) = loop_height l

abbrev pub want_height : Want → ℕ
want_height (f.IndexOf name) = 1
want_height (f.Args name values xs) = arguments_depth xs + 1
want_height f.RangeOf = 1
want_height f.Negates = 1
want_height (f.SumFrom xs) = terms_depth xs + 1
want_height (f.SumOnto op a xs) = terms_depth xs + 1
want_height (f.ProductFrom xs) = factors_depth xs + 1
want_height (f.ProductOnto op a xs) = factors_depth xs + 1
want_height (f.LeftOf relation y) = expression_depth y + 1
want_height (f.RightOf relation a) = 1
want_height f.IsNonzero = 1
want_height (f.Sets name) = 1
want_height (f.PlaceOf name words y) = expression_depth y + 1
want_height (f.Stores name words i) = 1
want_height f.Forgets = 1
want_height (f.Picks xs rest) = max (2 * cases_depth xs + 1) (2 * default_depth rest + 1)
want_height f.Gives = 1
want_height (f.SaysNumber xs) = items_depth xs + 1
want_height (f.SaysChar xs) = items_depth xs + 1

abbrev pub decide_height : Decide → ℕ
decide_height (f.AllOf xs) = conditions_depth xs + 1
decide_height (f.AnyOf xs) = conditions_depth xs + 1
decide_height f.Flips = 1
decide_height (f.Branches body other) =
    max (2 * statements_depth body + 1) (2 * statements_depth other + 1)
decide_height (f.Testing l) = loop_height l

abbrev pub height : Frame → ℕ
height (Begins x) = begin_height x
height (Wants x) = want_height x
height (Decides x) = decide_height x
height (Looping l) = loop_height l
height (Calling scope) = 1
height Main = 1
height (Over halt) = 1

-- no routine waits for the end of another one in this frame
abbrev pub IsPlain : Frame → Type 0
IsPlain (Calling scope) = ⊥
IsPlain x = ⊤

-- these frames, and all that may stand in their places, keep within so many
abbrev pub Within : ℕ → List Frame → Type 0
Within most [] = ⊤
Within most (x ∷ xs) = (height x + length xs ≤ most) × IsPlain x × Within most xs

-- ---- a whole run

-- how many frames a routine of depth 64 needs, with the one that waits for its end
abbrev pub ROUTINE_FRAMES : ℕ
ROUTINE_FRAMES = 130

-- how many frames stand of the routine that runs
abbrev pub standing : List Frame → ℕ
standing [] = 0
standing (Calling scope ∷ xs) = 1
standing (x ∷ xs) = standing xs + 1

-- each routine keeps within its frames
abbrev pub Fits : List Frame → Type 0
Fits [] = ⊤
Fits (x ∷ xs) = (height x + standing xs ≤ ROUTINE_FRAMES) × Fits xs

-- how many calls are open
abbrev pub calls_open : List Frame → ℕ
calls_open [] = 0
calls_open (Calling scope ∷ xs) = calls_open xs + 1
calls_open (x ∷ xs) = calls_open xs
