-- The laws of runs that are made in pieces.
use Rattle.std.specs.Prelude.{ℕ, suc, ◌≡◌, ◌+◌, ◌≤◌, List, [], ◌++◌, codes}
use Rattle.adv_io.specs.Steps.{Step}
use Rattle.inform_tree.specs.declared.widths.Width.{Width}
use Rattle.inform_tree.specs.Programs.{DirectiveTree}
use Rattle.inform_meaning.specs.Worlds.{Program, Config}
use Rattle.inform_meaning.specs.Frames.{Frame, Lack, NeedsLine, NeedsDraw, Waits}
use Rattle.inform_meaning.specs.Runs.{resume, begun_of, main_begun}
use Rattle.inform_meaning.specs.Programs.{no_notes, program_in, routine_named, body_of, opening}
use Rattle.inform_meaning.specs.Laws.{with_more}
use Rattle.inform_steps.specs.Standing.{WaitsAt, CallIsDue}
use Rattle.inform_entered.specs.Entered.{newly_entered, entered}
use Rattle.inform_steps.specs.Pieces.{after_past, run_after, standing, IsSpent, afresh, next_piece, Joins, entered_in}

-- What happened before a run makes no difference to it.
abbrev pub PastCountsForNothing : Type 0
PastCountsForNothing = (p : Program) (frames : List Frame) (past : List Step) (c : Config)
    → resume p frames (after_past past c) ≡ run_after past (resume p frames c)

-- A run that waits needs next what it lacks, and none is left of that.
abbrev pub RunsStand : Type 0
RunsStand = (p : Program) (frames : List Frame) (c : Config)
    → WaitsAt (resume p frames c).0 (resume p frames c).1

-- it lacks a line or a draw
abbrev pub LacksMore : Lack → Type 0
LacksMore NeedsLine = Unit
LacksMore NeedsDraw = Unit
LacksMore other = ⊥

-- A run that waits for a line or a draw still waits for it, however many steps it is given.
abbrev pub WaitsStay : Type 0
WaitsStay = (p : Program) (frames begun : List Frame) (c c' : Config) (lack : Lack) (more : ℕ)
    → resume p frames c ≡ (Waits lack begun, c') → LacksMore lack
    → resume p begun (with_more more [] [] c') ≡ (Waits lack begun, with_more more [] [] c')

-- ---- pieces

-- A run of so many steps and some more is the piece of so many steps, and after it the piece with
-- the others that goes on from where the first stopped.
abbrev pub PiecesJoin : Type 0
PiecesJoin = (p : Program) (frames : List Frame) (c : Config) (first more : ℕ)
    → Joins (standing p frames c first) (next_piece p (standing p frames c first) more)
    (standing p frames c (first + more))

-- A spent run has used all of its steps, and takes a step of those that it is given.
abbrev pub SpentGoesOn : Type 0
SpentGoesOn = (p : Program) (frames : List Frame) (c : Config) (n more : ℕ)
    → IsSpent (standing p frames c n)
    → ((standing p frames c n).1.steps ≡ 0)
    × ((next_piece p (standing p frames c n) (more + 1)).1.steps ≤ more)

-- A run that stopped for anything else does nothing with more steps: they are left over.
abbrev pub StoppedStays : Type 0
StoppedStays = (p : Program) (frames : List Frame) (c : Config) (n more : ℕ)
    → (IsSpent (standing p frames c n) → ⊥)
    → standing p frames c (n + more)
    ≡ (
      (standing p frames c n).0,
      record (standing p frames c n).1 { steps = (standing p frames c n).1.steps + more },
    )

-- ---- entered routines

-- What a run enters is what its first piece enters, and then what the next one does.
abbrev pub EnteredJoin : Type 0
EnteredJoin = (p : Program) (frames : List Frame) (c : Config) (first more : ℕ)
    → entered_in p frames c (first + more)
    ≡ entered_in p frames c first
    ++ entered_in p (begun_of (standing p frames c first).0) (afresh (standing p frames c first).1)
    more

-- Where a run stopped for anything but steps, more steps enter nothing.
abbrev pub StoppedEntersNothing : Type 0
StoppedEntersNothing = (p : Program) (frames : List Frame) (c : Config) (n more : ℕ)
    → (IsSpent (standing p frames c n) → ⊥)
    → entered_in p frames c (n + more) ≡ entered_in p frames c n

-- A step that is no call enters nothing.
abbrev pub OnlyCallsEnter : Type 0
OnlyCallsEnter = (p : Program) (frames : List Frame) (c : Config) (n : ℕ)
    → (CallIsDue (begun_of (standing p frames c n).0) → ⊥)
    → newly_entered (standing p frames c n) (standing p frames c (suc n)) ≡ []

-- What a program enters from its beginning is what its run does that goes on from there.
abbrev pub EnteredFromTheBeginning : Type 0
EnteredFromTheBeginning = (width : Width) (ds : List DirectiveTree) (steps n : ℕ)
    (lines : List (List ℕ)) (draws : List ℕ)
    → entered width ds n lines draws
    ≡ entered_in (program_in width ds no_notes)
    (main_begun (body_of (routine_named width ds (codes "main"))))
    (opening width ds steps lines draws) n
