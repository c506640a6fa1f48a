-- The laws of simplified programs.
use Rattle.std.specs.Prelude.{◌≡◌, ℕ, ◌≤◌, true, List, ◌++◌, map, None}
use Rattle.adv_io.specs.Steps.{trace_of}
use Rattle.adv_io.specs.declared.events.Event.{Event}
use Rattle.inform_tree.specs.declared.widths.Width.{Width}
use Rattle.inform_tree.specs.Statements.{NoStatements}
use Rattle.inform_tree.specs.Programs as d
use Rattle.inform_tree.specs.Programs.{DirectiveTree}
use Rattle.inform_tree.specs.Formed.{is_well_formed}
use Rattle.inform_names.specs.Acceptance.{name_fault}
use Rattle.inform_meaning.specs.Worlds.{Config}
use Rattle.inform_meaning.specs.Frames.{Outcome, Spent}
use Rattle.inform_meaning.specs.Runs.{Lacking, stop_of}
use Rattle.inform_meaning.specs.Programs.{no_notes, run_of}
use Rattle.inform_simplify.specs.Redexes.{HasNoRedex}
use Rattle.inform_simplify.specs.Simplifying.{with_body, ProgramShortens}

-- two runs are seen alike and stop alike, their variables and entries are equal, and the new one
-- has at least as many steps left
pub record SameRun (old new : Outcome × Config) : Type 0 where
  pub trace : trace_of new.1.past ≡ trace_of old.1.past
  pub stop : stop_of new.0 ≡ stop_of old.0
  pub globals : new.1.world.globals ≡ old.1.world.globals
  pub arrays : new.1.world.arrays ≡ old.1.world.arrays
  pub steps : old.1.steps ≤ new.1.steps

abbrev pub IsSpent : Outcome × Config → Type 0
IsSpent r = stop_of r.0 ≡ Lacking Spent

-- a run that isn't spent is the same; one that is spent is seen in the first events of the new one
pub record IsShorterRun (old new : Outcome × Config) : Type 0 where
  pub unspent : (IsSpent old → ⊥) → SameRun old new
  pub spent : IsSpent old
      → (events : List Event) × (trace_of new.1.past ≡ trace_of old.1.past ++ events)

-- With the same steps, lines and draws, what a program shortens to runs like it, and at least as
-- far.
abbrev pub RunsShorter : Type 0
RunsShorter = (width : Width) (old new : List DirectiveTree) → ProgramShortens width old new
    → (steps : ℕ) (lines : List (List ℕ)) (draws : List ℕ)
    → IsShorterRun (run_of width old no_notes steps lines draws)
    (run_of width new no_notes steps lines draws)

-- a directive with an empty body in place of its own, if it is a routine
abbrev pub but_for_body : DirectiveTree → DirectiveTree
but_for_body (d.Routine r) = d.Routine (with_body r NoStatements)
but_for_body other = other

-- what stays: being accepted and well formed, and the directives but for the bodies of routines
pub record StaysSound (width : Width) (old new : List DirectiveTree) : Type 0 where
  pub accepted : name_fault width old ≡ None → name_fault width new ≡ None
  pub formed : is_well_formed old ≡ true → is_well_formed new ≡ true
  pub directives : map but_for_body new ≡ map but_for_body old

-- What a program shortens to is accepted and well formed where the program is, and has the same
-- directives, of the same kinds and names, but for the bodies of its routines.
abbrev pub ShortenedStaysSound : Type 0
ShortenedStaysSound = (width : Width) (old new : List DirectiveTree)
    → ProgramShortens width old new → StaysSound width old new

-- What a program shortens to has no redex.
abbrev pub ShortenedHasNoRedex : Type 0
ShortenedHasNoRedex = (width : Width) (old new : List DirectiveTree)
    → ProgramShortens width old new → HasNoRedex width new

-- ---- all of it

-- A program that is simpler than an accepted one: it is accepted, and well formed where that one
-- is; it has the same directives but for the bodies of its routines, and no redex; and with the
-- same steps, lines and draws it runs like it, in at most as many steps.
pub record IsSimpler (width : Width) (old new : List DirectiveTree) : Type 0 where
  pub accepted : name_fault width new ≡ None
  pub formed : is_well_formed old ≡ true → is_well_formed new ≡ true
  pub directives : map but_for_body new ≡ map but_for_body old
  pub reduced : HasNoRedex width new
  pub runs : (steps : ℕ) (lines : List (List ℕ)) (draws : List ℕ)
      → IsShorterRun (run_of width old no_notes steps lines draws)
      (run_of width new no_notes steps lines draws)

-- What an accepted program shortens to is simpler.
abbrev pub ShortenedIsSimpler : Type 0
ShortenedIsSimpler = (width : Width) (old new : List DirectiveTree) → name_fault width old ≡ None
    → ProgramShortens width old new → IsSimpler width old new
