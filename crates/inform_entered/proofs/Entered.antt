-- The routines that a run enters, told by those that are open after each step, are those that it
-- notes.
use Rattle.std.proofs.Common.{◌≡◌, ◌∙◌, arith, ℕ, zero, suc, ◌+◌, ◌<◌, ◌≤◌, nat_lt, true, false, List, [], ◌∷◌, ◌++◌, codes, Option, Some, None, refl, sym, ap, subst, append-nil}
use Rattle.std.specs.Prelude.{⊤, slice_get}
use Rattle.std.specs.Option.{option_and_then}
use Rattle.std.specs.List.{filter_map}
use Rattle.std.proofs.lemmas.List.Elements.{filter_map-append}
use Rattle.adv_io.specs.Steps.{noted}
use Rattle.inform_tree.specs.declared.widths.Width.{Width}
use Rattle.inform_tree.specs.Programs as d
use Rattle.inform_tree.specs.Programs.{DirectiveTree}
use Rattle.inform_tree.specs.Statements.{Statements}
use Rattle.inform_names.specs.declared.meanings.Meaning.{Meaning}
use Rattle.inform_names.specs.Meanings.{meanings, name_of}
use Rattle.inform_names.specs.Laws.{MeaningsAreOfDirectives}
use Rattle.inform_meaning.specs.Worlds.{Routine, Program, Config}
use Rattle.inform_meaning.specs.Frames.{Frame, Begins, Wants, Decides, Looping, Calling, Main, Over, Outcome, Value, Truth, Normal, Returns, Breaks, Continues, Halts, Waits, bind, on_normal, on_main}
use Rattle.inform_meaning.specs.Runs.{CALL_LIMIT, call_at, resume_at, resume, begun_of, main_begun}
use Rattle.inform_meaning.specs.Programs.{number_of, routine_in, routine_named, no_notes, program_in, body_of, opening, run_of}
use Rattle.inform_meaning.proofs.GoingRuns.{call_at-going}
use Rattle.inform_logic.specs.Laws.{SameButNotes, NotesCountForNothing}
use Rattle.inform_entered.specs.Entered.{calls_open, open_routines, still_open, newly_entered, entered}
use Rattle.inform_entered.specs.Laws.{number_at, EnteredAreNoted}
use Rattle.inform_entered.proofs.OneStepMore.{more, calls_of, IsLive, IsDone, Next, rests, goes, opens, Steady, Follows, stays, bind-steady}
use Rattle.inform_entered.proofs.OneStepMoreTrees.{exec_all-steady, call_at-called}

-- ---- what is newly entered

-- the open routines are `Main` and the open calls, at most
frames_few : (fs : List Frame) → open_routines fs ≤ calls_open fs + 1
frames_few [] = omega arith
frames_few (Begins x ∷ fs) = omega arith
frames_few (Wants x ∷ fs) = omega arith
frames_few (Decides x ∷ fs) = omega arith
frames_few (Looping x ∷ fs) = omega arith
frames_few (Calling x ∷ fs) = omega arith
frames_few (Main ∷ fs) = omega arith
frames_few (Over halt ∷ fs) = omega arith

open_few : (e : Outcome) → open_routines (begun_of e) ≤ calls_of e + 1
open_few Normal = omega arith
open_few (Value v) = omega arith
open_few (Truth b) = omega arith
open_few (Returns v) = omega arith
open_few Breaks = omega arith
open_few Continues = omega arith
open_few (Halts halt) = omega arith
open_few (Waits lack fs) = frames_few fs

-- and just these where something has begun
live_open : (fs : List Frame) → IsLive fs → open_routines fs ≡ calls_open fs + 1
live_open [] live = absurd live
live_open (Begins x ∷ fs) live = refl
live_open (Wants x ∷ fs) live = refl
live_open (Decides x ∷ fs) live = refl
live_open (Looping x ∷ fs) live = refl
live_open (Calling x ∷ fs) live = refl
live_open (Main ∷ fs) live = refl
live_open (Over halt ∷ fs) live = absurd live

none_newly : (before now : Outcome × Config) → still_open now ≤ still_open before
    → newly_entered before now ≡ []
none_newly before now few = rw no where
  no : nat_lt (still_open before) (still_open now) ≡ false
  no = grind (arith, few)

one_newly : (before now : Outcome × Config) → still_open before < still_open now
    → newly_entered before now ≡ now.1.world.scope.directive ∷ []
one_newly before now less = rw yes where
  yes : nat_lt (still_open before) (still_open now) ≡ true
  yes = grind (arith, less)

module _ (number : ℕ → Option ℕ) where
  nothing_more : (xs ys : List ℕ) (ds : List ℕ) → ys ≡ xs → ds ≡ []
      → ys ≡ xs ++ filter_map number ds
  nothing_more xs ys ds same none = same ∙ sym (ap (λ ds. xs ++ filter_map number ds) none
      ∙ append-nil xs)

  -- what one step more notes is the number of what it newly enters
  newly_noted : {s : ℕ} (r r' : Outcome × Config) → Next number s r r'
      → noted r'.1.past ≡ noted r.1.past ++ filter_map number (newly_entered r r')
  newly_noted r r' (rests e c few) = nothing_more (noted c.past) (noted c.past)
      (newly_entered (e, c) (e, more c)) refl (none_newly (e, c) (e, more c) (omega arith))
  newly_noted r r' (goes fs c now live at) = let begun = live_open fs live in
      let few = open_few now.0 in
      nothing_more (noted c.past) (noted now.1.past) (newly_entered r now) at.same
      (none_newly r now (omega (arith, begun, few, at.few)))
  newly_noted r r' (opens fs gs c e live none calls same) = let begun = frames_few fs in
      let now = live_open gs live in
      same ∙ ap (λ ds. noted c.past ++ filter_map number ds)
      (sym (one_newly r r' (omega (arith, begun, now, calls))))

-- ---- runs

module _ {number : ℕ → Option ℕ} {b : ℕ} (p : Program)
    (notes : (name : List ℕ) (r : Routine) → p.routines name ≡ Some r
    → p.notes name r.directive ≡ number r.directive) where
  -- after a body that is done, `Main` enters no routine, with one step more or without
  main-on : (e : Outcome) → IsDone e
      → Steady number 0 b (resume_at p CALL_LIMIT (Main ∷ []) e)
  unfolding resume_at bind on_main
  main-on Normal over = stays refl
  main-on (Value v) over = stays refl
  main-on (Truth a) over = stays refl
  main-on (Returns v) over = stays refl
  main-on Breaks over = stays refl
  main-on Continues over = stays refl
  main-on (Halts halt) over = stays refl
  main-on (Waits lack fs) over = absurd over

  main-follows : Follows number b (Main ∷ []) (resume_at p CALL_LIMIT (Main ∷ []))
  unfolding resume_at bind on_main
  main-follows = record { waits = λ lack fs c. refl; goes_on = main-on }

  run-steady : (body : Statements) → Steady number 0 b (resume p (main_begun body))
  unfolding resume_at on_normal
  run-steady body = bind-steady (exec_all-steady p (call_at p CALL_LIMIT)
      (call_at-going p CALL_LIMIT) (call_at-called p notes CALL_LIMIT) body) main-follows

-- ---- the numbers of routines

module _ (of_directives : MeaningsAreOfDirectives) (width : Width) (ds : List DirectiveTree)
    (number : List ℕ → Option ℕ) where
  abbrev Absent : Option Routine → Type 0
  Absent None = ⊤
  Absent (Some r) = ⊥

  -- the directive of a routine, or this one
  abbrev place : ℕ → Option Routine → ℕ
  place at None = at
  place at (Some r) = r.directive

  at_place : (at : ℕ) (x : DirectiveTree) → place at (routine_in at x) ≡ at
  at_place at (d.Constant name value) = refl
  at_place at (d.Global name value) = refl
  at_place at (d.Array name words entries) = refl
  at_place at (d.Routine r) = refl

  -- a routine has the number of its name
  number_found : (name : List ℕ) (r : Routine) → routine_named width ds name ≡ Some r
      → number name ≡ number_at number ds r.directive
  number_found name r = by (meanings width ds name) refl where
    by : (o : Option Meaning) → meanings width ds name ≡ o
        → option_and_then (routine_in (number_of o))
        (option_and_then (λ m. slice_get ds m.at) o) ≡ Some r
        → number name ≡ number_at number ds r.directive
    by None is found = absurd (subst Absent found tt)
    by (Some m) is found = let law = of_directives width ds name m is in
        let here : routine_in m.at law.0 ≡ Some r =
        ap (option_and_then (routine_in m.at)) (sym law.1.0) ∙ found in
        let directive : m.at ≡ r.directive =
        sym (at_place m.at law.0) ∙ ap (place m.at) here in
        sym (ap (λ o. option_and_then (λ x. number (name_of x)) o)
        (ap (slice_get ds) (sym directive) ∙ law.1.0) ∙ ap number law.1.1)

  -- ---- all steps

  module _ (notes_law : NotesCountForNothing) (lines : List (List ℕ)) (draws : List ℕ) where
    abbrev run : ℕ → Outcome × Config
    run n = run_of width ds (λ name at. number name) n lines draws

    abbrev plain : ℕ → Outcome × Config
    plain n = run_of width ds no_notes n lines draws

    steady : (b : ℕ) → Steady (number_at number ds) 0 b
        (resume (program_in width ds (λ name at. number name))
        (main_begun (body_of (routine_named width ds (codes "main")))))
    steady b = run-steady (program_in width ds (λ name at. number name))
        (λ name r found. number_found name r found)
        (body_of (routine_named width ds (codes "main")))

    alike : (n : ℕ) → SameButNotes (run n) (plain n)
    alike n = notes_law width ds (λ name at. number name) no_notes n lines draws

    -- what is noted hides nothing of what is newly entered
    newly_plain : (n : ℕ) → newly_entered (plain n) (plain (suc n))
        ≡ newly_entered (run n) (run (suc n))
    newly_plain n = ap (λ r. newly_entered r (plain (suc n))) (alike n).is
        ∙ ap (λ r. newly_entered (run n) r) (alike (suc n)).is

    all_noted : (n : ℕ) → noted (run n).1.past
        ≡ filter_map (number_at number ds) (entered width ds n lines draws)
    all_noted zero = ((steady 0).still (opening width ds 0 lines draws) refl).same
    all_noted (suc n) = newly_noted (number_at number ds) (run n) (run (suc n))
        ((steady (suc n)).moves (opening width ds n lines draws) (omega arith))
        ∙ ap (λ xs. xs ++ filter_map (number_at number ds) (newly_entered (run n) (run (suc n))))
        (all_noted n)
        ∙ ap (λ xs. filter_map (number_at number ds) (entered width ds n lines draws)
        ++ filter_map (number_at number ds) xs) (sym (newly_plain n))
        ∙ sym (filter_map-append (number_at number ds) (entered width ds n lines draws)
        (newly_entered (plain n) (plain (suc n))))

pub entered_are_noted : MeaningsAreOfDirectives → NotesCountForNothing → EnteredAreNoted
entered_are_noted of_directives notes_law width ds number steps lines draws =
    all_noted of_directives width ds number notes_law lines draws steps
