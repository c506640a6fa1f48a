-- Calls and whole runs of a simplified program. Its names mean the same, and it opens alike.
use Rattle.std.proofs.Common.{◌≡◌, ◌∙◌, arith, ℕ, zero, suc, ◌+◌, ℤ, List, [], ◌∷◌, Option, Some, None, codes, refl, sym, ap, subst, append-nil}
use Rattle.std.specs.Prelude.{slice_get}
use Rattle.std.specs.Option.{option_and_then}
use Rattle.std.proofs.Math.Path.{fun_ext}
use Rattle.std.proofs.lemmas.List.Elements.{filter_map-append}
use Rattle.adv_io.specs.Steps.{event_of, trace_of}
use Rattle.inform_tree.specs.declared.widths.Width.{Width}
use Rattle.inform_tree.specs.Statements.{Statements}
use Rattle.inform_tree.specs.Programs.{DirectiveTree}
use Rattle.inform_names.specs.declared.meanings.Meaning as m
use Rattle.inform_names.specs.Meanings.{Known, with_directive, meanings_from, meanings, nothing_known, word_of_meaning}
use Rattle.inform_meaning.specs.declared.traps.Trap.TheVariants as t
use Rattle.inform_meaning.specs.Worlds.{Routine, Program, World, Config}
use Rattle.inform_meaning.specs.Frames.{Main, Outcome, bind, on_normal}
use Rattle.inform_meaning.specs.Meaning.{Calls}
use Rattle.inform_meaning.specs.Runs.{entered, enter, call_at, CALL_LIMIT, resume_at, resume, main_begun}
use Rattle.inform_meaning.specs.Programs.{routine_in, number_of, routine_named, no_notes, program_in, global_in, array_in, body_of, main_scope, opening, run_of}
use Rattle.inform_meaning.proofs.GoingRuns.{call_at-going}
use Rattle.inform_simplify.specs.Simplifying.{Shortens, nothing, DirectiveShortens, constant, global, array, routine, ProgramShortens, no_directives, each_directive}
use Rattle.inform_simplify.specs.Laws.{SameRun, IsShorterRun, RunsShorter}
use Rattle.inform_simplify.proofs.Fewer.{plus, Same, equal, waiting, Ends, alike, spent, By, Fewer, Any, Follows, bind-fewer, on_return-fewer, on_main-fewer, trap-fewer}
use Rattle.inform_simplify.proofs.FewerTrees.{FewerCalls, unnoted}
use Rattle.inform_simplify.proofs.Leaving.{LeftCalls, call_at-left}
use Rattle.inform_simplify.proofs.Shortening.{shortens-fewer}

-- ---- calls and runs

-- neither is a routine, or the new one has another body
data RoutineShortens (width : Width) : Option Routine → Option Routine → Type 0 where
  neither : RoutineShortens width None None
  both : (r : Routine) (body : Statements) → Shortens width r.body body
      → RoutineShortens width (Some r)
      (Some (record { directive = r.directive; locals = r.locals; body = body }))

module _ (width : Width) (constants : List ℕ → Option ℤ)
    (routines routines' : List ℕ → Option Routine)
    (shorter : (name : List ℕ) → RoutineShortens width (routines name) (routines' name))
  where
    abbrev old : Program
    old = unnoted width constants routines

    abbrev new : Program
    new = unnoted width constants routines'

    enter-by : {b : ℕ} (call call' : Calls) → FewerCalls b call call' → LeftCalls call
        → (name : List ℕ) {o o' : Option Routine} → RoutineShortens width o o' → (values : List ℤ)
        → By b (enter old call name o values) (enter new call' name o' values)
    enter-by call call' hc left name neither values c k few = alike _ _ c k (omega arith) (equal _)
    enter-by call call' hc left name (both r body h) values c k few =
        (bind-fewer (shortens-fewer width constants routines routines' call call' hc left h)
        (on_return-fewer c.world.scope)).by (entered old name r values c) k few

    call_at-fewer : {b : ℕ} (n : ℕ) → FewerCalls b (call_at old n) (call_at new n)
    unfolding call_at
    call_at-fewer zero name values = trap-fewer t.Depth
    call_at-fewer (suc n) name values = record {
      before = call_at-going old (suc n) name values;
      after = call_at-going new (suc n) name values;
      by = enter-by (call_at old n) (call_at new n) (call_at-fewer n) (call_at-left old n) name
          (shorter name) values;
    }

    main-follows : {b : ℕ} → Follows Any b (resume_at old CALL_LIMIT (Main ∷ []))
        (resume_at new CALL_LIMIT (Main ∷ []))
    unfolding resume_at bind
    main-follows = on_main-fewer

    run-fewer : {b : ℕ} {body body' : Statements} → Shortens width body body'
        → Fewer b (resume old (main_begun body)) (resume new (main_begun body'))
    unfolding resume_at on_normal
    run-fewer h = bind-fewer (shortens-fewer width constants routines routines'
        (call_at old CALL_LIMIT) (call_at new CALL_LIMIT) (call_at-fewer CALL_LIMIT)
        (call_at-left old CALL_LIMIT) h) main-follows

-- ---- names

data DirectivesAt (width : Width) : Option DirectiveTree → Option DirectiveTree → Type 0 where
  absent : DirectivesAt width None None
  there : (x x' : DirectiveTree) → DirectiveShortens width x x'
      → DirectivesAt width (Some x) (Some x')

module _ {width : Width} where
  at_number : {xs xs' : List DirectiveTree} → ProgramShortens width xs xs' → (n : ℕ)
      → DirectivesAt width (slice_get xs n) (slice_get xs' n)
  at_number no_directives n = absent
  at_number (each_directive x x' xs xs' h k) zero = there x x' h
  at_number (each_directive x x' xs xs' h k) (suc n) = at_number k n

  same_directive : (known : Known) (at : ℕ) {x x' : DirectiveTree} → DirectiveShortens width x x'
      → with_directive width known at x' ≡ with_directive width known at x
  same_directive known at (constant name value) = refl
  same_directive known at (global name value) = refl
  same_directive known at (array name words entries) = refl
  same_directive known at (routine r body h) = refl

  -- a name means the same in both programs
  same_names : (known : Known) (at : ℕ) {xs xs' : List DirectiveTree}
      → ProgramShortens width xs xs'
      → meanings_from width known at xs' ≡ meanings_from width known at xs
  same_names known at no_directives = refl
  same_names known at (each_directive x x' xs xs' h k) =
      ap (λ known. meanings_from width known (at + 1) xs') (same_directive known at h)
      ∙ same_names (with_directive width known at x) (at + 1) k

  -- ---- what stands at a name

  as_routine : (at : ℕ) {o o' : Option DirectiveTree} → DirectivesAt width o o'
      → RoutineShortens width (option_and_then (routine_in at) o)
      (option_and_then (routine_in at) o')
  as_routine at absent = neither
  as_routine at (there _ _ (constant name value)) = neither
  as_routine at (there _ _ (global name value)) = neither
  as_routine at (there _ _ (array name words entries)) = neither
  as_routine at (there _ _ (routine r body h)) =
      both (record { directive = at; locals = r.locals; body = r.body }) body h

  as_global : (known : Known) {o o' : Option DirectiveTree} → DirectivesAt width o o'
      → option_and_then (global_in width known) o' ≡ option_and_then (global_in width known) o
  as_global known absent = refl
  as_global known (there _ _ (constant name value)) = refl
  as_global known (there _ _ (global name value)) = refl
  as_global known (there _ _ (array name words entries)) = refl
  as_global known (there _ _ (routine r body h)) = refl

  as_array : (known : Known) {o o' : Option DirectiveTree} → DirectivesAt width o o'
      → option_and_then (array_in width known) o' ≡ option_and_then (array_in width known) o
  as_array known absent = refl
  as_array known (there _ _ (constant name value)) = refl
  as_array known (there _ _ (global name value)) = refl
  as_array known (there _ _ (array name words entries)) = refl
  as_array known (there _ _ (routine r body h)) = refl

  same_scope : {o o' : Option Routine} → RoutineShortens width o o'
      → main_scope o' ≡ main_scope o
  same_scope neither = refl
  same_scope (both r body h) = refl

  bodies : {o o' : Option Routine} → RoutineShortens width o o'
      → Shortens width (body_of o) (body_of o')
  bodies neither = nothing
  bodies (both r body h) = h

-- ---- whole programs

module _ (width : Width) (xs xs' : List DirectiveTree) (h : ProgramShortens width xs xs') where
  -- the directive that a name means, where these names are known
  abbrev meant : Known → List DirectiveTree → List ℕ → Option DirectiveTree
  meant known ds name = option_and_then (λ m. slice_get ds m.at) (known name)

  meant_both : (o : Option m.Meaning)
      → DirectivesAt width (option_and_then (λ m. slice_get xs m.at) o)
      (option_and_then (λ m. slice_get xs' m.at) o)
  meant_both None = absent
  meant_both (Some m) = at_number h m.at

  pub same_meanings : meanings width xs' ≡ meanings width xs
  same_meanings = same_names nothing_known 0 h

  shorter_routines : (name : List ℕ)
      → RoutineShortens width (routine_named width xs name) (routine_named width xs' name)
  shorter_routines name = subst (λ known. RoutineShortens width (routine_named width xs name)
      (option_and_then (routine_in (number_of (known name))) (meant known xs' name)))
      (sym same_meanings)
      (as_routine (number_of (meanings width xs name)) (meant_both (meanings width xs name)))

  abbrev world_by : Known → List DirectiveTree → Option Routine → World
  world_by known ds main = record {
    globals = λ name. option_and_then (global_in width known) (meant known ds name);
    arrays = λ name. option_and_then (array_in width known) (meant known ds name);
    scope = main_scope main;
  }

  abbrev main : List DirectiveTree → Option Routine
  main ds = routine_named width ds (codes "main")

  -- it opens with the same values and entries
  same_world : world_by (meanings width xs') xs' (main xs')
      ≡ world_by (meanings width xs) xs (main xs)
  same_world = let known = meanings width xs in
      ap (λ known. world_by known xs' (main xs')) same_meanings
      ∙ ap (λ globals. record (world_by known xs' (main xs')) { globals = globals })
      (fun_ext (λ name. as_global known (meant_both (known name))))
      ∙ ap (λ arrays. record (world_by known xs (main xs')) { arrays = arrays })
      (fun_ext (λ name. as_array known (meant_both (known name))))
      ∙ ap (λ scope. record (world_by known xs (main xs)) { scope = scope })
      (same_scope (shorter_routines (codes "main")))

  abbrev shortened : Program
  shortened = unnoted width (λ name. word_of_meaning (meanings width xs name))
      (routine_named width xs')

  same_program : program_in width xs' no_notes ≡ shortened
  same_program = ap (λ known. unnoted width (λ name. word_of_meaning (known name))
      (routine_named width xs')) same_meanings

  module _ (steps : ℕ) (lines : List (List ℕ)) (draws : List ℕ) where
    same_opening : plus 0 (opening width xs steps lines draws) ≡ opening width xs' steps lines draws
    same_opening = ap (λ n. record (opening width xs steps lines draws) { steps = n }) none_more
        ∙ ap (λ w. record (opening width xs steps lines draws) { world = w }) (sym same_world)
      where
        none_more : steps + 0 ≡ steps
        none_more = omega arith

    -- from the same opening, with no step more
    runs_alike : Ends 0 (run_of width xs no_notes steps lines draws)
        (run_of width xs' no_notes steps lines draws)
    runs_alike = subst (λ p. Ends 0 (run_of width xs no_notes steps lines draws)
        (resume p (main_begun (body_of (main xs'))) (opening width xs' steps lines draws)))
        (sym same_program)
        (subst (λ c. Ends 0 (run_of width xs no_notes steps lines draws)
        (resume shortened (main_begun (body_of (main xs'))) c)) same_opening
        ((run-fewer width (λ name. word_of_meaning (meanings width xs name))
        (routine_named width xs) (routine_named width xs') shorter_routines {b = steps}
        (bodies (shorter_routines (codes "main")))).by (opening width xs steps lines draws) 0
        (omega arith)))

-- ---- the law

-- the same outcome but for what has begun is the same stop
same_stop : (e e' : Outcome) (c : Config) (j : ℕ) → Same e e' → SameRun (e, c) (e', plus j c)
same_stop e e' c j (equal _) = record {
  trace = refl;
  stop = refl;
  globals = refl;
  arrays = refl;
  steps = omega arith;
}
same_stop e e' c j (waiting lack fs gs) = record {
  trace = refl;
  stop = refl;
  globals = refl;
  arrays = refl;
  steps = omega arith;
}

shorter_run : {k : ℕ} {r r' : Outcome × Config} → Ends k r r' → IsShorterRun r r'
shorter_run (alike e e' c j less same) = record {
  unspent = λ unspent. same_stop e e' c j same;
  spent = λ spent. ([], sym (append-nil (trace_of c.past)));
}
shorter_run (spent fs c r events is) = record {
  unspent = λ unspent. absurd (unspent refl);
  spent = λ spent. (trace_of events, ap trace_of is ∙ filter_map-append event_of c.past events);
}

pub runs_shorter : RunsShorter
runs_shorter width old new h steps lines draws =
    shorter_run (runs_alike width old new h steps lines draws)
