-- What a run of a machine leaves, as what the program leaves.
use Rattle.std.proofs.Common.{◌≡◌, ◌∙◌, ℕ, zero, suc, ◌+◌, ◌<◌, ◌≤◌, List, [], ◌∷◌, ◌++◌, length, Option, Some, None, IfSome, refl, sym, ap, arith, length-append}
use Rattle.adv_draws.specs.Supply.{Supply, supplied}
use Rattle.adv_io.specs.History.{grown, shown, draws_taken}
use Rattle.adv_io.specs.Steps.{shown_of, trace_of}
use Rattle.adv_io.specs.Console.{ConsoleView}
use Rattle.inform_meaning.specs.Worlds.{Program, World, Config}
use Rattle.inform_meaning.specs.Frames as f
use Rattle.inform_meaning.specs.Frames.{Begins, Outcome, Value, Truth, Normal, Returns, Breaks, Continues, Halts, Waits}
use Rattle.inform_meaning.specs.Runs as m
use Rattle.inform_meaning.specs.Runs.{Lacking, stop_of, begun_of}
use Rattle.inform_meaning.specs.Laws.{RunsGo}
use Rattle.inform_entered.specs.Entered.{newly_entered}
use Rattle.inform_steps.specs.Standing.{CallIsDue}
use Rattle.inform_steps.specs.Pieces.{standing, entered_in}
use Rattle.inform_steps.specs.Laws.{OnlyCallsEnter}
use Rattle.inform_worlds.specs.Views.{world_of}
use Rattle.inform_frames.specs.Stacks.{stack_of}
use Rattle.inform_interpreter.specs.Leading.{config_at, MayBeLeft, IsQuiet}
use Rattle.inform_interpreter.specs.Interpreters.{program_of, place_of}
use Rattle.inform_run.specs.declared.stops.Stop.{Stop}
use Rattle.inform_run.specs.declared.stops.Stop.TheVariants as s
use Rattle.inform_run.specs.declared.machines.Machine.{Machine}
use Rattle.inform_run.specs.Stops.{stop_seen}
use Rattle.inform_run.specs.Machines.{going, StopsAt}

-- where something is known, what holds of each such thing
pub if-known : {X : Type 0} {P : X → Type 0} (o : Option X) → ((x : X) → o ≡ Some x → P x) → IfSome o P
if-known None h = tt
if-known (Some x) h = h x refl

-- ---- steps that may be left

spent-stop : (stop : Stop) → stop_seen stop ≡ Lacking f.Spent → stop ≡ s.Spent
spent-stop s.Quit is = absurd cc
spent-stop s.NeedsLine is = absurd cc
spent-stop s.NeedsDraw is = absurd cc
spent-stop (s.Trap kind directive) is = absurd cc
spent-stop s.Spent is = refl

none-left : (n : ℕ) → (0 < n → ⊥) → n ≡ 0
none-left zero none = refl
none-left (suc n) none = absurd (none (omega arith))

-- all that are left may be, if a run that is spent has none
pub all-may : (e : Outcome) (stop : Stop) (n : ℕ) → stop_of e ≡ stop_seen stop
    → (stop ≡ s.Spent → 0 < n → ⊥) → MayBeLeft e n
all-may (Value a) stop n is none = tt
all-may (Truth b) stop n is none = tt
all-may Normal stop n is none = tt
all-may (Returns a) stop n is none = tt
all-may Breaks stop n is none = tt
all-may Continues stop n is none = tt
all-may (Halts halt) stop n is none = tt
all-may (Waits f.NeedsLine fs) stop n is none = tt
all-may (Waits f.NeedsDraw fs) stop n is none = tt
all-may (Waits f.Spent fs) stop n is none = none-left n (none (spent-stop stop (sym is)))

-- and so may none
pub none-may : (e : Outcome) → MayBeLeft e 0
none-may (Value a) = tt
none-may (Truth b) = tt
none-may Normal = tt
none-may (Returns a) = tt
none-may Breaks = tt
none-may Continues = tt
none-may (Halts halt) = tt
none-may (Waits f.NeedsLine fs) = tt
none-may (Waits f.NeedsDraw fs) = tt
none-may (Waits f.Spent fs) = refl

-- ---- what is left

-- the program goes on from there, and leaves this
pub record Found (old new : ConsoleView) (t : Outcome × Config) (before now : Supply) (stop : m.Stop) (frames : List f.Frame) (world : World) (unused : ℕ) : Type 0 where
  pub shows : new.history ≡ grown old.history (shown (trace_of t.1.past))
  pub lines : new.left ≡ Some t.1.lines
  pub begun : frames ≡ begun_of t.0
  pub world_is : world ≡ t.1.world
  pub draws : now.left ≡ t.1.draws
  pub taken : now.taken ≡ before.taken + length (draws_taken (trace_of t.1.past))
  pub steps : t.1.steps ≡ unused
  pub stop_is : stop ≡ stop_of t.0

module _ (go : RunsGo) (old new : Machine) (a b : ConsoleView) (x y : Supply)
    (supply : supplied y ≡ supplied x) (stop : Stop) (lines : List (List ℕ))
    (at : StopsAt stop old new a b x.left y.left lines) (more : ℕ)
    (may : MayBeLeft at.outcome more) where
  abbrev from : ℕ → Config
  from n = config_at (place_of old.interpreter lines x.left) n []

  -- what a run of a machine leaves is what the program leaves from there with so many steps
  pub found : (n : ℕ) → n ≡ at.reaches.used + more
      → Found a b (going old (from n)) x y (stop_seen stop) (stack_of new.stack) (world_of new.interpreter.world) more
  found n all =
      let r = at.reaches in
      let t = going old (from n) in
      let is : t ≡ (at.outcome, config_at (place_of new.interpreter r.left y.left) more r.done) =
      ap (λ n. going old (from n)) all ∙ r.leads.same more [] may in
      let goes = go (program_of old.interpreter) (stack_of old.stack) (from n) in
      let spent : draws_taken (trace_of goes.events) ++ t.1.draws ≡ x.left = goes.spends.draws_spent in
      let drawn : draws_taken (trace_of t.1.past) ≡ draws_taken (trace_of goes.events) = ap (λ es. draws_taken (trace_of es)) goes.past in
      let left : t.1.draws ≡ y.left = ap (λ r. r.1.draws) is in
      record {
        shows = r.grew ∙ ap (λ q. grown a.history (shown_of q.1.past)) (sym is);
        lines = r.lines_left ∙ ap (λ q. Some q.1.lines) (sym is);
        begun = sym at.begun ∙ ap (λ q. begun_of q.0) (sym is);
        world_is = ap (λ q. q.1.world) (sym is);
        draws = sym left;
        taken = omega (arith, supply, ap length spent, length-append (draws_taken (trace_of goes.events)) t.1.draws, ap length drawn, ap length left);
        steps = ap (λ q. q.1.steps) is;
        stop_is = sym at.stop_is ∙ ap (λ q. stop_of q.0) (sym is);
      }

-- ---- a run that goes no further than to a call

quiet-due : (e : Outcome) → IsQuiet e → CallIsDue (begun_of e) → ⊥
quiet-due (Waits lack []) quiet due = due
quiet-due (Waits lack (Begins (f.CallDue name values) ∷ fs)) quiet due = quiet
quiet-due (Waits lack (y ∷ fs)) quiet due = absurd due
quiet-due (Value a) quiet due = quiet
quiet-due (Truth b) quiet due = quiet
quiet-due Normal quiet due = quiet
quiet-due (Returns a) quiet due = quiet
quiet-due Breaks quiet due = quiet
quiet-due Continues quiet due = quiet
quiet-due (Halts halt) quiet due = quiet

-- where it waits before each of so many steps, and never for a call, it enters nothing in them
pub enters-nothing : OnlyCallsEnter → (p : Program) (frames : List f.Frame) (c : Config) (used : ℕ)
    → ((n : ℕ) → n < used → IsQuiet (standing p frames c n).0) → (n : ℕ) → n ≤ used
    → entered_in p frames c n ≡ []
enters-nothing law p frames c used quiet zero few = refl
enters-nothing law p frames c used quiet (suc n) few =
    ap (λ xs. xs ++ newly_entered (standing p frames c n) (standing p frames c (suc n)))
    (enters-nothing law p frames c used quiet n (omega (arith, few)))
    ∙ law p frames c n (quiet-due (standing p frames c n).0 (quiet n (omega (arith, few))))
