-- The rules of whole runs: from the body of `Main` to where the run stops.
use Rattle.std.proofs.Common.{◌≡◌, arith, ℕ, ◌-◌, ◌≤◌, ℤ, [], ◌∷◌, refl, sym, ap, subst}
use Rattle.inform_tree.specs.Statements.{Statements}
use Rattle.inform_meaning.specs.Worlds.{Program, Scope, Config}
use Rattle.inform_meaning.specs.Frames.{Main, Quits, Outcome, Halts, Meaning, bind, on_main}
use Rattle.inform_meaning.specs.Runs.{CALL_LIMIT, Stop, Halted, Lacking, resume_at, resume, main_begun}
use Rattle.inform_meaning.specs.Programs.{program_in}
use Rattle.inform_logic.specs.Stages.{plus, Stage, in_scope, stage_of}
use Rattle.inform_logic.specs.Leading.{Leaves, BodyGives, at_end, by_return, TheBlock}
use Rattle.inform_logic.specs.Stopping.{IsStop, Ends, Stops, stop_leaves, Stopped}
use Rattle.inform_logic.specs.Laws.{RunStops}
use Rattle.inform_logic.proofs.Opened.{opened}
use Rattle.inform_logic.proofs.Steps.{plus_is}
use Rattle.inform_logic.proofs.Stopping.{Passes, passes, ends_first}

-- at the end of `Main` the run is over
over : {e : Outcome} {v : ℤ} → BodyGives e v → (c : Config) → on_main e c ≡ (Halts Quits, c)
unfolding on_main
over at_end c = refl
over by_return c = refl

module _ (p : Program) where
  passes_main : Passes (resume_at p CALL_LIMIT (Main ∷ []))
  unfolding resume_at bind on_main
  passes_main = passes Main _ (λ halt c. refl) (λ lack fs c. refl)

  -- what stops the body of `Main` stops the run
  pub main_stops : {body : Statements} {s : Scope} {w w' : Stage} {stop : Stop} {n : ℕ}
      → Stops p CALL_LIMIT (TheBlock body) s w stop w' n
      → Ends (resume p (main_begun body)) s w stop w' n
  unfolding resume_at opened
  main_stops body = ends_first _ passes_main body.ends

-- ---- with steps enough

-- a stop may leave what its outcome may leave
leaves : (stop : Stop) (e : Outcome) (k : ℕ) → IsStop stop e → stop_leaves stop k → Leaves e k
leaves (Halted halt) e k is h = subst (λ e. Leaves e k) (sym is) tt
leaves (Lacking lack) e k stop h = subst (λ e. Leaves e k) (sym stop.1) h

-- with so many steps left after it
pub stops_with : {m : Meaning} {s : Scope} {w w' : Stage} {stop : Stop} {n : ℕ}
    (x : Ends m s w stop w' n) (k : ℕ) → stop_leaves stop k
    → Stopped (m (in_scope (plus x.takes.steps k) s w)) stop w'
stops_with {stop = stop} x k h =
    let done = x.takes.by k (leaves stop x.ending k x.is h) in record {
      is = subst (λ r. IsStop stop r.0) (sym done) x.is;
      stage = ap (λ r. stage_of r.1) done;
    }

-- with any steps that are as many as it takes at most
pub stops_within : {m : Meaning} {s : Scope} {w w' : Stage} {stop : Stop} {n : ℕ}
    → Ends m s w stop w' n → ((k : ℕ) → stop_leaves stop k) → (steps : ℕ) → n ≤ steps
    → Stopped (m (in_scope steps s w)) stop w'
stops_within {m} {s} {w} {w'} {stop} x any steps enough =
    let k : ℕ = steps - x.takes.steps in
    let all : plus x.takes.steps k ≡ steps =
    omega (arith, plus_is x.takes.steps k, x.takes.few, enough) in
    subst (λ n. Stopped (m (in_scope n s w)) stop w') all (stops_with x k (any k))

-- a program of directives, from its opening on
pub run_stops : RunStops
run_stops width ds notes lines draws w stop most body any =
    stops_within (main_stops (program_in width ds notes) body) any
