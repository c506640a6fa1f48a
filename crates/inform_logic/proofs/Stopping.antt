-- What stops a run is handed up: by the parts around it, and by the routines.
use Rattle.std.proofs.Common.{◌≡◌, ◌∙◌, ℕ, ◌+◌, ℤ, Bool, true, List, [], ◌∷◌, ◌++◌, refl, ap, subst, sym}
use Rattle.inform_meaning.specs.Worlds.{Scope, Config}
use Rattle.inform_meaning.specs.Frames.{Halt, Lack, Frame, Calling, Outcome, Value, Halts, Waits, Meaning, bind, when, on_normal, on_value, on_truth, on_body, on_return}
use Rattle.inform_meaning.specs.Runs.{Stop, Halted, Lacking}
use Rattle.inform_logic.specs.Stages.{Stage, in_scope}
use Rattle.inform_logic.specs.Leading.{Leaves, Takes}
use Rattle.inform_logic.specs.Stopping.{IsStop, Ends}
use Rattle.inform_logic.proofs.Steps.{finally, value_then, chosen}

-- what is done with the outcome of a part leaves a stop as it is, perhaps in another scope
pub record Passed (k : Outcome → Meaning) (stop : Stop) (e : Outcome) (s : Scope) : Type 0 where
  pub ending : Outcome
  pub scope : Scope
  pub is : IsStop stop ending
  pub leaves : (j : ℕ) → Leaves ending j → Leaves e j
  pub by : (j : ℕ) (w : Stage) → k e (in_scope j s w) ≡ (ending, in_scope j scope w)

abbrev pub Passes : (Outcome → Meaning) → Type 0
Passes k = (stop : Stop) (e : Outcome) → IsStop stop e → (s : Scope) → Passed k stop e s

-- what is over stays over, in this scope
passed_over : (k : Outcome → Meaning) (halt : Halt) {e : Outcome} (s s' : Scope) → e ≡ Halts halt
    → ((j : ℕ) (w : Stage) → k (Halts halt) (in_scope j s w) ≡ (Halts halt, in_scope j s' w))
    → Passed k (Halted halt) e s
passed_over k halt s s' is by = record {
  ending = Halts halt;
  scope = s';
  is = refl;
  leaves = λ j h. subst (λ e. Leaves e j) (sym is) h;
  by = λ j w. ap (λ e. k e (in_scope j s w)) is ∙ by j w;
}

-- what waits waits on, with one frame more
passed_wait : (f : Frame) (k : Outcome → Meaning) (lack : Lack) (fs : List Frame) {e : Outcome}
    (s : Scope) → e ≡ Waits lack fs
    → ((c : Config) → k (Waits lack fs) c ≡ (Waits lack (fs ++ f ∷ []), c))
    → Passed k (Lacking lack) e s
passed_wait f k lack fs s is by = record {
  ending = Waits lack (fs ++ f ∷ []);
  scope = s;
  is = (fs ++ f ∷ [], refl);
  leaves = λ j h. subst (λ e. Leaves e j) (sym is) h;
  by = λ j w. ap (λ e. k e (in_scope j s w)) is ∙ by (in_scope j s w);
}

-- a frame that keeps what is over, and waits with what waits
pub passes : (f : Frame) (k : Outcome → Meaning)
    → ((halt : Halt) (c : Config) → k (Halts halt) c ≡ (Halts halt, c))
    → ((lack : Lack) (fs : List Frame) (c : Config)
    → k (Waits lack fs) c ≡ (Waits lack (fs ++ f ∷ []), c)) → Passes k
passes f k over waits (Halted halt) e is s =
    passed_over k halt s s is (λ j w. over halt (in_scope j s w))
passes f k over waits (Lacking lack) e stop s =
    passed_wait f k lack stop.0 s stop.1 (waits lack stop.0)

-- what waits for a value, a truth value or the end of a statement, and a loop
pub passes_value : (f : Frame) (k : ℤ → Meaning) → Passes (on_value f k)
unfolding on_value
passes_value f k = passes f (on_value f k) (λ halt c. refl) (λ lack fs c. refl)

pub passes_truth : (f : Frame) (k : Bool → Meaning) → Passes (on_truth f k)
unfolding on_truth
passes_truth f k = passes f (on_truth f k) (λ halt c. refl) (λ lack fs c. refl)

pub passes_normal : (f : Frame) (m : Meaning) → Passes (on_normal f m)
unfolding on_normal
passes_normal f m = passes f (on_normal f m) (λ halt c. refl) (λ lack fs c. refl)

pub passes_body : (f : Frame) (m : Meaning) → Passes (on_body f m)
unfolding on_body
passes_body f m = passes f (on_body f m) (λ halt c. refl) (λ lack fs c. refl)

-- the caller's scope comes back where the run is over, and doesn't where it waits
pub passes_return : (s : Scope) → Passes (on_return s)
unfolding on_return
passes_return s (Halted halt) e is inner =
    passed_over (on_return s) halt inner s is (λ j w. refl)
passes_return s (Lacking lack) e stop inner =
    passed_wait (Calling s) (on_return s) lack stop.0 inner stop.1 (λ c. refl)

-- the same stop of another meaning
pub with_takes : {m m' : Meaning} {s s' : Scope} {w w' w1 w1' : Stage} {stop : Stop} {n n' : ℕ}
    (x : Ends m s w stop w' n) → Takes m' s' w1 x.ending x.scope w1' n' → Ends m' s' w1 stop w1' n'
with_takes x takes = record { ending = x.ending; scope = x.scope; is = x.is; takes = takes }

-- a part that stops, and what would be done with its outcome
pub ends_first : {m : Meaning} (k : Outcome → Meaning) {s : Scope} {w w' : Stage} {stop : Stop}
    {n : ℕ} → Passes k → Ends m s w stop w' n → Ends (bind m k) s w stop w' n
ends_first k {w' = w'} {stop} pass x = let after = pass stop x.ending x.is x.scope in record {
  ending = after.ending;
  scope = after.scope;
  is = after.is;
  takes = finally k after.leaves x.takes (λ j. after.by j w');
}

-- the same of the first of two meanings
pub ends_chosen : {b : Bool} {m : Meaning} (m' : Meaning) {s : Scope} {w w' : Stage} {stop : Stop}
    {n : ℕ} → b ≡ true → Ends m s w stop w' n → Ends (when b m m') s w stop w' n
ends_chosen m' h x = with_takes x (chosen m' h x.takes)

-- a value, and then a part that stops
pub ends_after : {m : Meaning} (k : Outcome → Meaning) {s s1 : Scope} {w w1 w' : Stage} {v : ℤ}
    {stop : Stop} {a b : ℕ} → Takes m s w (Value v) s1 w1 a → Ends (k (Value v)) s1 w1 stop w' b
    → Ends (bind m k) s w stop w' (a + b)
ends_after k x y = with_takes y (value_then k x y.takes)
