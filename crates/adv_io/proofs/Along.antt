-- A walk: what was shown so far, and what is still to come.
use Rattle.std.proofs.Common.{◌≡◌, ◌∙◌, ℕ, List, [], ◌++◌, Result, Ok, Err, refl, sym, ap, append_assoc}
use Rattle.std.proofs.lemmas.List.{map-append}
use Rattle.adv_io.specs.Console.{ConsoleView, Speaks}
use Rattle.adv_io.specs.Steps.{Said, Step, Traced, after, said_steps, shown_of}
use Rattle.adv_io.specs.declared.events.Event.{Event}
use Rattle.adv_io.proofs.Sayings.{success, cause_again, cause_fails, nothing_said, speaks_then, speaks_stop}
use Rattle.adv_io.proofs.Showing.{shown_of-append}

pub after-after : {R : Type 0} (es fs : List Step) (t : Traced Step R) → after es (after fs t) ≡ after (es ++ fs) t
after-after es fs t = ap (λ gs. record { events = gs; value = t.value }) (sym (append_assoc es fs t.events))

-- ---- the same with another answer, and one part after another

-- what succeeded said the same whatever its answer
pub as_ok : {T U D E : Type 0} {old new : ConsoleView} {x : T} {es : List Event} (y : U) → Speaks {E = D} old new (Ok x) es → Speaks {E = E} old new (Ok y) es
as_ok y s = record { said = s.said; part = tt; lines_stay = s.lines_stay; bounded = s.bounded; cause = cause_again y s.cause }

-- and so did what failed
pub as_err : {T U D E : Type 0} {old new : ConsoleView} {d : D} {es : List Event} (e : E) → Speaks {T = T} old new (Err d) es → Speaks {T = U} old new (Err e) es
as_err e s = record { said = tt; part = s.part; lines_stay = s.lines_stay; bounded = s.bounded; cause = cause_fails e s.cause }

-- some steps, and after them others
pub steps_then : {S T D E : Type 0} {old mid new : ConsoleView} {x : S} {r : Result T E} (a b : List Step) → Speaks {E = D} old mid (Ok x) (shown_of a) → Speaks mid new r (shown_of b) → Speaks old new r (shown_of (a ++ b))
steps_then a b first then = rw (shown_of-append a b) (speaks_then first then)

-- some steps of which a part was shown, whatever was to come after them
pub steps_stop : {T U D E : Type 0} {old new : ConsoleView} {d : D} (e : E) (a b : List Step) → Speaks {T = T} old new (Err d) (shown_of a) → Speaks {T = U} old new (Err e) (shown_of (a ++ b))
steps_stop e a b stop = rw (shown_of-append a b) (speaks_stop e (shown_of b) stop)

-- the same of two texts
pub texts_then : {S T D E : Type 0} {old mid new : ConsoleView} {x : S} {r : Result T E} (a b : List ℕ) → Speaks {E = D} old mid (Ok x) (shown_of (said_steps a)) → Speaks mid new r (shown_of (said_steps b)) → Speaks old new r (shown_of (said_steps (a ++ b)))
texts_then a b first then = rw (map-append Said a b) (steps_then (said_steps a) (said_steps b) first then)

pub texts_stop : {T U D E : Type 0} {old new : ConsoleView} {d : D} (e : E) (a b : List ℕ) → Speaks {T = T} old new (Err d) (shown_of (said_steps a)) → Speaks {T = U} old new (Err e) (shown_of (said_steps (a ++ b)))
texts_stop e a b stop = rw (map-append Said a b) (steps_stop e (said_steps a) (said_steps b) stop)

-- ---- a walk

-- the whole is what was shown so far, and then what there is to show from here
pub record Along {R : Type 0} (whole now : Traced Step R) (old new : ConsoleView) : Type 0 where
  pub done : List Step
  pub whole_is : whole ≡ after done now
  pub spoken : Speaks old new success (shown_of done)

-- before the first turn nothing was shown
pub along_start : {R : Type 0} (whole : Traced Step R) (console : ConsoleView) → Along whole whole console console
along_start whole console = record { done = []; whole_is = refl; spoken = nothing_said console tt }

-- one more turn
pub along_step : {R T E : Type 0} {whole now : Traced Step R} {old mid new : ConsoleView} {x : T} (es : List Step) (next : Traced Step R)
    → Along whole now old mid → now ≡ after es next
    → Speaks {E = E} mid new (Ok x) (shown_of es)
    → Along whole next old new
along_step es next a e s = record {
  done = a.done ++ es;
  whole_is = a.whole_is ∙ ap (after a.done) e ∙ after-after a.done es next;
  spoken = steps_then a.done es a.spoken (as_ok tt s);
}

-- the last part, which may fail
pub along_end : {R T E : Type 0} {whole now : Traced Step R} {old mid new : ConsoleView} {r : Result T E} (es : List Step)
    → Along whole now old mid → now.events ≡ es
    → Speaks mid new r (shown_of es)
    → Speaks old new r (shown_of whole.events)
along_end {whole = whole} {old = old} {new = new} {r = r} es a e s =
    let all : whole.events ≡ a.done ++ es = ap (λ t. t.events) a.whole_is ∙ ap (λ fs. a.done ++ fs) e in
    rw all (steps_then a.done es a.spoken s)

-- a part that failed, whatever was to come after it
pub along_stop : {R T U D E : Type 0} {whole now : Traced Step R} {old mid new : ConsoleView} {d : D} (fault : E) (es rest : List Step)
    → Along whole now old mid → now.events ≡ es ++ rest
    → Speaks {T = T} mid new (Err d) (shown_of es)
    → Speaks {T = U} old new (Err fault) (shown_of whole.events)
along_stop fault es rest a e s = along_end (es ++ rest) a e (steps_stop fault es rest s)

-- nothing is left to come
pub along_done : {R T E : Type 0} {whole now : Traced Step R} {old new : ConsoleView} (x : T)
    → Along whole now old new → now.events ≡ []
    → Speaks {E = E} old new (Ok x) (shown_of whole.events)
along_done {new = new} x a e = along_end [] a e (nothing_said new x)

-- what the whole leaves is what the rest leaves
pub along_value : {R : Type 0} {whole now : Traced Step R} {old new : ConsoleView} → Along whole now old new → whole.value ≡ now.value
along_value a = ap (λ t. t.value) a.whole_is
