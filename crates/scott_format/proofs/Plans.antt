-- Reading by a plan that is made of others.
use Rattle.std.proofs.Common.{◌≡◌, Bool, true, false, cond, Option, Some, None, ℤ, Result, Ok, Err, refl, sym, ap, subst, ◌∙◌}
use Rattle.adv_text.specs.Reading.{Input, number_at, quoted_at, no_number, big_number, no_quote, open_string, long_string}
use Rattle.adv_text.specs.Reading.{Fault as TextFault}
use Rattle.scott_format.specs.Faults.{Fault}
use Rattle.scott_format.specs.Plan.{Plan, done, check, number, quoted, perhaps, ◌>>=◌, onward, onward_perhaps, run}
use Rattle.scott_format.specs.Reading.{Gives, Stands}
use Rattle.scott_format.specs.declared.faults.FormatFault.{FormatFault}
use Rattle.scott_format.specs.declared.faults.FormatFault.TheVariants as answer

-- what follows a value that was read, or the fault
abbrev pub and_then : {A X : Type 0} → Result (A × Input) Fault → (A → Input → Result (X × Input) Fault) → Result (X × Input) Fault
and_then (Ok x) go_on = go_on x.0 x.1
and_then (Err fault) go_on = Err fault

-- what keeps each fault keeps what stands
pub Stands-under : {A B : Type 0} (f : Result A Fault → Result B Fault) → ((e : Fault) → f (Err e) ≡ Err e)
    → (fault : FormatFault) (r : Result A Fault) → Stands fault r → Stands fault (f r)
Stands-under f keeps (answer.NoNumber at) r e = ap f e ∙ keeps _
Stands-under f keeps (answer.BigNumber at) r e = ap f e ∙ keeps _
Stands-under f keeps (answer.NoQuote at) r e = ap f e ∙ keeps _
Stands-under f keeps (answer.OpenString at) r e = ap f e ∙ keeps _
Stands-under f keeps (answer.LongString at) r e = ap f e ∙ keeps _
Stands-under f keeps (answer.Limit field value) r e = ap f e ∙ keeps _
Stands-under f keeps (answer.NoStart value) r e = ap f e ∙ keeps _
Stands-under f keeps (answer.NegativeAction k) r e = ap f e ∙ keeps _
Stands-under f keeps answer.Memory r e = tt

-- a fault of what is read first stands for the whole
pub Stands-and_then : {A B : Type 0} (go_on : A → Input → Result (B × Input) Fault) (fault : FormatFault) (r : Result (A × Input) Fault)
    → Stands fault r → Stands fault (and_then r go_on)
Stands-and_then go_on fault r h = Stands-under (λ r. and_then r go_on) (λ e. refl) fault r h

module _ {X Y : Type 0} (f : X → Plan Y) where
  abbrev pub next : X → Input → Result (Y × Input) Fault
  next x after = run (f x) after

  check-then : (test : Bool) (fault : Fault) (read : Result (X × Input) Fault) (then : Result (Y × Input) Fault)
      → then ≡ and_then read next → cond test then (Err fault) ≡ and_then (cond test read (Err fault)) next
  check-then true fault read then e = e
  check-then false fault read then e = refl

  onward-then : {A : Type 0} (r : Result (A × Input) TextFault) (go_on : A → Input → Result (X × Input) Fault) (then : A → Input → Result (Y × Input) Fault)
      → ((a : A) (s : Input) → then a s ≡ and_then (go_on a s) next) → onward r then ≡ and_then (onward r go_on) next
  onward-then (Ok x) go_on then e = e x.0 x.1
  onward-then (Err fault) go_on then e = refl

  perhaps-then : (r : Result (ℤ × Input) TextFault) (s : Input) (go_on : Option ℤ → Input → Result (X × Input) Fault) (then : Option ℤ → Input → Result (Y × Input) Fault)
      → ((o : Option ℤ) (s : Input) → then o s ≡ and_then (go_on o s) next) → onward_perhaps r s then ≡ and_then (onward_perhaps r s go_on) next
  perhaps-then (Ok x) s go_on then e = e (Some x.0) x.1
  perhaps-then (Err (no_number at)) s go_on then e = e None s
  perhaps-then (Err (big_number at)) s go_on then e = refl
  perhaps-then (Err (no_quote at)) s go_on then e = refl
  perhaps-then (Err (open_string at)) s go_on then e = refl
  perhaps-then (Err (long_string at)) s go_on then e = refl

  -- a plan and then another are read one after the other
  pub run-then : (p : Plan X) (s : Input) → run (p >>= f) s ≡ and_then (run p s) next
  run-then (done x) s = refl
  run-then (check test fault p) s = check-then test fault (run p s) (run (p >>= f) s) (run-then p s)
  run-then (number p) s = onward-then (number_at s) (λ z after. run (p z) after) (λ z after. run (p z >>= f) after) (λ z after. run-then (p z) after)
  run-then (quoted p) s = onward-then (quoted_at s) (λ t after. run (p t) after) (λ t after. run (p t >>= f) after) (λ t after. run-then (p t) after)
  run-then (perhaps p) s = perhaps-then (number_at s) s (λ o after. run (p o) after) (λ o after. run (p o >>= f) after) (λ o after. run-then (p o) after)

  -- the same, where the first gave a value
  pub run-ok : (p : Plan X) (s after : Input) (x : X) → run p s ≡ Ok (x, after) → run (p >>= f) s ≡ run (f x) after
  run-ok p s after x e = run-then p s ∙ ap (λ (r : Result (X × Input) Fault). and_then r next) e

  -- a fault of the first stands for both
  pub Stands-then : (p : Plan X) (s : Input) (fault : FormatFault) → Stands fault (run p s) → Stands fault (run (p >>= f) s)
  Stands-then p s fault h =
      subst (λ (r : Result (Y × Input) Fault). Stands fault r) (sym (run-then p s))
      (Stands-and_then next fault (run p s) h)

  -- a fault of what follows stands for both
  pub Stands-after : (p : Plan X) (s after : Input) (x : X) (fault : FormatFault) → run p s ≡ Ok (x, after) → Stands fault (run (f x) after) → Stands fault (run (p >>= f) s)
  Stands-after p s after x fault e h = subst (λ (r : Result (Y × Input) Fault). Stands fault r) (sym (run-ok p s after x e)) h

  -- where the first gave a value, what follows gives what both give
  pub Gives-after : {V : Type 0} (view : V → Y) (p : Plan X) (s after now : Input) (x : X) (r : Result V FormatFault) → run p s ≡ Ok (x, after) → Gives view (f x) after r now → Gives view (p >>= f) s r now
  Gives-after view p s after now x (Ok v) e gives = run-ok p s after x e ∙ gives
  Gives-after view p s after now x (Err fault) e gives = Stands-after p s after x fault e gives

pub ruleset sections = (run-then, Stands-and_then)
