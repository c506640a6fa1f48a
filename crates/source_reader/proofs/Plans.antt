-- Reading by a plan that is made of others.
use Rattle.std.proofs.Common.{◌≡◌, Result, Ok, Err, refl, sym, ap, subst, ◌∙◌}
use Rattle.adv_text.specs.Reading.{Input}
use Rattle.source_reader.specs.declared.faults.SourceFault.{SourceFault}
use Rattle.source_reader.specs.declared.faults.SourceFault.TheVariants as answer
use Rattle.source_reader.specs.declared.tokens.Token.{Token}
use Rattle.source_reader.specs.Faults.{Fault, Stands}
use Rattle.source_reader.specs.Tokens.{past_gap, token_at}
use Rattle.source_reader.specs.Plan.{Plan, done, refuse, next, ◌>>=◌, onward, run}

-- what keeps each fault keeps what stands
pub Stands-under : {A B : Type 0} (f : Result A Fault → Result B Fault) → ((e : Fault) → f (Err e) ≡ Err e)
    → (fault : SourceFault) (r : Result A Fault) → Stands fault r → Stands fault (f r)
Stands-under f keeps (answer.Unexpected at) r e = ap f e ∙ keeps _
Stands-under f keeps (answer.BigNumber at) r e = ap f e ∙ keeps _
Stands-under f keeps (answer.OpenString at) r e = ap f e ∙ keeps _
Stands-under f keeps (answer.LongString at) r e = ap f e ∙ keeps _
Stands-under f keeps (answer.LongName at) r e = ap f e ∙ keeps _
Stands-under f keeps answer.Memory r e = tt

-- a fault of what is read first stands for the whole
pub Stands-onward : {A B : Type 0} (go_on : A → Input → Result (B × Input) Fault) (fault : SourceFault) (r : Result (A × Input) Fault)
    → Stands fault r → Stands fault (onward r go_on)
Stands-onward go_on fault r h = Stands-under (λ r. onward r go_on) (λ e. refl) fault r h

module _ {X Y : Type 0} (f : X → Plan Y) where
  abbrev pub continued : X → Input → Result (Y × Input) Fault
  continued x after = run (f x) after

  onward-then : (r : Result (Token × Input) Fault) (go_on : Token → Input → Result (X × Input) Fault) (whole : Token → Input → Result (Y × Input) Fault)
      → ((t : Token) (s : Input) → whole t s ≡ onward (go_on t s) continued) → onward r whole ≡ onward (onward r go_on) continued
  onward-then (Ok x) go_on whole e = e x.0 x.1
  onward-then (Err fault) go_on whole e = refl

  -- a plan and then another are read one after the other
  pub run-then : (p : Plan X) (s : Input) → run (p >>= f) s ≡ onward (run p s) continued
  run-then (done x) s = refl
  run-then (refuse at) s = refl
  run-then (next more) s =
      onward-then (token_at (past_gap s)) (λ t after. run (more (past_gap s).at t) after) (λ t after. run (more (past_gap s).at t >>= f) after)
      (λ t after. run-then (more (past_gap s).at t) after)

  -- the same, where the first gave a value
  pub run-ok : (p : Plan X) (s after : Input) (x : X) → run p s ≡ Ok (x, after) → run (p >>= f) s ≡ run (f x) after
  run-ok p s after x e = run-then p s ∙ ap (λ (r : Result (X × Input) Fault). onward r continued) e

  -- a fault of the first stands for both
  pub Stands-then : (p : Plan X) (s : Input) (fault : SourceFault) → Stands fault (run p s) → Stands fault (run (p >>= f) s)
  Stands-then p s fault h =
      subst (λ (r : Result (Y × Input) Fault). Stands fault r) (sym (run-then p s))
      (Stands-onward continued fault (run p s) h)

pub ruleset sections = (run-then, Stands-onward)
