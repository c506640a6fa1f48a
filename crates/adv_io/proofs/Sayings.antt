-- How what is said piece by piece, or in a loop, adds up.
use Rattle.std.proofs.Common.{◌≡◌, ◌∙◌, ℕ, suc, ◌+◌, ◌<◌, List, [], ◌∷◌, ◌++◌, take, drop, length, get_or, refl, sym, ap, zero, arith, append_assoc, Option, Some, None, Result, Ok, Err, IsErr}
use Rattle.std.proofs.lemmas.List.{append-nil}
use Rattle.std.specs.List.{flat_map}
use Rattle.adv_io.specs.History.{grown, GrewByPrefix}
use Rattle.adv_io.specs.Faults.{HasCause}
use Rattle.adv_io.specs.Console.{ConsoleView, Speaks}
use Rattle.adv_io.specs.declared.events.Event.{Event}
use Rattle.adv_io.specs.declared.faults.ConsoleFault.{ConsoleFault}

-- ---- histories that grow

pub grown-nil : (history : Option (List Event)) → grown history [] ≡ history
grown-nil None = refl
grown-nil (Some history) = ap Some (append-nil history)

pub grown-grown : (history : Option (List Event)) (a b : List Event) → grown (grown history a) b ≡ grown history (a ++ b)
grown-grown None a b = refl
grown-grown (Some history) a b = ap Some (append_assoc history a b)

-- a history that grew by some events and then by others
pub grown_on : (old mid new : Option (List Event)) (a b : List Event) → mid ≡ grown old a → new ≡ grown mid b → new ≡ grown old (a ++ b)
grown_on old mid new a b first then = then ∙ ap (λ h. grown h b) first ∙ grown-grown old a b

-- after some events a part of others
pub part_on : (old mid new : Option (List Event)) (a b : List Event) → mid ≡ grown old a → GrewByPrefix mid new b → GrewByPrefix old new (a ++ b)
part_on old mid new a b first part = record {
  done = a ++ part.done;
  rest = part.rest;
  whole = append_assoc a part.done part.rest ∙ ap (λ es. a ++ es) part.whole;
  grew = part.grew ∙ ap (λ h. grown h part.done) first ∙ grown-grown old a part.done;
}

-- a part of events is a part of more
pub part_of_more : (old new : Option (List Event)) (a b : List Event) → GrewByPrefix old new a → GrewByPrefix old new (a ++ b)
part_of_more old new a b part = record {
  done = part.done;
  rest = part.rest ++ b;
  whole = sym (append_assoc part.done part.rest b) ∙ ap (λ es. es ++ b) part.whole;
  grew = part.grew;
}

pub part_none : (history : Option (List Event)) (a : List Event) → GrewByPrefix history history a
part_none history a = record { done = []; rest = a; whole = refl; grew = sym (grown-nil history) }

-- ---- loops that say a text for each element

module _ {X : Type 0} (text : X → List ℕ) where
  -- all texts are those so far and those to come
  pub flat_map-split : (xs : List X) (i : ℕ) (d : X) → i < length xs → flat_map text xs ≡ flat_map text (take i xs) ++ (text (get_or xs i d) ++ flat_map text (drop (suc i) xs))
  flat_map-split [] i d within = absurd (omega arith)
  flat_map-split (x ∷ xs) zero d within = refl
  flat_map-split (x ∷ xs) (suc i) d within =
      ap (λ bytes. text x ++ bytes) (flat_map-split xs i d (omega arith))
      ∙ sym (append_assoc (text x) (flat_map text (take i xs)) (text (get_or xs i d) ++ flat_map text (drop (suc i) xs)))

  pub flat_map-next : (xs : List X) (i : ℕ) (d : X) → i < length xs → flat_map text (take (suc i) xs) ≡ flat_map text (take i xs) ++ text (get_or xs i d)
  flat_map-next [] i d within = absurd (omega arith)
  flat_map-next (x ∷ xs) zero d within = append-nil (text x)
  flat_map-next (x ∷ xs) (suc i) d within =
      ap (λ bytes. text x ++ bytes) (flat_map-next xs i d (omega arith))
      ∙ sym (append_assoc (text x) (flat_map text (take i xs)) (text (get_or xs i d)))

-- the answer of what succeeds
abbrev pub success : Result (Unit {0}) ConsoleFault
success = Ok tt

-- ---- counts of faults, over one call and over two

pub cause_none : {T E : Type 0} {count : ℕ} (x : T) → HasCause {E = E} count count (Ok x)
cause_none x = record { later = omega arith; steady = refl; failed = tt }

-- what succeeds succeeds with anything, and what fails fails with anything
pub cause_again : {T U D E : Type 0} {before now : ℕ} {x : T} (y : U) → HasCause {E = D} before now (Ok x) → HasCause {E = E} before now (Ok y)
cause_again y c = record { later = c.later; steady = c.steady; failed = tt }

pub cause_fails : {T U D E : Type 0} {before now : ℕ} {d : D} (e : E) → HasCause {T = T} before now (Err d) → HasCause {T = U} before now (Err e)
cause_fails e c = record { later = c.later; steady = tt; failed = c.failed }

-- after a call that succeeded another, which may fail
pub cause_then : {S T D E : Type 0} {before mid now : ℕ} {x : S} {r : Result T E} → HasCause {E = D} before mid (Ok x) → HasCause mid now r → HasCause before now r
cause_then {r = Ok y} first then = record { later = omega (arith, first.later, then.later); steady = then.steady ∙ first.steady; failed = tt }
cause_then {r = Err e} first then = record { later = omega (arith, first.later, then.later); steady = tt; failed = omega (arith, first.later, then.failed) }

-- ---- calls that only say, one after the other

-- what does nothing says nothing
pub nothing_said : {T E : Type 0} (console : ConsoleView) (x : T) → Speaks {E = E} console console (Ok x) []
nothing_said console x = record {
  said = sym (grown-nil console.history);
  part = tt;
  lines_stay = refl;
  bounded = omega arith;
  cause = cause_none x;
}

-- after a call that succeeded another, which may fail
pub speaks_then : {S T D E : Type 0} {old mid new : ConsoleView} {x : S} {r : Result T E} {a b : List Event} → Speaks {E = D} old mid (Ok x) a → Speaks mid new r b → Speaks old new r (a ++ b)
speaks_then {old = old} {mid = mid} {new = new} {r = Ok y} {a = a} {b = b} first then = record {
  said = grown_on old.history mid.history new.history a b first.said then.said;
  part = tt;
  lines_stay = then.lines_stay ∙ first.lines_stay;
  bounded = omega (arith, first.bounded, then.bounded);
  cause = cause_then first.cause then.cause;
}
speaks_then {old = old} {mid = mid} {new = new} {r = Err fault} {a = a} {b = b} first then = record {
  said = tt;
  part = part_on old.history mid.history new.history a b first.said then.part;
  lines_stay = then.lines_stay ∙ first.lines_stay;
  bounded = omega (arith, first.bounded, then.bounded);
  cause = cause_then first.cause then.cause;
}

-- a call that failed, whatever was to be said after it
pub speaks_stop : {T U D E : Type 0} {old new : ConsoleView} {d : D} (e : E) {a : List Event} (b : List Event) → Speaks {T = T} old new (Err d) a → Speaks {T = U} old new (Err e) (a ++ b)
speaks_stop {old = old} {new = new} e {a = a} b stop = record {
  said = tt;
  part = part_of_more old.history new.history a b stop.part;
  lines_stay = stop.lines_stay;
  bounded = stop.bounded;
  cause = cause_fails e stop.cause;
}

-- the same at the exit of a call that passes the failure on
pub speaks_exit : {T U D E : Type 0} {old new : ConsoleView} {d : D} {r : Result U E} {a : List Event} (b : List Event) → IsErr r → Speaks {T = T} old new (Err d) a → Speaks old new r (a ++ b)
speaks_exit {r = Ok x} b failed stop = absurd cc
speaks_exit {r = Err e} b failed stop = speaks_stop e b stop
