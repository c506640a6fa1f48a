-- A name and what follows it, where both are there.
use Rattle.std.proofs.Common.{◌≡◌, refl, Bor, Option, Some, None}
use Rattle.std.specs.Prelude.{option_map}
use Rattle.std.specs.Option.{option_and_then, option_zip}

pub zipped : {A B C X : Type 0} (view : B → C) (made : A → C
    → X) (a : Option (Bor A)) (b : Option B) (name : Option A) (more : Option C)
    → option_map (λ x. x.now) a ≡ name → option_map view b ≡ more
    → option_map (λ p. made p.0.now (view p.1)) (option_zip a b)
    ≡ option_and_then (λ n. option_map (λ m. made n m) more) name
zipped view made None b name more named followed = rw (← named) refl
zipped view made (Some x) None name more named followed = rw (← named, ← followed) refl
zipped view made (Some x) (Some y) name more named followed = rw (← named, ← followed) refl
