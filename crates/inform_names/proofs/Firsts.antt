-- The first fault of some places.
use Rattle.std.proofs.Common.{◌≡◌, ◌∙◌, List, [], ◌∷◌, ◌++◌, map, refl, sym, ap, Option, None, Some}
use Rattle.std.specs.Option.{option_or}
use Rattle.std.proofs.lemmas.List.{map-append}
use Rattle.inform_names.specs.Demands as d
use Rattle.inform_names.specs.Demands.{Demands}
use Rattle.inform_names.specs.Faults.{Fault, first_of}
use Rattle.inform_names.specs.Places.{Scope, fault_at, first_fault, IsFine, listed}

pub or_none : {X : Type 0} (x : Option X) → option_or x None ≡ x
or_none None = refl
or_none (Some x) = refl

or_assoc : {X : Type 0} (x y z : Option X) → option_or x (option_or y z)
    ≡ option_or (option_or x y) z
or_assoc None y z = refl
or_assoc (Some x) y z = refl

-- where neither of two has a fault, the first has none
pub first_is_none : {X : Type 0} (x y : Option X) → option_or x y ≡ None → x ≡ None
first_is_none None y e = refl
first_is_none (Some x) y e = e

-- and the second has none
pub rest_is_none : {X : Type 0} (x y : Option X) → option_or x y ≡ None → y ≡ None
rest_is_none None y e = e
rest_is_none (Some x) y e = absurd (cc)

first_of-append : (xs ys : List (Option Fault))
    → first_of (xs ++ ys) ≡ option_or (first_of xs) (first_of ys)
first_of-append [] ys = refl
first_of-append (x ∷ xs) ys =
    ap (option_or x) (first_of-append xs ys) ∙ or_assoc x (first_of xs) (first_of ys)

pub first_of_the_list : (scope : Scope) (demands : Demands)
    → first_fault scope demands ≡ first_of (map (fault_at scope) (listed demands))
first_of_the_list scope d.Nothing = refl
first_of_the_list scope (d.One demand) = sym (or_none (fault_at scope demand))
first_of_the_list scope (d.Both first rest) =
    ap (λ (x : Option Fault). option_or x (first_fault scope rest)) (first_of_the_list scope first)
    ∙ ap (option_or (first_of (map (fault_at scope) (listed first)))) (first_of_the_list scope rest)
    ∙ sym (first_of-append (map (fault_at scope) (listed first))
    (map (fault_at scope) (listed rest)))
    ∙ ap first_of (sym (map-append (fault_at scope) (listed first) (listed rest)))

pub fine_where_faultless : (scope : Scope) (demands : Demands) → first_fault scope demands ≡ None
    → IsFine scope demands
fine_where_faultless scope d.Nothing e = tt
fine_where_faultless scope (d.One demand) e = e
fine_where_faultless scope (d.Both first rest) e = (
  fine_where_faultless scope first (first_is_none (first_fault scope first)
      (first_fault scope rest) e),
  fine_where_faultless scope rest (rest_is_none (first_fault scope first)
      (first_fault scope rest) e),
)
