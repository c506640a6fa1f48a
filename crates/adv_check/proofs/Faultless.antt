-- A list without warnings, and a place without a fault.
use Rattle.std.proofs.Common.{◌≡◌, List, [], ◌∷◌, Option, Some, None, refl}
use Rattle.std.specs.Prelude.{◌↔◌, All}
use Rattle.std.specs.List.{AllByRecursion, cons_option}
use Rattle.std.specs.Option.{option_map}
use Rattle.std.proofs.lemmas.List.Elements.{All-from_recursion, recursion_from_All}
use Rattle.adv_check.specs.declared.findings.Fault.{Fault}
use Rattle.adv_check.specs.declared.findings.Warning.{Warning}
use Rattle.adv_check.specs.Sites.{Site, warnings_of}

abbrev pub HasNoFault : Site → Type 0
HasNoFault site = site.fault ≡ None

parts : (fault : Option Fault) (f : Fault → Warning) (others : List Warning) → cons_option (option_map f fault) others ≡ [] → (fault ≡ None) × (others ≡ [])
parts None f others h = (refl, h)
parts (Some x) f others h = cc

whole : (fault : Option Fault) (f : Fault → Warning) (others : List Warning) → fault ≡ None → others ≡ [] → cons_option (option_map f fault) others ≡ []
whole None f others h k = k
whole (Some x) f others h k = cc

none_wrong : (places : List Site) → warnings_of places ≡ [] → AllByRecursion HasNoFault places
none_wrong [] h = tt
none_wrong (place ∷ places) h = let here = parts place.fault _ (warnings_of places) h in (here.0, none_wrong places here.1)

none_listed : (places : List Site) → AllByRecursion HasNoFault places → warnings_of places ≡ []
none_listed [] h = refl
none_listed (place ∷ places) h = whole place.fault _ (warnings_of places) h.0 (none_listed places h.1)

pub none_listed-where_none_wrong : (places : List Site) → (warnings_of places ≡ []) ↔ All HasNoFault places
none_listed-where_none_wrong places =
    ((λ h. All-from_recursion HasNoFault places (none_wrong places h)), (λ h. none_listed places (recursion_from_All HasNoFault places h)))
