-- What is said of a text that is no list of draws: an opening and a place.
use Rattle.std.specs.Prelude.{ℕ, List, [], ◌∷◌, codes, decimal}
use Rattle.adv_draws.specs.declared.faults.DrawFault.{DrawFault}
use Rattle.adv_draws.specs.declared.faults.DrawFault.TheVariants.{NotADraw, Memory}

unfoldable pub fault_opening : DrawFault → List ℕ
fault_opening (NotADraw at) = codes "not a draw at "
fault_opening Memory = []

abbrev pub fault_number : DrawFault → List ℕ
fault_number (NotADraw at) = decimal at
fault_number Memory = []

-- the text of a fault, in pieces; want of memory has none
abbrev pub fault_pieces : DrawFault → List (List ℕ)
fault_pieces fault = fault_opening fault ∷ fault_number fault ∷ []
