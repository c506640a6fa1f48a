-- What is said of a fault: an opening and a place.
use Rattle.std.specs.Prelude.{ℕ, List, [], ◌∷◌, codes, decimal}
use Rattle.inform_parser.specs.declared.faults.ParseFault.{ParseFault}
use Rattle.inform_parser.specs.declared.faults.ParseFault.TheVariants.{Unexpected, Mixed, TooDeep, Memory}

unfoldable pub fault_opening : ParseFault → List ℕ
fault_opening (Unexpected at) = codes "unexpected text at "
fault_opening (Mixed at) = codes "&& and || mixed at "
fault_opening (TooDeep at) = codes "nested too deeply at "
fault_opening Memory = []

abbrev pub fault_place : ParseFault → List ℕ
fault_place (Unexpected at) = decimal at
fault_place (Mixed at) = decimal at
fault_place (TooDeep at) = decimal at
fault_place Memory = []

-- the text of a fault, in pieces; want of memory has none
abbrev pub fault_pieces : ParseFault → List (List ℕ)
fault_pieces fault = fault_opening fault ∷ fault_place fault ∷ []
