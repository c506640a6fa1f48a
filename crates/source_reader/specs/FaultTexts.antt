-- What is said of a fault: an opening and a place.
use Rattle.std.specs.Prelude.{ℕ, List, [], ◌∷◌, codes, decimal}
use Rattle.source_reader.specs.declared.faults.SourceFault.{SourceFault}
use Rattle.source_reader.specs.declared.faults.SourceFault.TheVariants.{Unexpected, BigNumber, OpenString, LongString, LongName, Memory}

unfoldable pub fault_opening : SourceFault → List ℕ
fault_opening (Unexpected at) = codes "unexpected text at "
fault_opening (BigNumber at) = codes "number too large at "
fault_opening (OpenString at) = codes "string not closed at "
fault_opening (LongString at) = codes "string too long at "
fault_opening (LongName at) = codes "name too long at "
fault_opening Memory = []

abbrev pub fault_place : SourceFault → List ℕ
fault_place (Unexpected at) = decimal at
fault_place (BigNumber at) = decimal at
fault_place (OpenString at) = decimal at
fault_place (LongString at) = decimal at
fault_place (LongName at) = decimal at
fault_place Memory = []

-- the text of a fault, in pieces; want of memory has none
abbrev pub fault_pieces : SourceFault → List (List ℕ)
fault_pieces fault = fault_opening fault ∷ fault_place fault ∷ []
