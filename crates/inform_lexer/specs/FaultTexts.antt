-- What is said of a fault: an opening and a place.
use Rattle.std.specs.Prelude.{ℕ, List, [], ◌∷◌, codes, decimal}
use Rattle.inform_lexer.specs.declared.faults.LexFault.{LexFault}
use Rattle.inform_lexer.specs.declared.faults.LexFault.TheVariants.{BadByte, BigNumber, LongName, BadCharacter, BadString, OpenString, Memory}

unfoldable pub fault_opening : LexFault → List ℕ
fault_opening (BadByte at) = codes "bad byte at "
fault_opening (BigNumber at) = codes "number too large at "
fault_opening (LongName at) = codes "name too long at "
fault_opening (BadCharacter at) = codes "bad character at "
fault_opening (BadString at) = codes "bad string at "
fault_opening (OpenString at) = codes "string not closed at "
fault_opening Memory = []

abbrev pub fault_place : LexFault → List ℕ
fault_place (BadByte at) = decimal at
fault_place (BigNumber at) = decimal at
fault_place (LongName at) = decimal at
fault_place (BadCharacter at) = decimal at
fault_place (BadString at) = decimal at
fault_place (OpenString at) = decimal at
fault_place Memory = []

-- the text of a fault, in pieces; want of memory has none
abbrev pub fault_pieces : LexFault → List (List ℕ)
fault_pieces fault = fault_opening fault ∷ fault_place fault ∷ []
