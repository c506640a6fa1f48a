-- What is said of a fault: an opening, a number and a closing.
use Rattle.std.specs.Prelude.{ℕ, List, [], ◌∷◌, codes, decimal}
use Rattle.std.specs.Fmt.{signed_decimal}
use Rattle.scott_format.specs.declared.faults.Field.{Field}
use Rattle.scott_format.specs.declared.faults.Field.TheVariants.{HighestItem, HighestAction, HighestWord, HighestRoom, WordLength, LightTime, HighestMessage}
use Rattle.scott_format.specs.declared.faults.FormatFault.{FormatFault}
use Rattle.scott_format.specs.declared.faults.FormatFault.TheVariants.{NoNumber, BigNumber, NoQuote, OpenString, LongString, Limit, NoStart, NegativeAction, Memory}

-- a number of the header that breaks its limit
unfoldable pub field_opening : Field → List ℕ
field_opening HighestItem = codes "highest item is "
field_opening HighestAction = codes "highest action is "
field_opening HighestWord = codes "highest word is "
field_opening HighestRoom = codes "highest room is "
field_opening WordLength = codes "word length is "
field_opening LightTime = codes "light time is "
field_opening HighestMessage = codes "highest message is "

unfoldable pub fault_opening : FormatFault → List ℕ
fault_opening (NoNumber at) = codes "no number at "
fault_opening (BigNumber at) = codes "number too large at "
fault_opening (NoQuote at) = codes "no quote at "
fault_opening (OpenString at) = codes "string not closed at "
fault_opening (LongString at) = codes "string too long at "
fault_opening (Limit field value) = field_opening field
fault_opening (NoStart value) = codes "start room "
fault_opening (NegativeAction k) = codes "action "
fault_opening Memory = []

abbrev pub fault_number : FormatFault → List ℕ
fault_number (NoNumber at) = decimal at
fault_number (BigNumber at) = decimal at
fault_number (NoQuote at) = decimal at
fault_number (OpenString at) = decimal at
fault_number (LongString at) = decimal at
fault_number (Limit field value) = signed_decimal value
fault_number (NoStart value) = signed_decimal value
fault_number (NegativeAction k) = decimal k
fault_number Memory = []

unfoldable pub fault_closing : FormatFault → List ℕ
fault_closing (NoStart value) = codes " is not there"
fault_closing (NegativeAction k) = codes " has a negative number"
fault_closing _ = []

-- the text of a fault, in pieces; want of memory has none
abbrev pub fault_pieces : FormatFault → List (List ℕ)
fault_pieces fault = fault_opening fault ∷ fault_number fault ∷ fault_closing fault ∷ []
