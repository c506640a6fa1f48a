-- What is said of a fault, in seven pieces: `light is 40000, outside 16 bits`, or
-- `line 3 condition 2 is 32768, outside 16 bits`.
use Rattle.std.specs.Prelude.{ℕ, List, [], ◌∷◌, codes, decimal}
use Rattle.std.specs.Fmt.{signed_decimal}
use Rattle.trans_specs.specs.declared.places.Place.{Place}
use Rattle.trans_specs.specs.declared.places.Place.TheVariants.{Carry, Treasures, Light, Home, Verb, Condition, Opcode}
use Rattle.translator.specs.declared.faults.TransFault.{TransFault}
use Rattle.translator.specs.declared.faults.TransFault.TheVariants.{Wide, Memory}

-- ---- a place, in four pieces: a name, or a line by its number, and what of the line

unfoldable pub place_opening : Place → List ℕ
place_opening Carry = codes "carry"
place_opening Treasures = codes "treasures"
place_opening Light = codes "light"
place_opening Home = codes "treasure room"
place_opening (Verb k) = codes "line "
place_opening (Condition k j) = codes "line "
place_opening (Opcode k j) = codes "line "

abbrev pub place_line : Place → List ℕ
place_line (Verb k) = decimal k
place_line (Condition k j) = decimal k
place_line (Opcode k j) = decimal k
place_line _ = []

unfoldable pub place_part : Place → List ℕ
place_part (Verb k) = codes " verb"
place_part (Condition k j) = codes " condition "
place_part (Opcode k j) = codes " opcode "
place_part _ = []

abbrev pub place_number : Place → List ℕ
place_number (Condition k j) = decimal j
place_number (Opcode k j) = decimal j
place_number _ = []

-- ---- a fault

unfoldable pub before_value : List ℕ
before_value = codes " is "

unfoldable pub too_wide_ending : List ℕ
too_wide_ending = codes ", outside 16 bits"

abbrev pub fault_opening : TransFault → List ℕ
fault_opening (Wide place value) = place_opening place
fault_opening Memory = []

abbrev pub fault_line : TransFault → List ℕ
fault_line (Wide place value) = place_line place
fault_line Memory = []

abbrev pub fault_part : TransFault → List ℕ
fault_part (Wide place value) = place_part place
fault_part Memory = []

abbrev pub fault_number : TransFault → List ℕ
fault_number (Wide place value) = place_number place
fault_number Memory = []

abbrev pub fault_before_value : TransFault → List ℕ
fault_before_value (Wide place value) = before_value
fault_before_value Memory = []

abbrev pub fault_value : TransFault → List ℕ
fault_value (Wide place value) = signed_decimal value
fault_value Memory = []

abbrev pub fault_ending : TransFault → List ℕ
fault_ending (Wide place value) = too_wide_ending
fault_ending Memory = []

-- a place with its number; want of memory has no text
abbrev pub fault_pieces : TransFault → List (List ℕ)
fault_pieces fault =
    fault_opening fault ∷ fault_line fault ∷ fault_part fault ∷ fault_number fault
    ∷ fault_before_value fault ∷ fault_value fault ∷ fault_ending fault ∷ []
