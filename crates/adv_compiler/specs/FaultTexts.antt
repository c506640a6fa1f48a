-- What is said of a fault: an opening, a place or a number, and what stands after a number.
use Rattle.std.specs.Prelude.{ℕ, List, [], ◌∷◌, codes, decimal}
use Rattle.std.specs.Fmt.{signed_decimal}
use Rattle.adv_compiler.specs.declared.faults.CompileFault.{CompileFault}
use Rattle.adv_compiler.specs.declared.faults.CompileFault.TheVariants.{Unnamed, Twice, TooManyConditions, TooManyOpcodes, Limit, Memory}

-- a number that is out of its range, if that is the fault
abbrev pub fault_number : CompileFault → List ℕ
fault_number (Limit at value) = signed_decimal value
fault_number _ = []

unfoldable pub fault_opening : CompileFault → List ℕ
fault_opening (Unnamed at) = codes "unknown name at "
fault_opening (Twice at) = codes "name given twice at "
fault_opening (TooManyConditions at) = codes "more than five conditions at "
fault_opening (TooManyOpcodes at) = codes "more than four opcodes at "
fault_opening (Limit at value) = codes " is out of range at "
fault_opening Memory = []

abbrev pub fault_place : CompileFault → List ℕ
fault_place (Unnamed at) = decimal at
fault_place (Twice at) = decimal at
fault_place (TooManyConditions at) = decimal at
fault_place (TooManyOpcodes at) = decimal at
fault_place (Limit at value) = decimal at
fault_place Memory = []

-- the text of a fault, in pieces; want of memory has none
abbrev pub fault_pieces : CompileFault → List (List ℕ)
fault_pieces fault = fault_number fault ∷ fault_opening fault ∷ fault_place fault ∷ []
