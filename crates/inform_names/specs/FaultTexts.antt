-- What is said of a fault, in three pieces: what stands before the name or number, that, and what
-- stands after it.
use Rattle.std.specs.Prelude.{ℕ, List, [], ◌∷◌, codes, decimal}
use Rattle.inform_names.specs.declared.faults.NameFault.{NameFault}
use Rattle.inform_names.specs.declared.faults.NameFault.TheVariants.{Twice, Missing, Kind, TooManyLocals, TooManyArguments, WideNumber, Size, Outside, TooDeep, MainLocals, NoMain, Memory}

unfoldable pub fault_opening : NameFault → List ℕ
fault_opening (WideNumber n) = codes "number "
fault_opening MainLocals = codes "main has locals"
fault_opening NoMain = codes "main is missing"
fault_opening other = []

-- the name or the number
abbrev pub fault_subject : NameFault → List ℕ
fault_subject (Twice name) = name
fault_subject (Missing name) = name
fault_subject (Kind name) = name
fault_subject (TooManyLocals name) = name
fault_subject (TooManyArguments name) = name
fault_subject (WideNumber n) = decimal n
fault_subject (Size name) = name
fault_subject (Outside name) = name
fault_subject (TooDeep name) = name
fault_subject MainLocals = []
fault_subject NoMain = []
fault_subject Memory = []

unfoldable pub fault_ending : NameFault → List ℕ
fault_ending (Twice name) = codes " is defined twice"
fault_ending (Missing name) = codes " is not defined"
fault_ending (Kind name) = codes " is of another kind"
fault_ending (TooManyLocals name) = codes " has too many locals"
fault_ending (TooManyArguments name) = codes " has too many arguments"
fault_ending (WideNumber n) = codes " is too wide"
fault_ending (Size name) = codes " has a wrong size"
fault_ending (Outside name) = codes " leaves no loop"
fault_ending (TooDeep name) = codes " is nested too deeply"
fault_ending MainLocals = []
fault_ending NoMain = []
fault_ending Memory = []

-- the text of a fault; want of memory has none
abbrev pub fault_pieces : NameFault → List (List ℕ)
fault_pieces fault = fault_opening fault ∷ fault_subject fault ∷ fault_ending fault ∷ []
