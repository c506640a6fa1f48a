-- What the answer of a translation says was refused.
use Rattle.std.specs.Prelude.{Option, Some, None, Result, Ok, Err}
use Rattle.trans_specs.specs.Wide.{Placed}
use Rattle.translator.specs.declared.faults.TransFault.{TransFault}
use Rattle.translator.specs.declared.faults.TransFault.TheVariants.{Wide, Memory}

-- the number that a fault tells, with its place; want of memory refuses nothing
abbrev pub number_of : TransFault → Option Placed
number_of (Wide place value) = Some (place, value)
number_of Memory = None

abbrev pub refused : {X : Type 0} → Result X TransFault → Option Placed
refused (Ok x) = None
refused (Err fault) = number_of fault
