-- That a fault of a database is refused as is due.
use Rattle.std.proofs.Common.{List, ℕ, Result, ap}
use Rattle.scott_format.specs.declared.faults.FormatFault.{FormatFault}
use Rattle.scott_format.specs.declared.faults.FormatFault.TheVariants.{NoNumber, BigNumber, NoQuote, OpenString, LongString, Limit, NoStart, NegativeAction, Memory}
use Rattle.scott_format.specs.Faults.{Fault}
use Rattle.scott_format.specs.Reading.{Stands}
use Rattle.scott_types.specs.Database.{Database}
use Rattle.scott_tool.specs.Check.{database_or_unfit}
use Rattle.scott_tool.specs.Obeying.{Declines, database_refusal}

-- a fault of a database is refused as the one that its bytes have, unless memory ran out
pub database-declined : (name : List ℕ) (read : Result Database Fault) (answer : FormatFault)
    → Stands answer read → Declines (database_or_unfit name read) (database_refusal name answer)
database-declined name read (NoNumber at) stands = ap (database_or_unfit name) stands
database-declined name read (BigNumber at) stands = ap (database_or_unfit name) stands
database-declined name read (NoQuote at) stands = ap (database_or_unfit name) stands
database-declined name read (OpenString at) stands = ap (database_or_unfit name) stands
database-declined name read (LongString at) stands = ap (database_or_unfit name) stands
database-declined name read (Limit field value) stands = ap (database_or_unfit name) stands
database-declined name read (NoStart value) stands = ap (database_or_unfit name) stands
database-declined name read (NegativeAction k) stands = ap (database_or_unfit name) stands
database-declined name read Memory stands = tt
