-- What the calls of the lexer answer.
use Rattle.std.specs.Prelude.{◌≡◌, Option, Some, None, Result, Ok, Err, List, Vec}
use Rattle.std.specs.Global.{Global}
use Rattle.adv_io.specs.Answers.{IsExpected}
use Rattle.inform_lexer.specs.declared.kinds.Token.{Token}
use Rattle.inform_lexer.specs.declared.faults.LexFault.{LexFault}
use Rattle.inform_lexer.specs.declared.faults.LexFault.TheVariants.{Memory}

-- the fault of a text that an answer is; want of memory is none
abbrev pub fault_of : LexFault → Option LexFault
fault_of Memory = None
fault_of fault = Some fault

-- a fault that was answered is the expected one, unless memory ran out
abbrev pub Stands : {X : Type 0} → LexFault → Result X LexFault → Type 0
Stands fault expected = IsExpected fault_of fault expected

-- these tokens were given, unless memory ran out
abbrev pub IsTokens : Result (Vec Token Global) LexFault → List Token → Type 0
IsTokens (Ok given) tokens = given.items ≡ tokens
IsTokens (Err fault) tokens = fault ≡ Memory
