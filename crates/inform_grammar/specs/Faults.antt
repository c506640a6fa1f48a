-- What is wrong with a list of lexemes.
use Rattle.std.specs.Prelude.{List}
use Rattle.inform_lexemes.specs.Lexemes.{Lexeme}

pub data FaultKind : Type 0 where
  Unexpected : FaultKind  -- a lexeme that can't stand there, or the end of the text
  Mixed : FaultKind  -- `&&` where conditions are joined by `||`, or the other way round
  TooDeep : FaultKind  -- an opener where no more may be open

-- its kind, and the lexemes that are left: the fault stands at the first of them, or at the end
pub record Fault : Type 0 where
  pub kind : FaultKind
  pub rest : List Lexeme

abbrev pub fault : FaultKind → List Lexeme → Fault
fault kind rest = record { kind = kind; rest = rest }
