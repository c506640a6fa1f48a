-- What a method of the parser says: what a plan reads from its input on.
use Rattle.std.specs.Prelude.{◌≡◌, ◌≤◌, ◌<◌, Bool, ◌∷◌, length, drop, Result, Ok, Err, OnOk}
use Rattle.inform_lexemes.specs.Lexemes.{Lexeme}
use Rattle.inform_grammar.specs.Faults.{Unexpected, Mixed, TooDeep, fault}
use Rattle.inform_grammar.specs.Lexemes.{one_less}
use Rattle.inform_grammar.specs.Plan.{Plan}
use Rattle.inform_grammar.specs.Reading.{Input, input, Answer, reads, within_limit}
use Rattle.inform_parser.specs.Nexts.{next_of}
use Rattle.inform_parser.specs.declared.stops.Stop.{Stop}
use Rattle.inform_parser.specs.declared.stops.Stop.TheVariants as stop

-- what a plan reads from an input on
unfoldable pub read : {X : Type 0} → Plan X → Input → Answer X
read p s = reads within_limit s.rest p s.opened

-- the fault that a stop is stands at the input; memory may run out anywhere
abbrev pub StopsAt : {X : Type 0} → Input → Stop → Answer X → Type 0
StopsAt s stop.Unexpected answer = answer ≡ Err (fault Unexpected s.rest)
StopsAt s stop.Mixed answer = answer ≡ Err (fault Mixed s.rest)
StopsAt s stop.TooDeep answer = answer ≡ Err (fault TooDeep s.rest)
StopsAt s stop.Memory answer = Unit {0}

-- what was given is what is read, up to this input, or its fault stands there
abbrev pub Answered : {T V : Type 0} → (T → V) → Result T Stop → Input → Answer V → Type 0
Answered view (Ok x) after answer = answer ≡ Ok (view x, after)
Answered view (Err stop) after answer = StopsAt after stop answer

-- from an input to another, a method gave what the plan reads
abbrev pub Gives : {T V : Type 0} → (T → V) → Plan V → Input → Result T Stop → Input → Type 0
Gives view p s result after = Answered view result after (read p s)

-- so a method reads: it gave what the plan reads, and took nothing back
pub record Reads {T V : Type 0} (view : T → V) (plan : Plan V) (s : Input) (result : Result T Stop)
    (after : Input) : Type 0 where
  pub gives : Gives view plan s result after
  pub ahead : length after.rest ≤ length s.rest

-- and so where the plan takes a lexeme before it gives anything
pub record ReadsSome {T V : Type 0} (view : T → V) (plan : Plan V) (s : Input)
    (result : Result T Stop) (after : Input) : Type 0 where
  pub gives : Gives view plan s result after
  pub ahead : length after.rest ≤ length s.rest
  pub taken : OnOk result (length after.rest < length s.rest)

-- this lexeme stood next, passes the test, and was taken
pub record Passes (test : Lexeme → Bool) (x : Lexeme) (s after : Input) : Type 0 where
  pub gives : read (next_of test) s ≡ Ok (x, after)
  pub taken : length after.rest < length s.rest

-- a statement that was open has ended
abbrev pub shut_spot : Input → Input
shut_spot s = input (one_less s.opened) s.rest

-- this lexeme stands next
abbrev pub StandsNext : Lexeme → Input → Type 0
StandsNext x s = s.rest ≡ x ∷ drop 1 s.rest
