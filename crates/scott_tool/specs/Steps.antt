-- Steps that may refuse, one after the other.
use Rattle.std.specs.Prelude.{Result, Ok, Err}

-- a step after another, where that one gave something
infixl 10 ◌>>=◌
abbrev pub ◌>>=◌ : {X Y E : Type 0} → Result X E → (X → Result Y E) → Result Y E
(Ok x) >>= next = next x
(Err refusal) >>= next = Err refusal
