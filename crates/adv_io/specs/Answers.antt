-- What a call answers that gives a value, finds a fault, or runs out of memory. By `fault_of` a
-- crate says which fault of its definitions an answer is; want of memory is none.
use Rattle.std.specs.Prelude.{◌≡◌, ◌⊎◌, Option, IfSome, IsSomeAnd, Result, Ok, Err}

-- a fault that was answered is the one that is expected, unless memory ran out
abbrev pub IsExpected : {X F E : Type 0} → (E → Option F) → E → Result X F → Type 0
IsExpected fault_of answer expected = IfSome (fault_of answer) (λ fault. expected ≡ Err fault)

-- the same of a call that takes no memory
abbrev pub IsExactly : {X F E : Type 0} → (E → Option F) → E → Result X F → Type 0
IsExactly fault_of answer expected = IsSomeAnd (fault_of answer) (λ fault. expected ≡ Err fault)

-- a value that was given, as seen by view, or a fault that was answered is the one that is
-- expected, unless memory ran out
abbrev pub Answers : {T X F E : Type 0} → (T → X) → (E → Option F) → Result T E → Result X F
    → Type 0
Answers view fault_of (Ok given) expected = expected ≡ Ok (view given)
Answers view fault_of (Err answer) expected = IsExpected fault_of answer expected

-- this was answered, or the other answer, that memory ran out
abbrev pub IsErrOr : {T E : Type 0} → (memory : E) → Result T E → E → Type 0
IsErrOr memory result answer = (result ≡ Err answer) ⊎ (result ≡ Err memory)
