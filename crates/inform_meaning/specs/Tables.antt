-- Tables by name.
use Rattle.std.specs.Prelude.{ℕ, Bool, nat_eq, if◌then◌else◌, List, [], ◌∷◌, Option, Some, None}
use Rattle.std.specs.Cmp.Lexicographic.{pointwise}

abbrev pub same_name : List ℕ → List ℕ → Bool
same_name = pointwise nat_eq

-- ---- lists of names with what they have

abbrev pub found : {X : Type 0} → List ℕ → List (List ℕ × X) → Option X
found name [] = None
found name (entry ∷ entries) = if same_name name entry.0 then Some entry.1 else found name entries

-- the first entry of the name gets another value; where there is none, nothing changes
abbrev pub updated : {X : Type 0} → List ℕ → X → List (List ℕ × X) → List (List ℕ × X)
updated name x [] = []
updated name x (entry ∷ entries) =
    if same_name name entry.0 then (entry.0, x) ∷ entries else entry ∷ updated name x entries

-- ---- functions of the name

abbrev pub put : {X : Type 0} → (List ℕ → Option X) → List ℕ → X → List ℕ → Option X
put table name x other = if same_name other name then Some x else table other

abbrev pub put_by : {X : Type 0} → Option X → (List ℕ → Option X) → List ℕ → X → List ℕ → Option X
put_by None table name x = table
put_by (Some old) table name x = put table name x

-- another value of a name that is there; where there is none, nothing changes
abbrev pub renewed : {X : Type 0} → (List ℕ → Option X) → List ℕ → X → List ℕ → Option X
renewed table name x = put_by (table name) table name x

-- ---- what may be there

abbrev pub first_of_two : {X : Type 0} → Option X → Option X → Option X
first_of_two None other = other
first_of_two (Some x) other = Some x
