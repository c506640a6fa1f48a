-- The codes of the conditions in the file.
use Rattle.std.specs.Prelude.{ℕ, List, [], ◌∷◌, slice_index_or}
use Rattle.scott_types.specs.declared.conditions.Condition.{Condition}
use Rattle.scott_types.specs.declared.conditions.Condition.TheVariants.{Parameter, Carried, Here, Near, At, NotHere, NotCarried, NotAt, FlagSet, FlagClear, SomeCarried, NoneCarried, NotNear, InGame, OutOfGame, CounterAtMost, CounterOver, AtStart, NotAtStart, CounterIs}
use Rattle.scott_types.specs.declared.parameters.Parameter.{Parameter as Kind}
use Rattle.scott_types.specs.declared.parameters.Parameter.TheVariants.{Item, Room, Flag, Number}

-- the conditions by their codes, from 0 on
abbrev pub conditions : List Condition
conditions =
    Parameter ∷ Carried ∷ Here ∷ Near ∷ At ∷ NotHere ∷ NotCarried ∷ NotAt ∷ FlagSet ∷ FlagClear
    ∷ SomeCarried ∷ NoneCarried ∷ NotNear ∷ InGame ∷ OutOfGame ∷ CounterAtMost ∷ CounterOver
    ∷ AtStart ∷ NotAtStart ∷ CounterIs ∷ []

-- the condition of a code
abbrev pub condition_of : ℕ → Condition
condition_of code = slice_index_or conditions code Parameter

-- the code of a condition
abbrev pub code_of : Condition → ℕ
code_of Parameter = 0
code_of Carried = 1
code_of Here = 2
code_of Near = 3
code_of At = 4
code_of NotHere = 5
code_of NotCarried = 6
code_of NotAt = 7
code_of FlagSet = 8
code_of FlagClear = 9
code_of SomeCarried = 10
code_of NoneCarried = 11
code_of NotNear = 12
code_of InGame = 13
code_of OutOfGame = 14
code_of CounterAtMost = 15
code_of CounterOver = 16
code_of AtStart = 17
code_of NotAtStart = 18
code_of CounterIs = 19

-- what the argument of a condition names: a mere number where it names nothing
abbrev pub names_of : Condition → Kind
names_of Carried = Item
names_of Here = Item
names_of Near = Item
names_of At = Room
names_of NotHere = Item
names_of NotCarried = Item
names_of NotAt = Room
names_of FlagSet = Flag
names_of FlagClear = Flag
names_of NotNear = Item
names_of InGame = Item
names_of OutOfGame = Item
names_of AtStart = Item
names_of NotAtStart = Item
names_of Parameter = Number
names_of SomeCarried = Number
names_of NoneCarried = Number
names_of CounterAtMost = Number
names_of CounterOver = Number
names_of CounterIs = Number
