-- Scopes and arguments, as the meaning sees them.
use Rattle.std.specs.Prelude.{ℕ, suc, ℤ, if◌then◌else◌, List, [], ◌∷◌, take, set, Option, Some, None, option_map}
use Rattle.inform_meaning.specs.Tables.{same_name}
use Rattle.inform_meaning.specs.Worlds as w
use Rattle.inform_worlds.specs.declared.arguments.Arguments.{Arguments}
use Rattle.inform_worlds.specs.declared.scopes.Scope.{Scope}

-- names, each with its value
abbrev pub table_of : List (List ℕ) → List ℤ → List (List ℕ × ℤ)
table_of [] values = []
table_of (name ∷ names) [] = []
table_of (name ∷ names) (v ∷ values) = (name, v) ∷ table_of names values

abbrev pub scope_of : Scope → w.Scope
scope_of s = record { directive = s.directive; locals = table_of s.names.now s.locals }

abbrev pub values_of : Arguments → List ℤ
values_of a = take a.count a.values

-- the place of a name
abbrev pub place_in : List ℕ → List (List ℕ) → Option ℕ
place_in name [] = None
place_in name (other ∷ names) =
    if same_name name other then Some 0 else option_map suc (place_in name names)

-- another value at a place, if there is one
abbrev pub set_if_any : Option ℕ → ℤ → List ℤ → List ℤ
set_if_any None v values = values
set_if_any (Some place) v values = set values place v
