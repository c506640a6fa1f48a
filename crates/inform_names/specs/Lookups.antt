-- What a look-up of a name gives.
use Rattle.std.specs.Prelude.{ℕ, ◌≡◌, ◌≤◌, ℤ, pos, List, slice_get, Option, Some}
use Rattle.inform_tree.specs.declared.values.Const.{Const}
use Rattle.inform_tree.specs.Programs as d
use Rattle.inform_tree.specs.Programs.{DirectiveTree}
use Rattle.inform_names.specs.declared.meanings.Kind.TheVariants as k
use Rattle.inform_names.specs.declared.meanings.Meaning.{Meaning}
use Rattle.inform_names.specs.declared.meanings.Value.{Value}
use Rattle.inform_names.specs.declared.meanings.Value.TheVariants as v
use Rattle.inform_names.specs.declared.limits.TheConstants.{LENGTH_LIMIT}
use Rattle.inform_names.specs.Meanings.{word_of_meaning}

-- directive number `at` is a global of this name
abbrev pub IsGlobalAt : List DirectiveTree → ℕ → List ℕ → Type 0
IsGlobalAt program at name =
    (value : Option Const) × (slice_get program at ≡ Some (d.Global name value))

-- what a name that means this stands for as a value: the word of a constant, or a global
abbrev pub IsValueOf : Option Meaning → Value → Type 0
IsValueOf meaning (v.Word word) = word_of_meaning meaning ≡ Some word
IsValueOf meaning (v.Global at) = meaning ≡ Some (record { at = at; kind = k.Global })

-- a length that an array may have
abbrev pub IsLength : Option ℤ → Type 0
IsLength length = (n : ℕ) × (length ≡ Some (pos n)) × (1 ≤ n) × (n ≤ LENGTH_LIMIT)
