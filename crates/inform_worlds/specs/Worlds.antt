-- The world of a run as the meaning has it, where the globals and the arrays are kept by the
-- numbers of their
-- directives.
use Rattle.std.specs.Prelude.{ℕ, ℤ, pos, Bool, true, false, if◌then◌else◌, List, slice_get, Option, Some, None, unwrap_or, map, []}
use Rattle.inform_names.specs.declared.accepted.Accepted.{Accepted}
use Rattle.inform_names.specs.declared.meanings.Kind.{Kind}
use Rattle.inform_names.specs.declared.meanings.Kind.TheVariants as k
use Rattle.inform_names.specs.declared.meanings.Meaning.{Meaning}
use Rattle.inform_names.specs.Meanings.{Known, word_of_meaning}
use Rattle.inform_names.specs.Places.{is_global}
use Rattle.inform_names.specs.Views.{directives_of, names_of}
use Rattle.inform_meaning.specs.Tables.{first_of_two}
use Rattle.inform_meaning.specs.Worlds as w
use Rattle.inform_meaning.specs.Programs.{program_in, no_notes, global_in, array_in}

-- the program of a run that notes nothing
abbrev pub program_of : Accepted → w.Program
program_of a = program_in a.width (directives_of a) no_notes

-- what a name that means this has among those of its kind
abbrev pub kept_by : {X : Type 0} → (Kind → Bool) → List X → Option Meaning → Option X
kept_by test xs None = None
kept_by test xs (Some m) = if test m.kind then slice_get xs m.at else None

abbrev pub globals_of : Known → List ℤ → List ℕ → Option ℤ
globals_of known values name = kept_by is_global values (known name)

-- the value that a meaning gives a name that is no local
abbrev pub meant_value : List ℤ → Option Meaning → ℤ
meant_value values o =
    unwrap_or (first_of_two (kept_by is_global values o) (word_of_meaning o)) (pos 0)

-- the value of a name that is no local
abbrev pub outer_value : Known → List ℤ → List ℕ → ℤ
outer_value known values name = meant_value values (known name)

abbrev pub is_any_array : Kind → Bool
is_any_array (k.Constant value) = false
is_any_array k.Global = false
is_any_array (k.Array words) = true
is_any_array (k.Routine locals) = false

abbrev pub arrays_of : Known → List (List ℤ) → List ℕ → Option (List ℤ)
arrays_of known arrays name = kept_by is_any_array arrays (known name)

-- ---- at the beginning

-- the word with which each directive's global begins; 0 for what is no global
abbrev pub first_globals : Accepted → List ℤ
first_globals a = map (λ d. unwrap_or (global_in a.width (names_of a) d) (pos 0)) (directives_of a)

-- the entries with which each directive's array begins; none for what is no array
abbrev pub first_arrays : Accepted → List (List ℤ)
first_arrays a = map (λ d. unwrap_or (array_in a.width (names_of a) d) []) (directives_of a)
