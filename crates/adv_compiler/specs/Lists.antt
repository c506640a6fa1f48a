-- What a list means: entries, of which there is one at least and no more than so many.
use Rattle.std.specs.Prelude.{ℕ, nat_le, pos, negsuc, if◌then◌else◌, List, [], ◌∷◌, ◌++◌, length, Result, Ok, Err}
use Rattle.source_reader.specs.declared.tree.At.{At}
use Rattle.source_reader.specs.declared.tree.Entries.{Entries}
use Rattle.adv_compiler.specs.Faults.{Fault, limit, ◌>>=◌}

-- the entries from here on, after those before; `highest` is the highest number of an entry
abbrev pub each : {X Y : Type 0} → (ℕ → At X → Result Y Fault) → ℕ → List Y → List (At X)
    → Result (List Y) Fault
each one highest before [] = Ok before
each one highest before (e ∷ entries) =
    if nat_le (length before) highest
    then (one (length before) e >>= λ y. each one highest (before ++ y ∷ []) entries)
    else Err (limit e.at (pos (length before)))

-- an empty list is refused at its closing brace
abbrev pub some : {Y : Type 0} → ℕ → List Y → Result (List Y) Fault
some end [] = Err (limit end (negsuc 0))
some end (y ∷ ys) = Ok (y ∷ ys)

abbrev pub list_of : {X Y : Type 0} → (ℕ → At X → Result Y Fault) → ℕ → Entries X
    → Result (List Y) Fault
list_of one highest entries = each one highest [] entries.entries >>= some entries.end
