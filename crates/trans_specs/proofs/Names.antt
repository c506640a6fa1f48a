-- The number of a line is read from the name of its routine.
use Rattle.std.proofs.Common.{◌≡◌, ◌∙◌, ◌<◌, ◌^◌, ℕ, Bool, if◌then◌else◌, Some, None, decimal, bytes_eq, refl, ap}
use Rattle.std.proofs.lemmas.Fmt.{decimal_is_IsNumeral}
use Rattle.std.proofs.lemmas.Slice.Eq.{bytes_eq-Decides}
use Rattle.trans_specs.specs.Names.{number_said}
use Rattle.trans_specs.specs.Laws.{LinesAreNumbered}

numbered : (k : ℕ) → k < 2 ^ 64 → number_said (decimal k) ≡ Some k
numbered k small =
    ap (λ (n : ℕ). if bytes_eq (decimal k) (decimal n) then Some n else None)
    (decimal_is_IsNumeral k small).1
    ∙ ap (λ (b : Bool). if b then Some k else None)
    ((bytes_eq-Decides (decimal k) (decimal k)).1 refl)

pub lines_are_numbered : LinesAreNumbered
lines_are_numbered = numbered
