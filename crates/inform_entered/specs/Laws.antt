-- The law of entered routines.
use Rattle.std.specs.Prelude.{ℕ, ◌≡◌, List, slice_get, Option}
use Rattle.std.specs.Option.{option_and_then}
use Rattle.std.specs.List.{filter_map}
use Rattle.adv_io.specs.Steps.{noted}
use Rattle.inform_tree.specs.declared.widths.Width.{Width}
use Rattle.inform_tree.specs.Programs.{DirectiveTree}
use Rattle.inform_names.specs.Meanings.{name_of}
use Rattle.inform_meaning.specs.Programs.{run_of}
use Rattle.inform_entered.specs.Entered.{entered}

-- the number that a directive has by its name
abbrev pub number_at : (List ℕ → Option ℕ) → List DirectiveTree → ℕ → Option ℕ
number_at number ds at = option_and_then (λ d. number (name_of d)) (slice_get ds at)

-- Where each routine is noted by a number that its name has, a run of any program notes just the
-- numbers of the routines that it enters.
abbrev pub EnteredAreNoted : Type 0
EnteredAreNoted = (width : Width) (ds : List DirectiveTree) (number : List ℕ → Option ℕ)
    (steps : ℕ) (lines : List (List ℕ)) (draws : List ℕ)
    → noted (run_of width ds (λ name at. number name) steps lines draws).1.past
    ≡ filter_map (number_at number ds) (entered width ds steps lines draws)
