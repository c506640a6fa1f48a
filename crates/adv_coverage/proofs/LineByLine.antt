-- The counts of lines, one line after another: for the loop of `line_counts`.
use Rattle.std.proofs.Common.{◌≡◌, ℕ, ◌+◌, List, [], ◌∷◌, ◌++◌, refl, ap, add-one}
use Rattle.inform_names.specs.Meanings.{Known}
use Rattle.trans_specs.specs.Names.{line_name}
use Rattle.adv_coverage.specs.Lines.{routine_count, counts_of_lines}

pub no_line : (known : Known) (counts : List ℕ) → counts_of_lines known counts 0 ≡ []
unfolding counts_of_lines
no_line known counts = refl

pub one_line : (known : Known) (counts : List ℕ) (line : ℕ)
    → counts_of_lines known counts (line + 1)
    ≡ counts_of_lines known counts line ++ routine_count counts (known (line_name line)) ∷ []
unfolding counts_of_lines
one_line known counts line = ap (counts_of_lines known counts) (add-one line)
