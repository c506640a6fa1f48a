-- The reserved words by their first letter.
use Rattle.std.specs.Prelude.{ℕ, nat_eq, List, length, map, slice_index}
use Rattle.std.specs.List.{filter}
use Rattle.inform_tree.specs.declared.words.TheConstants.{RESERVED}

-- how long the reserved words are that begin with a byte
unfoldable pub reserved_sizes : ℕ → List ℕ
reserved_sizes first =
    map length (filter (λ word. nat_eq first (slice_index word 0)) (map (λ w. w.now) RESERVED))
