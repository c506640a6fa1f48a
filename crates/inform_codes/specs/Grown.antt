-- The trees that codes grow into.
use Rattle.std.specs.Prelude.{ℕ, List, [], ◌∷◌}
use Rattle.inform_tree.specs.Statements.{Statements}
use Rattle.inform_codes.specs.declared.codes.Code.{Code}
use Rattle.inform_codes.specs.Parts.{Parts, none, nearest_block, with_block}
use Rattle.inform_codes.specs.Codes.{taken}

-- what waits before these codes, where this waits after them: the last code is taken first
abbrev pub parts_of : List (List ℕ) → List ℕ → List Code → Parts → Parts
parts_of names given [] after = after
parts_of names given (x ∷ xs) after = taken names given x (parts_of names given xs after)

-- the block that codes are: the nearest one that waits in the end
unfoldable pub body_of : List (List ℕ) → List ℕ → List Code → Statements
body_of names given codes = nearest_block (parts_of names given codes none)

-- the same where the codes are those of statements before the ones of another block
unfoldable pub before_of : List (List ℕ) → List ℕ → List Code → Statements → Statements
before_of names given codes after =
    nearest_block (parts_of names given codes (with_block after none))

-- and where the last statement of the codes has its two blocks handed in
unfoldable pub fork_of : List (List ℕ) → List ℕ → List Code
    → Statements → Statements → Statements → Statements
fork_of names given codes body other after =
    let blocks = with_block body (with_block other (with_block after none)) in
    nearest_block (parts_of names given codes blocks)
