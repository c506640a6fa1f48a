-- The laws of codes.
use Rattle.std.specs.Prelude.{ℕ, ◌≡◌, List, ◌++◌}
use Rattle.inform_codes.specs.declared.codes.Code.{Code}
use Rattle.inform_codes.specs.Parts.{Parts, none, with_block}
use Rattle.inform_codes.specs.Grown.{parts_of, body_of, before_of}

-- codes that stand before others take what those leave
abbrev pub CodesJoin : Type 0
CodesJoin = (names : List (List ℕ)) (given : List ℕ) (xs ys : List Code) (after : Parts)
    → parts_of names given (xs ++ ys) after
    ≡ parts_of names given xs (parts_of names given ys after)

-- the codes are a body, and nothing else waits
abbrev pub IsBody : List (List ℕ) → List ℕ → List Code → Type 0
IsBody names given xs = parts_of names given xs none ≡ with_block (body_of names given xs) none

-- what is grown before a body is the body that all codes are
abbrev pub BodiesJoin : Type 0
BodiesJoin = (names : List (List ℕ)) (given : List ℕ) (xs ys : List Code)
    → IsBody names given ys
    → before_of names given xs (body_of names given ys) ≡ body_of names given (xs ++ ys)
