-- What a contract sees of a supply of draws.
use Rattle.std.specs.Prelude.{ℕ, ◌+◌, List, length}

-- the draws that are left, and how many were taken
pub record Supply : Type 0 where
  pub left : List ℕ
  pub taken : ℕ

-- how many draws there were at first: those that were taken and those that are left
abbrev pub supplied : Supply → ℕ
supplied draws = draws.taken + length draws.left

-- a supply of which nothing was taken
abbrev pub untouched : List ℕ → Supply
untouched draws = record { left = draws; taken = 0 }
