-- Texts that were buffered.
use Rattle.std.specs.Prelude.{ℕ, List}

-- the text that they make, and how many they are
pub record PageText : Type 0 where
  pub text : List ℕ
  pub pieces : ℕ
