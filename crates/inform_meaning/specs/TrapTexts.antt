-- What is said of a trap.
use Rattle.std.specs.Prelude.{ℕ, List, codes}
use Rattle.inform_meaning.specs.declared.traps.Trap.{Trap}
use Rattle.inform_meaning.specs.declared.traps.Trap.TheVariants.{Division, Index, Random, Depth, Line}

unfoldable pub trap_word : Trap → List ℕ
trap_word Division = codes "division"
trap_word Index = codes "index"
trap_word Random = codes "random"
trap_word Depth = codes "depth"
trap_word Line = codes "line"
