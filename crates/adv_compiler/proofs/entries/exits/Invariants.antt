use Rattle.std.proofs.Common.{◌≡◌, [], take, drop, length}
use Rattle.adv_compiler.specs.Index.{known_in}
use Rattle.adv_compiler.specs.Entries.{exits}
use Rattle.adv_compiler.proofs.entries.exits.Given as goal

-- the exits so far and those from here on are all
abbrev pub invariant-loop-k : goal.invariant-loop-k
invariant-loop-k l = record {
  six : length l.ways ≡ 6;
  meant : exits (known_in l.tables) (take l.k l.ways) (drop l.k l.refs) ≡ exits (known_in l.tables) [] l.refs;
}
