use Rattle.std.proofs.Common.{◌≡◌, ◌+◌, ℕ, List, map, drop, pos}
use Rattle.std.specs.Option.{option_or}
use Rattle.adv_compiler.specs.Known.{named_from}
use Rattle.adv_compiler.specs.Index.{found_in}
use Rattle.adv_compiler.proofs.names.Names.of.Given as goal

-- what isn't in the index yet is found among the entries from here on
abbrev pub invariant-loop-entry : goal.invariant-loop-entry
invariant-loop-entry g l = record {
  number : l.number ≡ pos (l.first + l.entry-index);
  finds : (word : List ℕ)
      → option_or (found_in l.names word) (named_from (map (λ e. g.T.Keyed.key_of l.key e.what) (drop l.entry-index l.entries)) (l.first + l.entry-index) word)
      ≡ named_from (map (λ e. g.T.Keyed.key_of l.key e.what) l.entries) l.first word;
}
