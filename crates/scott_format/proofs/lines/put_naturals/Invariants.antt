use Rattle.std.proofs.Common.{◌≡◌, ◌++◌, take, pos}
use Rattle.std.specs.List.{flat_map}
use Rattle.scott_format.specs.Canon.{number_and_space}
use Rattle.scott_format.proofs.lines.put_naturals.Given as goal

abbrev pub invariant-loop-number : goal.invariant-loop-number
invariant-loop-number l = l.out.items ≡ l.fn.out.items ++ flat_map (λ n. number_and_space (pos n)) (take l.number-index l.numbers)
