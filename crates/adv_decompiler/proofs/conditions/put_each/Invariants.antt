use Rattle.std.proofs.Common.{◌≡◌, ◌++◌, flat_map, take}
use Rattle.adv_decompiler.specs.Layout.{text_of}
use Rattle.adv_decompiler.specs.Lines.{condition}
use Rattle.adv_decompiler.proofs.conditions.put_each.Given as goal

abbrev pub invariant-loop-packed : goal.invariant-loop-packed
invariant-loop-packed l = l.out.items ≡ l.fn.out.items ++ text_of (flat_map (condition l.sizes) (take l.packed-index l.conds))
