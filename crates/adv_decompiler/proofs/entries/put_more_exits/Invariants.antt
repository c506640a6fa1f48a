use Rattle.std.proofs.Common.{◌≡◌, ◌++◌, map, take}
use Rattle.adv_decompiler.specs.Layout.{text_of, more_listed}
use Rattle.adv_decompiler.specs.References.{exit_token}
use Rattle.adv_decompiler.proofs.entries.put_more_exits.Given as goal

abbrev pub invariant-loop-exit : goal.invariant-loop-exit
invariant-loop-exit l =
    l.out.items ≡ l.fn.out.items ++ text_of (more_listed (map (exit_token l.sizes) (take l.exit-index l.exits)))
