use Rattle.std.proofs.Common.{◌≡◌, ◌++◌, zip, take}
use Rattle.adv_decompiler.specs.Layout.{text_of}
use Rattle.adv_decompiler.specs.Lines.{action_line}
use Rattle.adv_decompiler.specs.Plain.{lines_of}
use Rattle.adv_decompiler.proofs.actions.put_actions.Given as goal

abbrev pub invariant-loop-k : goal.invariant-loop-k
invariant-loop-k l =
    l.out.items ≡ l.fn.out.items ++ text_of (lines_of (action_line l.sizes) (take l.k (zip l.actions l.comments)))
