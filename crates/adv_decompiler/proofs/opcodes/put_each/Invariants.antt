use Rattle.std.proofs.Common.{◌≡◌, ◌++◌, flat_map, drop}
use Rattle.adv_decompiler.specs.Layout.{text_of}
use Rattle.adv_decompiler.specs.Lines.{opcode}
use Rattle.adv_decompiler.specs.Written.{pieces}
use Rattle.adv_decompiler.proofs.opcodes.put_each.Given as goal

abbrev pub invariant-loop-number : goal.invariant-loop-number
invariant-loop-number l =
    l.out.items ++ text_of (flat_map (opcode l.sizes) (pieces l.left (drop l.number-index l.numbers)))
    ≡ l.fn.out.items ++ text_of (flat_map (opcode l.sizes) (pieces l.parameters l.numbers))
