use Rattle.std.proofs.Common.{◌≡◌, drop}
use Rattle.std.specs.Prelude.{IsTrue}
use Rattle.std.specs.List.{list_all}
use Rattle.scott_types.specs.Limits.{is_natural}
use Rattle.adv_compiler.specs.Index.{known_in}
use Rattle.adv_compiler.specs.Lines.{opcodes, no_opcodes, AreFew}
use Rattle.adv_compiler.proofs.opcodes.opcodes.Given as goal

-- what was added and what is still to be added is all
abbrev pub invariant-loop-op : goal.invariant-loop-op
invariant-loop-op l = record {
  few : AreFew l.pairs;
  kept : IsTrue (list_all is_natural l.conds.items);
  meant : opcodes (known_in l.tables) l.conds.items l.pairs (drop l.op-index l.written) ≡ opcodes (known_in l.tables) l.fn.conds.items no_opcodes l.written;
}
