use Rattle.std.proofs.Common.{◌≡◌, drop}
use Rattle.std.specs.Prelude.{IsTrue}
use Rattle.std.specs.List.{list_all}
use Rattle.scott_types.specs.Limits.{is_natural}
use Rattle.adv_compiler.specs.Index.{known_in}
use Rattle.adv_compiler.specs.Lines.{parameters}
use Rattle.adv_compiler.proofs.conditions.parameters.Given as goal

-- what was added and what is still to be added is all
abbrev pub invariant-loop-one : goal.invariant-loop-one
invariant-loop-one l = record {
  kept : IsTrue (list_all is_natural l.conds.items);
  meant : parameters (known_in l.tables) l.conds.items (drop l.one-index l.written) ≡ parameters (known_in l.tables) l.fn.conds.items l.written;
}
