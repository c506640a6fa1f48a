-- What waits in a growth, as plain trees.
use Rattle.std.specs.Prelude.{Option, Some, None, map}
use Rattle.std.specs.Global.{Vec}
use Rattle.inform_tree.specs.declared.statements.Stmt.{Stmt}
use Rattle.inform_tree.specs.Values.{expression_of, arguments_of}
use Rattle.inform_tree.specs.Conditions.{condition_of}
use Rattle.inform_tree.specs.Statements as s
use Rattle.inform_tree.specs.Statements.{statements_of, cases_of}
use Rattle.inform_codes.specs.declared.growths.Growth.{Growth}
use Rattle.inform_codes.specs.declared.growths.Branches as g
use Rattle.inform_codes.specs.Parts.{Parts, Branches}

abbrev pub default_of : Option (Vec Stmt) → s.Default
default_of None = s.NoDefault
default_of (Some xs) = s.SomeDefault (statements_of xs.items)

abbrev pub branches_of : g.Branches → Branches
branches_of b = record { cases = cases_of b.cases.items; otherwise = default_of b.otherwise }

abbrev pub waiting : Growth → Parts
waiting g = record {
  values = map expression_of g.values.items;
  argument_lists = map (λ list. arguments_of list.items) g.argument_lists.items;
  tests = map condition_of g.tests.items;
  blocks = map (λ block. statements_of block.items) g.blocks.items;
  choices = g.choices.items;
  switches = map branches_of g.switches.items;
}
