-- Conditions as plain trees, and the one that a `Cond` of the program is.
use Rattle.std.specs.Prelude.{List, [], ◌∷◌, map}
use Rattle.inform_tree.specs.declared.conditions.Relation.{Relation}
use Rattle.inform_tree.specs.declared.conditions.Cond.{Cond}
use Rattle.inform_tree.specs.declared.conditions.Cond.TheOpen.{Cond-F}
use Rattle.inform_tree.specs.declared.conditions.Cond.TheOpen as c
use Rattle.inform_tree.specs.declared.conditions.Cond.TheFolds.{fold-Cond}
use Rattle.inform_tree.specs.Values.{Expression, expression_of}

-- ---- the trees

mutual
  pub data Condition : Type 0 where
    Compare : Relation → Expression → Expression → Condition
    Nonzero : Expression → Condition
    All : Conditions → Condition
    Any : Conditions → Condition
    Not : Condition → Condition

  -- the members of `All` and `Any`
  pub data Conditions : Type 0 where
    NoConditions : Conditions
    MoreConditions : Condition → Conditions → Conditions

-- ---- the tree of a `Cond`

abbrev pub conditions : List Condition → Conditions
conditions [] = NoConditions
conditions (x ∷ xs) = MoreConditions x (conditions xs)

-- one layer of it, where the trees of the parts are known
abbrev pub condition_step : Cond-F Condition → Condition
condition_step (c.Compare relation left right) =
    Compare relation (expression_of left) (expression_of right)
condition_step (c.Nonzero x) = Nonzero (expression_of x)
condition_step (c.All xs) = All (conditions xs.items)
condition_step (c.Any xs) = Any (conditions xs.items)
condition_step (c.Not x) = Not x.value

abbrev pub condition_of : Cond → Condition
condition_of = fold-Cond Condition condition_step

abbrev pub conditions_of : List Cond → Conditions
conditions_of xs = conditions (map condition_of xs)
