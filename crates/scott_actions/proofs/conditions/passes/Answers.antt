use Rattle.std.proofs.Common.{rules, tests}
use Rattle.std.proofs.lemmas.Iterator.Search.{all_from_yields_List}
use Rattle.std.proofs.lemmas.Iterator.{YieldsList-from_slice}
use Rattle.scott_rules.specs.Actions.{condition_holds}
use Rattle.scott_actions.proofs.conditions.passes.Goals as goal

pub returns : goal.returns
returns c =
    all_from_yields_List (condition_holds c.args.db.now c.args.state.now) _ _ c.all.result c.all.ensures.ran
    (YieldsList-from_slice c.args.action.now.conds cc) (λ x b q k. search (rules, tests))
