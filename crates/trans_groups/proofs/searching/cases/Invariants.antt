use Rattle.std.proofs.Common.{◌≡◌, reverse}
use Rattle.inform_tree.specs.Statements.{cases_of}
use Rattle.scott_rules.specs.Groups.{groups_of}
use Rattle.trans_groups.specs.Search.{verb_cases}
use Rattle.trans_groups.specs.Heads.{groups_after}
use Rattle.trans_groups.proofs.searching.cases.Given as goal

-- the verbs whose last heads stand from this line on have their cases, the last one first
abbrev pub invariant-loop-line : goal.invariant-loop-line
invariant-loop-line l = cases_of (reverse l.all.items)
    ≡ verb_cases (groups_of 0 l.actions) (groups_after l.actions l.line)
