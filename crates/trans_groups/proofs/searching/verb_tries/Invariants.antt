use Rattle.std.proofs.Common.{◌≡◌, ◌-◌, ◌++◌, length, map}
use Rattle.inform_tree.specs.Statements.{statement_of}
use Rattle.scott_rules.specs.Groups.{groups_of}
use Rattle.trans_groups.specs.Search.{verb_tries}
use Rattle.trans_groups.specs.Heads.{tries_from, IsFound, place_of}
use Rattle.trans_groups.proofs.searching.verb_tries.Given as goal

-- a head of the verb is next, or none; what was tried and what is left are all heads of the verb
abbrev pub invariant-loop-next : goal.invariant-loop-next
invariant-loop-next l = IsFound l.actions l.verb l.next
    × (map statement_of l.body.items ++ tries_from l.actions l.verb l.next
    ≡ verb_tries l.verb (groups_of 0 l.actions))

abbrev pub decreases-loop-next : goal.decreases-loop-next
decreases-loop-next l = length l.actions - place_of l.actions l.next
