use Rattle.std.proofs.Common.{◌∙◌, ◌++◌, map, ap, subst, slice_index_or, Some, None}
use Rattle.inform_tree.specs.Statements.{statement_of}
use Rattle.scott_rules.specs.Groups.{groups_of}
use Rattle.trans_groups.specs.Search.{verb_tries}
use Rattle.trans_groups.specs.Heads.{tries_from, IsFound}
use Rattle.trans_groups.proofs.Indexed.{begun, walked, walked_on}
use Rattle.trans_groups.proofs.searching.verb_tries.Goals as goal

-- src/searching.rt
pub loop-next-init : goal.loop-next-init
loop-next-init c = let at = begun c.args.actions.now c.args.verb c.args.first c.requires.first in (
  at.0,
  ap (λ xs. map statement_of xs ++ tries_from c.args.actions.now c.args.verb c.args.first)
      c.new-body.ensures.items ∙ at.1,
)

pub loop-next-smaller : goal.loop-next-smaller
loop-next-smaller c = let head : IsFound c.args.actions.now c.args.verb (Some c.in-Some.line) =
    subst (IsFound c.args.actions.now c.args.verb) c.in-Some.is c.loop-next.invariant.0 in
    walked_on c.args.actions.now c.args.verb c.loop-next.next
    (slice_index_or c.args.nexts.now c.in-Some.line None) c.in-Some.line c.in-Some.is
    (c.requires.nexts c.in-Some.line head.there) c.loop-next.invariant.0

pub loop-next-preserved : goal.loop-next-preserved
loop-next-preserved c = let head : IsFound c.args.actions.now c.args.verb (Some c.in-Some.line) =
    subst (IsFound c.args.actions.now c.args.verb) c.in-Some.is c.loop-next.invariant.0 in
    walked c.args.actions.now c.args.verb c.loop-next.next
    (slice_index_or c.args.nexts.now c.in-Some.line None) c.in-Some.line c.in-Some.is
    (c.requires.nexts c.in-Some.line head.there) (map statement_of c.loop-next.body.items)
    (map statement_of c.put_head.new.body.items) (verb_tries c.args.verb
    (groups_of 0 c.args.actions.now)) c.loop-next.invariant
    (rw c.noun_of.ensures at c.in_ok-put_head.ensures)
