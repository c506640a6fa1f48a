use Rattle.std.proofs.Common.{slice_index_or, None, arith}
use Rattle.trans_groups.proofs.Indexed.{not_last, last}
use Rattle.trans_groups.proofs.searching.put_case.Goals as goal

-- src/searching.rt
pub returns-in-Some : goal.returns-in-Some
returns-in-Some c = not_last c.args.actions.now c.args.line c.requires.there (rw c.verb_of-verb.ensures at c.if-verb-eq0.false)
    (slice_index_or c.args.nexts.now c.args.line None)
    (c.requires.index.has_nexts c.args.line (omega arith) c.requires.there) c.args.all.now.items
    c.requires.so_far c.in-Some.field-0 c.in-Some.is

pub returns-in_ok-push-in-None : goal.returns-in_ok-push-in-None
returns-in_ok-push-in-None c = last c.args.actions.now c.args.line c.requires.there
    (rw c.verb_of-verb.ensures at c.if-verb-eq0.false) (slice_index_or c.args.nexts.now c.args.line None)
    (c.requires.index.has_nexts c.args.line (omega arith) c.requires.there) c.args.all.now.items
    c.requires.so_far c.in-None.is c.in_ok-case-in-None.field-0 c.push.new.self.items
    c.in_ok-push-in-None.ensures.items (rw c.verb_of-verb.ensures at c.in_ok-case-in-None.ensures)
