use Rattle.std.proofs.Common.{◌∙◌, sym, ap, length, take, ◌-◌, slice_index_or}
use Rattle.inform_tree.specs.Names.{with_bytes}
use Rattle.inform_tree.proofs.Numbered.{parted, with_last}
use Rattle.inform_tree.proofs.names.number.Goals as goal

-- src/names.rt:73:5
pub loop-rest-preserved : goal.loop-rest-preserved
loop-rest-preserved c =
    c.loop-rest.invariant ∙ ap (λ bytes. with_bytes bytes c.loop-rest.number) (parted c.loop-rest.rest.now 0 c.in-len1-up.len_at_least)
    ∙ with_last (take (length c.loop-rest.rest.now - 1) c.loop-rest.rest.now) (slice_index_or c.loop-rest.rest.now (length c.loop-rest.rest.now - 1) 0) c.loop-rest.number
    ∙ ap (with_bytes (take (length c.loop-rest.rest.now - 1) c.loop-rest.rest.now)) (sym c.with_byte-number.ensures)
