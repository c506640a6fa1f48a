use Rattle.std.proofs.Common.{◌∙◌}
use Rattle.adv_gen.proofs.Picking.{none_taken, taken-more, picked-more}
use Rattle.adv_gen.proofs.parts.each.Goals as goal

pub loop-number-init : goal.loop-number-init
loop-number-init g c = record {
  made = c.new-parts.ensures.items;
  next =
      none_taken c.args.picks.now;
}

pub loop-number-preserved : goal.loop-number-preserved
loop-number-preserved g c = record {
  made =
      c.in_ok-push.ensures.items
      ∙ picked-more g.T.Part.taken
      (g.T.Part.part c.args.size) c.loop-number.number c.args.picks.now c.loop-number.picks _ _
      c.loop-number.invariant.next
      c.loop-number.invariant.made c.in_ok-part.ensures.made;
  next =
      taken-more g.T.Part.taken c.loop-number.number c.args.picks.now c.loop-number.picks _
      c.loop-number.invariant.next
      c.in_ok-part.ensures.next;
}
