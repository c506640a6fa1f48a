use Rattle.std.proofs.Common.{◌≡◌, to_z, of_z, w16, w32, rules, ◌++◌, ◌∷◌, [], codes, ap, ◌∙◌, pos}
use Rattle.adv_io.specs.Text.{newline, space}
use Rattle.adv_position.specs.Text.{labelled}
use Rattle.adv_position.specs.Numbers.{bit}
use Rattle.adv_position.proofs.Written.{six-written, bit-written}
use Rattle.adv_position.proofs.writing.put_room_line.Goals as goal

pub returns : goal.returns
returns c =
    let s = c.args.state.now in
    let light : to_z w32 (of_z w32 s.light) ≡ s.light = search rules in
    let counter : to_z w16 (of_z w16 s.counter) ≡ s.counter = search rules in
    let redraw = bit-written s.redraw c.bit.result c.bit.ensures in
    six-written c.args.out.now.items c.put_labelled.new.out.items c.put_labelled-2.new.out.items
    c.put_labelled-3.new.out.items c.put_labelled-4.new.out.items c.put_labelled-5.new.out.items
    c.push.new.self.items
    (labelled (codes "room") (pos s.room)) (labelled (codes " saved") (pos s.saved))
    (labelled (codes " light") s.light) (labelled (codes " counter") s.counter)
    (labelled (codes " redraw") (bit s.redraw)) (newline ∷ [])
    c.in_ok-put_labelled.ensures c.in_ok-put_labelled-2.ensures
    (rw light at c.in_ok-put_labelled-3.ensures) (rw counter at c.in_ok-put_labelled-4.ensures)
    (c.in_ok-put_labelled-5.ensures
    ∙ ap (λ t. c.put_labelled-4.new.out.items ++ (codes " redraw" ++ space ∷ t)) redraw)
    c.in_ok-push.ensures.items
