use Rattle.std.proofs.Common.{◌∷◌, ◌++◌, [], codes}
use Rattle.adv_decompiler.specs.Layout.{spaced, below, word, mark}
use Rattle.adv_decompiler.specs.Plain.{trailer_line}
use Rattle.adv_decompiler.proofs.Texts.{then_text}
use Rattle.adv_decompiler.proofs.decompiling.put_trailer.Goals as goal

pub returns : goal.returns
returns c =
    let old = c.args.out.now.items in
    let opened = word below (codes "trailer") ∷ mark spaced 123 ∷ [] in
    let line = trailer_line c.args.trailer.now in
    then_text old c.put_numbers.new.out.items c.extend_from_slice-2.new.self.items (opened ++ line) (mark below 125 ∷ [])
    (then_text old c.extend_from_slice.new.self.items c.put_numbers.new.out.items opened line
    c.in_ok-extend_from_slice.ensures.items c.in_ok-put_numbers.ensures)
    c.in_ok-extend_from_slice-2.ensures.items
