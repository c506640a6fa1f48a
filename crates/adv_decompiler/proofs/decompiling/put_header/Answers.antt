use Rattle.std.proofs.Common.{◌∷◌, ◌++◌, [], codes}
use Rattle.adv_decompiler.specs.Layout.{joined, spaced, below, word, mark}
use Rattle.adv_decompiler.specs.Plain.{first_settings, middle_settings, last_settings}
use Rattle.adv_decompiler.proofs.Texts.{then_text}
use Rattle.adv_decompiler.proofs.decompiling.put_header.Goals as goal

pub returns : goal.returns
returns c =
    let old = c.args.out.now.items in
    let opened = word joined (codes "header") ∷ mark spaced 123 ∷ [] in
    let first = first_settings c.args.sizes.now c.args.header.now in
    let middle = middle_settings c.args.header.now in
    let last = last_settings c.args.sizes.now c.args.header.now in
    let inside = then_text c.extend_from_slice.new.self.items c.put_first_settings.new.out.items c.put_last_settings.new.out.items first (middle ++ last)
    c.in_ok-put_first_settings.ensures
    (then_text c.put_first_settings.new.out.items c.put_middle_settings.new.out.items c.put_last_settings.new.out.items middle last
    c.in_ok-put_middle_settings.ensures c.in_ok-put_last_settings.ensures) in
    let lines = first ++ (middle ++ last) in
    then_text old c.put_last_settings.new.out.items c.extend_from_slice-2.new.self.items (opened ++ lines) (mark below 125 ∷ [])
    (then_text old c.extend_from_slice.new.self.items c.put_last_settings.new.out.items opened lines c.in_ok-extend_from_slice.ensures.items inside)
    c.in_ok-extend_from_slice-2.ensures.items
