use Rattle.std.proofs.Common.{◌≡◌, codes, to_z, of_z, w64, rules}
use Rattle.adv_check.specs.Report.{place_text, what_text}
use Rattle.adv_check.proofs.Joined.{four_written}
use Rattle.adv_check.proofs.reporting.put_warning.Goals as goal

pub returns : goal.returns
returns c =
    let warning = c.args.warning.now in
    let value : to_z w64 (of_z w64 warning.value) ≡ warning.value = search rules in
    four_written c.args.out.now.items
    c.put_place.new.out.items c.extend_from_slice.new.self.items c.put_what.new.out.items c.push.new.self.items
    (place_text warning.part warning.index warning.place) (codes ": ") (what_text warning.what warning.value) (codes "\n")
    c.in_ok-put_place.ensures c.in_ok-extend_from_slice.ensures.items (rw value at c.in_ok-put_what.ensures) c.in_ok-push.ensures.items
