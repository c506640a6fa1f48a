use Rattle.std.proofs.Common.{w32, FitsSigned, rules}
use Rattle.std.proofs.lemmas.Int.{to_z-of_z}
use Rattle.adv_position.proofs.Stepping.{field-no_label, field-no_number, field-some}
use Rattle.adv_position.proofs.reader.Reader.field.Goals as goal

pub returns-in_err-text : goal.returns-in_err-text
returns-in_err-text g c =
    rw c.from_residual.ensures
    (field-no_label g.N.Number.value_of c.args.label.now c.args.least c.args.most c.args.self.now
    c.in_err-text.ensures)

pub returns-in_err-number : goal.returns-in_err-number
returns-in_err-number g c =
    let least = to_z-of_z w32 c.args.least c.ranges.least in
    let most = to_z-of_z w32 c.args.most c.ranges.most in
    rw c.from_residual-in_err-number.ensures
    (field-no_number g.N.Number.value_of c.args.label.now c.args.least c.args.most c.args.self.now
    c.text.new.self c.in_ok-text.ensures
    (rw (least, most) at c.in_err-number.ensures.value))

pub returns : goal.returns
returns g c =
    let least = to_z-of_z w32 c.args.least c.ranges.least in
    let most = to_z-of_z w32 c.args.most c.ranges.most in
    let z = c.in_ok-number.number in
    let fits : FitsSigned w32 z = search rules in
    let same = to_z-of_z w32 z fits in
    rw (c.of.ensures, same)
    (field-some g.N.Number.value_of c.args.label.now c.args.least c.args.most c.args.self.now
    c.text.new.self z c.number.new.self c.in_ok-text.ensures
    (rw (least, most) at c.in_ok-number.ensures.value))
