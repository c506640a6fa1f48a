use Rattle.std.proofs.Common.{w32, length}
use Rattle.std.proofs.lemmas.Int.{to_z-of_z}
use Rattle.adv_position.proofs.Stepping.{numbers-no_label, numbers-no_fields, numbers-end}
use Rattle.adv_position.proofs.reader.Reader.numbers.Goals as goal

pub returns-in_err-text : goal.returns-in_err-text
returns-in_err-text g c =
    rw c.from_residual.ensures
    (numbers-no_label g.N.Number.value_of c.args.label.now c.args.least c.args.most
    (length c.args.values.now) c.args.self.now c.in_err-text.ensures)

pub returns-in_err-fields : goal.returns-in_err-fields
returns-in_err-fields g c =
    let least = to_z-of_z w32 c.args.least c.ranges.least in
    let most = to_z-of_z w32 c.args.most c.ranges.most in
    rw c.from_residual-in_err-fields.ensures
    (numbers-no_fields g.N.Number.value_of c.args.label.now c.args.least c.args.most
    (length c.args.values.now) c.args.self.now c.text.new.self c.in_ok-text.ensures
    (rw (least, most) at c.in_err-fields.ensures))

pub returns : goal.returns
returns g c =
    let least = to_z-of_z w32 c.args.least c.ranges.least in
    let most = to_z-of_z w32 c.args.most c.ranges.most in
    numbers-end g.N.Number.value_of c.args.label.now c.args.least c.args.most
    (length c.args.values.now) c.args.self.now c.text-2.result c.text.new.self
    c.fields.new.values c.fields.new.self c.text-2.new.self c.in_ok-text.ensures
    (rw (least, most) at c.in_ok-fields.ensures) c.text-2.ensures
