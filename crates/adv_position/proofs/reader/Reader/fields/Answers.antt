use Rattle.std.proofs.Common.{◌∙◌, ◌≡◌, w32, length, rules}
use Rattle.std.proofs.lemmas.Int.{to_z-of_z}
use Rattle.adv_position.proofs.Stepping.{fields-more}
use Rattle.adv_position.proofs.reader.Reader.fields.Goals as goal

pub loop-value-preserved : goal.loop-value-preserved
loop-value-preserved g c =
    let least = to_z-of_z w32 c.args.least c.ranges.least in
    let most = to_z-of_z w32 c.args.most c.ranges.most in
    let count : length c.loop-value.values ≡ length c.args.values.now = search rules in
    rw (least, most)
    ((rw (least, most) at c.loop-value.invariant)
    ∙ fields-more g.N.Number.value_of c.args.least c.args.most c.loop-value.values
    (length c.args.values.now) c.loop-value.value-index c.loop-value.self c.in_ok-value.field-0
    c.field.new.self c.loop-value-test.true count
    (rw (least, most) at c.in_ok-value.ensures))
