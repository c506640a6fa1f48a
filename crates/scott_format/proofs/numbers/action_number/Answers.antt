use Rattle.std.proofs.Common.{◌≡◌, to_z, of_z, w32, rules}
use Rattle.scott_format.proofs.ActionNumbers.{negative_stops}
use Rattle.scott_format.proofs.numbers.action_number.Goals as goal

pub returns-then-number-lt0 : goal.returns-then-number-lt0
returns-then-number-lt0 c =
    let number : to_z w32 (of_z w32 c.in_ok-number.number) ≡ c.in_ok-number.number = search rules in
    negative_stops c.args.action c.args.scan.now c.number.new.scan c.in_ok-number.number c.in_ok-number.ensures (rw number at c.if-number-lt0.true)
