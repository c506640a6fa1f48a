use Rattle.std.proofs.Common.{◌≡◌, to_z, of_z, w64, rules}
use Rattle.adv_check.proofs.faults.meant_fault.Goals as goal

pub returns-in-Say : goal.returns-in-Say
returns-in-Say c =
    let value : to_z w64 (of_z w64 c.from.result) ≡ c.from.result = search rules in
    rw c.in-Say.is (rw (value, c.from.ensures, c.messages.ensures.value) at c.unless.ensures)
