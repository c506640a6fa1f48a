use Rattle.std.proofs.Common.{◌≡◌, ◌∙◌, length, ap, arith}
use Rattle.scott_types.specs.Action.{parameters}
use Rattle.adv_check.specs.Faults.{opcode_faults}
use Rattle.adv_check.proofs.Naming.{four_faults}
use Rattle.adv_check.proofs.entries.opcode_faults.Goals as goal

pub returns : goal.returns
returns c =
    let db = c.args.db.now in
    let left = parameters c.args.action.now in
    let four : length c.opcode_numbers.result ≡ 4 = omega arith in
    four_faults db c.opcode_numbers.result left c.as_slice-all.result.now c.rest-after_first.result.now c.rest-after_second.result.now c.rest-after_third.result.now
    c.opcode_fault.result c.opcode_fault-2.result c.opcode_fault-3.result c.opcode_fault-4.result four (c.as_slice-all.ensures.value ∙ c.parameters-parameters.ensures)
    c.rest-after_first.ensures c.rest-after_second.ensures c.rest-after_third.ensures
    c.opcode_fault.ensures c.opcode_fault-2.ensures c.opcode_fault-3.ensures c.opcode_fault-4.ensures
    ∙ ap (λ numbers. opcode_faults db numbers left) c.opcode_numbers.ensures
