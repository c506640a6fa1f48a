use Rattle.std.proofs.Common.{map}
use Rattle.scott_types.specs.Action.{opcode_numbers, parameters}
use Rattle.adv_check.specs.declared.findings.Part.TheVariants.{Condition, Opcode}
use Rattle.adv_check.specs.Faults.{condition_fault, opcode_faults}
use Rattle.adv_check.specs.Sites.{part_sites}
use Rattle.adv_check.proofs.Joined.{both}
use Rattle.adv_check.proofs.entries.ActionWarned.add_warnings.Goals as goal

pub returns : goal.returns
returns c =
    let db = c.args.db.now in
    let a = c.args.self.now in
    both c.args.found.now.items c.add_part.new.found.items c.add_part-2.new.found.items
    (part_sites Condition c.args.index (map (condition_fault db) a.conds)) (part_sites Opcode c.args.index (opcode_faults db (opcode_numbers a) (parameters a)))
    (rw c.condition_faults.ensures at c.in_ok-add_part.ensures) (rw c.opcode_faults.ensures at c.in_ok-add_part-2.ensures)
