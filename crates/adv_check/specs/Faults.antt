-- What is wrong with one number of a database.
use Rattle.std.specs.Prelude.{ℕ, ◌==◌, ◌||◌, ◌&&◌, Bool, nat_lt, nat_le, Option, Some, None, List, [], ◌∷◌, length, drop, ℤ, pos, negsuc, if◌then◌else◌}
use Rattle.std.specs.Option.{option_or}
use Rattle.scott_types.specs.declared.parameters.Parameter.{Parameter}
use Rattle.scott_types.specs.declared.parameters.Parameter.TheVariants.{Item, Room, Flag, Backup, Place, Number}
use Rattle.scott_types.specs.declared.opcodes.Opcode.{Opcode}
use Rattle.scott_types.specs.declared.opcodes.Opcode.TheVariants.{Say}
use Rattle.scott_types.specs.Action.{argument_of, condition_code}
use Rattle.scott_types.specs.Condition.{condition_of, names_of}
use Rattle.scott_types.specs.Database.{Database}
use Rattle.scott_types.specs.Opcode.{opcode_of, parameters_of, uses}
use Rattle.scott_types.specs.State.{carried_place, is_room_of}
use Rattle.adv_check.specs.declared.findings.Fault.{Fault}
use Rattle.adv_check.specs.declared.findings.What.{What}
use Rattle.adv_check.specs.declared.findings.What.TheVariants.{Item as NoItem, Room as NoRoom, Flag as NoFlag, Backup as NoBackup, Message as NoMessage, Unused, NoParameter}

-- nothing is wrong where a number names something that is there
abbrev pub unless : Bool → What → ℤ → Option Fault
unless there what value = if there then None else Some (record { what = what; value = value })

-- a number that names something of this kind; there are 32 flags, and 16 backup counters and rooms
abbrev pub naming_fault : Database → Parameter → ℕ → Option Fault
naming_fault db Item n = unless (nat_lt n (length db.items)) NoItem (pos n)
naming_fault db Room n = unless (is_room_of db n) NoRoom (pos n)
naming_fault db Flag n = unless (nat_lt n 32) NoFlag (pos n)
naming_fault db Backup n = unless (nat_lt n 16) NoBackup (pos n)
naming_fault db Place n = unless (is_room_of db n || n == carried_place) NoRoom (pos n)
naming_fault db Number n = None

-- ---- conditions

abbrev pub condition_fault : Database → ℕ → Option Fault
condition_fault db packed =
    naming_fault db (names_of (condition_of (condition_code packed))) (argument_of packed)

-- ---- opcodes

-- the parameters of an opcode, of those that are left: the first of them that has a fault has the
-- opcode's
abbrev pub parameters_fault : Database → List Parameter → List ℕ → Option Fault
parameters_fault db [] left = None
parameters_fault db (kind ∷ kinds) [] = Some (record { what = NoParameter; value = pos 0 })
parameters_fault db (kind ∷ kinds) (n ∷ left) =
    option_or (naming_fault db kind n) (parameters_fault db kinds left)

-- a number that no opcode has
abbrev pub is_unused : ℕ → Bool
is_unused n = nat_le 90 n && nat_le n 101

-- an opcode that has a number: the message that it says, or its parameters
abbrev pub meant_fault : Database → Opcode → List ℕ → Option Fault
meant_fault db (Say message) left =
    unless (nat_lt message (length db.messages)) NoMessage (pos message)
meant_fault db opcode left = parameters_fault db (parameters_of opcode) left

abbrev pub opcode_fault : Database → ℕ → List ℕ → Option Fault
opcode_fault db n left =
    if is_unused n then Some (record { what = Unused; value = pos n })
    else meant_fault db (opcode_of n) left

-- each opcode has those parameters that the opcodes before it leave, where each takes its own, a
-- get too
abbrev pub opcode_faults : Database → List ℕ → List ℕ → List (Option Fault)
opcode_faults db [] left = []
opcode_faults db (n ∷ opcodes) left =
    opcode_fault db n left ∷ opcode_faults db opcodes (drop (uses (opcode_of n)) left)

-- ---- exits

-- an exit is a room's number, or 0 for none
abbrev pub exit_fault : Database → ℤ → Option Fault
exit_fault db (pos n) = naming_fault db Room n
exit_fault db (negsuc n) = Some (record { what = NoRoom; value = negsuc n })
