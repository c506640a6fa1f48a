-- Every place of a database at which something can be wrong, and the warnings.
use Rattle.std.specs.Prelude.{ℕ, Option, List, [], ◌∷◌, ◌++◌, map}
use Rattle.std.specs.List.{flat_map, filter_map, enumerate_from}
use Rattle.std.specs.Option.{option_map}
use Rattle.scott_types.specs.declared.parameters.Parameter.TheVariants.{Place}
use Rattle.scott_types.specs.declared.parts.Action.{Action}
use Rattle.scott_types.specs.declared.parts.Room.{Room}
use Rattle.scott_types.specs.declared.parts.Item.{Item}
use Rattle.scott_types.specs.Action.{opcode_numbers, parameters}
use Rattle.scott_types.specs.Database.{Database}
use Rattle.adv_check.specs.declared.findings.Part.{Part}
use Rattle.adv_check.specs.declared.findings.Part.TheVariants.{Condition, Opcode, Exit, Place as Start}
use Rattle.adv_check.specs.declared.findings.Fault.{Fault}
use Rattle.adv_check.specs.declared.findings.Warning.{Warning}
use Rattle.adv_check.specs.Faults.{naming_fault, condition_fault, opcode_faults, exit_fault}

-- a place as a warning names it, and what is wrong there, if anything is
pub record Site : Type 0 where
  pub part : Part
  pub index : ℕ
  pub place : ℕ
  pub fault : Option Fault

-- what each element of a list has, by its number from the first number on
abbrev pub each_from : {X : Type 0} → ℕ → (ℕ → X → List Site) → List X → List Site
each_from first of xs = flat_map (λ pair. of pair.0 pair.1) (enumerate_from first xs)

-- the places of one part in an entry, from 1 on
abbrev pub part_sites : Part → ℕ → List (Option Fault) → List Site
part_sites part index faults =
    each_from 1
    (λ place fault. record { part = part; index = index; place = place; fault = fault } ∷ [])
    faults

-- a line's five conditions and four opcodes
abbrev pub action_sites : Database → ℕ → Action → List Site
action_sites db line a =
    part_sites Condition line (map (condition_fault db) a.conds)
    ++ part_sites Opcode line (opcode_faults db (opcode_numbers a) (parameters a))

-- a room's six exits
abbrev pub room_sites : Database → ℕ → Room → List Site
room_sites db room r = part_sites Exit room (map (exit_fault db) r.exits)

-- where an item starts
abbrev pub item_sites : Database → ℕ → Item → List Site
item_sites db item i =
    record { part = Start; index = item; place = 0; fault = naming_fault db Place i.place } ∷ []

-- all places: line by line, then room by room, then item by item
abbrev pub sites : Database → List Site
sites db =
    each_from 0 (action_sites db) db.actions
    ++ (each_from 0 (room_sites db) db.rooms ++ each_from 0 (item_sites db) db.items)

-- the warning of a place, where something is wrong
abbrev pub warning_at : Site → Option Warning
warning_at s =
    option_map
    (λ f. record {
      part = s.part;
      index = s.index;
      place = s.place;
      what = f.what;
      value = f.value;
    }) s.fault

-- the warnings of places, in their order
abbrev pub warnings_of : List Site → List Warning
warnings_of places = filter_map warning_at places

abbrev pub warnings : Database → List Warning
warnings db = warnings_of (sites db)
