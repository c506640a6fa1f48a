-- The routines that lines call, and which of them are there.
use Rattle.std.specs.Prelude.{ℕ, ◌==◌, Bool, ℤ, pos, negsuc, List, ◌++◌, map, filter}
use Rattle.std.specs.List.{list_any}
use Rattle.inform_tree.specs.Programs.{DirectiveTree}
use Rattle.inform_codes.specs.Routines.{Row, rows_directives}
use Rattle.scott_types.specs.declared.parts.Action.{Action}
use Rattle.scott_types.specs.declared.styles.Style.{Style}
use Rattle.scott_types.specs.Database.{Database}
use Rattle.scott_types.specs.Action.{condition_code, opcode_numbers}
use Rattle.trans_actions.specs.declared.table.Kind.{Kind}
use Rattle.trans_actions.specs.declared.table.Kind.TheVariants.{Condition, Opcode}
use Rattle.trans_actions.specs.declared.conditions.TheConstants.{CONDITIONS}
use Rattle.trans_actions.specs.declared.opcodes.TheConstants.{OPCODES, REFILL, ENDLESS_REFILL}
use Rattle.trans_actions.specs.Names.{action_names, numbers}

-- ---- what the lines of a game use

abbrev pub has_condition : ℕ → Action → Bool
has_condition code a = list_any (λ packed. condition_code packed == code) a.conds

abbrev pub has_opcode : ℕ → Action → Bool
has_opcode number a = list_any (λ n. n == number) (opcode_numbers a)

-- some line has a condition of this code, or an opcode of this number
abbrev pub uses : Kind → Database → ℕ → Bool
uses Condition db code = list_any (has_condition code) db.actions
uses Opcode db number = list_any (has_opcode number) db.actions

-- ---- the routines

-- a routine, and the numbers for which it is there
abbrev pub Helper : Type 0
Helper = List ℕ × Row

abbrev pub conditions : List Helper
conditions = map (λ h. (h.0.now, (h.1, h.2.now, h.3.now))) CONDITIONS

abbrev pub opcodes : List Helper
opcodes = map (λ h. (h.0.now, (h.1, h.2.now, h.3.now))) OPCODES

-- by whether the light burns down
abbrev pub refill : ℤ → List Helper
refill (pos n) = map (λ h. (h.0.now, (h.1, h.2.now, h.3.now))) REFILL
refill (negsuc n) = map (λ h. (h.0.now, (h.1, h.2.now, h.3.now))) ENDLESS_REFILL

-- those that are there where a line uses one of their numbers
abbrev pub used_rows : (ℕ → Bool) → List Helper → List Row
used_rows test helpers = map (λ h. h.1) (filter (λ h. list_any test h.0) helpers)

abbrev pub helper_rows : Database → List Row
helper_rows db = used_rows (uses Condition db) conditions
    ++ (used_rows (uses Opcode db) opcodes ++ used_rows (uses Opcode db) (refill db.header.light))

abbrev pub helper_directives : Style → Database → List DirectiveTree
helper_directives style db = rows_directives (action_names style) (numbers db) (helper_rows db)
