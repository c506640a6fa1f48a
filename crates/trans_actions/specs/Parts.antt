-- What a whole program needs to know of the routines of lines.
use Rattle.std.specs.Prelude.{◌≡◌, ℕ, ◌<◌, ◌||◌, Bool, true, nat_eq, List, length, codes}
use Rattle.std.specs.List.{AllByRecursion, starts_with}
use Rattle.std.specs.Str.{bytes_eq}
use Rattle.inform_tree.specs.declared.widths.Width.{Width}
use Rattle.inform_tree.specs.Programs.{RoutineTree, Routine}
use Rattle.inform_names.specs.declared.meanings.Kind.TheVariants as k
use Rattle.inform_names.specs.Meanings.{Known, name_of}
use Rattle.inform_logic.specs.Holding.{Distinct}
use Rattle.inform_signature.specs.Signatures.{IsKnown, Knows, signature}
use Rattle.inform_signature.specs.Soundness.{IsFaultless}
use Rattle.scott_types.specs.declared.styles.Style.{Style}
use Rattle.scott_types.specs.Database.{Database}
use Rattle.scott_types.specs.Limits.{KeepsLimits}
use Rattle.trans_specs.specs.Names.{message_name, group_name, line_name}
use Rattle.trans_specs.specs.Lines.{line_routine}
use Rattle.trans_specs.specs.ActionSpecs.{HasLineRoutine}
use Rattle.trans_specs.specs.Meeting.{Translates}
use Rattle.trans_specs.specs.Shaped.{IsIn, IsLine, program_calls}
use Rattle.trans_actions.specs.Needed.{needed}
use Rattle.trans_actions.specs.Directives.{action_directives}

-- ---- names

-- a name that is given to these routines alone
abbrev pub is_action_name : List ℕ → Bool
is_action_name name = starts_with nat_eq name (codes "line_")
    || (starts_with nat_eq name (codes "cond_")
    || (starts_with nat_eq name (codes "op_") || bytes_eq name (codes "move_item")))

-- Each has such a name, and no two have the same.
abbrev pub ActionsAreNamed : Type 0
ActionsAreNamed = (style : Style) (db : Database)
    → AllByRecursion (λ x. is_action_name (name_of x) ≡ true) (action_directives style db)

abbrev pub ActionsAreDistinct : Type 0
ActionsAreDistinct = (style : Style) (db : Database) → KeepsLimits db
    → Distinct (action_directives style db)

-- ---- lines

-- Each line that isn't all zeros has its routine among them.
abbrev pub LinesAreThere : Type 0
LinesAreThere = (style : Style) (db : Database) (k : ℕ) → HasLineRoutine db k
    → IsIn (Routine (line_routine db k)) (action_directives style db)

-- A routine among them that has the name of a line is the routine of a line.
abbrev pub LinesAlone : Type 0
LinesAlone = (style : Style) (db : Database) (k : ℕ) (r : RoutineTree)
    → IsIn (Routine r) (action_directives style db) → r.name ≡ line_name k → IsLine db r

-- None of them calls a line or a group.
abbrev pub ActionsCallNone : Type 0
ActionsCallNone = (style : Style) (db : Database) (k : ℕ) → KeepsLimits db
    → (program_calls (line_name k) (action_directives style db) ≡ 0)
    × (program_calls (group_name k) (action_directives style db) ≡ 0)

-- ---- acceptance

-- Where the names that they take for granted are known, those of the messages, and their own, none
-- of them has a fault.
abbrev pub ActionsAreFaultless : Type 0
ActionsAreFaultless = (style : Style) (width : Width) (db : Database) (known : Known)
    → Translates width db → Knows known needed
    → ((m : ℕ) → m < length db.messages → IsKnown known (message_name m, k.Routine 0))
    → Knows known (signature (action_directives style db))
    → AllByRecursion (IsFaultless width known) (action_directives style db)
