-- Worked examples: routines that meet their specifications, in every program that has them.
use Rattle.std.specs.Prelude.{◌≡◌, ℕ, ◌≤◌, List, [], ◌∷◌, slice_index_or, Some}
use Rattle.inform_tree.specs.Statements as s
use Rattle.inform_tree.specs.Statements.{statements}
use Rattle.inform_tree.specs.Programs.{RoutineTree}
use Rattle.inform_meaning.specs.Worlds.{Routine, Program}
use Rattle.inform_logic.specs.Stages.{Stage, with_past}
use Rattle.inform_logic.specs.Holding.{routine_at, Notes}
use Rattle.adv_io.specs.Steps.{Step}
use Rattle.scott_types.specs.declared.states.State.{State}
use Rattle.scott_types.specs.declared.styles.Style.{Style}
use Rattle.scott_types.specs.Database.{Database}
use Rattle.scott_types.specs.Style.{Game, in_style}
use Rattle.scott_rules.specs.Actions.{try_action}
use Rattle.scott_rules.specs.Games.{chance}
use Rattle.trans_specs.specs.Standing.{StandsFor}
use Rattle.trans_specs.specs.Names.{message_name, line_number}
use Rattle.trans_specs.specs.Programs.{HasRoutine}
use Rattle.trans_specs.specs.Lines.{line_routine}
use Rattle.trans_specs.specs.DataSpecs.{MessageSpec}
use Rattle.trans_specs.specs.ActionSpecs.{line_room, LineDone}

-- What a stage stands for doesn't depend on what happened before it.
abbrev pub PastCountsForNothing : Type 0
PastCountsForNothing = (db : Database) (s : State) (noun : List ℕ) (w : Stage) (past : List Step)
    → StandsFor db s noun w → StandsFor db s noun (with_past past w)

-- ---- `[ msg_m; print "TEXT"; new_line; ];`

abbrev pub message_routine : Database → ℕ → RoutineTree
message_routine db m = record {
  name = message_name m;
  locals = [];
  body = statements (s.Print (s.Text (slice_index_or db.messages m []) ∷ []) ∷ s.NewLine ∷ []);
}

-- Where each routine of a message is this one, and lines alone are noted, messages are said as
-- owed.
abbrev pub MessagesAreSaid : Type 0
MessagesAreSaid = (game : Game) (p : Program)
    → ((name : List ℕ) (at : ℕ) → p.notes name at ≡ line_number name)
    → ((m : ℕ) (r : Routine) → p.routines (message_name m) ≡ Some r
    → (at : ℕ) × (r ≡ routine_at at (message_routine game.db m)))
    → MessageSpec game p

-- ---- `[ line_2; msg_2(); return 2; ];`

-- Where messages are said as specified, this line meets its specification.
abbrev pub ChanceLineIsDone : Type 0
ChanceLineIsDone = (style : Style) (p : Program) → Notes p (line_routine chance 2) 2
    → MessageSpec (in_style style chance) p → HasRoutine p (message_name 2)
    → (s : State) (noun : List ℕ) (w : Stage) (d : ℕ) → line_room ≤ d → StandsFor chance s noun w
    → LineDone (in_style style chance) p d 2 w noun (try_action (in_style style chance) noun 2 s)
