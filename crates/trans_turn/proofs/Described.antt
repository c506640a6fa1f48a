-- Where the room has to be described, it is.
use Rattle.std.proofs.Common.{◌≡◌, arith, ℕ, suc, ◌+◌, ◌≤◌, pos, Bool, true, false, if◌then◌else◌, List, [], codes, Some, is_some, refl, sym, ap, subst}
use Rattle.inform_codes.specs.Grown.{body_of}
use Rattle.inform_meaning.specs.Worlds.{Program}
use Rattle.inform_logic.specs.Stages.{Stage, with_global, said}
use Rattle.inform_logic.specs.Leading.{Does, at_end}
use Rattle.inform_logic.specs.Holding.{Has}
use Rattle.inform_logic.proofs.Values.{number, global, called}
use Rattle.inform_logic.proofs.Conditions.{nonzero}
use Rattle.inform_logic.proofs.Changes.{set_variable}
use Rattle.inform_logic.proofs.Printing.{said_nothing}
use Rattle.inform_logic.proofs.Statements.{end, next, assign, call_alone, if_true, if_false}
use Rattle.inform_logic.proofs.Routines.{does_within, routine}
use Rattle.scott_types.specs.declared.states.State.{State}
use Rattle.scott_types.specs.Style.{Game}
use Rattle.scott_rules.specs.Looking.{looked}
use Rattle.scott_rules.specs.Rounds.{look_due}
use Rattle.trans_specs.specs.Tables.{bit}
use Rattle.trans_specs.specs.Standing.{StandsFor}
use Rattle.trans_specs.specs.Steps.{text_steps}
use Rattle.trans_specs.specs.DataSpecs.{text_room, LookSpec}
use Rattle.trans_turn.specs.declared.names.TheConstants.{DESCRIBE}
use Rattle.trans_turn.specs.declared.codes.TheConstants.{DESCRIBING}
use Rattle.trans_turn.proofs.Holding.{written}

-- what is said, and the mark is taken away
abbrev pub described : Game → State → Stage → Stage
described game s w = with_global (codes "redraw") (pos 0) (said (look_due game s) w)

module _ (game : Game) (p : Program) (asked : ℕ) (looks : LookSpec game p (codes "look"))
    (has : Has p (written asked DESCRIBE [] DESCRIBING)) where
  -- `describe` says what a look says where the mark is set, and takes the mark away
  pub describes : (s : State) (noun : List ℕ) (w : Stage) (d : ℕ) → text_room ≤ d
      → StandsFor game.db s noun w
      → Does p (suc d) (codes "describe") [] w (pos 1) (described game s w) (text_steps game.db + 4)
  unfolding body_of
  describes s noun w d room stands = by s.redraw stands.ready.shows.mark_is where
    by : (b : Bool) → w.globals (codes "redraw") ≡ Some (pos (bit b))
        → Does p (suc d) (codes "describe") [] w (pos 1)
        (with_global (codes "redraw") (pos 0) (said (if b then looked game s else []) w))
        (text_steps game.db + 4)
    by true mark = let look = looks s noun w d room stands in
        does_within (omega arith) (routine has (next (if_true (nonzero (global refl mark) refl)
        (next (call_alone (called look.does)) end)) (next
        (assign (set_variable number (ap is_some mark))) end))
        at_end)
    by false mark =
        subst (λ w'. Does p (suc d) (codes "describe") [] w (pos 1)
        (with_global (codes "redraw") (pos 0) w') (text_steps game.db + 4)) (sym (said_nothing w))
        (does_within (omega arith) (routine has
        (next (if_false (nonzero (global refl mark) refl) end)
        (next (assign (set_variable number (ap is_some mark))) end)) at_end))
