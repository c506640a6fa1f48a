-- The rules of what stops a run: where it begins, and how it is handed up to the whole.
use Rattle.std.proofs.Common.{◌≡◌, ◌∙◌, arith, ℕ, suc, ◌+◌, ℤ, true, false, List, [], ◌∷◌, ◌++◌, Option, Some, refl, ap}
use Rattle.std.specs.Prelude.{unwrap_or, int_lt, pos}
use Rattle.inform_tree.specs.Values.{Expression, Random, NoArguments}
use Rattle.inform_tree.specs.Statements.{Statement, Quit, Read}
use Rattle.adv_io.specs.Steps.{Noted}
use Rattle.inform_tree.specs.Programs.{RoutineTree}
use Rattle.inform_logic.specs.Holding.{routine_at, Has, Notes}
use Rattle.inform_meaning.specs.declared.traps.Trap.TheVariants as t
use Rattle.inform_meaning.specs.Worlds.{Program, Scope, scope_of, with_note, has_room}
use Rattle.inform_meaning.specs.Frames.{Loop, DrawDue, LineDue, TurnDue, Outcome, Begins, Quits, NeedsLine, NeedsDraw, Spent, when}
use Rattle.inform_meaning.specs.Parts.{trap, draw_at, take_draw, line_at, take_line}
use Rattle.inform_meaning.specs.Statements.{turns}
use Rattle.inform_meaning.specs.Runs.{Stop, Halted, Lacking, noted_body}
use Rattle.inform_logic.specs.Stages.{Stage, in_scope, with_past}
use Rattle.inform_logic.specs.Leading.{Leads, Part, TheValue, TheCall, TheTest, TheAct, TheStatement, TheBlock, TheTurns, Evaluates}
use Rattle.inform_logic.specs.Stopping.{IsStop, Stops, CallStops, First, in_entry, in_random, in_negation, in_sum, in_term, in_product, in_factor, in_call, in_argument, in_comparison, in_nonzero, in_negated, in_all, in_one_of_all, in_any, in_one_of_any, in_set, in_index, in_number, in_character, in_statements, in_assignment, in_print, in_call_alone, in_return, in_if, in_switch, in_while, in_do, in_for, in_block, in_body, in_change, in_change_again}
use Rattle.inform_logic.proofs.Opened.{opened}
use Rattle.inform_logic.proofs.Steps.{finally, one_step, takes_same}
use Rattle.inform_logic.proofs.Stopping.{with_takes, passes_value, passes_truth, passes_normal, passes_body, passes_return, ends_first, ends_chosen}
use Rattle.inform_logic.proofs.Statements.{step, plain}
use Rattle.inform_logic.proofs.Loops.{once}
use Rattle.inform_logic.proofs.Routines.{entering}

module _ {p : Program} {d : ℕ} where
  -- ---- where a stop begins

  -- a part whose outcome is a stop
  pub stopped : {part : Part} {s s' : Scope} {w w' : Stage} {e : Outcome} {stop : Stop} {n : ℕ}
      → IsStop stop e → Leads p d part s w e s' w' n → Stops p d part s w stop w' n
  stopped {s' = s'} {e = e} is x =
      record { ends = record { ending = e; scope = s'; is = is; takes = x.takes } }

  -- `quit;`
  pub quit : {s : Scope} {w : Stage} → Stops p d (TheStatement Quit) s w (Halted Quits) w 1
  quit = stopped refl (plain (λ k. refl))

  -- no line is left
  pub read_waits : {a words : List ℕ} {s : Scope} {w : Stage} {xs : List ℤ} → w.arrays a ≡ Some xs
      → has_room xs ≡ true → w.lines ≡ []
      → Stops p d (TheStatement (Read a words)) s w (Lacking NeedsLine) w 1
  unfolding when
  read_waits {a} {s = s} {w} there room left =
      stopped (Begins (LineDue a) ∷ [], refl) (plain (λ k.
      ap (λ b. when b (take_line a) (trap t.Line) (in_scope k s w))
      (ap (λ o. has_room (unwrap_or o [])) there ∙ room)
      ∙ ap (λ ls. line_at ls a (in_scope k s w)) left))

  -- no draw is left
  pub random_waits : {x : Expression} {s : Scope} {w w' : Stage} {limit : ℤ} {n : ℕ}
      → Evaluates p d x s w limit w' n → int_lt limit (pos 1) ≡ false → w'.draws ≡ []
      → Stops p d (TheValue (Random x)) s w (Lacking NeedsDraw) w' n
  unfolding opened when
  random_waits {s = s} {w' = w'} {limit = limit} x some left =
      stopped (Begins (DrawDue limit) ∷ [], refl) (record {
        takes = finally _ (λ j h. tt) x.takes (λ k.
            ap (λ b. when b (trap t.Random) (take_draw limit) (in_scope k s w')) some
            ∙ ap (λ draws. draw_at draws limit (in_scope k s w')) left);
      })

  pub turn_waits : {l : Loop} {s : Scope} {w : Stage}
      → Stops p d (TheTurns l) s w (Lacking Spent) w 0
  unfolding turns
  turn_waits {l} {s} {w} = stopped {s' = s} (Begins (TurnDue l) ∷ [], refl) (record {
    takes = record { steps = 0; few = omega arith; by = λ k none. rw none };
  })

  -- ---- how it is handed up

  -- what is done before it, by a rule that hands up any outcome
  pub later : {part whole : Part} {s s1 : Scope} {w w1 w' : Stage} {stop : Stop} {n m : ℕ}
      → ((e : Outcome) (s' : Scope) → Leads p d part s1 w1 e s' w' n
      → Leads p d whole s w e s' w' m) → Stops p d part s1 w1 stop w' n
      → Stops p d whole s w stop w' m
  later rule x =
      stopped x.ends.is (rule x.ends.ending x.ends.scope (record { takes = x.ends.takes }))

  -- what stops the first part of a whole stops the whole
  pub handed_up : {part whole : Part} → First part whole → {s : Scope} {w w' : Stage} {stop : Stop}
      {n : ℕ} → Stops p d part s w stop w' n → Stops p d whole s w stop w' n
  unfolding opened
  handed_up in_entry x = record { ends = ends_first _ (passes_value _ _) x.ends }
  handed_up in_random x = record { ends = ends_first _ (passes_value _ _) x.ends }
  handed_up in_negation x = record { ends = ends_first _ (passes_value _ _) x.ends }
  handed_up in_sum x = record { ends = ends_first _ (passes_value _ _) x.ends }
  handed_up in_term x = record { ends = ends_first _ (passes_value _ _) x.ends }
  handed_up in_product x = record { ends = ends_first _ (passes_value _ _) x.ends }
  handed_up in_factor x = record { ends = ends_first _ (passes_value _ _) x.ends }
  handed_up in_call x = record { ends = x.ends }
  handed_up in_argument x = record { ends = ends_first _ (passes_value _ _) x.ends }
  handed_up in_comparison x = record { ends = ends_first _ (passes_value _ _) x.ends }
  handed_up in_nonzero x = record { ends = ends_first _ (passes_value _ _) x.ends }
  handed_up in_negated x = record { ends = ends_first _ (passes_truth _ _) x.ends }
  handed_up in_all x = record { ends = x.ends }
  handed_up in_one_of_all x = record { ends = ends_first _ (passes_truth _ _) x.ends }
  handed_up in_any x = record { ends = x.ends }
  handed_up in_one_of_any x = record { ends = ends_first _ (passes_truth _ _) x.ends }
  handed_up in_set x = record { ends = ends_first _ (passes_value _ _) x.ends }
  handed_up in_index x = record { ends = ends_first _ (passes_value _ _) x.ends }
  handed_up in_number x = record { ends = ends_first _ (passes_value _ _) x.ends }
  handed_up in_character x = record { ends = ends_first _ (passes_value _ _) x.ends }
  handed_up in_statements x = record { ends = x.ends }
  handed_up in_assignment x = record { ends = x.ends }
  handed_up in_print x = record { ends = x.ends }
  handed_up in_call_alone x = record { ends = ends_first _ (passes_value _ _) x.ends }
  handed_up in_return x = record { ends = ends_first _ (passes_value _ _) x.ends }
  handed_up in_if x = record { ends = ends_first _ (passes_truth _ _) x.ends }
  handed_up in_switch x = record { ends = ends_first _ (passes_value _ _) x.ends }
  handed_up in_while x = record { ends = x.ends }
  handed_up in_do x = record { ends = ends_first _ (passes_body _ _) x.ends }
  handed_up in_for x = record { ends = ends_first _ (passes_normal _ _) x.ends }
  handed_up in_block x = record { ends = ends_first _ (passes_normal _ _) x.ends }
  handed_up (in_body goes) x =
      record { ends = ends_chosen _ goes (ends_first _ (passes_body _ _) x.ends) }
  handed_up in_change_again x = record { ends = ends_first _ (passes_normal _ _) x.ends }
  handed_up in_change x = record { ends = ends_first _ (passes_normal _ _) x.ends }

  -- the test of a turn
  pub test_stops : {l : Loop} {s : Scope} {w w' : Stage} {stop : Stop} {n : ℕ}
      → Stops p d (TheTest l.test) s w stop w' n → Stops p d (TheTurns l) s w stop w' (n + 1)
  test_stops {l} x =
      let tested = ends_first _ (passes_truth _ _) x.ends in
      record { ends = with_takes tested (takes_same (once p d l) (one_step _ tested.takes)) }

  -- a statement, by what it does after its step; and a call, by its routine
  pub step_stops : {x : Statement} {s : Scope} {w w' : Stage} {stop : Stop} {n : ℕ}
      → Stops p d (TheAct x) s w stop w' n → Stops p d (TheStatement x) s w stop w' (n + 1)
  step_stops x = later (λ e s'. step) x

  pub called_stops : {f : List ℕ} {values : List ℤ} {s : Scope} {w w' : Stage} {stop : Stop} {n : ℕ}
      → CallStops p d f values w stop w' n
      → Stops p d (TheCall f values NoArguments) s w stop w' (n + 1)
  called_stops {s = s} x =
      record { ends = with_takes (x.ends s) (one_step _ (x.ends s).takes) }

-- ---- routines

module _ {p : Program} {d : ℕ} {r : RoutineTree} {values : List ℤ} where
  by_body : {at : ℕ} {o : Option ℕ} {w w' : Stage} {stop : Stop} {n : ℕ}
      → p.routines r.name ≡ Some (routine_at at r) → noted_body (p.notes r.name at) r.body ≡ o
      → Stops p d (TheBlock r.body) (scope_of (routine_at at r) values)
      (with_past (with_note o w.past) w) stop w' n → CallStops p (suc d) r.name values w stop w' n
  by_body there note body = record {
    ends = λ s. let inner = ends_first _ (passes_return s) body.ends in
        with_takes inner (entering p d values s there note inner.takes);
  }

  -- a routine that isn't noted, by its body
  pub routine_stops : (has : Has p r) {w w' : Stage} {stop : Stop} {n : ℕ}
      → Stops p d (TheBlock r.body) (scope_of (routine_at has.at r) values) w stop w' n
      → CallStops p (suc d) r.name values w stop w' n
  routine_stops has body = by_body has.there (ap (λ o. noted_body o r.body) has.unseen) body

  -- a routine that is noted, by its body, which isn't empty
  pub noted_routine_stops : {number : ℕ} (notes : Notes p r number) {w w' : Stage} {stop : Stop}
      {n : ℕ} → noted_body (Some number) r.body ≡ Some number
      → Stops p d (TheBlock r.body) (scope_of (routine_at notes.at r) values)
      (with_past (w.past ++ Noted number ∷ []) w) stop w' n
      → CallStops p (suc d) r.name values w stop w' n
  noted_routine_stops notes some body =
      by_body notes.there (ap (λ o. noted_body o r.body) notes.seen ∙ some) body
