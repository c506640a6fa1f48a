-- What becomes of a call that may end the game, and of a block that hands it on.
use Rattle.std.proofs.Common.{◌≡◌, ◌∙◌, arith, ℕ, suc, ◌+◌, ◌≤◌, ℤ, pos, true, List, [], ◌++◌, codes, Option, Some, None, ap, append_assoc}
use Rattle.adv_io.specs.Steps.{Step}
use Rattle.inform_tree.specs.Values.{Arguments, NoArguments}
use Rattle.inform_tree.specs.Conditions.{Condition}
use Rattle.inform_tree.specs.Statements.{Statement, Statements, MoreStatements, Call, Rtrue, If}
use Rattle.inform_tree.specs.Programs.{RoutineTree}
use Rattle.inform_meaning.specs.Worlds.{Program, Scope, scope_of}
use Rattle.inform_meaning.specs.Frames.{Outcome, Normal, Returns, Quits}
use Rattle.inform_meaning.specs.Runs.{Stop, Halted}
use Rattle.inform_logic.specs.Stages.{Stage}
use Rattle.inform_logic.specs.Leading.{Leads, TheCall, TheBlock, Does, Runs, Tests, Executes, by_return}
use Rattle.inform_logic.specs.Holding.{routine_at, Has}
use Rattle.inform_logic.specs.Stopping.{Stops, CallStops, in_block, in_call_alone}
use Rattle.inform_logic.proofs.Steps.{takes_within}
use Rattle.inform_logic.proofs.Stopping.{with_takes}
use Rattle.inform_logic.proofs.Values.{within, called}
use Rattle.inform_logic.proofs.Statements.{next, returns, call_alone, return_true, if_true}
use Rattle.inform_logic.proofs.Routines.{does_within, routine}
use Rattle.inform_logic.proofs.Stops.{later, handed_up, step_stops, called_stops, routine_stops}
use Rattle.scott_types.specs.declared.states.State.{State}
use Rattle.scott_types.specs.Database.{Database}
use Rattle.trans_specs.specs.Views.{Shows}
use Rattle.trans_specs.specs.Calls.{StageLeft, CallLeaves, CallEndsGame}
use Rattle.trans_specs.proofs.Left.{left_then}

-- a call returns, with some value
pub record CallReturns (db : Database) (p : Program) (d : ℕ) (name : List ℕ) (values : List ℤ)
    (w : Stage) (typed : List ℕ) (s : State) (steps : List Step) (most : ℕ) : Type 0 where
  pub value : ℤ
  pub leaves : CallLeaves p d name values w value db s typed steps most

abbrev pub CallActsBy : Option ℕ → Database → Program → ℕ → List ℕ → List ℤ → Stage → List ℕ → State
    → List Step → ℕ → Type 0
CallActsBy None db p d name values w typed s steps most =
    CallReturns db p d name values w typed s steps most
CallActsBy (Some ending) db p d name values w typed s steps most =
    CallEndsGame p d name values w s steps ending most

-- a call returns, or the game ends
pub record CallActs (over : Option ℕ) (db : Database) (p : Program) (d : ℕ) (name : List ℕ)
    (values : List ℤ) (w : Stage) (typed : List ℕ) (s : State) (steps : List Step) (most : ℕ)
    : Type 0 where
  pub acts : CallActsBy over db p d name values w typed s steps most

-- a block returns, with some value
pub record BlockReturns (db : Database) (p : Program) (d : ℕ) (block : Statements) (scope : Scope)
    (w : Stage) (typed : List ℕ) (s : State) (steps : List Step) (most : ℕ) : Type 0 where
  pub value : ℤ
  pub last : Scope
  pub after : Stage
  pub runs : Runs p d block scope w (Returns value) last after most
  pub leaves : StageLeft db s typed steps w after

-- the game ends in a block
pub record BlockEndsGame (p : Program) (d : ℕ) (block : Statements) (scope : Scope) (w : Stage)
    (s : State) (steps : List Step) (ending : ℕ) (most : ℕ) : Type 0 where
  pub after : Stage
  pub stops : Stops p d (TheBlock block) scope w (Halted Quits) after most
  pub shows : Shows s after
  pub past_is : after.past ≡ w.past ++ steps
  pub over_is : after.globals (codes "over") ≡ Some (pos ending)

abbrev BlockActsBy : Option ℕ → Database → Program → ℕ → Statements → Scope → Stage → List ℕ
    → State → List Step → ℕ → Type 0
BlockActsBy None db p d block scope w typed s steps most =
    BlockReturns db p d block scope w typed s steps most
BlockActsBy (Some ending) db p d block scope w typed s steps most =
    BlockEndsGame p d block scope w s steps ending most

-- a block returns, or the game ends
pub record BlockActs (over : Option ℕ) (db : Database) (p : Program) (d : ℕ) (block : Statements)
    (scope : Scope) (w : Stage) (typed : List ℕ) (s : State) (steps : List Step) (most : ℕ)
    : Type 0 where
  pub acts : BlockActsBy over db p d block scope w typed s steps most

-- a call that stops the run, within a greater bound
pub stops_within : {p : Program} {d : ℕ} {name : List ℕ} {values : List ℤ} {w w' : Stage}
    {stop : Stop} {n most : ℕ} → n ≤ most → CallStops p d name values w stop w' n
    → CallStops p d name values w stop w' most
stops_within {p} {d} {name} {values} few x = record {
  ends = λ s. let inner = x.ends s in with_takes inner (takes_within few inner.takes);
}

module _ {db : Database} {p : Program} {d : ℕ} {typed : List ℕ} {s : State} {steps : List Step}
  where
    -- a greater bound
    pub acts_within : {over : Option ℕ} {name : List ℕ} {values : List ℤ} {w : Stage} {n most : ℕ}
        → n ≤ most → CallActs over db p d name values w typed s steps n
        → CallActs over db p d name values w typed s steps most
    acts_within {over} {name} {values} {w} {n} {most} few x = record { acts = by over x.acts } where
      by : (over : Option ℕ) → CallActsBy over db p d name values w typed s steps n
          → CallActsBy over db p d name values w typed s steps most
      by None x = record {
        value = x.value;
        leaves = record {
          after = x.leaves.after;
          does = does_within few x.leaves.does;
          leaves = x.leaves.leaves;
        };
      }
      by (Some ending) x = record {
        after = x.after;
        stops = stops_within few x.stops;
        shows = x.shows;
        past_is = x.past_is;
        over_is = x.over_is;
      }

    -- a call whose value is forgotten, and `rtrue`
    pub acts_call : {over : Option ℕ} {f : List ℕ} {values : List ℤ} {xs : Arguments}
        {rest : Statements} {scope : Scope} {w : Stage} {n : ℕ}
        → ((e : Outcome) (last : Scope) (w' : Stage) (m : ℕ)
        → Leads p d (TheCall f values NoArguments) scope w e last w' m
        → Leads p d (TheCall f [] xs) scope w e last w' m)
        → CallActs over db p d f values w typed s steps n
        → BlockActs over db p d (MoreStatements (Call f xs) (MoreStatements Rtrue rest)) scope w
        typed s steps (n + 3)
    acts_call {over} {f} {values} {xs} {rest} {scope} {w} {n} args x =
        record { acts = by over x.acts } where
          by : (over : Option ℕ) → CallActsBy over db p d f values w typed s steps n
              → BlockActsBy over db p d (MoreStatements (Call f xs) (MoreStatements Rtrue rest))
              scope w typed s steps (n + 3)
          by None x = record {
            value = pos 1;
            last = scope;
            after = x.leaves.after;
            runs = within (omega arith) (next (call_alone (args _ _ _ _ (called x.leaves.does)))
                (returns return_true));
            leaves = x.leaves.leaves;
          }
          by (Some ending) x = record {
            after = x.after;
            stops = later (λ e s'. within (omega arith)) (handed_up in_block (step_stops
                (handed_up in_call_alone
                (later (λ e s'. args e s' _ _) (called_stops x.stops)))));
            shows = x.shows;
            past_is = x.past_is;
            over_is = x.over_is;
          }

    -- a block that is done where a condition holds
    pub acts_if : {over : Option ℕ} {test : Condition} {block other rest : Statements}
        {scope : Scope} {w : Stage} {n m : ℕ} → Tests p d test scope w true w n
        → BlockActs over db p d block scope w typed s steps m
        → BlockActs over db p d (MoreStatements (If test block other) rest) scope w typed s steps
        (n + m + 1)
    acts_if {over} {test} {block} {other} {rest} {scope} {w} {n} {m} holds x =
        record { acts = by over x.acts } where
          by : (over : Option ℕ) → BlockActsBy over db p d block scope w typed s steps m
              → BlockActsBy over db p d (MoreStatements (If test block other) rest) scope w typed s
              steps (n + m + 1)
          by None x = record {
            value = x.value;
            last = x.last;
            after = x.after;
            runs = returns (if_true holds x.runs);
            leaves = x.leaves;
          }
          by (Some ending) x = record {
            after = x.after;
            stops = handed_up in_block (later (λ e s'. if_true holds) x.stops);
            shows = x.shows;
            past_is = x.past_is;
            over_is = x.over_is;
          }

    -- what comes after a statement
    pub acts_next : {over : Option ℕ} {t : State} {x : Statement} {rest : Statements}
        {scope scope1 : Scope} {w w1 : Stage} {first : List Step} {n m : ℕ}
        → Executes p d x scope w Normal scope1 w1 n → StageLeft db t typed first w w1
        → BlockActs over db p d rest scope1 w1 typed s steps m
        → BlockActs over db p d (MoreStatements x rest) scope w typed s (first ++ steps) (n + m)
    acts_next {over} {t} {x} {rest} {scope} {scope1} {w} {w1} {first} {n} {m} does left r =
        record { acts = by over r.acts } where
          by : (over : Option ℕ) → BlockActsBy over db p d rest scope1 w1 typed s steps m
              → BlockActsBy over db p d (MoreStatements x rest) scope w typed s (first ++ steps)
              (n + m)
          by None r = record {
            value = r.value;
            last = r.last;
            after = r.after;
            runs = next does r.runs;
            leaves = left_then left r.leaves;
          }
          by (Some ending) r = record {
            after = r.after;
            stops = later (λ e s'. next does) r.stops;
            shows = r.shows;
            past_is = r.past_is ∙ ap (λ past. past ++ steps) left.past_is
                ∙ append_assoc w.past first steps;
            over_is = r.over_is;
          }

    -- a routine, by its body
    pub acts_routine : {over : Option ℕ} {r : RoutineTree} {values : List ℤ} {w : Stage} {n : ℕ}
        (has : Has p r)
        → BlockActs over db p d r.body (scope_of (routine_at has.at r) values) w typed s steps n
        → CallActs over db p (suc d) r.name values w typed s steps n
    acts_routine {over} {r} {values} {w} {n} has x = record { acts = by over x.acts } where
      by : (over : Option ℕ) → BlockActsBy over db p d r.body
          (scope_of (routine_at has.at r) values) w typed s steps n
          → CallActsBy over db p (suc d) r.name values w typed s steps n
      by None x = record {
        value = x.value;
        leaves = record {
          after = x.after;
          does = routine has x.runs by_return;
          leaves = x.leaves;
        };
      }
      by (Some ending) x = record {
        after = x.after;
        stops = routine_stops has x.stops;
        shows = x.shows;
        past_is = x.past_is;
        over_is = x.over_is;
      }

-- a call that returns
pub returns_acts : {db : Database} {p : Program} {d : ℕ} {name : List ℕ} {values : List ℤ}
    {w after : Stage} {v : ℤ} {typed : List ℕ} {s : State} {steps : List Step} {most : ℕ}
    → Does p d name values w v after most → StageLeft db s typed steps w after
    → CallActs None db p d name values w typed s steps most
returns_acts {after = after} {v = v} does left = record {
  acts = record {
    value = v;
    leaves = record { after = after; does = does; leaves = left };
  };
}
