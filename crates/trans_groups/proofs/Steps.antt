-- What becomes of the automatic step: it comes through, waits for a draw, or ends the game.
use Rattle.std.proofs.Common.{◌≡◌, ◌∙◌, ℕ, ◌+◌, ◌≤◌, List, [], ◌++◌, codes, ap, append_assoc}
use Rattle.adv_io.specs.Steps.{Step}
use Rattle.inform_tree.specs.Statements.{Statement, Statements, MoreStatements}
use Rattle.inform_meaning.specs.Worlds.{Program, Scope}
use Rattle.inform_meaning.specs.Frames.{Normal, NeedsDraw}
use Rattle.inform_meaning.specs.Runs.{Lacking}
use Rattle.inform_logic.specs.Stages.{Stage}
use Rattle.inform_logic.specs.Leading.{TheBlock, Runs, Executes}
use Rattle.inform_logic.specs.Stopping.{Stops}
use Rattle.inform_logic.proofs.Values.{within}
use Rattle.inform_logic.proofs.Statements.{next}
use Rattle.inform_logic.proofs.Stops.{later}
use Rattle.scott_types.specs.declared.states.State.{State}
use Rattle.scott_types.specs.declared.endings.Halt.{Halt}
use Rattle.scott_types.specs.declared.endings.Halt.TheVariants.{Through, Waits, Over as AtEnd}
use Rattle.scott_types.specs.Database.{Database}
use Rattle.trans_specs.specs.Views.{Shows}
use Rattle.trans_specs.specs.Standing.{StandsFor}
use Rattle.trans_specs.proofs.Acts.{BlockEndsGame}

-- ---- what becomes of a block of the step

-- it is run to its end
pub record BlockThrough (db : Database) (p : Program) (d : ℕ) (block : Statements) (scope : Scope)
    (w : Stage) (s : State) (draws : List ℕ) (steps : List Step) (most : ℕ) : Type 0 where
  pub after : Stage
  pub runs : Runs p d block scope w Normal scope after most
  pub stands : StandsFor db s [] after
  pub past_is : after.past ≡ w.past ++ steps
  pub lines_stay : after.lines ≡ w.lines
  pub draws_left : after.draws ≡ draws
  pub over_stays : after.globals (codes "over") ≡ w.globals (codes "over")

-- a draw is wanted in it
pub record BlockWaits (p : Program) (d : ℕ) (block : Statements) (scope : Scope) (w : Stage)
    (s : State) (steps : List Step) (most : ℕ) : Type 0 where
  pub after : Stage
  pub stops : Stops p d (TheBlock block) scope w (Lacking NeedsDraw) after most
  pub shows : Shows s after
  pub past_is : after.past ≡ w.past ++ steps
  pub over_stays : after.globals (codes "over") ≡ w.globals (codes "over")

abbrev pub StepActsBy : Halt → Database → Program → ℕ → Statements → Scope → Stage → State → List ℕ
    → List Step → ℕ → Type 0
StepActsBy Through db p d block scope w s draws steps most =
    BlockThrough db p d block scope w s draws steps most
StepActsBy (Waits head) db p d block scope w s draws steps most =
    BlockWaits p d block scope w s steps most
StepActsBy (AtEnd ending) db p d block scope w s draws steps most =
    BlockEndsGame p d block scope w s steps ending most

pub record StepActs (halt : Halt) (db : Database) (p : Program) (d : ℕ) (block : Statements)
    (scope : Scope) (w : Stage) (s : State) (draws : List ℕ) (steps : List Step) (most : ℕ) : Type 0
  where
    pub acts : StepActsBy halt db p d block scope w s draws steps most

-- what is done before a part of it
pub record Before (steps : List Step) (w w' : Stage) : Type 0 where
  pub past_is : w'.past ≡ w.past ++ steps
  pub lines_stay : w'.lines ≡ w.lines
  pub over_stays : w'.globals (codes "over") ≡ w.globals (codes "over")

pub past_of : (past : List Step) {mid last : List Step} (a b : List Step) → mid ≡ past ++ a
    → last ≡ mid ++ b → last ≡ past ++ (a ++ b)
past_of past a b first later = later ∙ ap (λ xs. xs ++ b) first ∙ append_assoc past a b

module _ {db : Database} {p : Program} {d : ℕ} {scope : Scope} where
  -- what the automatic step does in at most n steps, it does in at most any greater number
  pub step_within : {halt : Halt} {block : Statements} {w : Stage} {s : State} {draws : List ℕ}
      {steps : List Step} {n most : ℕ} → n ≤ most
      → StepActs halt db p d block scope w s draws steps n
      → StepActs halt db p d block scope w s draws steps most
  step_within {halt} {block} {w} {s} {draws} {steps} {n} {most} few x =
      record { acts = by halt x.acts } where
        by : (halt : Halt) → StepActsBy halt db p d block scope w s draws steps n
            → StepActsBy halt db p d block scope w s draws steps most
        by Through x = record {
          after = x.after;
          runs = within few x.runs;
          stands = x.stands;
          past_is = x.past_is;
          lines_stay = x.lines_stay;
          draws_left = x.draws_left;
          over_stays = x.over_stays;
        }
        by (Waits head) x = record {
          after = x.after;
          stops = later (λ e s' run. within few run) x.stops;
          shows = x.shows;
          past_is = x.past_is;
          over_stays = x.over_stays;
        }
        by (AtEnd ending) x = record {
          after = x.after;
          stops = later (λ e s' run. within few run) x.stops;
          shows = x.shows;
          past_is = x.past_is;
          over_is = x.over_is;
        }

  -- a statement, and then the rest
  pub step_then : {halt : Halt} {x : Statement} {xs : Statements} {w w1 : Stage} {s : State}
      {draws : List ℕ} (first rest : List Step) {n m : ℕ}
      → Executes p d x scope w Normal scope w1 n → Before first w w1
      → StepActs halt db p d xs scope w1 s draws rest m
      → StepActs halt db p d (MoreStatements x xs) scope w s draws (first ++ rest) (n + m)
  step_then {halt} {x} {xs} {w} {w1} {s} {draws} first rest {n} {m} does before r =
      record { acts = by halt r.acts } where
        by : (halt : Halt) → StepActsBy halt db p d xs scope w1 s draws rest m
            → StepActsBy halt db p d (MoreStatements x xs) scope w s draws (first ++ rest) (n + m)
        by Through r = record {
          after = r.after;
          runs = next does r.runs;
          stands = r.stands;
          past_is = past_of w.past first rest before.past_is r.past_is;
          lines_stay = r.lines_stay ∙ before.lines_stay;
          draws_left = r.draws_left;
          over_stays = r.over_stays ∙ before.over_stays;
        }
        by (Waits head) r = record {
          after = r.after;
          stops = later (λ e s' run. next does run) r.stops;
          shows = r.shows;
          past_is = past_of w.past first rest before.past_is r.past_is;
          over_stays = r.over_stays ∙ before.over_stays;
        }
        by (AtEnd ending) r = record {
          after = r.after;
          stops = later (λ e s' run. next does run) r.stops;
          shows = r.shows;
          past_is = past_of w.past first rest before.past_is r.past_is;
          over_is = r.over_is;
        }
