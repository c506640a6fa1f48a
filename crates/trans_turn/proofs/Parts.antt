-- What becomes of a part of a round, and how parts are put together.
use Rattle.std.proofs.Common.{◌≡◌, ◌∙◌, ℕ, suc, ℤ, pos, List, ◌++◌, codes, Some}
use Rattle.adv_io.specs.Steps.{Step, Traced, after}
use Rattle.inform_tree.specs.Programs.{RoutineTree}
use Rattle.inform_meaning.specs.Worlds.{Program, Scope, scope_of}
use Rattle.inform_meaning.specs.Frames.{Normal, Quits, Lack, NeedsLine, NeedsDraw}
use Rattle.inform_meaning.specs.Runs.{Stop, Halted, Lacking}
use Rattle.inform_logic.specs.Stages.{Stage}
use Rattle.inform_logic.specs.Leading.{Leads, Part, TheBlock, at_end}
use Rattle.inform_logic.specs.Holding.{routine_at, Has}
use Rattle.inform_logic.specs.Stopping.{Stops}
use Rattle.inform_logic.proofs.Printing.{happened_then}
use Rattle.inform_logic.proofs.Routines.{routine}
use Rattle.inform_logic.proofs.Stops.{routine_stops}
use Rattle.scott_types.specs.declared.states.State.{State}
use Rattle.scott_types.specs.declared.endings.Position.{Position}
use Rattle.scott_types.specs.declared.endings.Position.TheVariants.{Fresh, Draw, Line, Over}
use Rattle.scott_types.specs.Database.{Database}
use Rattle.scott_rules.specs.Play.{PlayEnd}
use Rattle.trans_specs.specs.Views.{Shows}
use Rattle.trans_specs.specs.TurnSpecs.{RoundLeaves, RoundOutcome}

-- these steps were done, no line and no draw was taken, and `over` is as it was
pub record Went (w w' : Stage) (steps : List Step) : Type 0 where
  pub past_is : w'.past ≡ w.past ++ steps
  pub lines_stay : w'.lines ≡ w.lines
  pub draws_stay : w'.draws ≡ w.draws
  pub over_stays : w'.globals (codes "over") ≡ w.globals (codes "over")

pub went_on : {w w1 w' : Stage} {es fs : List Step} → Went w w1 es → Went w1 w' fs
    → Went w w' (es ++ fs)
went_on {w} {es = es} {fs} h k = record {
  past_is = happened_then w.past es fs h.past_is k.past_is;
  lines_stay = k.lines_stay ∙ h.lines_stay;
  draws_stay = k.draws_stay ∙ h.draws_stay;
  over_stays = k.over_stays ∙ h.over_stays;
}

-- ---- a part of a round, from a scope that it leaves as it is

pub record PartDone (p : Program) (d : ℕ) (part : Part) (s : Scope) (w : Stage) (db : Database)
    (t : Traced Step PlayEnd) (most : ℕ) : Type 0 where
  pub last : Stage
  pub leads : Leads p d part s w Normal s last most
  pub leaves : RoundLeaves db w last t

pub record PartWaits (p : Program) (d : ℕ) (part : Part) (s : Scope) (w : Stage) (lack : Lack)
    (state : State) (steps : List Step) (most : ℕ) : Type 0 where
  pub last : Stage
  pub stops : Stops p d part s w (Lacking lack) last most
  pub shows : Shows state last
  pub past_is : last.past ≡ w.past ++ steps
  pub over_stays : last.globals (codes "over") ≡ w.globals (codes "over")

pub record PartEnds (p : Program) (d : ℕ) (part : Part) (s : Scope) (w : Stage) (state : State)
    (steps : List Step) (ending : ℕ) (most : ℕ) : Type 0 where
  pub last : Stage
  pub stops : Stops p d part s w (Halted Quits) last most
  pub shows : Shows state last
  pub past_is : last.past ≡ w.past ++ steps
  pub over_is : last.globals (codes "over") ≡ Some (pos ending)

-- what becomes of it: it is done, the run waits for a line or a draw, or the game ends
abbrev pub PartOutcome : Position → Program → ℕ → Part → Scope → Stage → Database
    → Traced Step PlayEnd → ℕ → Type 0
PartOutcome Fresh p d part s w db t most = PartDone p d part s w db t most
PartOutcome (Draw head) p d part s w db t most =
    PartWaits p d part s w NeedsDraw t.value.state t.events most
PartOutcome Line p d part s w db t most =
    PartWaits p d part s w NeedsLine t.value.state t.events most
PartOutcome (Over ending) p d part s w db t most =
    PartEnds p d part s w t.value.state t.events ending most

-- ---- a part after something else

module _ {p : Program} {d : ℕ} {part whole : Part} {s : Scope} {w w1 : Stage} {n m : ℕ}
    (es : List Step) (past : w1.past ≡ w.past ++ es)
    (over : w1.globals (codes "over") ≡ w.globals (codes "over"))
    (leads : (w' : Stage) → Leads p d part s w1 Normal s w' n → Leads p d whole s w Normal s w' m)
    (stops : (stop : Stop) (w' : Stage) → Stops p d part s w1 stop w' n
    → Stops p d whole s w stop w' m) where
  waits : {lack : Lack} {state : State} {fs : List Step}
      → PartWaits p d part s w1 lack state fs n → PartWaits p d whole s w lack state (es ++ fs) m
  waits {lack} {fs = fs} x = record {
    last = x.last;
    stops = stops (Lacking lack) x.last x.stops;
    shows = x.shows;
    past_is = happened_then w.past es fs past x.past_is;
    over_stays = x.over_stays ∙ over;
  }

  -- what becomes of the part becomes of the whole, with the steps before it
  pub then_part : (position : Position) (db : Database) (t : Traced Step PlayEnd)
      → PartOutcome position p d part s w1 db t n
      → PartOutcome position p d whole s w db (after es t) m
  then_part Fresh db t x = record {
    last = x.last;
    leads = leads x.last x.leads;
    leaves = record {
      noun = x.leaves.noun;
      stands = x.leaves.stands;
      past_is = happened_then w.past es t.events past x.leaves.past_is;
      lines_left = x.leaves.lines_left;
      draws_left = x.leaves.draws_left;
      over_stays = x.leaves.over_stays ∙ over;
    };
  }
  then_part (Draw head) db t x = waits x
  then_part Line db t x = waits x
  then_part (Over ending) db t x = record {
    last = x.last;
    stops = stops (Halted Quits) x.last x.stops;
    shows = x.shows;
    past_is = happened_then w.past es t.events past x.past_is;
    over_is = x.over_is;
  }

-- ---- a routine by its body

-- what becomes of the body becomes of the routine
pub by_body : {p : Program} (d : ℕ) {r : RoutineTree} (has : Has p r) (values : List ℤ)
    (w : Stage) (n : ℕ) (position : Position) (db : Database) (t : Traced Step PlayEnd)
    → PartOutcome position p d (TheBlock r.body) (scope_of (routine_at has.at r) values) w db t n
    → RoundOutcome position p (suc d) r.name values w db t n
by_body d has values w n Fresh db t x = record {
  value = pos 1;
  after = x.last;
  does = routine has x.leads at_end;
  leaves = x.leaves;
}
by_body d has values w n (Draw head) db t x = record {
  after = x.last;
  stops = routine_stops has x.stops;
  shows = x.shows;
  past_is = x.past_is;
  over_stays = x.over_stays;
}
by_body d has values w n Line db t x = record {
  after = x.last;
  stops = routine_stops has x.stops;
  shows = x.shows;
  past_is = x.past_is;
  over_stays = x.over_stays;
}
by_body d has values w n (Over ending) db t x = record {
  after = x.last;
  stops = routine_stops has x.stops;
  shows = x.shows;
  past_is = x.past_is;
  over_is = x.over_is;
}
