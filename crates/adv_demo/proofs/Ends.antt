-- How a play and a run end, by what they leave.
use Rattle.std.proofs.Common.{◌≡◌, ◌∙◌, ℕ, ◌+◌, ◌-◌, pos, List, [], length, Option, Some, sym, ap, arith, length-append, zero-add}
use Rattle.std.specs.Prelude.{codes, unwrap_or}
use Rattle.adv_io.specs.History.{lines_taken}
use Rattle.adv_io.specs.Steps.{Step, Traced, trace_of, Spends}
use Rattle.scott_types.specs.declared.endings.Ending.{Ending}
use Rattle.scott_types.specs.declared.endings.Position.{Position}
use Rattle.scott_types.specs.declared.endings.Position.TheVariants.{Fresh}
use Rattle.scott_types.specs.declared.states.State.{State}
use Rattle.scott_types.specs.Database.{Database}
use Rattle.scott_types.specs.State.{start}
use Rattle.scott_types.specs.Style.{Game, plain}
use Rattle.scott_rules.specs.Play.{PlayEnd, go, play, ending_of}
use Rattle.inform_meaning.specs.Frames.{Outcome}
use Rattle.inform_meaning.specs.Laws.{Goes}
use Rattle.inform_meaning.specs.Programs.{no_notes, routine_named, body_of, opening_world, run_of}
use Rattle.inform_meaning.specs.Runs.{Stop, main_begun, resume, stop_of}
use Rattle.inform_meaning.specs.Worlds.{World, Config}
use Rattle.inform_names.specs.Acceptance.{main}
use Rattle.inform_names.specs.Views.{directives_of}
use Rattle.inform_names.specs.declared.accepted.Accepted.{Accepted}
use Rattle.inform_worlds.specs.Worlds.{program_of}
use Rattle.inform_run.specs.declared.runners.Runner.{Runner}
use Rattle.inform_run.specs.Runners.{program_run, begun_in, world_in, resumed}
use Rattle.adv_demo.specs.declared.summaries.Summary.{Summary}
use Rattle.adv_demo.specs.Summaries.{lines_used, draws_used, end_of_play, play_summary, end_of_run, global_of, run_summary}

-- the lines that were taken are those given less those left
pub taken : (lines left : List (List ℕ)) (draws drawn : List ℕ) (steps : List Step)
    → Spends lines draws steps left drawn → length lines - length left ≡ lines_used steps
taken lines left draws drawn steps h =
    let joined = length-append (lines_taken (trace_of steps)) left in
    let same = ap (λ (xs : List (List ℕ)). length xs) h.lines_spent in
    omega (arith, joined, same)

-- ---- a play

pub play_is : (game : Game) (position : Position) (s : State) (db : Database)
    (given lines : List (List ℕ)) (draws : List ℕ)
    → game ≡ plain db → position ≡ Fresh → s ≡ start db → given ≡ lines
    → go game position s given draws ≡ play (plain db) lines draws
play_is game position s db given lines draws of_game of_position of_state of_lines =
    λ i. go (of_game i) (of_position i) (of_state i) (of_lines i) draws

-- the lines and draws that are gone, and where a play stands, make up the summary of that play
pub played : (t : Traced Step PlayEnd) (lines left : List (List ℕ)) (draws : List ℕ)
    (used drawn : ℕ) (ending : Ending) (s : State)
    → Spends lines draws t.events t.value.lines t.value.draws
    → used ≡ length lines - length left → Some left ≡ Some t.value.lines
    → drawn ≡ draws_used t.events → ending ≡ ending_of t.value.position → s ≡ t.value.state
    → ◌≡◌ {A = Summary} (record {
      lines = used;
      draws = drawn;
      end = end_of_play ending;
      room = pos s.room;
      light = s.light;
    }) (play_summary t)
played t lines left draws used drawn ending s spends counted left_is draws_drawn ends state =
    let all_used = counted
    ∙ ap (λ (o : Option (List (List ℕ))). length lines - length (unwrap_or o [])) left_is
    ∙ taken lines t.value.lines draws t.value.draws t.events spends in
    λ i. record {
      lines = all_used i;
      draws = draws_drawn i;
      end = end_of_play (ends i);
      room = pos (state i).room;
      light = (state i).light;
    }

-- ---- a run

-- a runner at the beginning of its program runs it
pub run_is : (r : Runner) (a : Accepted) (steps : ℕ) (given lines : List (List ℕ)) (draws : List ℕ)
    → program_run r ≡ program_of a
    → begun_in r ≡ main_begun (body_of (routine_named a.width (directives_of a) main))
    → world_in r ≡ opening_world a.width (directives_of a)
    (routine_named a.width (directives_of a) main) → given ≡ lines
    → resumed r steps given draws ≡ run_of a.width (directives_of a) no_notes steps lines draws
run_is r a steps given lines draws program begun world of_lines =
    λ i. resume (program i) (begun i) (record {
      steps = steps;
      lines = of_lines i;
      draws = draws;
      past = [];
      world = world i;
    })

-- the lines and draws that are gone, a run's stop and its globals make up the summary of that run
pub ran : (t : Outcome × Config) (lines left : List (List ℕ)) (draws : List ℕ) (steps : ℕ)
    (start : World) (used before drawn : ℕ) (stop : Stop) (w : World)
    → Goes (record { steps = steps; lines = lines; draws = draws; past = []; world = start }) t.1
    → used ≡ length lines - length left → Some left ≡ Some t.1.lines
    → before ≡ 0 → drawn ≡ before + draws_used t.1.past
    → stop ≡ stop_of t.0 → w ≡ t.1.world
    → ◌≡◌ {A = Summary} (record {
      lines = used;
      draws = drawn;
      end = end_of_run stop (global_of w (codes "over"));
      room = global_of w (codes "here");
      light = global_of w (codes "light");
    }) (run_summary t)
ran t lines left draws steps start used before drawn stop w goes counted left_is none more stops
    world =
    let draws_drawn = more ∙ ap (λ (n : ℕ). n + draws_used t.1.past) none
    ∙ zero-add (draws_used t.1.past) in
    let all_used = counted
    ∙ ap (λ (o : Option (List (List ℕ))). length lines - length (unwrap_or o [])) left_is
    ∙ taken lines t.1.lines draws t.1.draws goes.events goes.spends
    ∙ ap lines_used (sym goes.past) in
    λ i. record {
      lines = all_used i;
      draws = draws_drawn i;
      end = end_of_run (stops i) (global_of (world i) (codes "over"));
      room = global_of (world i) (codes "here");
      light = global_of (world i) (codes "light");
    }

-- the steps that were used are those given less those left
pub steps_left : (used before steps left : ℕ) → before ≡ 0 → used + left ≡ before + steps
    → used ≡ steps - left
steps_left used before steps left none sum = omega (arith, none, sum)
