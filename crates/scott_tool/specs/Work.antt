-- Tasks: what is done for a request, once all that it reads is accepted.
use Rattle.std.specs.Prelude.{◌≡◌, ℕ, List, [], ◌∷◌, drop, Option, Some, None, option_map}
use Rattle.adv_demo.specs.Demonstrations.{IsDemonstration}
use Rattle.adv_hall.specs.Alone.{hall_events}
use Rattle.adv_io.specs.declared.events.Event.{Event}
use Rattle.adv_io.specs.History.{says, shown}
use Rattle.adv_io.specs.Steps.{Step, Traced, trace_of}
use Rattle.adv_position.specs.declared.saved.Saved.{Saved}
use Rattle.inform_tree.specs.declared.widths.Width.{Width}
use Rattle.inform_tree.specs.Programs.{DirectiveTree}
use Rattle.scott_rules.specs.Play.{PlayEnd, go}
use Rattle.scott_types.specs.declared.states.State.{State}
use Rattle.scott_types.specs.declared.styles.Style.{Style}
use Rattle.scott_types.specs.Database.{Database}
use Rattle.scott_types.specs.Style.{in_style}
use Rattle.scott_tool.specs.Calls.{calls_events}
use Rattle.scott_tool.specs.Cover.{covered_play, covered_events}
use Rattle.scott_tool.specs.Loading.{late_where}
use Rattle.scott_tool.specs.Outcome.{File, Outcome, done, keeping}
use Rattle.scott_tool.specs.Position.{stopped_text}
use Rattle.scott_tool.specs.Simplify.{SimplerText}
use Rattle.scott_tool.specs.Run.{ran, stop_after, stop_status, run_events}
use Rattle.scott_tool.specs.Step.{step_events}
use Rattle.inform_stepper.specs.declared.repeats.Pausing.{Pausing}
use Rattle.translator.specs.Faithful.{Faithful}

-- bytes that are said or stored: these alone; the text of a program that is faithful to a database
-- in this style, for words of this width, and opens at its beginning or in this state after a
-- prompt; the text of a program that is simpler than this one, for words of this width; or what is
-- told of the game of this number
pub data Text : Type 0 where
  exactly : List ℕ → Text
  translation : Style → Width → Database → Option State → Text
  simplification : Width → List DirectiveTree → Text
  demonstration : ℕ → Text

abbrev pub IsText : Text → List ℕ → Type 0
IsText (exactly bytes) out = out ≡ bytes
IsText (translation style width db from) out = Faithful style width db from out
IsText (simplification width p) out = SimplerText width p out
IsText (demonstration n) out = IsDemonstration n out

-- What a console sees, by the lines that are left: all events; those that are there where memory
-- runs out after them; and the statuses, besides those of what is done and of a console that
-- failed, with which it may have seen some.
pub record Show : Type 0 where
  pub events : List (List ℕ) → List Event
  pub starved : List (List ℕ) → List Event
  pub late : List ℕ

-- these events, after which no memory is wanted
abbrev pub showing : (List (List ℕ) → List Event) → Show
showing events = record { events = events; starved = λ lines. []; late = [] }

-- a file that is stored after the console's work: its name, and its bytes by the lines, if it is
-- stored
pub record Save : Type 0 where
  pub name : List ℕ
  pub text : List (List ℕ) → Option (List ℕ)

-- the file of this name with a text, if there is one
abbrev pub kept_as : List ℕ → Option (List ℕ) → Option File
kept_as name text = option_map (λ bytes. record { name = name; bytes = bytes }) text

abbrev pub saved : Option Save → List (List ℕ) → Option File
saved None lines = None
saved (Some save) lines = kept_as save.name (save.text lines)

-- A text is said; a text is stored under a name; a program is run, which by the lines that are left
-- ends with a status; or a database is played, and a file may be stored after that.
pub data Task : Type 0 where
  saying : Text → Task
  storing : List ℕ → Text → Task
  running : (List (List ℕ) → ℕ) → Show → Task
  playing : Show → Option Save → Task

-- what is seen and stored of it
abbrev pub shown_as : Show → (status : ℕ) → Option File → List (List ℕ) → Outcome
shown_as show status file lines =
    record {
      status = status;
      events = show.events lines;
      starved = show.starved lines;
      stored = file;
    }

-- what a task does, by the lines that are left
abbrev pub Does : Task → List (List ℕ) → Outcome → Type 0
Does (saying text) lines o = (out : List ℕ) × IsText text out × (o ≡ done (says out))
Does (storing name text) lines o = (out : List ℕ) × IsText text out × (o ≡ keeping name out)
Does (running status show) lines o = o ≡ shown_as show (status lines) None lines
Does (playing show save) lines o = o ≡ shown_as show 0 (saved save lines) lines

-- the status with which it ends, by these lines
abbrev pub status_with : Task → List (List ℕ) → ℕ
status_with (saying text) lines = 0
status_with (storing name text) lines = 0
status_with (running status show) lines = status lines
status_with (playing show save) lines = 0

-- the statuses with which it can end
abbrev pub task_statuses : Task → List ℕ
task_statuses (saying text) = 0 ∷ []
task_statuses (storing name text) = 0 ∷ []
task_statuses (running status show) = 0 ∷ 8 ∷ 10 ∷ []
task_statuses (playing show save) = 0 ∷ []

-- the name under which it stores a file
abbrev pub stored_by : Task → Option (List ℕ)
stored_by (saying text) = None
stored_by (storing name text) = Some name
stored_by (running status show) = None
stored_by (playing show save) = option_map (λ s. s.name) save

-- the other statuses with which a console may have worked for it
abbrev pub late_of : Task → List ℕ
late_of (saying text) = []
late_of (storing name text) = []
late_of (running status show) = show.late
late_of (playing show save) = show.late

-- ---- what is played and what is run

-- The play of a database in this style from where it stands, on these lines. Of its draws as many
-- are dropped as were taken before.
abbrev pub play_from : Style → Database → Saved → List ℕ → List (List ℕ) → Traced Step PlayEnd
play_from style db from draws lines =
    go (in_style style db) from.position from.state lines (drop from.taken draws)

abbrev pub play_events : Style → Database → Saved → List ℕ → List (List ℕ) → List Event
play_events style db from draws lines =
    shown (trace_of (play_from style db from draws lines).events)

-- where a file is stored after the console's work, memory may run out after all of it
abbrev pub all_where : {X : Type 0} → Option X → List Event → List Event
all_where None events = []
all_where (Some save) events = events

-- what is seen of a play, after which the position is kept in a file, if it has a name
abbrev pub play_show : Style → Database → Saved → List ℕ → Option (List ℕ) → Show
play_show style db from draws save =
    record {
      events = play_events style db from draws;
      starved = λ lines. all_where save (play_events style db from draws lines);
      late = late_where save;
    }

abbrev pub play_save : Style → Database → Saved → List ℕ → Option (List ℕ) → Option Save
play_save style db from draws save =
    option_map (λ name. record {
      name = name;
      text = λ lines. stopped_text draws (play_from style db from draws lines).value;
    }) save

abbrev pub play_task : Style → Database → Saved → List ℕ → Option (List ℕ) → Task
play_task style db from draws save =
    playing (play_show style db from draws save) (play_save style db from draws save)

-- so many sessions of a database, each as it plays alone
abbrev pub hall_task : Database → ℕ → Task
hall_task db count = playing (showing (λ lines. hall_events db count lines)) None

-- a database in this style with these draws, and then how often each line was tried
abbrev pub cover_show : Style → Database → List ℕ → Show
cover_show style db draws =
    record {
      events = λ lines. covered_events db (covered_play style db draws lines);
      starved = λ lines. shown (trace_of (covered_play style db draws lines).events);
      late = 9 ∷ [];
    }

abbrev pub cover_task : Style → Database → List ℕ → Task
cover_task style db draws = playing (cover_show style db draws) None

-- a program for words of this width and so many steps at most, with these draws
abbrev pub run_task : Width → List DirectiveTree → ℕ → List ℕ → Task
run_task width p steps draws =
    running (λ lines. stop_status (stop_after width p steps lines draws))
    (showing (λ lines. run_events p (ran width p steps lines draws)))

-- the same with a line at each pause
abbrev pub step_task : Width → List DirectiveTree → ℕ → Pausing → List ℕ → Task
step_task width p steps pausing draws =
    running (λ lines. stop_status (stop_after width p steps lines draws))
    (showing (λ lines. step_events width p steps pausing draws lines))

-- a program, and then how often each routine of a line was entered
abbrev pub calls_show : Width → List DirectiveTree → ℕ → List ℕ → Show
calls_show width p steps draws =
    record {
      events = λ lines. calls_events width p steps draws lines;
      starved = λ lines. shown (trace_of (ran width p steps lines draws).1.past);
      late = 9 ∷ [];
    }

abbrev pub calls_task : Width → List DirectiveTree → ℕ → List ℕ → Task
calls_task width p steps draws =
    running (λ lines. stop_status (stop_after width p steps lines draws))
    (calls_show width p steps draws)
