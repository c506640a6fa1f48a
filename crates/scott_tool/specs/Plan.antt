-- What a request asks for: the contents that are read one after the other, and the task at the end.
use Rattle.std.specs.Prelude.{◌≡◌, ◌⊎◌, ℕ, true, false, List, [], ◌∷◌, Option, Some, None, Result, Ok, Err}
use Rattle.std.specs.FinMap.{get}
use Rattle.adv_check.specs.Report.{report_text}
use Rattle.adv_compiler.specs.Meaning.{meant}
use Rattle.adv_decompiler.specs.Plain.{plain}
use Rattle.adv_io.specs.Shelf.{Files}
use Rattle.adv_position.specs.declared.saved.Saved.{Saved}
use Rattle.inform_reader.specs.Reading.{Fault as ProgramFault, IsProgram, IsFaulty}
use Rattle.inform_stepper.specs.declared.repeats.Pausing.{Pausing}
use Rattle.inform_tree.specs.declared.widths.Width.{Width}
use Rattle.inform_tree.specs.Programs.{DirectiveTree}
use Rattle.scott_format.specs.Canon.{canon}
use Rattle.scott_format.specs.Faults.{Fault}
use Rattle.scott_format.specs.File.{DatText, DatFault}
use Rattle.scott_requests.specs.Settings.{DrawSource, Pause}
use Rattle.scott_requests.specs.Request.{PlayRequest, RunRequest, StepRequest, Request, check, compile, decompile, play, translate, run, hall, transfer, simplify, step, cover, calls, demo}
use Rattle.scott_types.specs.declared.styles.Style.{Style}
use Rattle.scott_types.specs.Database.{Database}
use Rattle.source_reader.specs.Text.{SourceText}
use Rattle.source_reader.specs.declared.tree.Source.{Source}
use Rattle.trans_specs.specs.Wide.{Placed, wide_at}
use Rattle.scott_tool.specs.Steps.{◌>>=◌}
use Rattle.scott_tool.specs.Refusal.{Refusal, Unfit, no_request, refusing, status_of}
use Rattle.scott_tool.specs.Outcome.{Outcome, refused}
use Rattle.scott_tool.specs.Loading.{Texts, texts_of}
use Rattle.scott_tool.specs.Check.{database_of_file}
use Rattle.scott_tool.specs.Compile.{compiled_from, IsNoSource}
use Rattle.scott_tool.specs.Draws.{draws_from, DrawsAre, AreNoDraws}
use Rattle.scott_tool.specs.Position.{beginning, position_of_file, is_at_prompt, at_prompt_of_file, HasPosition, HasBadLine}
use Rattle.scott_tool.specs.Translate.{translatable}
use Rattle.scott_tool.specs.Run.{program_of_file}
use Rattle.scott_tool.specs.Step.{pausing_in, pausing_of_program}
use Rattle.scott_tool.specs.Work.{exactly, translation, Task, saying, storing, Does, task_statuses, late_of, play_task, run_task, step_task, hall_task, cover_task, calls_task, simplification, demonstration}

-- The file of this name is read as a database, as a source of one, or as a program for words of
-- this width; at what a run of the program pauses is found out; the draws are read; the file of
-- this name is read as a position of a play of the database; that the position is at a prompt, or
-- that no number of the database is too wide for words of this width, is found out; or all is read,
-- and this is to be done.
pub data Plan : Type 0 where
  of_game : List ℕ → (Database → Plan) → Plan
  of_source : List ℕ → (Database → Plan) → Plan
  of_program : Width → List ℕ → (List DirectiveTree → Plan) → Plan
  pausing_at : Width → List ℕ → List DirectiveTree → Pause → (Pausing → Plan) → Plan
  with_draws : DrawSource → (List ℕ → Plan) → Plan
  of_position : List ℕ → Database → (Saved → Plan) → Plan
  at_prompt : List ℕ → Saved → Plan → Plan
  narrow : Width → List ℕ → Database → Plan → Plan
  doing : Task → Plan

-- from the beginning, or from the position that a file has
abbrev pub opened : Option (List ℕ) → Database → (Saved → Plan) → Plan
opened None db next = next (beginning db)
opened (Some name) db next = of_position name db next

-- the plan of each request
abbrev pub plan : Request → Plan
plan (check game) = of_game game (λ db. doing (saying (exactly (report_text db))))
plan (compile source game) = of_source source (λ db. doing (storing game (exactly (canon db))))
plan (decompile game source) = of_game game (λ db. doing (storing source (exactly (plain db))))
plan (play p) =
    of_game p.game
    (λ db. with_draws p.source
    (λ draws. opened p.opened_from db
    (λ from. doing (play_task p.style db from draws p.saved_as))))
plan (translate t) =
    of_game t.game
    (λ db. narrow t.width t.game db
    (doing (storing t.program (translation t.style t.width db None))))
plan (run r) =
    of_program r.width r.program
    (λ p. with_draws r.source (λ draws. doing (run_task r.width p r.steps draws)))
plan (step s) =
    let asked = s.run in
    of_program asked.width asked.program
    (λ p. pausing_at asked.width asked.program p s.pause
    (λ pausing. with_draws asked.source
    (λ draws. doing (step_task asked.width p asked.steps pausing draws))))
plan (calls r) =
    of_program r.width r.program
    (λ p. with_draws r.source (λ draws. doing (calls_task r.width p r.steps draws)))
plan (demo n) = doing (saying (demonstration n))
plan (hall game count) = of_game game (λ db. doing (hall_task db count))
plan (cover c) =
    of_game c.game (λ db. with_draws c.source (λ draws. doing (cover_task c.style db draws)))
plan (transfer t) =
    let asked = t.translation in
    of_game asked.game
    (λ db. of_position t.opened_from db
    (λ from. at_prompt t.opened_from from
    (narrow asked.width asked.game db
    (doing (storing asked.program (translation asked.style asked.width db (Some from.state)))))))
plan (simplify s) =
    of_program s.width s.program
    (λ p. doing (storing s.simpler (simplification s.width p)))

-- ---- a plan on what was loaded: its task, or the first content that is refused

abbrev pub followed : Plan → Texts → Result Task Unfit
followed (of_game name next) texts =
    database_of_file name texts.main >>= λ db. followed (next db) texts
followed (of_source name next) texts =
    compiled_from name texts.main >>= λ db. followed (next db) texts
followed (of_program width name next) texts =
    program_of_file width name texts.main >>= λ p. followed (next p) texts
followed (pausing_at width name p pause next) texts =
    pausing_of_program width name p pause >>= λ pausing. followed (next pausing) texts
followed (with_draws source next) texts =
    draws_from source texts.draws >>= λ draws. followed (next draws) texts
followed (of_position name db next) texts =
    position_of_file name db texts.position >>= λ from. followed (next from) texts
followed (at_prompt name from next) texts =
    at_prompt_of_file name from >>= λ _. followed next texts
followed (narrow width name db next) texts = translatable name width db >>= λ _. followed next texts
followed (doing task) texts = Ok task

-- the task of a request
abbrev pub work : Request → Texts → Result Task Unfit
work request texts = followed (plan request) texts

-- where a play opens, by the bytes of the file that has the position, if there is one
abbrev pub opening_of : Option (List ℕ) → Database → List ℕ → Result Saved Unfit
opening_of None db bytes = Ok (beginning db)
opening_of (Some name) db bytes = position_of_file name db bytes

-- the end of the plan of a play, where the draws are accepted, and where the position is too
abbrev pub playing_with : PlayRequest → Database → Texts → List ℕ → Result Task Unfit
playing_with p db texts draws =
    opening_of p.opened_from db texts.position >>= λ from.
    Ok (play_task p.style db from draws p.saved_as)

abbrev pub playing_from : PlayRequest → Database → Texts → Result (List ℕ) Unfit
    → Result Task Unfit
playing_from p db texts drawn = drawn >>= playing_with p db texts

-- the same of a play of which it is told what was tried
abbrev pub covering_from : Style → Database → Result (List ℕ) Unfit → Result Task Unfit
covering_from style db drawn = drawn >>= λ draws. Ok (cover_task style db draws)

-- the end of the plan of a run, where the draws are accepted
abbrev pub running_from : Width → List DirectiveTree → ℕ → Result (List ℕ) Unfit → Result Task Unfit
running_from width p steps drawn = drawn >>= λ draws. Ok (run_task width p steps draws)

-- the same of a run that pauses, and before that where the program has the routine
abbrev pub stepping_from : RunRequest → List DirectiveTree → Pausing → Result (List ℕ) Unfit
    → Result Task Unfit
stepping_from r p pausing drawn = drawn >>= λ draws. Ok (step_task r.width p r.steps pausing draws)

abbrev pub stepping_with : StepRequest → List DirectiveTree → List ℕ → Result Task Unfit
stepping_with s p bytes =
    pausing_of_program s.run.width s.run.program p s.pause >>= λ pausing.
    stepping_from s.run p pausing (draws_from s.run.source bytes)

-- the same of a run of which it is told what it entered
abbrev pub calling_from : Width → List DirectiveTree → ℕ → Result (List ℕ) Unfit → Result Task Unfit
calling_from width p steps drawn = drawn >>= λ draws. Ok (calls_task width p steps draws)

-- ---- a plan by the files that there are

-- each content is what it should be, and the task at the end has this
abbrev pub Reaches : Files → Plan → (Task → Type 0) → Type 0
Reaches files (of_game name next) P =
    (bytes : List ℕ) × (db : Database) × (get files name ≡ Some bytes) × DatText bytes db
    × Reaches files (next db) P
Reaches files (of_source name next) P =
    (bytes : List ℕ) × (tree : Source) × (db : Database) × (get files name ≡ Some bytes)
    × SourceText bytes tree × (meant tree ≡ Ok db) × Reaches files (next db) P
Reaches files (of_program width name next) P =
    (bytes : List ℕ) × (p : List DirectiveTree) × (get files name ≡ Some bytes)
    × IsProgram width bytes p × Reaches files (next p) P
Reaches files (pausing_at width name p pause next) P =
    (pausing : Pausing) × (pausing_in width p pause ≡ Some pausing)
    × Reaches files (next pausing) P
Reaches files (with_draws source next) P =
    (draws : List ℕ) × DrawsAre files source draws × Reaches files (next draws) P
Reaches files (of_position name db next) P =
    (bytes : List ℕ) × (from : Saved) × (get files name ≡ Some bytes) × HasPosition db bytes from
    × Reaches files (next from) P
Reaches files (at_prompt name from next) P =
    (is_at_prompt from.position ≡ true) × Reaches files next P
Reaches files (narrow width name db next) P = (wide_at width db ≡ None) × Reaches files next P
Reaches files (doing task) P = P task

-- a content is refused with this status, and those before it aren't
abbrev pub IsRefused : Files → Plan → (status : ℕ) → Type 0
IsRefused files (of_game name next) status =
    (bytes : List ℕ) × (get files name ≡ Some bytes)
    × (((status ≡ 4) × ((fault : Fault) × DatFault bytes fault))
    ⊎ ((db : Database) × DatText bytes db × IsRefused files (next db) status))
IsRefused files (of_source name next) status =
    (bytes : List ℕ) × (get files name ≡ Some bytes)
    × (((status ≡ 5) × IsNoSource bytes)
    ⊎ ((tree : Source) × (db : Database) × SourceText bytes tree × (meant tree ≡ Ok db)
    × IsRefused files (next db) status))
IsRefused files (of_program width name next) status =
    (bytes : List ℕ) × (get files name ≡ Some bytes)
    × (((status ≡ 6) × ((fault : ProgramFault) × IsFaulty width bytes fault))
    ⊎ ((p : List DirectiveTree) × IsProgram width bytes p × IsRefused files (next p) status))
IsRefused files (pausing_at width name p pause next) status =
    ((status ≡ 6) × (pausing_in width p pause ≡ None))
    ⊎ ((pausing : Pausing) × (pausing_in width p pause ≡ Some pausing)
    × IsRefused files (next pausing) status)
IsRefused files (with_draws source next) status =
    ((status ≡ 5) × AreNoDraws files source)
    ⊎ ((draws : List ℕ) × DrawsAre files source draws × IsRefused files (next draws) status)
IsRefused files (of_position name db next) status =
    (bytes : List ℕ) × (get files name ≡ Some bytes)
    × (((status ≡ 5) × ((line : ℕ) × HasBadLine db bytes line))
    ⊎ ((from : Saved) × HasPosition db bytes from × IsRefused files (next from) status))
IsRefused files (at_prompt name from next) status =
    ((status ≡ 5) × (is_at_prompt from.position ≡ false))
    ⊎ ((is_at_prompt from.position ≡ true) × IsRefused files next status)
IsRefused files (narrow width name db next) status =
    ((status ≡ 7) × ((placed : Placed) × (wide_at width db ≡ Some placed)))
    ⊎ ((wide_at width db ≡ None) × IsRefused files next status)
IsRefused files (doing task) status = ⊥

-- ---- what is expected of the words, by the files that there are

-- All files are loaded before any is read.
abbrev pub expected : Files → Option Request → Result Task Refusal
expected files None = Err no_request
expected files (Some request) = texts_of files request >>= λ texts. refusing (work request texts)

abbrev pub statuses_of : Result Task Refusal → List ℕ
statuses_of (Ok task) = task_statuses task
statuses_of (Err refusal) = status_of refusal ∷ []

-- the other statuses with which the console may have worked
abbrev pub late_in : Result Task Refusal → List ℕ
late_in (Ok task) = late_of task
late_in (Err refusal) = []

abbrev pub IsExpected : Result Task Refusal → List (List ℕ) → Outcome → Type 0
IsExpected (Ok task) lines o = Does task lines o
IsExpected (Err refusal) lines o = o ≡ refused refusal
