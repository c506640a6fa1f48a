-- What a plan says of what was loaded for it.
use Rattle.std.proofs.Common.{◌≡◌, ◌∙◌, ℕ, List, [], Option, Some, None, Result, Ok, Err, refl, sym, ap, subst, inl, inr}
use Rattle.std.specs.FinMap.{get}
use Rattle.std.specs.Prelude.{Bool, true, false, option_map, unwrap_or}
use Rattle.adv_draws.specs.Listed.{listed_draws}
use Rattle.adv_io.specs.Shelf.{Files}
use Rattle.scott_format.specs.Faults.{Fault}
use Rattle.scott_format.specs.File.{database_in}
use Rattle.adv_compiler.specs.Faults as meaning
use Rattle.adv_compiler.specs.Meaning.{meant}
use Rattle.source_reader.specs.Faults as reading
use Rattle.source_reader.specs.Text.{source_in}
use Rattle.source_reader.specs.declared.tree.Source.{Source}
use Rattle.inform_tree.specs.Programs.{DirectiveTree}
use Rattle.inform_reader.specs.Reading as reader
use Rattle.inform_reader.specs.Reading.{program_in}
use Rattle.scott_requests.specs.Settings.{DrawSource, listed, seeded, Pause}
use Rattle.inform_stepper.specs.declared.repeats.Pausing.{Pausing}
use Rattle.scott_tool.specs.Step.{pausing_in, pausing_or_unfit, pausing_of_program}
use Rattle.scott_requests.specs.Request.{PlayRequest, Request, check, compile, decompile, play, translate, run, hall, transfer, simplify, step, cover, calls, demo}
use Rattle.scott_types.specs.Database.{Database}
use Rattle.scott_tool.specs.Laws.{Laws}
use Rattle.scott_tool.specs.Steps.{◌>>=◌}
use Rattle.scott_tool.specs.Refusal.{Refusal, Unfit, refusing, flaw_status}
use Rattle.scott_tool.specs.Loading.{Load, Loads, loads_of, main_of, draws_of, position_of, stores, late_statuses, draws_load, database_load, source_load, program_load, position_load, loaded, Texts, texts_of}
use Rattle.scott_tool.specs.Check.{database_or_unfit, database_of_file}
use Rattle.scott_tool.specs.Compile.{source_or_unfit, meaning_or_unfit, compiled_from, IsNoSource}
use Rattle.scott_tool.specs.Draws.{draws_or_unfit, draws_from, DrawsAre, AreNoDraws}
use Rattle.trans_specs.specs.Wide.{Placed, wide_at}
use Rattle.scott_tool.specs.Translate.{translatable_or_unfit, translatable}
use Rattle.adv_position.specs.Reading.{position_in}
use Rattle.adv_position.specs.declared.saved.Saved.{Saved}
use Rattle.scott_tool.specs.Position.{beginning, position_or_unfit, position_of_file, is_at_prompt, prompt_or_unfit, at_prompt_of_file, HasPosition, HasBadLine}
use Rattle.scott_tool.specs.Run.{program_or_unfit, program_of_file}
use Rattle.scott_tool.specs.Work.{Task, stored_by, late_of, play_task}
use Rattle.scott_tool.specs.Plan.{Plan, of_game, of_source, of_program, pausing_at, with_draws, of_position, at_prompt, narrow, doing, opened, plan, followed, work, Reaches, IsRefused, expected}
use Rattle.scott_tool.specs.Causes.{IsLoadable, EndsWith0, IsAccepted}
use Rattle.scott_tool.proofs.Files.{bind-ok, bind-err, there-loaded, loaded-there}

-- ---- why a content is refused

abbrev status_in : {X : Type 0} → Result X Unfit → ℕ
status_in (Ok x) = 0
status_in (Err u) = flaw_status u.flaw

database_unfit : (name : List ℕ) (read : Result Database Fault) (u : Unfit)
    → database_or_unfit name read ≡ Err u
    → (fault : Fault) × (read ≡ Err fault) × (flaw_status u.flaw ≡ 4)
database_unfit name (Ok db) u e = absurd cc
database_unfit name (Err fault) u e = (fault, refl, sym (ap status_in e))

database_fit : (name : List ℕ) (read : Result Database Fault) (db : Database)
    → database_or_unfit name read ≡ Ok db → read ≡ Ok db
database_fit name (Ok other) db e = let same : other ≡ db = cc in ap Ok same
database_fit name (Err fault) db e = absurd cc

source_unfit : (name : List ℕ) (read : Result Source reading.Fault) (u : Unfit)
    → source_or_unfit name read ≡ Err u
    → (fault : reading.Fault) × (read ≡ Err fault) × (flaw_status u.flaw ≡ 5)
source_unfit name (Ok tree) u e = absurd cc
source_unfit name (Err fault) u e = (fault, refl, sym (ap status_in e))

meaning_unfit : (name : List ℕ) (read : Result Database meaning.Fault) (u : Unfit)
    → meaning_or_unfit name read ≡ Err u
    → (fault : meaning.Fault) × (read ≡ Err fault) × (flaw_status u.flaw ≡ 5)
meaning_unfit name (Ok db) u e = absurd cc
meaning_unfit name (Err fault) u e = (fault, refl, sym (ap status_in e))

source_fit : (name : List ℕ) (read : Result Source reading.Fault) (tree : Source)
    → source_or_unfit name read ≡ Ok tree → read ≡ Ok tree
source_fit name (Ok other) tree e = let same : other ≡ tree = cc in ap Ok same
source_fit name (Err fault) tree e = absurd cc

meaning_fit : (name : List ℕ) (read : Result Database meaning.Fault) (db : Database)
    → meaning_or_unfit name read ≡ Ok db → read ≡ Ok db
meaning_fit name (Ok other) db e = let same : other ≡ db = cc in ap Ok same
meaning_fit name (Err fault) db e = absurd cc

abbrev means : List ℕ → Source → Result Database Unfit
means name tree = meaning_or_unfit name (meant tree)

-- a text that can't be compiled is no source, or one that means no database
compiled_unfit : Laws → (name bytes : List ℕ) (u : Unfit) → compiled_from name bytes ≡ Err u
    → IsNoSource bytes × (flaw_status u.flaw ≡ 5)
compiled_unfit laws name bytes u e =
    elim (bind-err (source_or_unfit name (source_in bytes)) (means name) u e) [
      | inl s ↦ (let f = source_unfit name (source_in bytes) u s in
          (inl (f.0, (laws.source_fault bytes f.0).0 f.1), f.2))
      | inr m ↦
          (let f = meaning_unfit name (meant m.0) u m.2 in (
            inr (
              m.0,
              f.0,
              (laws.source bytes m.0).0 (source_fit name (source_in bytes) m.0 m.1),
              f.1,
            ),
            f.2,
          ))
    ]

program_unfit : (name : List ℕ) (read : Result (List DirectiveTree) reader.Fault) (u : Unfit)
    → program_or_unfit name read ≡ Err u
    → (fault : reader.Fault) × (read ≡ Err fault) × (flaw_status u.flaw ≡ 6)
program_unfit name (Ok p) u e = absurd cc
program_unfit name (Err fault) u e = (fault, refl, sym (ap status_in e))

-- a program without the routine
pausing_unfit : (file : List ℕ) (pause : Pause) (found : Option Pausing) (u : Unfit)
    → pausing_or_unfit file pause found ≡ Err u → (found ≡ None) × (flaw_status u.flaw ≡ 6)
pausing_unfit file pause None u e = (refl, sym (ap status_in e))
pausing_unfit file pause (Some pausing) u e = absurd cc

pausing_fit : (file : List ℕ) (pause : Pause) (found : Option Pausing) (pausing : Pausing)
    → pausing_or_unfit file pause found ≡ Ok pausing → found ≡ Some pausing
pausing_fit file pause None pausing e = absurd cc
pausing_fit file pause (Some other) pausing e = let same : other ≡ pausing = cc in ap Some same

-- why a database isn't translated
translatable_unfit : (name : List ℕ) (db : Database) (wide : Option Placed) (u : Unfit)
    → translatable_or_unfit name db wide ≡ Err u
    → (placed : Placed) × (wide ≡ Some placed) × (flaw_status u.flaw ≡ 7)
translatable_unfit name db (Some placed) u e = (placed, refl, sym (ap status_in e))
translatable_unfit name db None u e = absurd cc

position_unfit : (name : List ℕ) (read : Result Saved ℕ) (u : Unfit)
    → position_or_unfit name read ≡ Err u
    → (line : ℕ) × (read ≡ Err line) × (flaw_status u.flaw ≡ 5)
position_unfit name (Ok from) u e = absurd cc
position_unfit name (Err line) u e = (line, refl, sym (ap status_in e))

position_fit : (name : List ℕ) (read : Result Saved ℕ) (from : Saved)
    → position_or_unfit name read ≡ Ok from → read ≡ Ok from
position_fit name (Ok other) from e = let same : other ≡ from = cc in ap Ok same
position_fit name (Err line) from e = absurd cc

prompt_unfit : (name : List ℕ) (from : Saved) (test : Bool) (u : Unfit)
    → prompt_or_unfit name from test ≡ Err u → (test ≡ false) × (flaw_status u.flaw ≡ 5)
prompt_unfit name from true u e = absurd cc
prompt_unfit name from false u e = (refl, sym (ap status_in e))

prompt_fit : (name : List ℕ) (from fit : Saved) (test : Bool)
    → prompt_or_unfit name from test ≡ Ok fit → test ≡ true
prompt_fit name from fit true e = refl
prompt_fit name from fit false e = absurd cc

-- what bytes read as is the position whose text they are, or the first bad line
has_position : Laws → (db : Database) (bytes : List ℕ) (from : Saved)
    → position_in db bytes ≡ Ok from → HasPosition db bytes from
has_position laws db bytes from e =
    record { read = e; text = λ keeps. (laws.position db bytes from keeps).0 e }

has_bad_line : Laws → (db : Database) (bytes : List ℕ) (line : ℕ)
    → position_in db bytes ≡ Err line → HasBadLine db bytes line
has_bad_line laws db bytes line e =
    record { read = e; bad = λ keeps. (laws.bad_line db bytes line keeps).0 e }

pub program_fit : (name : List ℕ) (read : Result (List DirectiveTree) reader.Fault)
    (p : List DirectiveTree) → program_or_unfit name read ≡ Ok p → read ≡ Ok p
program_fit name (Ok other) p e = let same : other ≡ p = cc in ap Ok same
program_fit name (Err fault) p e = absurd cc

-- what can be translated has no number that is too wide
translatable_fit : (name : List ℕ) (db fit : Database) (wide : Option Placed)
    → translatable_or_unfit name db wide ≡ Ok fit → wide ≡ None
translatable_fit name db fit None e = refl
translatable_fit name db fit (Some placed) e = absurd cc

-- ---- plans and what is loaded for them

-- a plan reads the files that are loaded, and its task stores under this name and has these other
-- statuses
abbrev pub IsMade : Loads → Option (List ℕ) → (late : List ℕ) → Plan → Type 0
IsMade loads name late (of_game file next) =
    (loads.main ≡ Some (database_load file)) × ((db : Database) → IsMade loads name late (next db))
IsMade loads name late (of_source file next) =
    (loads.main ≡ Some (source_load file)) × ((db : Database) → IsMade loads name late (next db))
IsMade loads name late (of_program width file next) =
    (loads.main ≡ Some (program_load file))
    × ((p : List DirectiveTree) → IsMade loads name late (next p))
IsMade loads name late (pausing_at width file p pause next) =
    (pausing : Pausing) → IsMade loads name late (next pausing)
IsMade loads name late (with_draws source next) =
    (loads.draws ≡ draws_load source) × ((ds : List ℕ) → IsMade loads name late (next ds))
IsMade loads name late (of_position file db next) =
    (loads.position ≡ Some (position_load file))
    × ((from : Saved) → IsMade loads name late (next from))
IsMade loads name late (at_prompt file from next) = IsMade loads name late next
IsMade loads name late (narrow width file db next) = IsMade loads name late next
IsMade loads name late (doing task) = (stored_by task ≡ name) × (late_of task ≡ late)

-- what a play keeps it keeps under the name that was asked for
play_stores : (p : PlayRequest) (db : Database) (from : Saved) (ds : List ℕ)
    (save : Option (List ℕ)) → stored_by (play_task p.style db from ds save) ≡ save
play_stores p db from ds None = refl
play_stores p db from ds (Some name) = refl

-- a play opens at its beginning, or at the position that is loaded
opened_made : (loads : Loads) (name : Option (List ℕ)) (late : List ℕ) (from : Option (List ℕ))
    (db : Database) (next : Saved → Plan) → loads.position ≡ option_map position_load from
    → ((saved : Saved) → IsMade loads name late (next saved))
    → IsMade loads name late (opened from db next)
opened_made loads name late None db next is more = more (beginning db)
opened_made loads name late (Some file) db next is more = (is, more)

-- so are the plans of all requests
pub made : (request : Request)
    → IsMade (loads_of request) (stores request) (late_statuses request) (plan request)
made (check game) = (refl, λ db. (refl, refl))
made (compile source game) = (refl, λ db. (refl, refl))
made (decompile game source) = (refl, λ db. (refl, refl))
made (play p) = (
  refl,
  λ db. (
    refl,
    λ ds. opened_made (loads_of (play p)) p.saved_as (late_statuses (play p)) p.opened_from db
        (λ from. doing (play_task p.style db from ds p.saved_as)) refl
        (λ from. (play_stores p db from ds p.saved_as, refl)),
  ),
)
made (translate t) = (refl, λ db. (refl, refl))
made (run r) = (refl, λ p. (refl, λ ds. (refl, refl)))
made (demo n) = (refl, refl)
made (hall game count) = (refl, λ db. (refl, refl))
made (cover c) = (refl, λ db. (refl, λ ds. (refl, refl)))
made (transfer t) = (refl, λ db. (refl, λ from. (refl, refl)))
made (simplify s) = (refl, λ p. (refl, refl))
made (step s) = (refl, λ p pausing. (refl, λ ds. (refl, refl)))
made (calls r) = (refl, λ p. (refl, λ ds. (refl, refl)))

-- the task of a plan that was followed stores under its name, and has its other statuses
pub task_made : (loads : Loads) (name : Option (List ℕ)) (late : List ℕ)
    (texts : Texts) (p : Plan)
    → IsMade loads name late p → (task : Task) → followed p texts ≡ Ok task
    → (stored_by task ≡ name) × (late_of task ≡ late)
task_made loads name late texts (of_game file next) (m, more) task w =
    let d = bind-ok (database_of_file file texts.main) (λ db. followed (next db) texts) task w in
    task_made loads name late texts (next d.0) (more d.0) task d.2
task_made loads name late texts (of_source file next) (m, more) task w =
    let d = bind-ok (compiled_from file texts.main) (λ db. followed (next db) texts) task w in
    task_made loads name late texts (next d.0) (more d.0) task d.2
task_made loads name late texts (of_program width file next) (m, more) task w =
    let d = bind-ok (program_of_file width file texts.main) (λ p. followed (next p) texts) task w in
    task_made loads name late texts (next d.0) (more d.0) task d.2
task_made loads name late texts (pausing_at width file p pause next) more task w =
    let d = bind-ok (pausing_of_program width file p pause) (λ q. followed (next q) texts) task w in
    task_made loads name late texts (next d.0) (more d.0) task d.2
task_made loads name late texts (with_draws source next) (m, more) task w =
    let d = bind-ok (draws_from source texts.draws) (λ ds. followed (next ds) texts) task w in
    task_made loads name late texts (next d.0) (more d.0) task d.2
task_made loads name late texts (of_position file db next) (m, more) task w =
    let d = bind-ok (position_of_file file db texts.position) (λ from. followed (next from) texts)
    task w in
    task_made loads name late texts (next d.0) (more d.0) task d.2
task_made loads name late texts (at_prompt file from next) m task w =
    let d = bind-ok (at_prompt_of_file file from) (λ _. followed next texts) task w in
    task_made loads name late texts next m task d.2
task_made loads name late texts (narrow width file db next) m task w =
    let d = bind-ok (translatable file width db) (λ _. followed next texts) task w in
    task_made loads name late texts next m task d.2
task_made loads name late texts (doing other) m task w =
    let same : other ≡ task = cc in
    subst (λ (t : Task). (stored_by t ≡ name) × (late_of t ≡ late)) same m

same_file : (files : Files) (name : List ℕ) {a b : List ℕ} → get files name ≡ Some a
    → get files name ≡ Some b → a ≡ b
same_file files name {a} {b} there other = ap (λ o. unwrap_or o a) (sym there ∙ other)

module _ (files : Files) where
  -- the draws of a request
  pub draws_are : (source : DrawSource) (bytes draws : List ℕ) → loaded files (draws_load source)
      ≡ Ok bytes → draws_from source bytes ≡ Ok draws
      → DrawsAre files source draws
  draws_are (seeded seed) bytes draws l e = cc
  draws_are (listed name) bytes draws l e = (
    bytes,
    there-loaded files _ bytes l,
    by
        (listed_draws bytes) refl e,
  )
    where
      by : (read : Result (List ℕ) ℕ) → listed_draws bytes ≡ read → draws_or_unfit name read
          ≡ Ok draws → listed_draws bytes ≡ Ok draws
      by (Ok other) f g = let same : other ≡ draws = cc in f ∙ ap Ok same
      by (Err at) f g = absurd cc

module _ (laws : Laws) (files : Files) (texts : Texts) (loads : Loads)
    (name : Option (List ℕ)) (late : List ℕ) (main_is : loaded files loads.main ≡ Ok texts.main)
    (draws_is : loaded files loads.draws ≡ Ok texts.draws)
    (position_is : loaded files loads.position ≡ Ok texts.position) where
  abbrev Made : Plan → Type 0
  Made p = IsMade loads name late p

  main_there : (load : Load) → loads.main ≡ Some load → get files load.name ≡ Some texts.main
  main_there load is =
      there-loaded files load texts.main (ap (λ l. loaded files l) (sym is) ∙ main_is)

  draws_there : (load : Load) → loads.draws ≡ Some load → get files load.name ≡ Some texts.draws
  draws_there load is =
      there-loaded files load texts.draws (ap (λ l. loaded files l) (sym is) ∙ draws_is)

  position_there : (load : Load) → loads.position ≡ Some load
      → get files load.name ≡ Some texts.position
  position_there load is =
      there-loaded files load texts.position (ap (λ l. loaded files l) (sym is) ∙ position_is)

  -- ---- the task of a plan that was followed

  -- where a plan was followed to a task, each content is what it should be
  pub reached : (P : Task → Type 0) (p : Plan) → Made p → (task : Task)
      → followed p texts ≡ Ok task → P task → Reaches files p P
  reached P (of_game file next) (m, more) task w h =
      let d = bind-ok (database_of_file file texts.main) (λ db. followed (next db) texts) task w
      in (
        texts.main,
        d.0,
        main_there (database_load file) m,
        (laws.database texts.main d.0).0 (database_fit file (database_in texts.main) d.0 d.1),
        reached P (next d.0) (more d.0) task d.2 h,
      )
  reached P (of_source file next) (m, more) task w h =
      let d = bind-ok (compiled_from file texts.main) (λ db. followed (next db) texts) task w in
      let s = bind-ok (source_or_unfit file (source_in texts.main)) (means file) d.0 d.1 in (
        texts.main,
        s.0,
        d.0,
        main_there (source_load file) m,
        (laws.source texts.main s.0).0 (source_fit file (source_in texts.main) s.0 s.1),
        meaning_fit file (meant s.0) d.0 s.2,
        reached P (next d.0) (more d.0) task d.2 h,
      )
  reached P (of_program width file next) (m, more) task w h =
      let d = bind-ok (program_of_file width file texts.main) (λ p. followed (next p) texts) task w
      in (
        texts.main,
        d.0,
        main_there (program_load file) m,
        (laws.program width texts.main d.0).0
            (program_fit file (program_in width texts.main) d.0 d.1),
        reached P (next d.0) (more d.0) task d.2 h,
      )
  reached P (pausing_at width file p pause next) more task w h =
      let d = bind-ok (pausing_of_program width file p pause) (λ q. followed (next q) texts) task w
      in (
        d.0,
        pausing_fit file pause (pausing_in width p pause) d.0 d.1,
        reached P (next d.0) (more d.0) task d.2 h,
      )
  reached P (with_draws source next) (m, more) task w h =
      let d = bind-ok (draws_from source texts.draws) (λ ds. followed (next ds) texts) task w in (
        d.0,
        draws_are files source texts.draws d.0 (ap (λ l. loaded files l) (sym m) ∙ draws_is) d.1,
        reached P (next d.0) (more d.0) task d.2 h,
      )
  reached P (of_position file db next) (m, more) task w h =
      let d = bind-ok (position_of_file file db texts.position)
      (λ from. followed (next from) texts) task w in (
        texts.position,
        d.0,
        position_there (position_load file) m,
        has_position laws db texts.position d.0
            (position_fit file (position_in db texts.position) d.0 d.1),
        reached P (next d.0) (more d.0) task d.2 h,
      )
  reached P (at_prompt file from next) m task w h =
      let d = bind-ok (at_prompt_of_file file from) (λ _. followed next texts) task w in (
        prompt_fit file from d.0 (is_at_prompt from.position) d.1,
        reached P next m task d.2 h,
      )
  reached P (narrow width file db next) m task w h =
      let d = bind-ok (translatable file width db) (λ _. followed next texts) task w in (
        translatable_fit file db d.0 (wide_at width db) d.1,
        reached P next m task d.2 h,
      )
  reached P (doing other) m task w h = let same : task ≡ other = cc in subst P same h

  -- ---- the first content that is refused

  -- draws are refused with status 5, where a run of bytes in their file is no draw
  no_draws : (source : DrawSource) → loads.draws ≡ draws_load source → (u : Unfit)
      → draws_from source texts.draws ≡ Err u
      → (flaw_status u.flaw ≡ 5) × AreNoDraws files source
  no_draws (seeded seed) m u e = absurd cc
  no_draws (listed file) m u e = by (listed_draws texts.draws) refl e
    where
      by : (read : Result (List ℕ) ℕ) → listed_draws texts.draws ≡ read
          → draws_or_unfit file read ≡ Err u
          → (flaw_status u.flaw ≡ 5) × AreNoDraws files (listed file)
      by (Ok ds) f g = absurd cc
      by (Err at) f g = (sym (ap status_in g), (texts.draws, at, draws_there _ m, f))

  -- a plan is refused with the status of the first content that isn't what it should be
  pub refused_first : (p : Plan) → Made p → (u : Unfit) → followed p texts ≡ Err u
      → IsRefused files p (flaw_status u.flaw)
  refused_first (of_game file next) (m, more) u w = (
    texts.main,
    main_there (database_load file) m,
    elim (bind-err (database_of_file file texts.main) (λ db. followed (next db) texts) u w) [
      | inl d ↦ (let f = database_unfit file (database_in texts.main) u d in
          inl (f.2, (f.0, (laws.database_fault texts.main f.0).0 f.1)))
      | inr d ↦ inr (
        d.0,
        (laws.database texts.main d.0).0 (database_fit file (database_in texts.main) d.0 d.1),
        refused_first (next d.0) (more d.0) u d.2,
      )
    ],
  )
  refused_first (of_source file next) (m, more) u w = (
    texts.main,
    main_there (source_load file) m,
    elim (bind-err (compiled_from file texts.main) (λ db. followed (next db) texts) u w) [
      | inl d ↦ (let f = compiled_unfit laws file texts.main u d in inl (f.1, f.0))
      | inr d ↦ (let s = bind-ok (source_or_unfit file (source_in texts.main)) (means file) d.0 d.1
          in inr (
            s.0,
            d.0,
            (laws.source texts.main s.0).0 (source_fit file (source_in texts.main) s.0 s.1),
            meaning_fit file (meant s.0) d.0 s.2,
            refused_first (next d.0) (more d.0) u d.2,
          ))
    ],
  )
  refused_first (of_program width file next) (m, more) u w = (
    texts.main,
    main_there (program_load file) m,
    elim (bind-err (program_of_file width file texts.main) (λ p. followed (next p) texts) u w) [
      | inl d ↦ (let f = program_unfit file (program_in width texts.main) u d in
          inl (f.2, (f.0, (laws.program_fault width texts.main f.0).0 f.1)))
      | inr d ↦ inr (
        d.0,
        (laws.program width texts.main d.0).0
            (program_fit file (program_in width texts.main) d.0 d.1),
        refused_first (next d.0) (more d.0) u d.2,
      )
    ],
  )
  refused_first (pausing_at width file p pause next) more u w =
      elim (bind-err (pausing_of_program width file p pause) (λ q. followed (next q) texts) u w) [
        | inl d ↦ (let f = pausing_unfit file pause (pausing_in width p pause) u d in
            inl (f.1, f.0))
        | inr d ↦ inr (
          d.0,
          pausing_fit file pause (pausing_in width p pause) d.0 d.1,
          refused_first (next d.0) (more d.0) u d.2,
        )
      ]
  refused_first (with_draws source next) (m, more) u w =
      elim (bind-err (draws_from source texts.draws) (λ ds. followed (next ds) texts) u w) [
        | inl d ↦ inl (no_draws source m u d)
        | inr d ↦ inr (
          d.0,
          draws_are files source texts.draws d.0 (ap (λ l. loaded files l) (sym m) ∙ draws_is)
              d.1,
          refused_first (next d.0) (more d.0) u d.2,
        )
      ]
  refused_first (of_position file db next) (m, more) u w = (
    texts.position,
    position_there (position_load file) m,
    elim (bind-err (position_of_file file db texts.position) (λ from. followed (next from) texts) u
        w) [
          | inl d ↦ (let f = position_unfit file (position_in db texts.position) u d in
              inl (f.2, (f.0, has_bad_line laws db texts.position f.0 f.1)))
          | inr d ↦ inr (
            d.0,
            has_position laws db texts.position d.0
                (position_fit file (position_in db texts.position) d.0 d.1),
            refused_first (next d.0) (more d.0) u d.2,
          )
        ],
  )
  refused_first (at_prompt file from next) m u w =
      elim (bind-err (at_prompt_of_file file from) (λ _. followed next texts) u w) [
        | inl d ↦ (let f = prompt_unfit file from (is_at_prompt from.position) u d in
            inl (f.1, f.0))
        | inr d ↦ inr (
          prompt_fit file from d.0 (is_at_prompt from.position) d.1,
          refused_first next m u d.2,
        )
      ]
  refused_first (narrow width file db next) m u w =
      elim (bind-err (translatable file width db) (λ _. followed next texts) u w) [
        | inl d ↦ (let f = translatable_unfit file db (wide_at width db) u d in
            inl (f.2, (f.0, f.1)))
        | inr d ↦ inr (
          translatable_fit file db d.0 (wide_at width db) d.1,
          refused_first next m u d.2,
        )
      ]
  refused_first (doing task) m u w = absurd cc

  -- ---- a plan whose contents are what they should be

  draws_read : (source : DrawSource) → loads.draws ≡ draws_load source → (ds : List ℕ)
      → DrawsAre files source ds → draws_from source texts.draws ≡ Ok ds
  draws_read (seeded seed) m ds is = ap Ok (sym is)
  draws_read (listed file) m ds (bytes, there, lists) =
      ap (draws_or_unfit file)
      (ap listed_draws (same_file files file (draws_there _ m) there) ∙ lists)

  -- a plan whose contents are all what they should be is followed to its task
  pub comes : (P : Task → Type 0) (p : Plan) → Made p → Reaches files p P
      → (task : Task) × (followed p texts ≡ Ok task) × P task
  comes P (of_game file next) (m, more) (bytes, db, there, text, h) =
      let same = same_file files file (main_there (database_load file) m) there in
      let reads : database_of_file file texts.main ≡ Ok db = ap (database_of_file file) same
      ∙ ap (database_or_unfit file) ((laws.database bytes db).1 text) in
      let rest = comes P (next db) (more db) h in
      (rest.0, ap (λ r. r >>= λ d. followed (next d) texts) reads ∙ rest.1, rest.2)
  comes P (of_source file next) (m, more) (bytes, tree, db, there, text, is, h) =
      let same = same_file files file (main_there (source_load file) m) there in
      let reads : compiled_from file texts.main ≡ Ok db = ap (compiled_from file) same
      ∙ ap (λ r. source_or_unfit file r >>= means file) ((laws.source bytes tree).1 text) ∙ ap
      (meaning_or_unfit file) is in
      let rest = comes P (next db) (more db) h in
      (rest.0, ap (λ r. r >>= λ d. followed (next d) texts) reads ∙ rest.1, rest.2)
  comes P (of_program width file next) (m, more) (bytes, p, there, text, h) =
      let same = same_file files file (main_there (program_load file) m) there in
      let reads : program_of_file width file texts.main ≡ Ok p = ap (program_of_file width file)
      same ∙ ap (program_or_unfit file) ((laws.program width bytes p).1 text) in
      let rest = comes P (next p) (more p) h in
      (rest.0, ap (λ r. r >>= λ q. followed (next q) texts) reads ∙ rest.1, rest.2)
  comes P (pausing_at width file p pause next) more (pausing, found, h) =
      let rest = comes P (next pausing) (more pausing) h in (
        rest.0,
        ap (λ o. pausing_or_unfit file pause o >>= λ q. followed (next q) texts) found ∙ rest.1,
        rest.2,
      )
  comes P (with_draws source next) (m, more) (ds, are, h) =
      let rest = comes P (next ds) (more ds) h in (
        rest.0,
        ap (λ r. r >>= λ d. followed (next d) texts) (draws_read source m ds are) ∙ rest.1,
        rest.2,
      )
  comes P (of_position file db next) (m, more) (bytes, from, there, has, h) =
      let same = same_file files file (position_there (position_load file) m) there in
      let reads : position_of_file file db texts.position ≡ Ok from = ap (position_of_file file db)
      same ∙ ap (position_or_unfit file) has.read in
      let rest = comes P (next from) (more from) h in
      (rest.0, ap (λ r. r >>= λ d. followed (next d) texts) reads ∙ rest.1, rest.2)
  comes P (at_prompt file from next) m (at, h) =
      let rest = comes P next m h in (
        rest.0,
        ap (λ b. prompt_or_unfit file from b >>= λ _. followed next texts) at ∙ rest.1,
        rest.2,
      )
  comes P (narrow width file db next) m (no_wide, h) =
      let rest = comes P next m h in (
        rest.0,
        ap (λ r. translatable_or_unfit file db r >>= λ _. followed next texts) no_wide ∙ rest.1,
        rest.2,
      )
  comes P (doing task) m h = (task, refl, h)

-- what is reached has whatever follows
pub reaches_more : (files : Files) (P Q : Task → Type 0) → ((task : Task) → P task → Q task)
    → (p : Plan) → Reaches files p P → Reaches files p Q
reaches_more files P Q f (of_game file next) (bytes, db, there, text, h) =
    (bytes, db, there, text, reaches_more files P Q f (next db) h)
reaches_more files P Q f (of_source file next) (bytes, tree, db, there, text, is, h) =
    (bytes, tree, db, there, text, is, reaches_more files P Q f (next db) h)
reaches_more files P Q f (of_program width file next) (bytes, p, there, text, h) =
    (bytes, p, there, text, reaches_more files P Q f (next p) h)
reaches_more files P Q f (pausing_at width file p pause next) (pausing, found, h) =
    (pausing, found, reaches_more files P Q f (next pausing) h)
reaches_more files P Q f (with_draws source next) (ds, are, h) =
    (ds, are, reaches_more files P Q f (next ds) h)
reaches_more files P Q f (of_position file db next) (bytes, from, there, has, h) =
    (bytes, from, there, has, reaches_more files P Q f (next from) h)
reaches_more files P Q f (at_prompt file from next) (at, h) =
    (at, reaches_more files P Q f next h)
reaches_more files P Q f (narrow width file db next) (no_wide, h) =
    (no_wide, reaches_more files P Q f next h)
reaches_more files P Q f (doing task) h = f task h

-- ---- a request that is accepted has a task

module _ (laws : Laws) (files : Files) (request : Request) where
  -- the bytes of a file that is to be loaded
  text_for : (asked : Option Load)
      → ((load : Load) → asked ≡ Some load → (bytes : List ℕ) × IsLoadable files load bytes)
      → (bytes : List ℕ) × (loaded files asked ≡ Ok bytes)
  text_for None all = ([], refl)
  text_for (Some load) all =
      let h = all load refl in (h.0, loaded-there files load h.0 h.1)

  abbrev come : Result Texts Refusal → Result Task Refusal
  come r = r >>= λ t. refusing (work request t)

  -- all of them
  all_texts : (main draws position : List ℕ) → loaded files (main_of request) ≡ Ok main
      → loaded files (draws_of request) ≡ Ok draws
      → loaded files (position_of request) ≡ Ok position
      → texts_of files request ≡ Ok (record { main = main; draws = draws; position = position })
  all_texts main draws position m d p = rw (m, d, p) refl

  -- a request that is accepted has a task, and that ends with 0
  pub accepted : (left : Option (List (List ℕ))) → IsAccepted files left (Some request)
      → (task : Task) × (expected files (Some request) ≡ Ok task) × EndsWith0 task left
  accepted left (all, reaches) =
      let m = text_for (main_of request) (λ load is. all load (inl is)) in
      let d = text_for (draws_of request) (λ load is. all load (inr (inl is))) in
      let p = text_for (position_of request) (λ load is. all load (inr (inr is))) in
      let texts : Texts = record { main = m.0; draws = d.0; position = p.0 } in
      let c = comes laws files texts (loads_of request) (stores request) (late_statuses request) m.1
      d.1 p.1 (λ task. EndsWith0 task left) (plan request) (made request) reaches in (
        c.0,
        ap come (all_texts m.0 d.0 p.0 m.1 d.1 p.1) ∙ ap refusing c.1,
        c.2,
      )
