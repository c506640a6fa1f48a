-- That the run of a faithful program is the play of its database.
use Rattle.std.proofs.Common.{◌≡◌, ◌∙◌, ◌++◌, ℕ, zero, suc, Bool, true, false, ◌&&◌, List, [], ◌∷◌, Option, Some, None, IfSome, Result, Ok, Err, refl, sym, ap, subst, inl, inr, arith}
use Rattle.std.specs.Prelude.{if◌then◌else◌}
use Rattle.std.specs.List.{list_all}
use Rattle.std.specs.Char.{is_ascii_digit}
use Rattle.std.specs.Str.Parse.{digits_value_after}
use Rattle.std.specs.FinMap.{get}
use Rattle.std.proofs.lemmas.List.{append-nil}
use Rattle.std.proofs.lemmas.Bool.Decides.{nat_tests}
use Rattle.adv_draws.specs.Run.{Run, is_draw, AllDraws, draw_of, runs_of}
use Rattle.adv_draws.specs.Listed.{with_draw, draws_of}
use Rattle.adv_draws.specs.Seeded.{draw_of_word, rolls, seeded_count, generator_of}
use Rattle.adv_io.specs.Console.{ConsoleView}
use Rattle.adv_io.specs.History.{grown, shown, says}
use Rattle.adv_io.specs.Shelf.{Files, ShelfView}
use Rattle.adv_io.specs.Steps.{trace_of}
use Rattle.inform_meaning.specs.Runs.{Stop, stop_of}
use Rattle.inform_reader.specs.Reading.{IsProgram}
use Rattle.inform_tree.specs.declared.widths.Width.{Width}
use Rattle.inform_tree.specs.Programs.{DirectiveTree}
use Rattle.scott_requests.specs.Settings.{DrawSource, listed, seeded}
use Rattle.scott_requests.specs.Request.{RunRequest, Request}
use Rattle.scott_rules.specs.Play as rules
use Rattle.scott_rules.specs.Play.{ending_of}
use Rattle.scott_types.specs.declared.endings.Ending.{Ending}
use Rattle.scott_types.specs.declared.endings.Ending.TheVariants.{Over, NeedsLine, NeedsDraw}
use Rattle.scott_types.specs.declared.styles.Style.{Style}
use Rattle.scott_types.specs.Database.{Database}
use Rattle.scott_types.specs.Style.{in_style}
use Rattle.trans_specs.specs.Faithful.{PlaysAlike}
use Rattle.trans_specs.specs.Same.{EndingIs}
use Rattle.scott_tool.specs.Laws.{Laws}
use Rattle.scott_tool.specs.Draws.{DrawsAre}
use Rattle.scott_tool.specs.Run.{Ran, ran, stop_after, stop_status, stop_line}
use Rattle.scott_tool.specs.Replay.{IsReplay, SawPlay, Replayed}
use Rattle.scott_tool.specs.Promises.{IsEnd, HasRun, HasReplayed}

-- ---- the draws of a source are draws

-- what a run writes is a draw
draw_is : (one : Run) (draw : ℕ) → draw_of one.bytes ≡ Some draw → is_draw draw ≡ true
draw_is one draw is =
    by (list_all is_ascii_digit one.bytes) (is_draw (digits_value_after 10 0 one.bytes)) refl is
  where
    by : (digits is_one : Bool) → is_draw (digits_value_after 10 0 one.bytes) ≡ is_one
        → (if digits && is_one then Some (digits_value_after 10 0 one.bytes) else None) ≡ Some draw
        → is_draw draw ≡ true
    by true true is e =
        let same : digits_value_after 10 0 one.bytes ≡ draw = cc in ap is_draw (sym same) ∙ is
    by true false is e = absurd cc
    by false is_one is e = absurd cc

with_is : (draw : Option ℕ) (offset : ℕ) (rest : Result (List ℕ) ℕ) (draws : List ℕ)
    → ((d : ℕ) → draw ≡ Some d → is_draw d ≡ true)
    → ((others : List ℕ) → rest ≡ Ok others → AllDraws others)
    → with_draw draw offset rest ≡ Ok draws → AllDraws draws
with_is None offset rest draws one more e = absurd cc
with_is (Some d) offset (Err at) draws one more e = absurd cc
with_is (Some d) offset (Ok others) draws one more e =
    let same : d ∷ others ≡ draws = cc in
    subst AllDraws same (rw (one d refl) (more others refl))

draws_are_draws : (runs : List Run) (draws : List ℕ) → draws_of runs ≡ Ok draws → AllDraws draws
draws_are_draws [] draws e = let same : [] ≡ draws = cc in subst AllDraws same refl
draws_are_draws (one ∷ runs) draws e =
    with_is (draw_of one.bytes) one.offset (draws_of runs) draws (draw_is one)
    (draws_are_draws runs) e

word_is : (word : ℕ) → is_draw (draw_of_word word) ≡ true
word_is word = grind (arith, nat_tests)

rolls_are_draws : (count : ℕ) (generator : _) → AllDraws (rolls count generator)
unfolding rolls
rolls_are_draws zero generator = refl
rolls_are_draws (suc count) generator = rw (word_is _) (rolls_are_draws count _)

source_draws : (files : Files) (source : DrawSource) (draws : List ℕ) → DrawsAre files source draws
    → AllDraws draws
source_draws files (listed name) draws (bytes, there, lists) = draws_are_draws (runs_of bytes) draws
    lists
source_draws files (seeded seed) draws is = subst AllDraws (sym is)
    (rolls_are_draws seeded_count (generator_of seed))

-- ---- how a play ends

pub ends_0 : (ending : Ending) (stop : Stop) (over : _) → EndingIs ending stop over
    → stop_status stop ≡ 0
ends_0 (Over n) stop over is = ap stop_status is.0
ends_0 NeedsLine stop over is = ap stop_status is.0
ends_0 NeedsDraw stop over is = ap stop_status is.0

says_nothing : (p : List DirectiveTree) (ending : Ending) (stop : Stop) (over : _)
    → EndingIs ending stop over → stop_line p stop ≡ []
says_nothing p (Over n) stop over is = ap (stop_line p) is.0
says_nothing p NeedsLine stop over is = ap (stop_line p) is.0
says_nothing p NeedsDraw stop over is = ap (stop_line p) is.0

-- ---- a run of the file

module _ (laws : Laws) (files : Files) (lines : List (List ℕ)) (name : List ℕ) (source : DrawSource)
    (steps : ℕ) (width : Width) (style : Style) (db : Database)
    (h : IsReplay files lines name steps width style db) where
  -- a text has one program
  pub same_program : (bytes : List ℕ) (p : List DirectiveTree) → get files name ≡ Some bytes
      → IsProgram width bytes p → h.faithful.program ≡ p
  same_program bytes p there text =
      let found = sym h.there ∙ there in
      let bytes_are : h.bytes ≡ bytes = cc in
      let faithful : IsProgram width h.bytes h.faithful.program = record
      { text = h.faithful.text; accepted = h.faithful.faithful.accepted } in
      let own = (laws.program width bytes h.faithful.program).1
      (subst (λ (b : List ℕ). IsProgram width b h.faithful.program) bytes_are faithful) in
      let both = sym own ∙ (laws.program width bytes p).1 text in
      cc

  pub alike : (bytes : List ℕ) (p : List DirectiveTree) (draws : List ℕ) → get files name ≡ Some bytes
      → IsProgram width bytes p → DrawsAre files source draws
      → PlaysAlike width p steps lines draws (rules.play (in_style style db) lines draws)
  alike bytes p draws there text are =
      subst (λ (ds : List DirectiveTree). PlaysAlike width ds steps lines draws
      (rules.play (in_style style db) lines draws)) (same_program bytes p there text)
      (h.faithful.faithful.alike lines draws steps h.typed (source_draws files source draws are)
      h.enough_steps)

  -- it ends with 0
  run_ends_0 : (old new : ConsoleView) (status : ℕ)
      → Ran files lines name source steps width old new status → status ≡ 0
  run_ends_0 old new status r =
      let a = alike r.bytes r.program r.draws r.there r.text r.draws_are in
      r.ends ∙ ends_0 (ending_of (rules.play (in_style style db) lines r.draws).value.position)
      (stop_after width r.program steps lines r.draws) _ a.same.ends

  -- and has shown the play
  saw_play : (old new : ConsoleView) (status : ℕ)
      → Ran files lines name source steps width old new status
      → SawPlay files lines source style db old new
  saw_play old new status r =
      let a = alike r.bytes r.program r.draws r.there r.text r.draws_are in
      let play = rules.play (in_style style db) lines r.draws in
      let t = ran width r.program steps lines r.draws in
      let quiet = says_nothing r.program (ending_of play.value.position) (stop_of t.0) _ a.same.ends
      in
      let events = ap (λ line. shown (trace_of t.1.past) ++ says line) quiet ∙ append-nil
      (shown (trace_of t.1.past)) ∙ ap shown (sym a.same.traces) in
      (r.draws, r.draws_are, r.seen ∙ ap (grown old.history) events)

module _ (laws : Laws) (r : RunRequest) (style : Style) (db : Database) (old new : ConsoleView)
    (status : ℕ) where
  -- `run` of a faithful program ends as a play does, and shows the play of its database
  replayed : (known : Option Files) (left : Option (List (List ℕ)))
      → (IsEnd status → IfSome known (λ files. IfSome left
      (λ lines. Ran files lines r.program r.source r.steps r.width old new status)))
      → IfSome known (λ files. IfSome left
      (λ lines. IsReplay files lines r.program r.steps r.width style db
      → Replayed files lines r.source style db old new status))
  replayed None left went = tt
  replayed (Some files) None went = tt
  replayed (Some files) (Some lines) went = λ h. record {
    no_trap = λ e. absurd (let f = ends h (inr (inl e)) in omega arith);
    not_spent = λ e. absurd (let f = ends h (inr (inr e)) in omega arith);
    seen = λ e.
        saw_play laws files lines r.program r.source r.steps r.width style db h old new status
        (went (inl e));
  } where
    ends : IsReplay files lines r.program r.steps r.width style db → IsEnd status → status ≡ 0
    ends h end = run_ends_0 laws files lines r.program r.source r.steps r.width style db h old new
        status (went end)

pub replays : (laws : Laws) (shelf : ShelfView) (console console' : ConsoleView)
    (asked : Option Request) (status : ℕ)
    → (IsEnd status → HasRun shelf console console' asked status)
    → HasReplayed shelf console console' asked status
replays laws shelf console console' asked status has_run r style db is =
    replayed laws r style db console console' status shelf.files console.left
    (λ end. has_run end r is)
