-- That `calls` of a faithful program shows what `cover` shows of its database.
use Rattle.std.proofs.Common.{◌≡◌, ◌∙◌, ◌++◌, ℕ, zero, suc, ◌<◌, ◌≤◌, List, [], ◌∷◌, length, replicate, take, Option, Some, None, IfSome, refl, sym, ap, subst, inl, inr, arith}
use Rattle.std.proofs.lemmas.List.{length-replicate}
use Rattle.adv_counts.specs.Counts.{count_of, counted}
use Rattle.adv_counts.specs.Laws.{CountsStay}
use Rattle.adv_coverage.specs.declared.reports.TheConstants.{LINE_LIMIT}
use Rattle.adv_coverage.specs.Report.{report_text}
use Rattle.adv_io.specs.Console.{ConsoleView}
use Rattle.adv_io.specs.History.{grown, shown, says}
use Rattle.adv_io.specs.Shelf.{Files, ShelfView}
use Rattle.adv_io.specs.Steps.{Traced, Step, trace_of}
use Rattle.inform_entered.specs.Entered.{entered}
use Rattle.inform_meaning.specs.Runs.{Stop, stop_of}
use Rattle.inform_names.specs.Acceptance.{name_fault}
use Rattle.inform_tree.specs.declared.widths.Width.{Width}
use Rattle.inform_tree.specs.Programs.{DirectiveTree}
use Rattle.scott_requests.specs.Request.{RunRequest, Request}
use Rattle.scott_rules.specs.Play.{PlayEnd, ending_of}
use Rattle.scott_turn.specs.Tried.{tallied, untried}
use Rattle.scott_types.specs.declared.endings.Ending.{Ending}
use Rattle.scott_types.specs.declared.endings.Ending.TheVariants.{Over, NeedsLine, NeedsDraw}
use Rattle.scott_types.specs.declared.styles.Style.{Style}
use Rattle.scott_types.specs.Database.{Database}
use Rattle.trans_specs.specs.Faithful.{tried, opening_state, PlaysAlike}
use Rattle.trans_specs.specs.Same.{EndingIs}
use Rattle.trans_specs.specs.Shaped.{Shaped}
use Rattle.scott_tool.specs.Calls.{Called, entered_counts, called_text, calls_end}
use Rattle.scott_tool.specs.Cover.{first_counts, line_counts, covered_play}
use Rattle.scott_tool.specs.Laws.{Laws}
use Rattle.scott_tool.specs.Promises.{IsEnd, HasCalled, HasRecounted}
use Rattle.scott_tool.specs.Replay.{IsReplay, SawCover, Recounted}
use Rattle.scott_tool.specs.Run.{ran, stop_after}
use Rattle.scott_tool.proofs.Replaying.{ends_0, same_program, alike}

-- ---- the counts of all lines

next_taken : (xs : List ℕ) (n : ℕ) → n < length xs
    → take (suc n) xs ≡ take n xs ++ (count_of xs n ∷ [])
next_taken [] n less = absurd (omega (arith, less))
next_taken (x ∷ xs) zero less = refl
next_taken (x ∷ xs) (suc n) less = ap (λ ys. x ∷ ys) (next_taken xs n (omega (arith, less)))

all_taken : (xs : List ℕ) → take (length xs) xs ≡ xs
all_taken [] = refl
all_taken (x ∷ xs) = ap (λ ys. x ∷ ys) (all_taken xs)

first_are : (counts : List ℕ) (n : ℕ) → n ≤ length counts → first_counts n counts ≡ take n counts
first_are counts zero few = refl
first_are counts (suc n) few =
    ap (λ xs. xs ++ (count_of counts n ∷ [])) (first_are counts n (omega (arith, few)))
    ∙ sym (next_taken counts n (omega (arith, few)))

-- as many counts as there are lines
tallies : CountsStay → (db : Database) (t : Traced Step PlayEnd)
    → line_counts db t ≡ tallied t.events (untried db)
tallies stay db t =
    let counts = tallied t.events (untried db) in
    let long : length counts ≡ length db.actions =
    stay (tried t) (untried db) ∙ length-replicate {A = ℕ} (length db.actions) 0 in
    first_are counts (length db.actions) (omega (arith, long))
    ∙ ap (λ n. take n counts) (sym long) ∙ all_taken counts

-- ---- what follows the run

-- a run that ends as a play does is followed by the report
report_follows : (width : Width) (p : List DirectiveTree) (ending : Ending) (stop : Stop) (over : _)
    (counts : List ℕ) → EndingIs ending stop over
    → calls_end width p stop counts ≡ called_text width p counts
report_follows width p (Over n) stop over counts is = ap (λ s. calls_end width p s counts) is.0
report_follows width p NeedsLine stop over counts is = ap (λ s. calls_end width p s counts) is.0
report_follows width p NeedsDraw stop over counts is = ap (λ s. calls_end width p s counts) is.0

module _ (laws : Laws) (files : Files) (lines : List (List ℕ)) (r : RunRequest) (style : Style)
    (db : Database) (few : length db.actions ≤ LINE_LIMIT) (old new : ConsoleView) (status : ℕ)
    (h : IsReplay files lines r.program r.steps r.width style db)
    (c : Called files lines r old new status) where
  abbrev play : Traced Step PlayEnd
  play = covered_play style db c.draws lines

  a : PlaysAlike r.width c.program r.steps lines c.draws play
  a = alike laws files lines r.program r.source r.steps r.width style db h c.bytes c.program c.draws
      c.there c.text c.draws_are

  same : h.faithful.program ≡ c.program
  same = same_program laws files lines r.program r.source r.steps r.width style db h c.bytes
      c.program c.there c.text

  pub calls_end_0 : status ≡ 0
  calls_end_0 = c.ends ∙ ends_0 (ending_of play.value.position)
      (stop_after r.width c.program r.steps lines c.draws) _ a.same.ends

  -- the report on the routines is the report on the lines
  same_report : called_text r.width c.program
      (entered_counts r.width c.program r.steps lines c.draws)
      ≡ report_text (line_counts db play)
  same_report =
      let sound = subst (λ (ds : List DirectiveTree). name_fault r.width ds ≡ None) same
      h.faithful.faithful.accepted in
      let shaped = subst (λ (ds : List DirectiveTree). Shaped db (opening_state db None) ds) same
      h.faithful.faithful.shaped in
      laws.lines_alike r.width db (opening_state db None) c.program
      (entered r.width c.program r.steps lines c.draws) sound shaped few
      ∙ ap (λ ns. report_text (counted ns (replicate (length db.actions) 0))) (sym a.same_lines)
      ∙ ap report_text (sym (tallies laws.counts_stay db play))

  pub saw_cover : SawCover files lines r.source style db old new
  saw_cover =
      let t = ran r.width c.program r.steps lines c.draws in
      let counts = entered_counts r.width c.program r.steps lines c.draws in
      let text = report_follows r.width c.program (ending_of play.value.position) (stop_of t.0) _
      counts a.same.ends ∙ same_report in
      let events = ap (λ line. shown (trace_of t.1.past) ++ says line) text
      ∙ ap (λ trace. shown trace ++ says (report_text (line_counts db play)))
      (sym a.same.traces) in
      (c.draws, c.draws_are, c.seen ∙ ap (grown old.history) events)

module _ (laws : Laws) (r : RunRequest) (style : Style) (db : Database)
    (few : length db.actions ≤ LINE_LIMIT) (old new : ConsoleView) (status : ℕ) where
  -- `calls` of a faithful program ends as a play does, and shows what `cover` shows of its database
  recounted : (known : Option Files) (left : Option (List (List ℕ)))
      → (IsEnd status → IfSome known (λ files. IfSome left
      (λ lines. Called files lines r old new status)))
      → IfSome known (λ files. IfSome left
      (λ lines. IsReplay files lines r.program r.steps r.width style db
      → Recounted files lines r.source style db old new status))
  recounted None left went = tt
  recounted (Some files) None went = tt
  recounted (Some files) (Some lines) went = λ h. record {
    no_trap = λ e. absurd (let f = ends h (inr (inl e)) in omega arith);
    not_spent = λ e. absurd (let f = ends h (inr (inr e)) in omega arith);
    seen = λ e. saw_cover laws files lines r style db few old new status h (went (inl e));
  } where
    ends : IsReplay files lines r.program r.steps r.width style db → IsEnd status → status ≡ 0
    ends h end = calls_end_0 laws files lines r style db few old new status h (went end)

pub recounts : (laws : Laws) (shelf : ShelfView) (console console' : ConsoleView)
    (asked : Option Request) (status : ℕ)
    → (IsEnd status → HasCalled shelf console console' asked status)
    → HasRecounted shelf console console' asked status
recounts laws shelf console console' asked status has_called r style db is few =
    recounted laws r style db few console console' status shelf.files console.left
    (λ end. has_called end r is)
