-- That where a run stopped for anything but steps, more steps show nothing, and no line: for the
-- law that says so.
use Rattle.std.proofs.Common.{◌≡◌, ◌∙◌, ℕ, zero, suc, ◌+◌, List, [], ◌++◌, drop, length, Option, refl, sym, ap, append-nil, arith}
use Rattle.std.proofs.Math.Seq.{drop-append_seam}
use Rattle.adv_io.specs.History.{says}
use Rattle.adv_io.specs.Steps.{Step, shown_of}
use Rattle.inform_meaning.specs.Worlds.{Program, Config}
use Rattle.inform_meaning.specs.Frames as f
use Rattle.inform_meaning.specs.Frames.{Frame, Outcome}
use Rattle.inform_meaning.specs.Runs as m
use Rattle.inform_meaning.specs.Runs.{stop_of}
use Rattle.inform_meaning.specs.Tables.{first_of_two}
use Rattle.inform_entered.specs.Entered.{newly_entered}
use Rattle.inform_steps.specs.Pieces.{IsSpent, standing}
use Rattle.inform_steps.specs.Laws.{StoppedStays}
use Rattle.inform_stepper.specs.declared.pauses.Until.{Until}
use Rattle.inform_stepper.specs.declared.pauses.Paused.{Paused}
use Rattle.inform_stepper.specs.Pauses.{pause_of_stop, met, Run}
use Rattle.inform_stepper.specs.Shown.{events_after, step_shown, pause_line, line_at, pause_text}
use Rattle.inform_stepper.specs.Laws.{StoppedShowsNoMore}

none-more : (n : ℕ) → n + 0 ≡ n
none-more n = omega arith

one-more : (n k : ℕ) → n + suc k ≡ suc (n + k)
one-more n k = omega arith

nothing-after : (es : List Step) → drop (length es) es ≡ []
nothing-after es = ap (drop (length es)) (sym (append-nil es)) ∙ drop-append_seam es []

-- a stop has no line, whatever came
unsaid : (stop : m.Stop) → (stop ≡ m.Lacking f.Spent → ⊥) → (came : Option Paused) (line : List ℕ)
    → line_at (first_of_two (pause_of_stop stop) came) line ≡ []
unsaid (m.Halted f.Quits) other came line = refl
unsaid (m.Halted (f.Trapped kind directive)) other came line = refl
unsaid (m.Lacking f.NeedsLine) other came line = refl
unsaid (m.Lacking f.NeedsDraw) other came line = refl
unsaid (m.Lacking f.Spent) other came line = absurd (other refl)

module _ (stay : StoppedStays) (until : ℕ → Until) (names : List (List ℕ)) (used : ℕ) (p : Program)
    (frames : List Frame) (c : Config) (n : ℕ) (other : IsSpent (standing p frames c n) → ⊥) where
  abbrev run : Run
  run = standing p frames c

  abbrev text : ℕ → List ℕ
  text = pause_text until names used run

  abbrev stayed : ℕ → Outcome × Config
  stayed k = ((run n).0, record (run n).1 { steps = (run n).1.steps + k })

  stays : (k : ℕ) → run (n + k) ≡ stayed k
  stays k = stay p frames c n k other

  stays-next : (k : ℕ) → run (suc (n + k)) ≡ stayed (suc k)
  stays-next k = ap run (sym (one-more n k)) ∙ stays (suc k)

  no-events : (k : ℕ) → events_after run (n + k) ≡ []
  no-events k =
      ap (λ t. drop (length t.1.past) (run (suc (n + k))).1.past) (stays k)
      ∙ ap (λ t. drop (length (run n).1.past) t.1.past) (stays-next k)
      ∙ nothing-after (run n).1.past

  no-line : (k : ℕ) → text (suc (n + k)) ≡ []
  no-line k =
      let now = used + suc (n + k) in
      let came = met (until now) (newly_entered (run (n + k)) (run (suc (n + k)))) now in
      let line = pause_line names now (run (suc (n + k))).1.world in
      ap (λ stop. line_at (first_of_two (pause_of_stop stop) came) line)
      (ap (λ t. stop_of t.0) (stays-next k)) ∙ unsaid (stop_of (run n).0) other came line

  no-more : (k : ℕ) → step_shown text run (n + k) ≡ step_shown text run n
  no-more zero = ap (step_shown text run) (none-more n)
  no-more (suc k) =
      let before = step_shown text run (n + k) in
      ap (step_shown text run) (one-more n k)
      ∙ ap (λ es. (before ++ shown_of es) ++ says (text (suc (n + k)))) (no-events k)
      ∙ ap (λ bytes. (before ++ []) ++ says bytes) (no-line k)
      ∙ append-nil (before ++ []) ∙ append-nil before ∙ no-more k

pub stopped_shows_no_more : StoppedStays → StoppedShowsNoMore
stopped_shows_no_more stay until names used p frames c n more other =
    no-more stay until names used p frames c n other more
