-- A run does what the move of its innermost frame does.
use Rattle.std.proofs.Common.{◌≡◌, ◌∙◌, ℕ, zero, suc, List, [], ◌∷◌, refl, sym, ap}
use Rattle.inform_meaning.specs.Worlds.{Program, Config}
use Rattle.inform_meaning.specs.Frames as f
use Rattle.inform_meaning.specs.Frames.{Frame, Begins, Outcome, Value, Truth, Normal, Returns, Breaks, Continues, Halts, Waits, Spent, NeedsLine, NeedsDraw, bind}
use Rattle.inform_meaning.specs.Parts.{tick, tick_at, draw_at, line_at}
use Rattle.inform_meaning.specs.Runs.{CALL_LIMIT, room_in, resume_at}
use Rattle.inform_meaning.proofs.GoingRuns.{resume_at-going}
use Rattle.inform_meaning.proofs.Splitting.{Settled, through, resume-waits, resume-append}
use Rattle.inform_moves.specs.Moves.{Move, Goes, Ticks, Reads, Draws, next}
use Rattle.inform_moves.specs.Done.{effected, going, move_done, after_step, after_line, after_draw, move_run}
use Rattle.inform_moves.specs.Laws.{RunsAdd, IsSettled, MovesMean}
use Rattle.inform_moves.proofs.MovesMean.{frame-means}

settled : (e : Outcome) → IsSettled e → Settled e
settled (Value a) h = tt
settled (Truth a) h = tt
settled Normal h = tt
settled (Returns a) h = tt
settled Breaks h = tt
settled Continues h = tt
settled (Halts halt) h = tt
settled (Waits lack fs) h = h

module _ (p : Program) (x : Frame) (rest : List Frame) where
  -- a move, and what the frames around it make of it
  move-runs : (m : Move) (c : Config)
      → through (resume_at p CALL_LIMIT rest) (move_done p (room_in CALL_LIMIT rest) x m c) ≡ move_run p x rest m c
  unfolding tick bind
  move-runs (Goes frames e effect) c =
      sym (resume-append p CALL_LIMIT frames rest e (effected effect c))
  move-runs (Ticks frames e effect) c = by c.steps where
    by : (k : ℕ)
        → through (resume_at p CALL_LIMIT rest) (tick_at k x (going p (room_in CALL_LIMIT rest) frames e effect) c) ≡ after_step p x rest frames e effect k c
    by zero = resume-waits p CALL_LIMIT rest Spent (x ∷ []) c
    by (suc k) =
        sym (resume-append p CALL_LIMIT frames rest e (effected effect (record c { steps = k })))
  move-runs (Reads name) c = by c.lines where
    by : (lines : List (List ℕ))
        → through (resume_at p CALL_LIMIT rest) (line_at lines name c) ≡ after_line p name rest lines c
    by [] = resume-waits p CALL_LIMIT rest NeedsLine (Begins (f.LineDue name) ∷ []) c
    by (line ∷ lines) = refl
  move-runs (Draws m) c = by c.draws where
    by : (draws : List ℕ)
        → through (resume_at p CALL_LIMIT rest) (draw_at draws m c) ≡ after_draw p m rest draws c
    by [] = resume-waits p CALL_LIMIT rest NeedsDraw (Begins (f.DrawDue m) ∷ []) c
    by (draw ∷ draws) = refl

  run-means : (e : Outcome) (c : Config) → IsSettled e
      → resume_at p CALL_LIMIT (x ∷ rest) e c ≡ move_run p x rest (next p (room_in CALL_LIMIT rest) c.world x e) c
  unfolding resume_at bind
  run-means e c h =
      ap (through (resume_at p CALL_LIMIT rest)) (frame-means p (room_in CALL_LIMIT rest) x e (settled e h) c)
      ∙ move-runs (next p (room_in CALL_LIMIT rest) c.world x e) c

pub moves_mean : MovesMean
moves_mean p x rest e c h = run-means p x rest e c h

pub runs_add : RunsAdd
runs_add p frames e c = resume_at-going p CALL_LIMIT frames e c
