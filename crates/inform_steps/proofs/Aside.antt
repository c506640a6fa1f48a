-- What happened before a run makes no difference to it.
use Rattle.std.proofs.Common.{◌≡◌, ◌∙◌, ℕ, zero, suc, List, [], ◌∷◌, ◌++◌, Option, Some, None, refl, sym, ap, append_assoc}
use Rattle.adv_io.specs.Steps.{Step, Took, Drew, said_steps}
use Rattle.inform_meaning.specs.Words.{draw_within}
use Rattle.inform_meaning.specs.Worlds.{Program, Config, with_line, with_note}
use Rattle.inform_meaning.specs.Frames.{Frame, Outcome, Value, Normal}
use Rattle.inform_meaning.specs.Runs.{CALL_LIMIT, room_in, resume_at}
use Rattle.inform_moves.specs.Moves.{Effect, Keeps, Becomes, Says, Enters, Move, Goes, Ticks, Reads, Draws, next}
use Rattle.inform_moves.specs.Done.{effected, after_step, after_line, after_draw, move_run}
use Rattle.inform_moves.specs.Laws.{IsSettled, MovesFall, MovesMean}
use Rattle.inform_steps.specs.Pieces.{after_past, run_after}
use Rattle.inform_steps.specs.Laws.{PastCountsForNothing}
use Rattle.inform_steps.proofs.ByMoves.{Of, After, by_moves}

module _ (p : Program) (past : List Step) where
  -- so it is of a run, whatever is handed to its innermost frame
  abbrev Aside : Of
  Aside frames e c = resume_at p CALL_LIMIT frames e (after_past past c)
      ≡ run_after past (resume_at p CALL_LIMIT frames e c)

  noted-aside : (note : Option ℕ) (events : List Step)
      → with_note note (past ++ events) ≡ past ++ with_note note events
  noted-aside None events = refl
  noted-aside (Some n) events = append_assoc past events _

  effected-aside : (effect : Effect) (c : Config)
      → effected effect (after_past past c) ≡ after_past past (effected effect c)
  effected-aside Keeps c = refl
  effected-aside (Becomes w) c = refl
  effected-aside (Says bytes) c =
      ap (λ events. record c { past = events }) (append_assoc past c.past (said_steps bytes))
  effected-aside (Enters w note) c =
      ap (λ events. record c { past = events; world = w }) (noted-aside note c.past)

  none : (e : Outcome) (c : Config) → IsSettled e → Aside [] e c
  unfolding resume_at
  none e c settled = refl

  module _ (x : Frame) (rest : List Frame) where
    moved : (m : Move) (c : Config) → After Aside rest m c
        → move_run p x rest m (after_past past c) ≡ run_after past (move_run p x rest m c)
    moved (Goes frames e effect) c h =
        ap (resume_at p CALL_LIMIT (frames ++ rest) e) (effected-aside effect c) ∙ h
    moved (Ticks frames e effect) c h = by c.steps refl where
      by : (n : ℕ) → c.steps ≡ n
          → after_step p x rest frames e effect n (after_past past c)
          ≡ run_after past (after_step p x rest frames e effect n c)
      by zero is = refl
      by (suc k) is = ap (resume_at p CALL_LIMIT (frames ++ rest) e)
          (effected-aside effect (record c { steps = k })) ∙ h k is
    moved (Reads name) c h = by c.lines refl where
      by : (lines : List (List ℕ)) → c.lines ≡ lines
          → after_line p name rest lines (after_past past c)
          ≡ run_after past (after_line p name rest lines c)
      by [] is = refl
      by (line ∷ lines) is = ap (λ events. resume_at p CALL_LIMIT rest Normal (record c {
        lines = lines;
        past = events;
        world = with_line name line c.world;
      })) (append_assoc past c.past (Took line ∷ [])) ∙ h line lines is
    moved (Draws m) c h = by c.draws refl where
      by : (draws : List ℕ) → c.draws ≡ draws
          → after_draw p m rest draws (after_past past c)
          ≡ run_after past (after_draw p m rest draws c)
      by [] is = refl
      by (draw ∷ draws) is = ap (λ events. resume_at p CALL_LIMIT rest (Value (draw_within m draw))
          (record c { draws = draws; past = events }))
          (append_assoc past c.past (Drew draw ∷ [])) ∙ h draw draws is

    one : MovesMean → (e : Outcome) (c : Config) → IsSettled e
        → After Aside rest (next p (room_in CALL_LIMIT rest) c.world x e) c → Aside (x ∷ rest) e c
    one means e c settled h =
        means p x rest e (after_past past c) settled
        ∙ moved (next p (room_in CALL_LIMIT rest) c.world x e) c h
        ∙ ap (run_after past) (sym (means p x rest e c settled))

pub past_counts_for_nothing : MovesMean → MovesFall → PastCountsForNothing
past_counts_for_nothing means falls p frames past c =
    by_moves p falls (Aside p past) (none p past) (λ x rest. one p past x rest means) frames Normal c
    tt
