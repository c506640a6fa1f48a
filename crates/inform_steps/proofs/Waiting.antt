-- Where a run that waits stands, and that it stays there without what it lacks.
use Rattle.std.proofs.Common.{◌≡◌, ◌∙◌, ℕ, zero, suc, ℤ, List, [], ◌∷◌, refl, sym, ap, subst, append-nil}
use Rattle.inform_meaning.specs.Worlds.{Program, Config}
use Rattle.inform_meaning.specs.Frames as f
use Rattle.inform_meaning.specs.Frames.{Lack, NeedsLine, NeedsDraw, Spent, Frame, Begins, Wants, Decides, Looping, Calling, Main, Over, Outcome, Value, Truth, Normal, Returns, Breaks, Continues, Halts, Waits}
use Rattle.inform_meaning.specs.Runs.{CALL_LIMIT, room_in, resume_at, resume}
use Rattle.inform_meaning.specs.Laws.{with_more}
use Rattle.inform_moves.specs.Moves.{Move, Goes, Ticks, Reads, Draws, next}
use Rattle.inform_moves.specs.Needs.{AStep, ALine, ADraw, need, need_in}
use Rattle.inform_moves.specs.Done.{after_step, after_line, after_draw, move_run}
use Rattle.inform_moves.specs.Laws.{IsSettled, MovesFall, MovesMean, MovesNeed}
use Rattle.inform_steps.specs.Standing.{StandsBefore, WaitsAt}
use Rattle.inform_steps.specs.Laws.{RunsStand, LacksMore, WaitsStay}
use Rattle.inform_steps.proofs.ByMoves.{Of, After, by_moves}

-- a step is due only where nothing is handed
step-due : (x : Frame) (e : Outcome) → need x e ≡ AStep → need x Normal ≡ AStep
step-due (Begins x) Normal is = is
step-due (Begins x) (Value a) is = absurd (cc)
step-due (Begins x) (Truth b) is = absurd (cc)
step-due (Begins x) (Returns a) is = absurd (cc)
step-due (Begins x) Breaks is = absurd (cc)
step-due (Begins x) Continues is = absurd (cc)
step-due (Begins x) (Halts halt) is = absurd (cc)
step-due (Begins x) (Waits lack fs) is = absurd (cc)
step-due (Wants x) e is = absurd (cc)
step-due (Decides x) e is = absurd (cc)
step-due (Looping l) e is = absurd (cc)
step-due (Calling scope) e is = absurd (cc)
step-due Main e is = absurd (cc)
step-due (Over halt) e is = absurd (cc)

abbrev RunStands : Outcome × Config → Type 0
RunStands r = WaitsAt r.0 r.1

module _ (p : Program) where
  abbrev Standing : Of
  Standing frames e c = RunStands (resume_at p CALL_LIMIT frames e c)

  settled-stands : (e : Outcome) (c : Config) → IsSettled e → WaitsAt e c
  settled-stands (Value a) c h = tt
  settled-stands (Truth b) c h = tt
  settled-stands Normal c h = tt
  settled-stands (Returns a) c h = tt
  settled-stands Breaks c h = tt
  settled-stands Continues c h = tt
  settled-stands (Halts halt) c h = tt
  settled-stands (Waits lack fs) c h = absurd h

  none : (e : Outcome) (c : Config) → IsSettled e → Standing [] e c
  unfolding resume_at
  none e c settled = settled-stands e c settled

  module _ (x : Frame) (rest : List Frame) where
    moved : (m : Move) (e : Outcome) (c : Config) → need_in m ≡ need x e → After Standing rest m c
        → RunStands (move_run p x rest m c)
    moved (Goes frames e' effect) e c is h = h
    moved (Ticks frames e' effect) e c is h = by c.steps refl where
      by : (n : ℕ) → c.steps ≡ n → RunStands (after_step p x rest frames e' effect n c)
      by zero none = (
        record {
          top = x;
          rest = rest;
          frames_are = refl;
          is = step-due x e (sym is);
        },
        none,
      )
      by (suc k) more = h k more
    moved (Reads name) e c is h = by c.lines refl where
      by : (lines : List (List ℕ)) → c.lines ≡ lines → RunStands (after_line p name rest lines c)
      by [] none = (
        name,
        record {
          top = Begins (f.LineDue name);
          rest = rest;
          frames_are = refl;
          is = refl;
        },
        none,
      )
      by (line ∷ lines) more = h line lines more
    moved (Draws m) e c is h = by c.draws refl where
      by : (draws : List ℕ) → c.draws ≡ draws → RunStands (after_draw p m rest draws c)
      by [] none = (
        m,
        record {
          top = Begins (f.DrawDue m);
          rest = rest;
          frames_are = refl;
          is = refl;
        },
        none,
      )
      by (draw ∷ draws) more = h draw draws more

    one : MovesMean → MovesNeed → (e : Outcome) (c : Config) → IsSettled e
        → After Standing rest (next p (room_in CALL_LIMIT rest) c.world x e) c
        → Standing (x ∷ rest) e c
    one means needs e c settled h =
        subst RunStands (sym (means p x rest e c settled))
        (moved (next p (room_in CALL_LIMIT rest) c.world x e) e c
        (needs p (room_in CALL_LIMIT rest) c.world x e) h)

pub runs_stand : MovesMean → MovesFall → MovesNeed → RunsStand
runs_stand means falls needs p frames c =
    by_moves p falls (Standing p) (none p) (λ x rest. one p x rest means needs) frames Normal c tt

-- ---- it stays there

-- only a frame that is due for a line needs one
line-due : (x : Frame) (name : List ℕ) → need x Normal ≡ ALine name → x ≡ Begins (f.LineDue name)
line-due (Begins (f.Evals y)) name is = absurd (cc)
line-due (Begins (f.CallDue n values)) name is = absurd (cc)
line-due (Begins (f.DrawDue n)) name is = absurd (cc)
line-due (Begins (f.Tests y)) name is = absurd (cc)
line-due (Begins (f.Alters y)) name is = absurd (cc)
line-due (Begins (f.Due y)) name is = absurd (cc)
line-due (Begins (f.Blocks ys)) name is = absurd (cc)
line-due (Begins (f.Prints ys)) name is = absurd (cc)
line-due (Begins (f.LineDue other)) name is = ap (λ n. Begins (f.LineDue n)) (cc)
line-due (Begins (f.TurnDue l)) name is = absurd (cc)
line-due (Wants y) name is = absurd (cc)
line-due (Decides y) name is = absurd (cc)
line-due (Looping l) name is = absurd (cc)
line-due (Calling scope) name is = absurd (cc)
line-due Main name is = absurd (cc)
line-due (Over halt) name is = absurd (cc)

-- a frame that needs a draw where nothing is handed to it is due for that draw
draw-due : (x : Frame) (m : ℤ) → need x Normal ≡ ADraw m → x ≡ Begins (f.DrawDue m)
draw-due (Begins (f.Evals y)) m is = absurd (cc)
draw-due (Begins (f.CallDue n values)) m is = absurd (cc)
draw-due (Begins (f.DrawDue n)) m is = ap (λ a. Begins (f.DrawDue a)) (cc)
draw-due (Begins (f.Tests y)) m is = absurd (cc)
draw-due (Begins (f.Alters y)) m is = absurd (cc)
draw-due (Begins (f.Due y)) m is = absurd (cc)
draw-due (Begins (f.Blocks ys)) m is = absurd (cc)
draw-due (Begins (f.Prints ys)) m is = absurd (cc)
draw-due (Begins (f.LineDue other)) m is = absurd (cc)
draw-due (Begins (f.TurnDue l)) m is = absurd (cc)
draw-due (Wants y) m is = absurd (cc)
draw-due (Decides y) m is = absurd (cc)
draw-due (Looping l) m is = absurd (cc)
draw-due (Calling scope) m is = absurd (cc)
draw-due Main m is = absurd (cc)
draw-due (Over halt) m is = absurd (cc)

module _ (p : Program) (means : MovesMean) where
  no_line : (name : List ℕ) (rest : List Frame) (c : Config) → c.lines ≡ []
      → resume p (Begins (f.LineDue name) ∷ rest) c
      ≡ (Waits NeedsLine (Begins (f.LineDue name) ∷ rest), c)
  no_line name rest c none = means p (Begins (f.LineDue name)) rest Normal c tt
      ∙ ap (λ lines. after_line p name rest lines c) none

  no_draw : (m : ℤ) (rest : List Frame) (c : Config) → c.draws ≡ []
      → resume p (Begins (f.DrawDue m) ∷ rest) c
      ≡ (Waits NeedsDraw (Begins (f.DrawDue m) ∷ rest), c)
  no_draw m rest c none = means p (Begins (f.DrawDue m)) rest Normal c tt
      ∙ ap (λ draws. after_draw p m rest draws c) none

  -- without what it lacks
  still : (lack : Lack) (begun : List Frame) (c : Config) → LacksMore lack
      → StandsBefore lack begun c → resume p begun c ≡ (Waits lack begun, c)
  still NeedsLine begun c lacks at =
      let n = at.1 in
      let top : begun ≡ Begins (f.LineDue at.0) ∷ n.rest =
      n.frames_are ∙ ap (λ x. x ∷ n.rest) (line-due n.top at.0 n.is) in
      subst (λ fs. resume p fs c ≡ (Waits NeedsLine fs, c)) (sym top)
      (no_line at.0 n.rest c at.2)
  still NeedsDraw begun c lacks at =
      let n = at.1 in
      let top : begun ≡ Begins (f.DrawDue at.0) ∷ n.rest =
      n.frames_are ∙ ap (λ x. x ∷ n.rest) (draw-due n.top at.0 n.is) in
      subst (λ fs. resume p fs c ≡ (Waits NeedsDraw fs, c)) (sym top)
      (no_draw at.0 n.rest c at.2)
  still Spent begun c lacks at = absurd lacks

-- more steps don't help
before_more : (lack : Lack) (begun : List Frame) (c : Config) (more : ℕ) → LacksMore lack
    → StandsBefore lack begun c → StandsBefore lack begun (with_more more [] [] c)
before_more NeedsLine begun c more lacks at = (at.0, at.1, append-nil c.lines ∙ at.2)
before_more NeedsDraw begun c more lacks at = (at.0, at.1, append-nil c.draws ∙ at.2)
before_more Spent begun c more lacks at = absurd lacks

pub waits_still : MovesMean → (p : Program) (lack : Lack) (begun : List Frame) (c : Config)
    → LacksMore lack → StandsBefore lack begun c → resume p begun c ≡ (Waits lack begun, c)
waits_still means p lack begun c lacks at = still p means lack begun c lacks at

pub waits_stay : MovesMean → RunsStand → WaitsStay
waits_stay means stands p frames begun c c' lack more is lacks =
    still p means lack begun (with_more more [] [] c') lacks
    (before_more lack begun c' more lacks (subst RunStands is (stands p frames c)))
