-- That only a call enters a routine: where no step is left, a run opens none, and a step that is no
-- call opens none before that.
use Rattle.std.proofs.Common.{◌≡◌, ◌∙◌, ℕ, suc, ◌+◌, ◌≤◌, false, nat_lt, List, [], ◌∷◌, ◌++◌, if◌then◌else◌, refl, sym, ap, subst, arith}
use Rattle.std.specs.Prelude.{⊤}
use Rattle.std.proofs.lemmas.Bool.Decides.{nat_tests}
use Rattle.inform_meaning.specs.Worlds.{Program, World, Config}
use Rattle.inform_meaning.specs.Frames as f
use Rattle.inform_meaning.specs.Frames.{Spent, Frame, Begins, Calling, Over, Outcome, Normal, Waits}
use Rattle.inform_meaning.specs.Runs.{CALL_LIMIT, room_in, resume_at, resume, begun_of}
use Rattle.inform_moves.specs.Moves.{Move, Goes, Ticks, Reads, Draws, pushed_in, outcome_in, next}
use Rattle.inform_moves.specs.Needs.{Nothing, AStep, need, need_in}
use Rattle.inform_moves.specs.Done.{effected, after_step, after_line, after_draw, move_run}
use Rattle.inform_moves.specs.Heights.{calls_open}
use Rattle.inform_moves.specs.Laws.{IsSettled, MovesMean, MovesFall, MovesNeed, OpensAtMost, MovesOpen}
use Rattle.inform_entered.specs.Entered as e
use Rattle.inform_entered.specs.Entered.{open_routines, still_open, newly_entered}
use Rattle.inform_steps.specs.Standing.{Needs, WaitsAt, CallIsDue}
use Rattle.inform_steps.specs.Pieces.{standing, IsSpent, afresh, next_piece}
use Rattle.inform_steps.specs.Laws.{RunsStand, PiecesJoin, StoppedStays, OnlyCallsEnter}
use Rattle.inform_steps.proofs.Settling.{moves_settle}
use Rattle.inform_steps.proofs.ByMoves.{Of, After, effected-steps, by_moves}
use Rattle.inform_steps.proofs.Entering.{none_newly}

-- ---- what a move pushes

-- this frame makes a call, where this is handed to it
abbrev Calls : Frame → Outcome → Type 0
Calls (Begins (f.CallDue name values)) Normal = ⊤
Calls x e = ⊥

calls_need : (x : Frame) (e : Outcome) → Calls x e → need x e ≡ AStep
calls_need (Begins (f.CallDue name values)) Normal is = refl
calls_need x e is = absurd is

calls_due : (x : Frame) (rest : List Frame) → Calls x Normal → CallIsDue (x ∷ rest)
calls_due (Begins (f.CallDue name values)) rest is = tt
calls_due x rest is = absurd is

-- only a call asks for room
same_room : (p : Program) (n : ℕ) (w : World) (x : Frame) (e : Outcome) → (Calls x e → ⊥)
    → next p n w x e ≡ next p 0 w x e
same_room p n w (Begins (f.CallDue name values)) Normal plain = absurd (plain tt)
same_room p n w (Begins x) Normal plain = refl
same_room p n w (Begins x) e plain = refl
same_room p n w x e plain = refl

opens_none : (m : Move) → OpensAtMost 0 m → calls_open (pushed_in m) ≤ 0
opens_none (Goes frames e effect) few = few
opens_none (Ticks frames e effect) few = few
opens_none (Reads name) few = omega arith
opens_none (Draws n) few = omega arith

pushes_none : MovesOpen → (p : Program) (n : ℕ) (w : World) (x : Frame) (e : Outcome)
    → (Calls x e → ⊥) → calls_open (pushed_in (next p n w x e)) ≤ 0
pushes_none opens p n w x e plain =
    subst (λ m. calls_open (pushed_in m) ≤ 0) (sym (same_room p n w x e plain))
    (opens_none (next p 0 w x e) (opens p 0 w x e))

-- ---- open calls

calls-append : (xs ys : List Frame) → calls_open (xs ++ ys) ≡ calls_open xs + calls_open ys
calls-append [] ys = omega arith
calls-append (Calling scope ∷ xs) ys = let rest = calls-append xs ys in omega (arith, rest)
calls-append (x ∷ xs) ys = calls-append xs ys

rest_few : (x : Frame) (xs : List Frame) → calls_open xs ≤ calls_open (x ∷ xs)
rest_few (Calling scope) xs = omega arith
rest_few x xs = omega arith

-- the calls that are open where a run stopped
abbrev calls_of : Outcome → ℕ
calls_of (Waits lack fs) = calls_open fs
calls_of e = 0

settled_few : (e : Outcome) → IsSettled e → calls_of e ≤ 0
settled_few (Waits lack fs) settled = absurd settled
settled_few e settled = omega arith

-- ---- where no step is left

module _ (p : Program) where
  abbrev Few : Of
  Few frames e c =
      c.steps ≡ 0 → calls_of (resume_at p CALL_LIMIT frames e c).0 ≤ calls_open frames

  none : (e : Outcome) (c : Config) → IsSettled e → Few [] e c
  unfolding resume_at
  none e c settled spent = settled_few e settled

  module _ (x : Frame) (rest : List Frame) where
    moved : (m : Move) (c : Config) → (need_in m ≡ Nothing → calls_open (pushed_in m) ≤ 0)
        → After Few rest m c → c.steps ≡ 0
        → calls_of (move_run p x rest m c).0 ≤ calls_open (x ∷ rest)
    moved (Goes frames e effect) c pushed h spent =
        let after = h (effected-steps effect c ∙ spent) in
        let pushes = pushed refl in
        let all = calls-append frames rest in
        let few = rest_few x rest in
        omega (arith, after, pushes, all, few)
    moved (Ticks frames e effect) c pushed h spent =
        subst (λ n. calls_of (after_step p x rest frames e effect n c).0 ≤ calls_open (x ∷ rest))
        (sym spent) (omega arith)
    moved (Reads name) c pushed h spent = by c.lines refl where
      by : (lines : List (List ℕ)) → c.lines ≡ lines
          → calls_of (after_line p name rest lines c).0 ≤ calls_open (x ∷ rest)
      by [] is = rest_few x rest
      by (line ∷ lines) is =
          let after = h line lines is spent in
          let few = rest_few x rest in
          omega (arith, after, few)
    moved (Draws m) c pushed h spent = by c.draws refl where
      by : (draws : List ℕ) → c.draws ≡ draws
          → calls_of (after_draw p m rest draws c).0 ≤ calls_open (x ∷ rest)
      by [] is = rest_few x rest
      by (draw ∷ draws) is =
          let after = h draw draws is spent in
          let few = rest_few x rest in
          omega (arith, after, few)

    one : MovesMean → MovesNeed → MovesOpen → (e : Outcome) (c : Config) → IsSettled e
        → After Few rest (next p (room_in CALL_LIMIT rest) c.world x e) c → Few (x ∷ rest) e c
    one means needs opens e c settled h spent =
        let room = room_in CALL_LIMIT rest in
        let m = next p room c.world x e in
        let pushed : need_in m ≡ Nothing → calls_open (pushed_in m) ≤ 0 =
        λ quiet. pushes_none opens p room c.world x e (λ calls.
        let step = calls_need x e calls in let need_is = needs p room c.world x e in cc) in
        subst (λ r. calls_of r.0 ≤ calls_open (x ∷ rest)) (sym (means p x rest e c settled))
        (moved m c pushed h spent)

  few_open : MovesMean → MovesFall → MovesNeed → MovesOpen → (frames : List Frame) (e : Outcome)
      (c : Config) → IsSettled e → c.steps ≡ 0
      → calls_of (resume_at p CALL_LIMIT frames e c).0 ≤ calls_open frames
  few_open means falls needs opens frames e c settled spent =
      by_moves p falls Few none (λ x rest. one x rest means needs opens) frames e c settled spent

  -- ---- a step that is no call

  module _ (means : MovesMean) (falls : MovesFall) (needs : MovesNeed) (opens : MovesOpen)
      (top : Frame) (rest : List Frame) where
    stepped : (m : Move) (c : Config) → need_in m ≡ AStep → IsSettled (outcome_in m)
        → calls_open (pushed_in m) ≤ 0 → c.steps ≡ 1
        → calls_of (move_run p top rest m c).0 ≤ calls_open (top ∷ rest)
    stepped (Goes frames e effect) c is settled pushes some = absurd (cc)
    stepped (Reads name) c is settled pushes some = absurd (cc)
    stepped (Draws n) c is settled pushes some = absurd (cc)
    stepped (Ticks frames e effect) c is settled pushes some =
        let begun = record c { steps = 0 } in
        let after = few_open means falls needs opens (frames ++ rest) e (effected effect begun)
        settled (effected-steps effect begun) in
        let all = calls-append frames rest in
        let few = rest_few top rest in
        subst (λ n. calls_of (after_step p top rest frames e effect n c).0 ≤ calls_open (top ∷ rest))
        (sym some) (omega (arith, after, pushes, all, few))

    step_few : (c : Config) → need top Normal ≡ AStep → (Calls top Normal → ⊥) → c.steps ≡ 1
        → calls_of (resume p (top ∷ rest) c).0 ≤ calls_open (top ∷ rest)
    step_few c due plain some =
        let room = room_in CALL_LIMIT rest in
        subst (λ r. calls_of r.0 ≤ calls_open (top ∷ rest)) (sym (means p top rest Normal c tt))
        (stepped (next p room c.world top Normal) c (needs p room c.world top Normal ∙ due)
        (moves_settle p room c.world top Normal tt) (pushes_none opens p room c.world top Normal plain)
        some)

-- ---- open routines

same_calls : (fs : List Frame) → e.calls_open fs ≡ calls_open fs
same_calls [] = refl
same_calls (Calling x ∷ fs) = let rest = same_calls fs in omega (arith, rest)
same_calls (x ∷ fs) = let rest = same_calls fs in omega (arith, rest)

frames_few : (fs : List Frame) → open_routines fs ≤ calls_open fs + 1
frames_few [] = omega arith
frames_few (Over halt ∷ fs) = omega arith
frames_few (x ∷ fs) = let all = same_calls (x ∷ fs) in omega (arith, all)

routines_few : (e : Outcome) → open_routines (begun_of e) ≤ calls_of e + 1
routines_few (Waits lack fs) = frames_few fs
routines_few e = omega arith

-- where a step is due the run isn't over
due_open : (x : Frame) (rest : List Frame) → need x Normal ≡ AStep
    → calls_open (x ∷ rest) + 1 ≡ open_routines (x ∷ rest)
due_open (Begins x) rest is = let all = same_calls rest in omega (arith, all)
due_open x rest is = absurd (cc)

none_more : (before now : Outcome × Config) → still_open now ≤ still_open before
    → newly_entered before now ≡ []
none_more before now few = ap (λ b. if b then now.1.world.scope.directive ∷ [] else []) same where
  same : nat_lt (still_open before) (still_open now) ≡ false
  same = grind (arith, nat_tests, few)

-- ---- whole runs

module _ (means : MovesMean) (falls : MovesFall) (needs : MovesNeed) (opens : MovesOpen)
    (joins : PiecesJoin) (stays : StoppedStays)
    (p : Program) (frames : List Frame) (c : Config) (n : ℕ) where
  abbrev here : Outcome × Config
  here = standing p frames c n

  abbrev later : Outcome × Config
  later = standing p frames c (suc n)

  one-more : suc n ≡ n + 1
  one-more = omega arith

  stopped : (IsSpent here → ⊥) → newly_entered here later ≡ []
  stopped other = none_newly here later
      (ap (λ n. begun_of (standing p frames c n).0) one-more
      ∙ ap (λ r. begun_of r.0) (stays p frames c n 1 other))

  -- a step that is due, and is no call, enters no routine
  goes_on : (at : Needs (begun_of here.0) AStep) → (CallIsDue (begun_of here.0) → ⊥)
      → newly_entered here later ≡ []
  goes_on at plain =
      let second = next_piece p here 1 in
      let joined = joins p frames c n 1 in
      let whole : begun_of later.0 ≡ begun_of second.0 =
      ap (λ n. begun_of (standing p frames c n).0) one-more ∙ joined.begun in
      let none : Calls at.top Normal → ⊥ =
      λ calls. plain (subst CallIsDue (sym at.frames_are) (calls_due at.top at.rest calls)) in
      let few : calls_of second.0 ≤ calls_open (begun_of here.0) =
      subst (λ fs. calls_of (resume p fs (record (afresh here.1) { steps = 1 })).0 ≤ calls_open fs)
      (sym at.frames_are)
      (step_few p means falls needs opens at.top at.rest (record (afresh here.1) { steps = 1 })
      at.is none refl) in
      let now = routines_few second.0 in
      let same = ap open_routines whole in
      let before : calls_open (begun_of here.0) + 1 ≡ open_routines (begun_of here.0) =
      subst (λ fs. calls_open fs + 1 ≡ open_routines fs) (sym at.frames_are)
      (due_open at.top at.rest at.is) in
      none_more here later (omega (arith, few, now, same, before))

  by : (e : Outcome) → here.0 ≡ e → WaitsAt e here.1 → (CallIsDue (begun_of here.0) → ⊥)
      → newly_entered here later ≡ []
  by (Waits Spent fs) is at plain =
      goes_on (subst (λ fs. Needs fs AStep) (sym (ap begun_of is)) at.0) plain
  by e is at plain = stopped (λ spent. absurd (cc))

pub only_calls_enter : MovesMean → MovesFall → MovesNeed → MovesOpen → RunsStand → PiecesJoin
    → StoppedStays → OnlyCallsEnter
only_calls_enter means falls needs opens stands joins stays p frames c n plain =
    by means falls needs opens joins stays p frames c n (standing p frames c n).0 refl
    (stands p frames (record c { steps = n })) plain
