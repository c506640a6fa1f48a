-- That the pieces of a run, one after the other, are the whole run; that a spent run takes a step
-- of those that it is given, and that one which stopped for anything else leaves them over.
use Rattle.std.proofs.Common.{◌≡◌, ◌∙◌, ℕ, suc, ◌+◌, ◌≤◌, List, [], ◌∷◌, ◌++◌, refl, sym, ap, subst, append-nil, arith}
use Rattle.inform_meaning.specs.Worlds.{Program, Config}
use Rattle.inform_meaning.specs.Frames as f
use Rattle.inform_meaning.specs.Frames.{Halt, NeedsLine, NeedsDraw, Spent, Frame, Over, Outcome, Value, Truth, Normal, Returns, Breaks, Continues, Halts, Waits}
use Rattle.inform_meaning.specs.Runs.{CALL_LIMIT, room_in, Halted, Lacking, resume, stop_of, begun_of}
use Rattle.inform_meaning.specs.Laws.{with_more, going_on, RunsSplit, StopStays}
use Rattle.inform_moves.specs.Moves.{Move, Goes, Ticks, Reads, Draws, next}
use Rattle.inform_moves.specs.Needs.{AStep, need_in}
use Rattle.inform_moves.specs.Done.{effected, after_step, move_run}
use Rattle.inform_moves.specs.Laws.{MovesMean, MovesNeed, RunsAdd}
use Rattle.inform_steps.specs.Standing.{Needs, WaitsAt}
use Rattle.inform_steps.specs.Pieces.{after_past, run_after, standing, next_piece, Joins}
use Rattle.inform_steps.specs.Laws.{PastCountsForNothing, RunsStand, PiecesJoin, SpentGoesOn, StoppedStays}
use Rattle.inform_steps.proofs.ByMoves.{effected-steps}
use Rattle.inform_steps.proofs.Waiting.{waits_still}

-- no more lines and draws
more-nil : (k : ℕ) (c : Config) → with_more k [] [] c ≡ record c { steps = c.steps + k }
more-nil k c =
    ap (λ lines. record c { steps = c.steps + k; lines = lines; draws = c.draws ++ [] })
    (append-nil c.lines)
    ∙ ap (λ draws. record c { steps = c.steps + k; draws = draws }) (append-nil c.draws)

past-nil : (c : Config) → record c { past = c.past ++ [] } ≡ c
past-nil c = ap (λ past. record c { past = past }) (append-nil c.past)

module _ (p : Program) (k : ℕ) where
  -- nothing happens in the second piece
  idle : (e e' : Outcome) (c : Config) → stop_of e ≡ stop_of e' → begun_of e ≡ begun_of e'
      → next_piece p (e, c) k ≡ (e', record c { steps = k; past = [] })
      → Joins (e, c) (next_piece p (e, c) k) (e, with_more k [] [] c)
  idle e e' c stop begun nothing =
      subst (λ r. Joins (e, c) r (e, with_more k [] [] c)) (sym nothing) (record {
        stop = stop;
        begun = begun;
        config = more-nil k c ∙ sym (past-nil (record c { steps = c.steps + k }));
      })

  over : StopStays → (halt : Halt) (e : Outcome) (c : Config) → stop_of e ≡ Halted halt
      → begun_of e ≡ Over halt ∷ []
      → Joins (e, c) (next_piece p (e, c) k) (e, with_more k [] [] c)
  over stops halt e c stop begun = idle e (Halts halt) c stop begun
      (ap (λ fs. resume p fs (record c { steps = k; past = [] })) begun
      ∙ stops p halt (record c { steps = k; past = [] }))

  -- the second piece takes the steps
  spent : PastCountsForNothing → (fs : List Frame) (c : Config) → c.steps ≡ 0
      → Joins (Waits Spent fs, c) (next_piece p (Waits Spent fs, c) k)
      (resume p fs (with_more k [] [] c))
  spent aside fs c none =
      let second = next_piece p (Waits Spent fs, c) k in
      let more : with_more k [] [] c ≡ after_past c.past (record c { steps = k; past = [] }) =
      more-nil k c ∙ ap (λ n. record c { steps = n }) (omega (arith, none))
      ∙ sym (past-nil (record c { steps = k })) in
      let same : resume p fs (with_more k [] [] c) ≡ run_after c.past second =
      ap (resume p fs) more ∙ aside p fs c.past (record c { steps = k; past = [] }) in
      subst (Joins (Waits Spent fs, c) second) (sym same) (record {
        stop = refl;
        begun = refl;
        config = ap (λ n. record second.1 { steps = n; past = c.past ++ second.1.past })
            (omega (arith, none));
      })

  -- a piece of a run and the next one are the whole, whatever the first came to
  joined : MovesMean → StopStays → PastCountsForNothing → (e : Outcome) (c : Config) → WaitsAt e c
      → Joins (e, c) (next_piece p (e, c) k) (going_on p k [] [] (e, c))
  joined means stops aside (Value a) c at = over stops f.Quits (Value a) c refl refl
  joined means stops aside (Truth b) c at = over stops f.Quits (Truth b) c refl refl
  joined means stops aside Normal c at = over stops f.Quits Normal c refl refl
  joined means stops aside (Returns a) c at = over stops f.Quits (Returns a) c refl refl
  joined means stops aside Breaks c at = over stops f.Quits Breaks c refl refl
  joined means stops aside Continues c at = over stops f.Quits Continues c refl refl
  joined means stops aside (Halts halt) c at = over stops halt (Halts halt) c refl refl
  joined means stops aside (Waits NeedsLine fs) c at =
      subst (Joins (Waits NeedsLine fs, c) (next_piece p (Waits NeedsLine fs, c) k))
      (sym (waits_still means p NeedsLine fs (with_more k [] [] c) tt
      (at.0, at.1, append-nil c.lines ∙ at.2)))
      (idle (Waits NeedsLine fs) (Waits NeedsLine fs) c refl refl
      (waits_still means p NeedsLine fs (record c { steps = k; past = [] }) tt at))
  joined means stops aside (Waits NeedsDraw fs) c at =
      subst (Joins (Waits NeedsDraw fs, c) (next_piece p (Waits NeedsDraw fs, c) k))
      (sym (waits_still means p NeedsDraw fs (with_more k [] [] c) tt
      (at.0, at.1, append-nil c.draws ∙ at.2)))
      (idle (Waits NeedsDraw fs) (Waits NeedsDraw fs) c refl refl
      (waits_still means p NeedsDraw fs (record c { steps = k; past = [] }) tt at))
  joined means stops aside (Waits Spent fs) c at = spent aside fs c at.1

  -- the run with more steps goes on from where it stopped
  whole : RunsSplit → (frames : List Frame) (c : Config) (n : ℕ)
      → standing p frames c (n + k) ≡ going_on p k [] [] (standing p frames c n)
  whole splits frames c n = ap (resume p frames) (sym (more-nil k (record c { steps = n })))
      ∙ splits p frames k [] [] (record c { steps = n })

  -- one that stopped for anything but steps leaves them over
  stays : MovesMean → (e : Outcome) (c : Config) → WaitsAt e c → (stop_of e ≡ Lacking Spent → ⊥)
      → going_on p k [] [] (e, c) ≡ (e, record c { steps = c.steps + k })
  stays means (Value a) c at other = ap (λ c. (Value a, c)) (more-nil k c)
  stays means (Truth b) c at other = ap (λ c. (Truth b, c)) (more-nil k c)
  stays means Normal c at other = ap (λ c. (Normal, c)) (more-nil k c)
  stays means (Returns a) c at other = ap (λ c. (Returns a, c)) (more-nil k c)
  stays means Breaks c at other = ap (λ c. (Breaks, c)) (more-nil k c)
  stays means Continues c at other = ap (λ c. (Continues, c)) (more-nil k c)
  stays means (Halts halt) c at other = ap (λ c. (Halts halt, c)) (more-nil k c)
  stays means (Waits NeedsLine fs) c at other = ap (resume p fs) (more-nil k c)
      ∙ waits_still means p NeedsLine fs (record c { steps = c.steps + k }) tt at
  stays means (Waits NeedsDraw fs) c at other = ap (resume p fs) (more-nil k c)
      ∙ waits_still means p NeedsDraw fs (record c { steps = c.steps + k }) tt at
  stays means (Waits Spent fs) c at other = absurd (other refl)

  -- ---- a step that is due is taken

  module _ (adds : RunsAdd) (x : Frame) (rest : List Frame) where
    moved : (m : Move) (c : Config) → need_in m ≡ AStep → c.steps ≡ suc k
        → (move_run p x rest m c).1.steps ≤ k
    moved (Goes frames e effect) c is some = absurd (cc)
    moved (Reads name) c is some = absurd (cc)
    moved (Draws n) c is some = absurd (cc)
    moved (Ticks frames e effect) c is some =
        let after = effected effect (record c { steps = k }) in
        let goes = adds p (frames ++ rest) e after in
        subst (λ n. (after_step p x rest frames e effect n c).1.steps ≤ k) (sym some)
        (omega (arith, goes.steps, effected-steps effect (record c { steps = k })))

  due : MovesMean → MovesNeed → RunsAdd → (fs : List Frame) (c : Config) → Needs fs AStep
      → c.steps ≡ suc k → (resume p fs c).1.steps ≤ k
  due means needs adds fs c n some =
      let m = next p (room_in CALL_LIMIT n.rest) c.world n.top f.Normal in
      subst (λ fs. (resume p fs c).1.steps ≤ k) (sym n.frames_are)
      (subst (λ r. r.1.steps ≤ k) (sym (means p n.top n.rest f.Normal c tt))
      (moved adds n.top n.rest m c
      (needs p (room_in CALL_LIMIT n.rest) c.world n.top f.Normal ∙ n.is) some))

  -- a run that lacks steps has none left, and takes one of those that the next piece is given
  taken : MovesMean → MovesNeed → RunsAdd → (e : Outcome) (c : Config) → WaitsAt e c
      → stop_of e ≡ Lacking Spent
      → (c.steps ≡ 0) × ((next_piece p (e, c) (k + 1)).1.steps ≤ k)
  taken means needs adds (Value a) c at is = absurd (cc)
  taken means needs adds (Truth b) c at is = absurd (cc)
  taken means needs adds Normal c at is = absurd (cc)
  taken means needs adds (Returns a) c at is = absurd (cc)
  taken means needs adds Breaks c at is = absurd (cc)
  taken means needs adds Continues c at is = absurd (cc)
  taken means needs adds (Halts halt) c at is = absurd (cc)
  taken means needs adds (Waits NeedsLine fs) c at is = absurd (cc)
  taken means needs adds (Waits NeedsDraw fs) c at is = absurd (cc)
  taken means needs adds (Waits Spent fs) c at is = (
    at.1,
    due means needs adds fs (record c { steps = k + 1; past = [] }) at.0 (omega arith),
  )

pub pieces_join : MovesMean → RunsSplit → StopStays → PastCountsForNothing → RunsStand → PiecesJoin
pieces_join means splits stops aside stands p frames c n more =
    let first = standing p frames c n in
    subst (Joins first (next_piece p first more)) (sym (whole p more splits frames c n))
    (joined p more means stops aside first.0 first.1 (stands p frames (record c { steps = n })))

pub spent_goes_on : MovesMean → MovesNeed → RunsAdd → RunsStand → SpentGoesOn
spent_goes_on means needs adds stands p frames c n more is =
    let first = standing p frames c n in
    taken p more means needs adds first.0 first.1 (stands p frames (record c { steps = n })) is

pub stopped_stays : MovesMean → RunsSplit → RunsStand → StoppedStays
stopped_stays means splits stands p frames c n more other =
    let first = standing p frames c n in
    whole p more splits frames c n
    ∙ stays p more means first.0 first.1 (stands p frames (record c { steps = n })) other
