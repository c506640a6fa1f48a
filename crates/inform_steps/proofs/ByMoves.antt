-- What holds of a run by its moves: the induction on its steps, and between two of them on the work
-- that is left.
use Rattle.std.proofs.Common.{◌≡◌, ℕ, zero, suc, ◌+◌, ◌<◌, ◌≤◌, List, [], ◌∷◌, ◌++◌, refl, arith}
use Rattle.adv_io.specs.Steps.{Took, Drew}
use Rattle.inform_meaning.specs.Words.{draw_within}
use Rattle.inform_meaning.specs.Worlds.{Program, Config, with_line}
use Rattle.inform_meaning.specs.Frames.{Frame, Outcome, Value, Normal}
use Rattle.inform_meaning.specs.Runs.{CALL_LIMIT, room_in}
use Rattle.inform_moves.specs.Moves.{Effect, Keeps, Becomes, Says, Enters, Move, Goes, Ticks, Reads, Draws, outcome_in, next}
use Rattle.inform_moves.specs.Done.{effected}
use Rattle.inform_moves.specs.Works.{work, works}
use Rattle.inform_moves.specs.Laws.{IsSettled, FallsBelow, MovesFall}
use Rattle.inform_steps.proofs.Settling.{moves_settle}

works-append : (xs ys : List Frame) → works (xs ++ ys) ≡ works xs + works ys
works-append [] ys = omega arith
works-append (x ∷ xs) ys = omega (arith, works-append xs ys)

pub effected-steps : (effect : Effect) (c : Config) → (effected effect c).steps ≡ c.steps
effected-steps Keeps c = refl
effected-steps (Becomes w) c = refl
effected-steps (Says bytes) c = refl
effected-steps (Enters w number) c = refl

-- what is told of a run by its frames, by what is handed to them, and by what is left
abbrev pub Of : Type 1
Of = List Frame → Outcome → Config → Type 0

-- what is known of the run after a move, where there is one
abbrev pub After : Of → List Frame → Move → Config → Type 0
After Q rest (Goes frames e effect) c = Q (frames ++ rest) e (effected effect c)
After Q rest (Ticks frames e effect) c = (k : ℕ) → c.steps ≡ suc k
    → Q (frames ++ rest) e (effected effect (record c { steps = k }))
After Q rest (Reads name) c = (line : List ℕ) (lines : List (List ℕ)) → c.lines ≡ line ∷ lines
    → Q rest Normal (record c {
      lines = lines;
      past = c.past ++ Took line ∷ [];
      world = with_line name line c.world;
    })
After Q rest (Draws m) c = (draw : ℕ) (draws : List ℕ) → c.draws ≡ draw ∷ draws
    → Q rest (Value (draw_within m draw))
    (record c { draws = draws; past = c.past ++ Drew draw ∷ [] })

module _ (p : Program) (falls : MovesFall) (Q : Of)
    (none : (e : Outcome) (c : Config) → IsSettled e → Q [] e c)
    (one : (x : Frame) (rest : List Frame) (e : Outcome) (c : Config) → IsSettled e
    → After Q rest (next p (room_in CALL_LIMIT rest) c.world x e) c → Q (x ∷ rest) e c) where
  -- with at most so many steps, and less work than so much
  abbrev Within : ℕ → ℕ → Type 0
  Within n m = (frames : List Frame) (e : Outcome) (c : Config) → IsSettled e → c.steps ≤ n
      → works frames < m → Q frames e c

  abbrev Fewer : ℕ → Type 0
  Fewer n = (k : ℕ) → suc k ≤ n → (m : ℕ) → Within k m

  -- what holds of each run with fewer steps or less work holds of the run after a move
  after : (n m : ℕ) → Fewer n → Within n m → (x : Frame) (rest : List Frame) (c : Config)
      → c.steps ≤ n → works (x ∷ rest) < suc m → (move : Move) → FallsBelow (work x) move
      → IsSettled (outcome_in move) → After Q rest move c
  after n m fewer less x rest c few small (Goes frames e effect) fall settled =
      less (frames ++ rest) e (effected effect c) settled
      (omega (arith, few, effected-steps effect c))
      (omega (arith, small, fall, works-append frames rest))
  after n m fewer less x rest c few small (Ticks frames e effect) fall settled = λ k is.
      fewer k (omega (arith, few, is)) (suc (works (frames ++ rest))) (frames ++ rest) e
      (effected effect (record c { steps = k })) settled
      (omega (arith, effected-steps effect (record c { steps = k }))) (omega arith)
  after n m fewer less x rest c few small (Reads name) fall settled = λ line lines is.
      less rest Normal _ tt (omega (arith, few)) (omega (arith, small, fall))
  after n m fewer less x rest c few small (Draws a) fall settled = λ draw draws is.
      less rest (Value (draw_within a draw)) _ tt (omega (arith, few)) (omega (arith, small, fall))

  within : (n : ℕ) → Fewer n → (m : ℕ) → Within n m
  within n fewer zero frames e c settled few small = absurd (omega (arith, small))
  within n fewer (suc m) [] e c settled few small = none e c settled
  within n fewer (suc m) (x ∷ rest) e c settled few small =
      one x rest e c settled
      (after n m fewer (within n fewer m) x rest c few small
      (next p (room_in CALL_LIMIT rest) c.world x e)
      (falls p (room_in CALL_LIMIT rest) c.world x e)
      (moves_settle p (room_in CALL_LIMIT rest) c.world x e settled))

  fewer_than : (n : ℕ) → Fewer n
  fewer_than zero k less = absurd (omega (arith, less))
  fewer_than (suc n) k less = within k (fewer_below n (fewer_than n) k (omega (arith, less)))
    where
      fewer_below : (n : ℕ) → Fewer n → (k : ℕ) → k ≤ n → Fewer k
      fewer_below n fewer k few j less = fewer j (omega (arith, few, less))

  pub by_moves : (frames : List Frame) (e : Outcome) (c : Config) → IsSettled e → Q frames e c
  by_moves frames e c settled = within c.steps (fewer_than c.steps) (suc (works frames)) frames e c
      settled (omega arith) (omega arith)
