-- That the events of the steps of a run, one after the other, are what is shown of it, and those up
-- to the next pause what is shown of the piece up to there.
use Rattle.std.proofs.Common.{◌≡◌, ◌∙◌, ℕ, zero, suc, ◌+◌, ◌<◌, ◌≤◌, List, [], ◌++◌, drop, length, refl, sym, ap, append-nil, append_assoc, arith}
use Rattle.std.proofs.Math.Seq.{drop-append_seam}
use Rattle.adv_io.specs.History.{says}
use Rattle.adv_io.specs.Steps.{Step, shown_of}
use Rattle.adv_io.proofs.Showing.{shown_of-append}
use Rattle.inform_meaning.specs.Worlds.{Program, Config}
use Rattle.inform_meaning.specs.Frames.{Frame}
use Rattle.inform_steps.specs.Pieces.{standing, next_piece}
use Rattle.inform_steps.specs.Laws.{PiecesJoin}
use Rattle.inform_stepper.specs.Pauses.{Run}
use Rattle.inform_stepper.specs.Shown.{events_after, step_shown}
use Rattle.inform_stepper.specs.Laws.{StepsAreShown, PausesAreShown}

none-more : (n : ℕ) → n + 0 ≡ n
none-more n = omega arith

one-more : (n m : ℕ) → n + suc m ≡ suc (n + m)
one-more n m = omega arith

-- equal beginnings can be taken away
cancel : (a b c : List Step) → a ++ b ≡ a ++ c → b ≡ c
cancel a b c same = sym (drop-append_seam a b) ∙ ap (drop (length a)) same ∙ drop-append_seam a c

module _ (joins : PiecesJoin) (p : Program) (frames : List Frame) (c : Config) where
  abbrev run : Run
  run = standing p frames c

  abbrev past : ℕ → List Step
  past n = (run n).1.past

  abbrev piece : ℕ → ℕ → List Step
  piece n m = (next_piece p (run n) m).1.past

  joined : (n m : ℕ) → past (n + m) ≡ past n ++ piece n m
  joined n m = let j = joins p frames c n m in ap (λ c. c.past) j.config

  next : (n : ℕ) → past (suc n) ≡ past n ++ events_after run n
  next n =
      let one : suc n ≡ n + 1 = omega arith in
      let all : past (suc n) ≡ past n ++ piece n 1 = ap past one ∙ joined n 1 in
      let last : events_after run n ≡ piece n 1 =
      ap (drop (length (past n))) all ∙ drop-append_seam (past n) (piece n 1) in
      all ∙ ap (λ es. past n ++ es) (sym last)

  shown-next : (n : ℕ) → shown_of (past n) ++ shown_of (events_after run n) ≡ shown_of (past (suc n))
  shown-next n = sym (shown_of-append (past n) (events_after run n)) ∙ ap shown_of (sym (next n))

  all-shown : (n : ℕ) → step_shown (λ k. []) run n ≡ shown_of (past n)
  all-shown zero = refl
  all-shown (suc n) =
      ap (λ xs. xs ++ shown_of (events_after run n) ++ []) (all-shown n)
      ∙ append-nil (shown_of (past n) ++ shown_of (events_after run n))
      ∙ shown-next n

  -- a piece with one step more
  piece-next : (n m : ℕ) → piece n (suc m) ≡ piece n m ++ events_after run (n + m)
  piece-next n m = cancel (past n) (piece n (suc m)) (piece n m ++ events_after run (n + m))
      (sym (joined n (suc m)) ∙ ap past (one-more n m) ∙ next (n + m)
      ∙ ap (λ es. es ++ events_after run (n + m)) (joined n m)
      ∙ append_assoc (past n) (piece n m) (events_after run (n + m)))

  piece-none : (n : ℕ) → piece n 0 ≡ []
  piece-none n = cancel (past n) (piece n 0) []
      (sym (joined n 0) ∙ ap past (none-more n) ∙ sym (append-nil (past n)))

  module _ (text : ℕ → List ℕ) (n : ℕ) where
    -- the step after so many, with its text
    step-shown : (m : ℕ)
        → step_shown text run (n + m) ≡ step_shown text run n ++ shown_of (piece n m)
        → step_shown text run (n + suc m)
        ≡ (step_shown text run n ++ shown_of (piece n (suc m))) ++ says (text (n + suc m))
    step-shown m before =
        let a = step_shown text run n in
        let b = shown_of (piece n m) in
        let e = shown_of (events_after run (n + m)) in
        let t = says (text (suc (n + m))) in
        let both : b ++ e ≡ shown_of (piece n (suc m)) =
        sym (shown_of-append (piece n m) (events_after run (n + m)))
        ∙ ap shown_of (sym (piece-next n m)) in
        ap (step_shown text run) (one-more n m)
        ∙ ap (λ xs. xs ++ e ++ t) before
        ∙ ap (λ xs. xs ++ t) (append_assoc a b e ∙ ap (λ xs. a ++ xs) both)
        ∙ ap (λ k. (a ++ shown_of (piece n (suc m))) ++ says (text k)) (sym (one-more n m))

    quiet : (m : ℕ) → ((k : ℕ) → n < k → k ≤ n + m → text k ≡ [])
        → step_shown text run (n + m) ≡ step_shown text run n ++ shown_of (piece n m)
    quiet zero none = ap (step_shown text run) (none-more n)
        ∙ sym (append-nil (step_shown text run n))
        ∙ ap (λ es. step_shown text run n ++ shown_of es) (sym (piece-none n))
    quiet (suc m) none =
        step-shown m (quiet m (λ k later few. none k later (omega (arith, few))))
        ∙ ap (λ xs. (step_shown text run n ++ shown_of (piece n (suc m))) ++ says xs)
        (none (n + suc m) (omega arith) (omega arith))
        ∙ append-nil (step_shown text run n ++ shown_of (piece n (suc m)))

pub steps_are_shown : PiecesJoin → StepsAreShown
steps_are_shown joins p frames c n = all-shown joins p frames c n

pub pauses_are_shown : PiecesJoin → PausesAreShown
pauses_are_shown joins text p frames c n more none =
    step-shown joins p frames c text n more (quiet joins p frames c text n more none)
