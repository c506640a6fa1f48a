-- A play is one round, and then the others.
use Rattle.std.proofs.Common.{◌≡◌, ◌≢◌, ◌∙◌, ℕ, List, [], ◌∷◌, ◌++◌, refl, sym, ap, append_assoc, append-nil}
use Rattle.scott_types.specs.declared.states.State.{State}
use Rattle.scott_types.specs.declared.endings.Position.{Position}
use Rattle.scott_types.specs.declared.endings.Position.TheVariants.{Fresh, Draw, Line, Over}
use Rattle.scott_types.specs.Style.{Game}
use Rattle.adv_io.specs.Steps.{Step, Traced, after, traced}
use Rattle.scott_rules.specs.Rounds.{RoundEnd, advance, answer}
use Rattle.scott_rules.specs.Play.{PlayEnd, stopped, with_line, go}
use Rattle.scott_rules.specs.Laws.{PlayStops}
use Rattle.trans_specs.specs.Rounds.{round_goes_on, round_done, round, next_round, then_rounds}
use Rattle.trans_specs.specs.Laws.{PlaysAreRounds}

after-after : {R : Type 0} → (es fs : List Step) (t : Traced Step R)
    → after es (after fs t) ≡ after (es ++ fs) t
after-after es fs t = ap (λ gs. traced gs t.value) (sym (append_assoc es fs t.events))

module _ (game : Game) where
  -- where no round begins, nothing follows
  unchanged : (p : Position) (t : Traced Step PlayEnd) → p ≢ Fresh → next_round p game t ≡ t
  unchanged Fresh t h = absurd (h refl)
  unchanged (Draw head) t h = refl
  unchanged Line t h = refl
  unchanged (Over ending) t h = refl

  -- what was done before stays before
  later : (p : Position) (es : List Step) (t : Traced Step PlayEnd)
      → next_round p game (after es t) ≡ after es (next_round p game t)
  later Fresh es t =
      sym (after-after es t.events (go game Fresh t.value.state t.value.lines t.value.draws))
  later (Draw head) es t = refl
  later Line es t = refl
  later (Over ending) es t = refl

  -- a play whose rounds go on like this
  abbrev IsRounds : Position → State → List (List ℕ) → List ℕ → Type 0
  IsRounds p r lines ds = go game p r lines ds ≡ then_rounds game (round game p r lines ds)

  goes_on : (p : Position) (r : State) (lines : List (List ℕ)) (ds : List ℕ) (es fs : List Step)
      → IsRounds p r lines ds → after es (after fs (go game p r lines ds))
      ≡ then_rounds game (after es (after fs (round game p r lines ds)))
  goes_on p r lines ds es fs h = ap (λ t. after es (after fs t)) h
      ∙ sym (later more.value.position es (after fs more)
      ∙ ap (after es) (later more.value.position fs more)) where
        more : Traced Step PlayEnd
        more = round game p r lines ds

  answered : (p : Position) (r : State) (lines : List (List ℕ)) (ds : List ℕ) (es fs : List Step)
      → IsRounds p r lines ds → after es (after fs (go game p r lines ds))
      ≡ then_rounds game (after es (after fs
      (round_goes_on p (round_done p r lines ds) (round game p r lines ds))))
  answered Fresh r lines ds es fs h =
      ap (λ gs. after es (after gs (go game Fresh r lines ds))) (sym (append-nil fs))
      ∙ after-after es (fs ++ []) (go game Fresh r lines ds)
  answered (Draw head) r lines ds es fs h = goes_on (Draw head) r lines ds es fs h
  answered Line r lines ds es fs h = goes_on Line r lines ds es fs h
  answered (Over ending) r lines ds es fs h = goes_on (Over ending) r lines ds es fs h

  -- with a line to take, the play from a position on is one round, and then the others
  by_position : (line : List ℕ) (lines : List (List ℕ)) (t : Traced Step RoundEnd)
      → t.value.position ≢ Fresh
      → ((p : Position) (r : State) (ds : List ℕ) → IsRounds p r lines ds) → (p : Position)
      → with_line p game line lines t (λ p r ds. go game p r lines ds)
      ≡ then_rounds game (with_line p game line lines t (λ p r ds.
      round_goes_on p (round_done p r lines ds) (round game p r lines ds)))
  by_position line lines t h more Fresh =
      sym (unchanged t.value.position (stopped (line ∷ lines) t) h)
  by_position line lines t h more (Draw head) =
      sym (unchanged t.value.position (stopped (line ∷ lines) t) h)
  by_position line lines t h more Line =
      let a = answer game line t.value.state in
      answered a.value.position a.value.state lines t.value.draws t.events a.events
      (more a.value.position a.value.state t.value.draws)
  by_position line lines t h more (Over ending) =
      sym (unchanged t.value.position (stopped (line ∷ lines) t) h)

  -- what is done up to the prompt never stops where a round begins
  never_fresh : PlayStops → (p : Position) (s : State) (draws : List ℕ)
      → (advance game p s draws).value.position ≢ Fresh
  unfolding go
  never_fresh law p s draws = law game p s [] draws

  rounds : PlayStops → (lines : List (List ℕ)) (p : Position) (s : State) (draws : List ℕ)
      → IsRounds p s lines draws
  unfolding go round
  rounds law [] p s draws = sym (unchanged (advance game p s draws).value.position
      (stopped [] (advance game p s draws)) (never_fresh law p s draws))
  rounds law (line ∷ lines) p s draws = by_position line lines (advance game p s draws)
      (never_fresh law p s draws) (rounds law lines) (advance game p s draws).value.position

pub plays_are_rounds : PlayStops → PlaysAreRounds
plays_are_rounds law game position s lines draws = rounds game law lines position s draws
