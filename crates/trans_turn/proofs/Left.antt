-- What is left of the lines and draws after a round.
use Rattle.std.proofs.Common.{◌≡◌, ◌≢◌, arith, ℕ, ◌<◌, ◌≤◌, List, [], ◌∷◌, ◌++◌, length, sym, subst}
use Rattle.std.specs.List.{list_all, AllByRecursion}
use Rattle.std.proofs.lemmas.Bool.{and_parts}
use Rattle.adv_io.specs.TypedLine.{IsTyped}
use Rattle.adv_io.specs.Steps.{Step, Traced, trace_of}
use Rattle.adv_io.specs.History.{draws_taken}
use Rattle.adv_draws.specs.Run.{is_draw, AllDraws}
use Rattle.scott_types.specs.declared.states.State.{State}
use Rattle.scott_types.specs.declared.endings.Position.{Position}
use Rattle.scott_types.specs.declared.endings.Position.TheVariants.{Fresh, Draw, Line, Over}
use Rattle.scott_types.specs.Style.{Game}
use Rattle.scott_rules.specs.Rounds.{RoundEnd, advance, answer}
use Rattle.scott_rules.specs.Play.{PlayEnd, with_line, go}
use Rattle.scott_rules.specs.Laws.{PlayStops, PlaySpends}
use Rattle.trans_specs.specs.Rounds.{round_goes_on, round_done, round}

-- ---- lines

-- these are what is left of those: fewer, or as many, and typed where those are
pub record LinesLeft (lines left : List (List ℕ)) : Type 0 where
  pub few : length left ≤ length lines
  pub typed : AllByRecursion IsTyped lines → AllByRecursion IsTyped left

all_left : {lines : List (List ℕ)} → LinesLeft lines lines
all_left = record { few = omega arith; typed = λ all. all }

after_one : {line : List ℕ} {lines left : List (List ℕ)} → LinesLeft lines left
    → LinesLeft (line ∷ lines) left
after_one h = record { few = omega (arith, h.few); typed = λ all. h.typed all.1 }

module _ (game : Game) where
  -- after an answer
  pub answer_left : (p : Position) (s : State) (lines : List (List ℕ)) (ds : List ℕ)
      → LinesLeft lines (round game p s lines ds).value.lines
      → LinesLeft lines (round_goes_on p (round_done p s lines ds)
      (round game p s lines ds)).value.lines
  answer_left Fresh s lines ds h = all_left
  answer_left (Draw head) s lines ds h = h
  answer_left Line s lines ds h = h
  answer_left (Over ending) s lines ds h = h

  -- with a line to take, a round leaves no more lines than there were, and typed ones if all were
  by_position : (position : Position) (line : List ℕ) (lines : List (List ℕ))
      (t : Traced Step RoundEnd)
      → ((p : Position) (s : State) (ds : List ℕ)
      → LinesLeft lines (round game p s lines ds).value.lines)
      → LinesLeft (line ∷ lines) (with_line position game line lines t (λ p r ds.
      round_goes_on p (round_done p r lines ds) (round game p r lines ds))).value.lines
  by_position Fresh line lines t more = all_left
  by_position (Draw head) line lines t more = all_left
  by_position Line line lines t more = let a = answer game line t.value.state in
      after_one (answer_left a.value.position a.value.state lines t.value.draws
      (more a.value.position a.value.state t.value.draws))
  by_position (Over ending) line lines t more = all_left

  pub lines_left : (lines : List (List ℕ)) (p : Position) (s : State) (ds : List ℕ)
      → LinesLeft lines (round game p s lines ds).value.lines
  unfolding round
  lines_left [] p s ds = all_left
  lines_left (line ∷ lines) p s ds = let t = advance game p s ds in
      by_position t.value.position line lines t (lines_left lines)

  -- ---- a round that is done took a line

  -- what is done up to the prompt never stops where a round begins
  never_fresh : PlayStops → (p : Position) (s : State) (ds : List ℕ)
      → (advance game p s ds).value.position ≢ Fresh
  unfolding go
  never_fresh law p s ds = law game p s [] ds

  -- a round that is done has fewer lines left
  abbrev Took : List (List ℕ) → Traced Step PlayEnd → Type 0
  Took lines t = t.value.position ≡ Fresh → length t.value.lines < length lines

  took_after : (p : Position) (s : State) (line : List ℕ) (lines : List (List ℕ)) (ds : List ℕ)
      → Took lines (round game p s lines ds) → Took (line ∷ lines)
      (round_goes_on p (round_done p s lines ds) (round game p s lines ds))
  took_after Fresh s line lines ds h is = omega arith
  took_after (Draw head) s line lines ds h is = omega (arith, h is)
  took_after Line s line lines ds h is = omega (arith, h is)
  took_after (Over ending) s line lines ds h is = omega (arith, h is)

  -- with a line to take, a round after which another follows takes at least one
  took_at : (position : Position) (line : List ℕ) (lines : List (List ℕ)) (t : Traced Step RoundEnd)
      → t.value.position ≢ Fresh
      → ((p : Position) (s : State) (ds : List ℕ) → Took lines (round game p s lines ds))
      → Took (line ∷ lines) (with_line position game line lines t (λ p r ds.
      round_goes_on p (round_done p r lines ds) (round game p r lines ds)))
  took_at Fresh line lines t never more is = absurd (never is)
  took_at (Draw head) line lines t never more is = absurd (never is)
  took_at Line line lines t never more is = let a = answer game line t.value.state in
      took_after a.value.position a.value.state line lines t.value.draws
      (more a.value.position a.value.state t.value.draws) is
  took_at (Over ending) line lines t never more is = absurd (never is)

  pub line_is_taken : PlayStops → (lines : List (List ℕ)) (p : Position) (s : State) (ds : List ℕ)
      → Took lines (round game p s lines ds)
  unfolding round
  line_is_taken law [] p s ds is = absurd (never_fresh law p s ds is)
  line_is_taken law (line ∷ lines) p s ds is = let t = advance game p s ds in
      took_at t.value.position line lines t (never_fresh law p s ds) (line_is_taken law lines) is

  -- ---- draws

  later_draws : (before left : List ℕ) → AllDraws (before ++ left) → AllDraws left
  later_draws [] left all = all
  later_draws (draw ∷ before) left all =
      later_draws before left (and_parts (is_draw draw) (list_all is_draw (before ++ left)) all).1

  -- what is done up to the prompt leaves the last of the draws
  draws_advanced : PlaySpends → (p : Position) (s : State) (ds : List ℕ) → AllDraws ds
      → AllDraws (advance game p s ds).value.draws
  unfolding go
  draws_advanced law p s ds fair = let t = advance game p s ds in
      later_draws (draws_taken (trace_of t.events)) t.value.draws
      (subst AllDraws (sym (law game p s [] ds).draws_spent) fair)

  abbrev Fair : Traced Step PlayEnd → Type 0
  Fair t = AllDraws t.value.draws

  fair_after : (p : Position) (s : State) (lines : List (List ℕ)) (ds : List ℕ) → AllDraws ds
      → Fair (round game p s lines ds)
      → Fair (round_goes_on p (round_done p s lines ds) (round game p s lines ds))
  fair_after Fresh s lines ds fair h = fair
  fair_after (Draw head) s lines ds fair h = h
  fair_after Line s lines ds fair h = h
  fair_after (Over ending) s lines ds fair h = h

  -- with a line to take, the draws that are left after a round are draws still
  fair_at : (position : Position) (line : List ℕ) (lines : List (List ℕ)) (t : Traced Step RoundEnd)
      → AllDraws t.value.draws
      → ((p : Position) (s : State) (ds : List ℕ) → AllDraws ds → Fair (round game p s lines ds))
      → Fair (with_line position game line lines t (λ p r ds.
      round_goes_on p (round_done p r lines ds) (round game p r lines ds)))
  fair_at Fresh line lines t fair more = fair
  fair_at (Draw head) line lines t fair more = fair
  fair_at Line line lines t fair more = let a = answer game line t.value.state in
      fair_after a.value.position a.value.state lines t.value.draws fair
      (more a.value.position a.value.state t.value.draws fair)
  fair_at (Over ending) line lines t fair more = fair

  pub draws_left : PlaySpends → (lines : List (List ℕ)) (p : Position) (s : State) (ds : List ℕ)
      → AllDraws ds → Fair (round game p s lines ds)
  unfolding round
  draws_left law [] p s ds fair = draws_advanced law p s ds fair
  draws_left law (line ∷ lines) p s ds fair = let t = advance game p s ds in
      fair_at t.value.position line lines t (draws_advanced law p s ds fair)
      (draws_left law lines)
