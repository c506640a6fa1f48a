-- The laws of lists of draws, by induction over their bytes.
use Rattle.std.proofs.Common.{◌≡◌, ℕ, suc, ◌+◌, Bool, true, false, ◌&&◌, cond, List, [], ◌∷◌, ◌++◌, length, Option, Some, None, Result, Ok, Err, refl, ap, sym, ◌∙◌, arith}
use Rattle.std.specs.List.{list_all, take_while}
use Rattle.std.proofs.lemmas.Bool.{and_parts, not-true}
use Rattle.std.proofs.lemmas.List.Sums.{take_while-cons}
use Rattle.adv_io.specs.Text.{is_whitespace}
use Rattle.adv_draws.specs.Run.{Run, is_solid, draw_of, runs_after}
use Rattle.adv_draws.specs.Listed.{with_draw, draws_of, listed_draws}
use Rattle.adv_draws.specs.Laws.{moved_by, joined_with, RunAlone, SpaceBetween}
use Rattle.adv_draws.proofs.RunLemmas.{solid_first, space_first}
use Rattle.adv_draws.proofs.Stepping.{runs_after-space}

-- no run begins at a byte of whitespace
no_more : (test : Bool) (run : Run) (runs : List Run) → cond (test && false) (run ∷ runs) runs ≡ runs
no_more true run runs = refl
no_more false run runs = refl

-- a run ends at a byte of whitespace
take_while-joined : (first second : List ℕ) (space : ℕ) → is_whitespace space ≡ true → take_while is_solid (first ++ space ∷ second) ≡ take_while is_solid first
take_while-joined [] second space parts = space_first space second parts
take_while-joined (byte ∷ first) second space parts =
    take_while-cons is_solid byte (first ++ space ∷ second)
    ∙ ap (λ rest. cond (is_solid byte) (byte ∷ rest) []) (take_while-joined first second space parts)
    ∙ sym (take_while-cons is_solid byte first)

cond-append : (test : Bool) (run : Run) (runs others : List Run) → cond test (run ∷ (runs ++ others)) (runs ++ others) ≡ cond test (run ∷ runs) runs ++ others
cond-append true run runs others = refl
cond-append false run runs others = refl

-- the runs of two texts with a byte of whitespace between them
runs_after-joined : (before offset : ℕ) (first second : List ℕ) (space : ℕ) → is_whitespace space ≡ true → runs_after before offset (first ++ space ∷ second) ≡ runs_after before offset first ++ runs_after space (offset + length first + 1) second
runs_after-joined before offset [] second space parts =
    let none : runs_after before offset (space ∷ second) ≡ runs_after space (offset + 1) second =
    rw parts (no_more (is_whitespace before) (record { offset = offset; bytes = [] }) (runs_after space (offset + 1) second)) in
    let place : offset + 1 ≡ offset + 0 + 1 = omega arith in
    none ∙ ap (λ at. runs_after space at second) place
runs_after-joined before offset (byte ∷ first) second space parts =
    let place : offset + 1 + length first + 1 ≡ offset + suc (length first) + 1 = omega arith in
    let rest = runs_after-joined byte (offset + 1) first second space parts ∙ ap (λ at. runs_after byte (offset + 1) first ++ runs_after space at second) place in
    ap (λ bytes. cond (is_whitespace before && is_solid byte) (record { offset = offset; bytes = bytes } ∷ runs_after byte (offset + 1) (first ++ space ∷ second)) (runs_after byte (offset + 1) (first ++ space ∷ second))) (take_while-joined (byte ∷ first) second space parts)
    ∙ ap (λ runs. cond (is_whitespace before && is_solid byte) (record { offset = offset; bytes = take_while is_solid (byte ∷ first) } ∷ runs) runs) rest
    ∙ cond-append (is_whitespace before && is_solid byte) (record { offset = offset; bytes = take_while is_solid (byte ∷ first) }) (runs_after byte (offset + 1) first) (runs_after space (offset + suc (length first) + 1) second)

moved_by-with_draw : (distance : ℕ) (draw : Option ℕ) (offset : ℕ) (rest : Result (List ℕ) ℕ) → with_draw draw (distance + offset) (moved_by distance rest) ≡ moved_by distance (with_draw draw offset rest)
moved_by-with_draw distance (Some draw) offset (Ok draws) = refl
moved_by-with_draw distance (Some draw) offset (Err at) = refl
moved_by-with_draw distance None offset rest = refl

moved_run : (test : Bool) (distance offset : ℕ) (bytes : List ℕ) (runs others : List Run) → draws_of others ≡ moved_by distance (draws_of runs) → draws_of (cond test (record { offset = distance + offset; bytes = bytes } ∷ others) others) ≡ moved_by distance (draws_of (cond test (record { offset = offset; bytes = bytes } ∷ runs) runs))
moved_run true distance offset bytes runs others same =
    ap (with_draw (draw_of bytes) (distance + offset)) same ∙ moved_by-with_draw distance (draw_of bytes) offset (draws_of runs)
moved_run false distance offset bytes runs others same = same

-- a text further on lists the same, with its fault further on
draws_of-moved : (before distance offset : ℕ) (text : List ℕ) → draws_of (runs_after before (distance + offset) text) ≡ moved_by distance (draws_of (runs_after before offset text))
draws_of-moved before distance offset [] = refl
draws_of-moved before distance offset (byte ∷ text) =
    let place : distance + offset + 1 ≡ distance + (offset + 1) = omega arith in
    moved_run (is_whitespace before && is_solid byte) distance offset (take_while is_solid (byte ∷ text)) (runs_after byte (offset + 1) text) (runs_after byte (distance + offset + 1) text)
    (ap (λ at. draws_of (runs_after byte at text)) place ∙ draws_of-moved byte distance (offset + 1) text)

-- draws, then others
joined_with-with_draw : (draw : Option ℕ) (offset : ℕ) (first second : Result (List ℕ) ℕ) → with_draw draw offset (joined_with first second) ≡ joined_with (with_draw draw offset first) second
joined_with-with_draw (Some draw) offset (Ok draws) (Ok others) = refl
joined_with-with_draw (Some draw) offset (Ok draws) (Err at) = refl
joined_with-with_draw (Some draw) offset (Err at) second = refl
joined_with-with_draw None offset first second = refl

joined_with-none : (second : Result (List ℕ) ℕ) → second ≡ joined_with (Ok []) second
joined_with-none (Ok others) = refl
joined_with-none (Err at) = refl

draws_of-append : (runs others : List Run) → draws_of (runs ++ others) ≡ joined_with (draws_of runs) (draws_of others)
draws_of-append [] others = joined_with-none (draws_of others)
draws_of-append (run ∷ runs) others =
    ap (with_draw (draw_of run.bytes) run.offset) (draws_of-append runs others)
    ∙ joined_with-with_draw (draw_of run.bytes) run.offset (draws_of runs) (draws_of others)

pub space_between : SpaceBetween
space_between first second space parts =
    let place : 0 + length first + 1 ≡ length first + 1 + 0 = omega arith in
    ap draws_of (runs_after-joined 32 0 first second space parts)
    ∙ draws_of-append (runs_after 32 0 first) (runs_after space (0 + length first + 1) second)
    ∙ ap (λ runs. joined_with (listed_draws first) (draws_of runs)) (ap (λ at. runs_after space at second) place ∙ runs_after-space space (length first + 1 + 0) second parts)
    ∙ ap (joined_with (listed_draws first)) (draws_of-moved 32 (length first + 1) 0 second)

-- a run has no end of its own
take_while-solid : (run : List ℕ) → list_all is_solid run ≡ true → take_while is_solid run ≡ run
take_while-solid [] solid = refl
take_while-solid (byte ∷ run) solid =
    solid_first byte run (not-true (is_whitespace byte) (and_parts (is_solid byte) (list_all is_solid run) solid).0)
    ∙ ap (λ rest. byte ∷ rest) (take_while-solid run (and_parts (is_solid byte) (list_all is_solid run) solid).1)

-- inside a run none begins
runs_after-inside : (before offset : ℕ) (run : List ℕ) → is_whitespace before ≡ false → list_all is_solid run ≡ true → runs_after before offset run ≡ []
runs_after-inside before offset [] inside solid = refl
runs_after-inside before offset (byte ∷ run) inside solid =
    rw inside
    (runs_after-inside byte (offset + 1) run (not-true (is_whitespace byte) (and_parts (is_solid byte) (list_all is_solid run) solid).0) (and_parts (is_solid byte) (list_all is_solid run) solid).1)

pub run_alone : RunAlone
run_alone byte run solid =
    let begins : is_whitespace byte ≡ false = not-true (is_whitespace byte) (and_parts (is_solid byte) (list_all is_solid run) solid).0 in
    let whole = take_while-solid (byte ∷ run) solid in
    let after = runs_after-inside byte 1 run begins (and_parts (is_solid byte) (list_all is_solid run) solid).1 in
    let one : listed_draws (byte ∷ run) ≡ with_draw (draw_of (take_while is_solid (byte ∷ run))) 0 (draws_of (runs_after byte 1 run)) = rw begins in
    one
    ∙ ap (λ bytes. with_draw (draw_of bytes) 0 (draws_of (runs_after byte 1 run))) whole
    ∙ ap (λ runs. with_draw (draw_of (byte ∷ run)) 0 (draws_of runs)) after
