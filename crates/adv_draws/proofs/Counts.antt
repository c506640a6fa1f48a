-- How many draws a text can list.
use Rattle.std.proofs.Common.{◌≡◌, ℕ, suc, ◌+◌, ◌*◌, ◌≤◌, Bool, true, false, ◌&&◌, not, cond, List, [], ◌∷◌, length, Option, Some, None, Result, Ok, Err, refl, ap, arith}
use Rattle.std.specs.List.{take_while}
use Rattle.adv_io.specs.Text.{is_whitespace}
use Rattle.adv_draws.specs.Run.{Run, is_solid, draw_of, runs_after, runs_of}
use Rattle.adv_draws.specs.Listed.{with_draw, draws_of, listed_draws}

-- a run that begins here needs a byte of whitespace before it
one_run : (after space : Bool) (run : Run) (runs : List Run) (count : ℕ) → 2 * length runs ≤ count + cond space 1 0 → 2 * length (cond (after && not space) (run ∷ runs) runs) ≤ suc count + cond after 1 0
one_run true true run runs count bound = omega arith
one_run true false run runs count bound = omega arith
one_run false true run runs count bound = omega arith
one_run false false run runs count bound = omega arith

-- between two runs stands a byte of whitespace
length-runs_after : (before offset : ℕ) (text : List ℕ) → 2 * length (runs_after before offset text) ≤ length text + cond (is_whitespace before) 1 0
length-runs_after before offset [] = omega arith
length-runs_after before offset (byte ∷ text) =
    one_run (is_whitespace before) (is_whitespace byte) (record { offset = offset; bytes = take_while is_solid (byte ∷ text) })
    (runs_after byte (offset + 1) text) (length text) (length-runs_after byte (offset + 1) text)

-- a run's draw is one more
one_draw : (draw : Option ℕ) (offset : ℕ) (rest : Result (List ℕ) ℕ) (count : ℕ) (draws : List ℕ) → ((others : List ℕ) → rest ≡ Ok others → length others ≡ count) → with_draw draw offset rest ≡ Ok draws → length draws ≡ suc count
one_draw (Some draw) offset (Ok others) count draws more is =
    let same : draws ≡ draw ∷ others = cc in
    rw same (ap suc (more others refl))
one_draw (Some draw) offset (Err at) count draws more is = cc
one_draw None offset rest count draws more is = cc

-- each run gives one draw
length-draws_of : (runs : List Run) (draws : List ℕ) → draws_of runs ≡ Ok draws → length draws ≡ length runs
length-draws_of [] draws is =
    let same : draws ≡ [] = cc in
    rw same refl
length-draws_of (run ∷ runs) draws is =
    one_draw (draw_of run.bytes) run.offset (draws_of runs) (length runs) draws (length-draws_of runs) is

-- a text lists at most one draw for every two bytes, and one more
pub length-listed_draws : (text draws : List ℕ) → listed_draws text ≡ Ok draws → 2 * length draws ≤ length text + 1
length-listed_draws text draws is =
    let same = length-draws_of (runs_of text) draws is in
    let between = length-runs_after 32 0 text in
    omega arith
