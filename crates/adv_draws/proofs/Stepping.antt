-- How the runs of a text are walked, from space to space.
use Rattle.std.proofs.Common.{◌≡◌, ℕ, suc, ◌+◌, ◌<◌, ◌≤◌, Bool, true, false, ◌&&◌, List, [], ◌∷◌, ◌++◌, length, drop, get_or, Some, None, Result, Ok, Err, append_assoc, length-drop, refl, ap, sym, ◌∙◌, arith}
use Rattle.std.specs.List.{list_all}
use Rattle.std.proofs.lemmas.Bool.{and_from}
use Rattle.std.proofs.lemmas.List.{drop_more, drop-drop, at_drop_all, append-nil}
use Rattle.std.proofs.lemmas.List.Folds.{length-prefix_len, list_all-append}
use Rattle.std.proofs.lemmas.List.Sums.{prefix_len-le-length}
use Rattle.adv_io.specs.Text.{is_whitespace}
use Rattle.adv_draws.specs.Run.{is_solid, is_draw, AllDraws, draw_of, first_run, runs_after}
use Rattle.adv_draws.specs.Listed.{with_draw, followed_by, draws_of}
use Rattle.adv_draws.proofs.RunLemmas.{solid_first, space_first}

-- the rest of the runs past a run of this length
abbrev past : ℕ → ℕ → List ℕ → Type 0
past before offset text = runs_after before offset text ≡ runs_after 32 (offset + length (first_run text) + 1) (drop (length (first_run text) + 1) text)

-- all whitespace part alike
pub runs_after-space : (space offset : ℕ) (text : List ℕ) → is_whitespace space ≡ true → runs_after space offset text ≡ runs_after 32 offset text
runs_after-space space offset [] parts = refl
runs_after-space space offset (byte ∷ text) parts = rw parts

past-space : (before offset byte : ℕ) (text : List ℕ) → is_whitespace before ≡ false → is_whitespace byte ≡ true → past before offset (byte ∷ text)
past-space before offset byte text inside parts =
    let place : offset + 1 ≡ offset + 0 + 1 = omega arith in
    let here : runs_after before offset (byte ∷ text) ≡ runs_after byte (offset + 1) text = rw inside in
    here
    ∙ runs_after-space byte (offset + 1) text parts
    ∙ ap (λ at. runs_after 32 at text) place
    ∙ ap (λ run. runs_after 32 (offset + length run + 1) (drop (length run + 1) (byte ∷ text))) (sym (space_first byte text parts))

past-solid : (before offset byte : ℕ) (text : List ℕ) → is_whitespace before ≡ false → is_whitespace byte ≡ false → past byte (offset + 1) text → past before offset (byte ∷ text)
past-solid before offset byte text inside solid further =
    let place : offset + 1 + length (first_run text) + 1 ≡ offset + suc (length (first_run text)) + 1 = omega arith in
    let size : suc (length (first_run text) + 1) ≡ suc (length (first_run text)) + 1 = omega arith in
    let here : runs_after before offset (byte ∷ text) ≡ runs_after byte (offset + 1) text = rw inside in
    here
    ∙ further
    ∙ ap (λ at. runs_after 32 at (drop (length (first_run text) + 1) text)) place
    ∙ ap (λ count. runs_after 32 (offset + suc (length (first_run text)) + 1) (drop count (byte ∷ text))) size
    ∙ ap (λ run. runs_after 32 (offset + length run + 1) (drop (length run + 1) (byte ∷ text))) (sym (solid_first byte text solid))

past-byte : (before offset byte : ℕ) (text : List ℕ) (space : Bool) → is_whitespace byte ≡ space → is_whitespace before ≡ false → (is_whitespace byte ≡ false → past byte (offset + 1) text) → past before offset (byte ∷ text)
past-byte before offset byte text true parts inside further = past-space before offset byte text inside parts
past-byte before offset byte text false solid inside further = past-solid before offset byte text inside solid (further solid)

-- inside a run none begins, and what stands after it is a byte of whitespace or the end
past-run : (before offset : ℕ) (text : List ℕ) → is_whitespace before ≡ false → past before offset text
past-run before offset [] inside = refl
past-run before offset (byte ∷ text) inside = past-byte before offset byte text (is_whitespace byte) refl inside (past-run byte (offset + 1) text)

-- a byte of whitespace begins no run
pub space_step : (offset : ℕ) (bytes : List ℕ) → offset < length bytes → is_whitespace (get_or bytes offset 0) ≡ true
    → runs_after 32 offset (drop offset bytes) ≡ runs_after 32 (offset + 1) (drop (offset + 1) bytes)
space_step offset bytes within parts =
    let here : runs_after 32 offset (get_or bytes offset 0 ∷ drop (offset + 1) bytes) ≡ runs_after (get_or bytes offset 0) (offset + 1) (drop (offset + 1) bytes) = rw parts in
    ap (runs_after 32 offset) (drop_more bytes offset 0 within)
    ∙ here
    ∙ runs_after-space (get_or bytes offset 0) (offset + 1) (drop (offset + 1) bytes) parts

-- a run that begins here gives its draw, and the rest stands past it and one byte more
first_step : (offset byte draw size : ℕ) (text : List ℕ) → is_whitespace byte ≡ false → draw_of (first_run (byte ∷ text)) ≡ Some draw → length (first_run (byte ∷ text)) ≡ size
    → draws_of (runs_after 32 offset (byte ∷ text)) ≡ followed_by (draw ∷ []) (draws_of (runs_after 32 (offset + (size + 1)) (drop (size + 1) (byte ∷ text))))
first_step offset byte draw size text solid drawn sized =
    let counted : suc (length (first_run text)) ≡ size = sym (ap length (solid_first byte text solid)) ∙ sized in
    let place : offset + 1 + length (first_run text) + 1 ≡ offset + (size + 1) = omega (arith, counted) in
    let rest : suc (length (first_run text) + 1) ≡ size + 1 = omega (arith, counted) in
    let here : draws_of (runs_after 32 offset (byte ∷ text)) ≡ with_draw (draw_of (first_run (byte ∷ text))) offset (draws_of (runs_after byte (offset + 1) text)) = rw solid in
    here
    ∙ ap (λ read. with_draw read offset (draws_of (runs_after byte (offset + 1) text))) drawn
    ∙ ap (λ runs. followed_by (draw ∷ []) (draws_of runs)) (past-run byte (offset + 1) text solid)
    ∙ ap (λ at. followed_by (draw ∷ []) (draws_of (runs_after 32 at (drop (length (first_run text) + 1) text)))) place
    ∙ ap (λ count. followed_by (draw ∷ []) (draws_of (runs_after 32 (offset + (size + 1)) (drop count (byte ∷ text))))) rest

-- the same further on in a text
pub draw_step : (offset draw size : ℕ) (bytes : List ℕ) → offset < length bytes → is_whitespace (get_or bytes offset 0) ≡ false → draw_of (first_run (drop offset bytes)) ≡ Some draw → length (first_run (drop offset bytes)) ≡ size
    → draws_of (runs_after 32 offset (drop offset bytes)) ≡ followed_by (draw ∷ []) (draws_of (runs_after 32 (offset + (size + 1)) (drop (offset + (size + 1)) bytes)))
draw_step offset draw size bytes within solid drawn sized =
    let here = drop_more bytes offset 0 within in
    ap (λ text. draws_of (runs_after 32 offset text)) here
    ∙ first_step offset (get_or bytes offset 0) draw size (drop (offset + 1) bytes) solid (ap (λ text. draw_of (first_run text)) (sym here) ∙ drawn) (ap (λ text. length (first_run text)) (sym here) ∙ sized)
    ∙ ap (λ text. followed_by (draw ∷ []) (draws_of (runs_after 32 (offset + (size + 1)) (drop (size + 1) text)))) (sym here)
    ∙ ap (λ text. followed_by (draw ∷ []) (draws_of (runs_after 32 (offset + (size + 1)) text))) (drop-drop (size + 1) offset bytes)

-- a run that begins here and gives no draw is the fault
pub fault_step : (offset : ℕ) (bytes : List ℕ) → offset < length bytes → is_whitespace (get_or bytes offset 0) ≡ false → draw_of (first_run (drop offset bytes)) ≡ None → draws_of (runs_after 32 offset (drop offset bytes)) ≡ Err offset
fault_step offset bytes within solid none =
    let byte : ℕ = get_or bytes offset 0 in
    let rest : List ℕ = drop (offset + 1) bytes in
    let here = drop_more bytes offset 0 within in
    let begins : draws_of (runs_after 32 offset (byte ∷ rest)) ≡ with_draw (draw_of (first_run (byte ∷ rest))) offset (draws_of (runs_after byte (offset + 1) rest)) = rw solid in
    ap (λ text. draws_of (runs_after 32 offset text)) here
    ∙ begins
    ∙ ap (λ read. with_draw read offset (draws_of (runs_after byte (offset + 1) rest))) (sym (ap (λ text. draw_of (first_run text)) here) ∙ none)

-- no draws before draws
pub followed_by-none : (rest : Result (List ℕ) ℕ) → followed_by [] rest ≡ rest
followed_by-none (Ok others) = refl
followed_by-none (Err at) = refl

-- at the end of a text no more draws follow
pub end_step : (offset : ℕ) (draws bytes : List ℕ) → length bytes ≤ offset → followed_by draws (draws_of (runs_after 32 offset (drop offset bytes))) ≡ Ok draws
end_step offset draws bytes past =
    at_drop_all (λ text. followed_by draws (draws_of (runs_after 32 offset text))) bytes offset past ∙ ap Ok (append-nil draws)

-- one more draw after draws
pub AllDraws-more : (draws : List ℕ) (draw : ℕ) → AllDraws draws → is_draw draw ≡ true → AllDraws (draws ++ draw ∷ [])
AllDraws-more draws draw all drawn =
    list_all-append is_draw draws (draw ∷ []) ∙ and_from (list_all is_draw draws) (is_draw draw && true) all (and_from (is_draw draw) true drawn refl)

-- draws before draws
pub followed_by-one : (draws : List ℕ) (draw : ℕ) (rest : Result (List ℕ) ℕ) → followed_by draws (followed_by (draw ∷ []) rest) ≡ followed_by (draws ++ draw ∷ []) rest
followed_by-one draws draw (Ok others) = rw append_assoc refl
followed_by-one draws draw (Err at) = refl

-- a run ends within its text
pub first_run-within : (offset size : ℕ) (bytes : List ℕ) → offset < length bytes → length (first_run (drop offset bytes)) ≡ size → offset + (size + 1) ≤ length bytes + 1
first_run-within offset size bytes within sized = omega (arith, sized, length-prefix_len is_solid (drop offset bytes), prefix_len-le-length is_solid (drop offset bytes), length-drop offset bytes)
