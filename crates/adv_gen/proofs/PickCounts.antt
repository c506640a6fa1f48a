-- How many picks the parts of a game take.
use Rattle.std.proofs.Common.{◌≡◌, ◌∙◌, ℕ, zero, suc, ◌+◌, ◌-◌, ◌*◌, ◌/◌, ◌%◌, ◌⊎◌, inl, inr, get_or, refl, sym, ap, arith}
use Rattle.std.proofs.lemmas.Bool.{cases_lt}
use Rattle.adv_gen.specs.declared.actions.Kind.TheVariants.{Tail}
use Rattle.adv_gen.specs.declared.typed_lines.Form.TheVariants.{VerbAndItem}
use Rattle.adv_gen.specs.Picks.{picks_before}
use Rattle.adv_gen.specs.Rooms.{room_picks}
use Rattle.adv_gen.specs.Items.{item_picks}
use Rattle.adv_gen.specs.Actions.{kinds, vocabulary_picks, action_picks}
use Rattle.adv_gen.specs.TypedLines.{forms, command_picks, line_picks}
use Rattle.adv_gen.specs.Laws.{PicksAreCounted}
use Rattle.adv_gen.proofs.Picking.{picks_before-more}
use Rattle.adv_gen.proofs.Words.{not_equal}

-- one part more
next : (picks : ℕ → ℕ) (k j count : ℕ) → j ≡ k + 1 → picks k ≡ count
    → picks_before picks j ≡ picks_before picks k + count
next picks k j count after_it is =
    ap (picks_before picks) after_it ∙ picks_before-more picks k
    ∙ ap (λ (n : ℕ). picks_before picks k + n) is

rooms_take : (k : ℕ) → picks_before room_picks k ≡ 6 * k
rooms_take zero = refl
rooms_take (suc k) =
    let more = next room_picks k (suc k) 6 (omega arith) refl in
    let before = rooms_take k in
    omega arith

items_take : (k : ℕ) → picks_before item_picks (10 + k) ≡ 9 + k
items_take zero = refl
items_take (suc k) =
    let one : item_picks (10 + k) ≡ 1 = rw (not_equal (10 + k) 9 (λ e. omega arith)) refl in
    let more = next item_picks (10 + k) (10 + suc k) 1 (omega arith) one in
    let before = items_take k in
    omega arith

-- ---- actions, five by five

action_takes : (k r : ℕ) → k % 5 ≡ r → action_picks k ≡ vocabulary_picks (get_or kinds r Tail) + 10
action_takes k r e = ap (λ (r : ℕ). vocabulary_picks (get_or kinds r Tail) + 10) e

-- every five actions take 54 picks
actions_take : (m : ℕ) → picks_before action_picks (5 * m) ≡ 54 * m
actions_take zero = refl
actions_take (suc m) =
    let k = 5 * m in
    let one = next action_picks k (k + 1) 11 (omega arith) (action_takes k 0 (omega arith)) in
    let two = next action_picks (k + 1) (k + 2) 12 (omega arith)
    (action_takes (k + 1) 1 (omega arith)) in
    let three = next action_picks (k + 2) (k + 3) 10 (omega arith)
    (action_takes (k + 2) 2 (omega arith)) in
    let four = next action_picks (k + 3) (k + 4) 11 (omega arith)
    (action_takes (k + 3) 3 (omega arith)) in
    let five = next action_picks (k + 4) (5 * suc m) 10 (omega arith)
    (action_takes (k + 4) 4 (omega arith)) in
    let before = actions_take m in
    omega arith

-- ---- lines, four by four

line_takes : (j r : ℕ) → j % 4 ≡ r → line_picks j ≡ command_picks (get_or forms r VerbAndItem)
line_takes j r e = ap (λ (r : ℕ). command_picks (get_or forms r VerbAndItem)) e

-- after two lines more

two_more : (q : ℕ) → picks_before line_picks (4 * q + 2) ≡ picks_before line_picks (4 * q) + 2
two_more q =
    let j = 4 * q in
    let one = next line_picks j (j + 1) 1 (omega arith) (line_takes j 0 (omega arith)) in
    let two = next line_picks (j + 1) (j + 2) 1 (omega arith)
    (line_takes (j + 1) 1 (omega arith)) in
    omega arith

-- after whole fours
lines_take : (q : ℕ) → picks_before line_picks (4 * q) ≡ 4 * q
lines_take zero = refl
lines_take (suc q) =
    let j = 4 * q in
    let two = two_more q in
    let three = next line_picks (j + 2) (j + 3) 0 (omega arith)
    (line_takes (j + 2) 2 (omega arith)) in
    let four = next line_picks (j + 3) (4 * suc q) 2 (omega arith)
    (line_takes (j + 3) 3 (omega arith)) in
    let before = lines_take q in
    omega arith

tens_take : (n q : ℕ) (whole : (10 * n ≡ 4 * q) ⊎ (10 * n ≡ 4 * q + 2))
    → picks_before line_picks (10 * n) ≡ 10 * n
tens_take n q (inl e) = ap (picks_before line_picks) e ∙ lines_take q ∙ sym e
tens_take n q (inr e) =
    let fours = lines_take q in
    let more = two_more q in
    ap (picks_before line_picks) e ∙ more ∙ ap (λ (k : ℕ). k + 2) fours ∙ sym e

whole_or_half : (n : ℕ) → (10 * n ≡ 4 * (10 * n / 4)) ⊎ (10 * n ≡ 4 * (10 * n / 4) + 2)
whole_or_half n = elim (cases_lt (10 * n % 4) 1) [
  | inl none ↦ inl (omega arith)
  | inr some ↦ inr
      (omega arith)
]

-- a game takes 72 picks for each unit of its size, and 59 more
pub picks_counted : PicksAreCounted
picks_counted size some =
    let rooms = rooms_take (size + 1) in
    let ten : 2 * size ≡ 10 + (2 * size - 10) = omega arith in
    let items : picks_before item_picks (2 * size) ≡ 9 + (2 * size - 10) =
    ap (picks_before item_picks) ten ∙ items_take (2 * size - 10) in
    let fives : 5 * size + 5 ≡ 5 * (size + 1) = omega arith in
    let actions : picks_before action_picks (5 * size + 5) ≡ 54 * (size + 1) =
    ap (picks_before action_picks) fives ∙ actions_take (size + 1) in
    let lines = tens_take size (10 * size / 4) (whole_or_half size) in
    omega arith
