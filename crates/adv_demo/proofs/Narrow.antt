-- No number of a made game is too wide for words of 16 bits.
use Rattle.std.proofs.Common.{◌≡◌, ◌∙◌, ℕ, zero, suc, ◌+◌, ◌*◌, ◌/◌, ◌<◌, ◌≤◌, Bool, false, cond, pos, List, [], ◌∷◌, ◌++◌, map, length, leb, find, Some, None, refl, ap, arith, div-le_self}
use Rattle.std.specs.List.{AllByRecursion, range_with_len}
use Rattle.std.proofs.Math.Nat.{mod-lt}
use Rattle.std.proofs.lemmas.Bool.{leb-true}
use Rattle.std.proofs.lemmas.Int.{ints}
use Rattle.std.proofs.lemmas.List.FromFn.{length-map-range_with_len}
use Rattle.std.proofs.lemmas.List.Sums.{AllPass-from_list_all, count_by-le-length}
use Rattle.rand_pcg.specs.Lcg.{Lcg}
use Rattle.rand_pcg.specs.Pcg.{pcg32}
use Rattle.inform_tree.specs.declared.widths.Width.TheVariants.{W16}
use Rattle.scott_types.specs.declared.parts.Action.{Action}
use Rattle.scott_types.specs.declared.parts.Item.{Item}
use Rattle.scott_types.specs.ItemText.{is_treasure}
use Rattle.trans_specs.specs.declared.places.Place.{Place}
use Rattle.trans_specs.specs.declared.places.Place.TheVariants.{Carry, Treasures, Light, Home, Verb, Condition, Opcode}
use Rattle.trans_specs.specs.Wide.{Placed, placed_header, placed_action, placed_actions, placed_numbers, is_too_wide}
use Rattle.adv_gen.specs.declared.actions.Kind.{Kind}
use Rattle.adv_gen.specs.declared.actions.Kind.TheVariants.{Automatic, ForNoun, Tail, ForVerb}
use Rattle.adv_gen.specs.Picks.{after, pick, picks_before}
use Rattle.adv_gen.specs.Items.{items}
use Rattle.adv_gen.specs.Actions.{kind_of, vocabulary, vocabulary_picks, condition, parameter, made_opcodes, opcode, last_opcode, action_of, action_picks, actions}
use Rattle.adv_gen.specs.Made.{at_items, at_actions, treasures_in, header, database}
use Rattle.adv_demo.specs.Laws.{MadeGamesAreNarrow}

-- ---- lists

-- none of these is too wide
abbrev NoneWide : List Placed → Type 0
NoneWide xs = AllByRecursion (λ x. is_too_wide W16 x ≡ false) xs

found_none : (xs : List Placed) → NoneWide xs → find (is_too_wide W16) xs ≡ None
found_none [] h = refl
found_none (x ∷ xs) h = ap (λ (b : Bool). cond b (Some x) (find (is_too_wide W16) xs)) h.0
    ∙ found_none xs h.1

both : (xs ys : List Placed) → NoneWide xs → NoneWide ys → NoneWide (xs ++ ys)
both [] ys h k = k
both (x ∷ xs) ys h k = (h.0, both xs ys h.1 k)

-- ---- numbers

number_fits : (place : Place) (n : ℕ) → n ≤ 32767 → is_too_wide W16 (place, pos n) ≡ false
number_fits place n few = grind (arith, ints, few)

part_fits : (place : Place) (n k : ℕ) → n ≤ 32767 → is_too_wide W16 (place, pos (n / k)) ≡ false
part_fits place n k few =
    let less = div-le_self n k in number_fits place (n / k) (omega (arith, less, few))

-- ---- picks

pick-below : (g : Lcg) (place bound : ℕ) → 0 < bound → pick g place bound < bound
unfolding pick
pick-below g place bound some = mod-lt (pcg32 (after place g)).0 some

vocabulary-small : (kind : Kind) (size : ℕ) (g : Lcg) → size ≤ 120
    → vocabulary kind size g ≤ 32767
vocabulary-small Automatic size g few = let below = pick-below g 0 100 (omega arith) in omega arith
vocabulary-small ForNoun size g few =
    let below = pick-below g 0 (size + 36) (omega arith) in
    omega arith
vocabulary-small ForVerb size g few = let below = pick-below g 0 (size + 35) (omega arith) in
    omega arith
vocabulary-small Tail size g few = omega arith

condition-small : (g : Lcg) (place : ℕ) → condition g place ≤ 32767
unfolding condition
condition-small g place =
    let argument = pick-below g place 16 (omega arith) in
    let code = pick-below g (place + 1) 20 (omega arith) in
    omega arith

parameter-small : (g : Lcg) (place : ℕ) → parameter g place ≤ 32767
unfolding parameter
parameter-small g place = let argument = pick-below g place 16 (omega arith) in omega arith

is_small : ℕ → Bool
is_small n = leb n 86

opcode-small : (g : Lcg) (place : ℕ) → opcode g place ≤ 86
unfolding opcode is_small
opcode-small g place =
    let there = pick-below g place 16 (omega arith) in
    leb-true _ 86 (AllPass-from_list_all is_small made_opcodes refl (pick g place 16) 0 there)

last_opcode-small : (kind : Kind) → last_opcode kind ≤ 73
last_opcode-small Automatic = omega arith
last_opcode-small ForNoun = omega arith
last_opcode-small ForVerb = omega arith
last_opcode-small Tail = omega arith

-- ---- actions

-- no number of an action that is made is too wide for words of 16 bits
action_fits : (k : ℕ) (kind : Kind) (size : ℕ) (g : Lcg) → size ≤ 120
    → NoneWide (placed_action k (action_of kind size g))
action_fits k kind size g few =
    let from = after (vocabulary_picks kind) g in
    let opcodes = after (vocabulary_picks kind + 7) g in
    let first = opcode-small opcodes 0 in
    let second = opcode-small opcodes 1 in
    let third = opcode-small opcodes 2 in
    let last = last_opcode-small kind in (
      part_fits (Verb k) (vocabulary kind size g) 150 (vocabulary-small kind size g few),
      (
        part_fits (Condition k 1) (condition from 0) 20 (condition-small from 0),
        (
          part_fits (Condition k 2) (condition from 2) 20 (condition-small from 2),
          (
            part_fits (Condition k 3) (parameter from 4) 20 (parameter-small from 4),
            (
              part_fits (Condition k 4) (parameter from 5) 20 (parameter-small from 5),
              (
                part_fits (Condition k 5) (parameter from 6) 20 (parameter-small from 6),
                (
                  part_fits (Opcode k 1) (150 * opcode opcodes 0 + opcode opcodes 1) 150
                      (omega arith),
                  (
                    part_fits (Opcode k 3) (150 * opcode opcodes 2 + last_opcode kind) 150
                        (omega arith),
                    tt,
                  ),
                ),
              ),
            ),
          ),
        ),
      ),
    )

-- each of these actions is fine, whatever its number
actions_fit : (part : ℕ → Action) (a n k : ℕ)
    → ((j number : ℕ) → NoneWide (placed_action j (part number)))
    → NoneWide (placed_actions k (map part (range_with_len a n)))
actions_fit part a zero k h = tt
actions_fit part a (suc n) k h =
    both (placed_action k (part a)) (placed_actions (k + 1) (map part (range_with_len (a + 1) n)))
    (h k a) (actions_fit part (a + 1) n (k + 1) h)

-- ---- the header

header_fits : (xs : List Item) → length xs ≤ 240 → NoneWide (placed_header (header xs))
header_fits xs few =
    let count = count_by-le-length (λ (i : Item). is_treasure i.text) xs in (
      number_fits Carry 6 (omega arith),
      (
        number_fits Treasures (treasures_in xs) (omega arith),
        (number_fits Light 125 (omega arith), (number_fits Home 1 (omega arith), tt)),
      ),
    )

-- ---- the whole

pub made_games_are_narrow : MadeGamesAreNarrow
made_games_are_narrow n some few =
    let sized : length (items n (at_items n)) ≡ 2 * n = length-map-range_with_len _ 0 (2 * n) in
    found_none (placed_numbers (database n))
    (both (placed_header (header (items n (at_items n))))
    (placed_actions 0 (actions n (at_actions n)))
    (header_fits (items n (at_items n)) (omega (arith, sized, few)))
    (actions_fit _ 0 (5 * n + 5) 0 (λ j k. action_fits j (kind_of k) n
    (after (picks_before action_picks k) (at_actions n)) few)))
