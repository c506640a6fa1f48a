-- No number of a database is too wide for words of 32 bits.
use Rattle.std.proofs.Common.{◌≡◌, ◌∙◌, arith, ℕ, ◌+◌, ◌/◌, ◌≤◌, ℤ, pos, nat_le, ◌==◌, Bool, true, false, ◌&&◌, cond, List, [], ◌∷◌, ◌++◌, length, find, Some, None, refl, ap, div-le_self}
use Rattle.std.specs.List.{AllByRecursion, list_all}
use Rattle.std.proofs.lemmas.Bool.{and_parts}
use Rattle.std.proofs.lemmas.Int.{ints}
use Rattle.inform_tree.specs.declared.widths.Width.TheVariants.{W32}
use Rattle.scott_types.specs.declared.parts.Action.{Action}
use Rattle.scott_types.specs.declared.parts.Header.{Header}
use Rattle.scott_types.specs.Limits.{is_number, is_natural, is_action, are_header_numbers}
use Rattle.trans_specs.specs.declared.places.Place.{Place}
use Rattle.trans_specs.specs.declared.places.Place.TheVariants.{Carry, Treasures, Light, Home, Verb, Condition, Opcode}
use Rattle.trans_specs.specs.Wide.{Placed, placed_header, placed_conditions, placed_opcodes, placed_action, placed_actions, placed_numbers, is_too_wide}
use Rattle.trans_specs.specs.Laws.{NoneWideAt32}

-- none of these is too wide
abbrev NoneWide : List Placed → Type 0
NoneWide xs = AllByRecursion (λ x. is_too_wide W32 x ≡ false) xs

found_none : (xs : List Placed) → NoneWide xs → find (is_too_wide W32) xs ≡ None
found_none [] h = refl
found_none (x ∷ xs) h = ap (λ (b : Bool). cond b (Some x) (find (is_too_wide W32) xs)) h.0
    ∙ found_none xs h.1

both : (xs ys : List Placed) → NoneWide xs → NoneWide ys → NoneWide (xs ++ ys)
both [] ys h k = k
both (x ∷ xs) ys h k = (h.0, both xs ys h.1 k)

number_fits : (place : Place) (z : ℤ) → is_number z ≡ true → is_too_wide W32 (place, z) ≡ false
number_fits place z h = grind (arith, ints)

part_fits : (place : Place) (n k : ℕ) → is_natural n ≡ true
    → is_too_wide W32 (place, pos (n / k)) ≡ false
part_fits place n k h = fits (n / k) (less (n / k) (div-le_self n k) h) where
  less : (m : ℕ) → m ≤ n → nat_le n 2147483647 ≡ true → m ≤ 2147483647
  less m few h = grind (arith, few)

  fits : (m : ℕ) → m ≤ 2147483647 → is_too_wide W32 (place, pos m) ≡ false
  fits m few = grind (arith, ints, few)

conditions_fit : (k j : ℕ) (conds : List ℕ) → list_all is_natural conds ≡ true
    → NoneWide (placed_conditions k j conds)
conditions_fit k j [] h = tt
conditions_fit k j (packed ∷ rest) h = (
  part_fits (Condition k j) packed 20 (and_parts _ (list_all is_natural rest) h).0,
  conditions_fit k (j + 1) rest (and_parts (is_natural packed) _ h).1,
)

opcodes_fit : (k j : ℕ) (pairs : List ℕ) → list_all is_natural pairs ≡ true
    → NoneWide (placed_opcodes k j pairs)
opcodes_fit k j [] h = tt
opcodes_fit k j (pair ∷ rest) h = (
  part_fits (Opcode k j) pair 150 (and_parts _ (list_all is_natural rest) h).0,
  opcodes_fit k (j + 2) rest (and_parts (is_natural pair) _ h).1,
)

-- no number of a line is too wide
action_fits : (k : ℕ) (a : Action) → is_action a ≡ true → NoneWide (placed_action k a)
action_fits k a h = (
  part_fits (Verb k) a.vocab 150 vocab.0,
  both (placed_conditions k 1 a.conds) (placed_opcodes k 1 a.pairs)
      (conditions_fit k 1 a.conds conds.0) (opcodes_fit k 1 a.pairs pairs.1),
) where
  vocab : (is_natural a.vocab ≡ true) × ((length a.conds == 5 && (list_all is_natural a.conds
      && (length a.pairs == 2 && list_all is_natural a.pairs))) ≡ true)
  vocab = and_parts _ _ h

  conds : (list_all is_natural a.conds ≡ true)
      × ((length a.pairs == 2 && list_all is_natural a.pairs) ≡ true)
  conds = and_parts _ _ (and_parts (length a.conds == 5) _ vocab.1).1

  pairs : ((length a.pairs == 2) ≡ true) × (list_all is_natural a.pairs ≡ true)
  pairs = and_parts _ _ conds.1

actions_fit : (k : ℕ) (actions : List Action) → list_all is_action actions ≡ true
    → NoneWide (placed_actions k actions)
actions_fit k [] h = tt
actions_fit k (a ∷ rest) h = both (placed_action k a) (placed_actions (k + 1) rest)
    (action_fits k a (and_parts (is_action a) (list_all is_action rest) h).0)
    (actions_fit (k + 1) rest (and_parts (is_action a) (list_all is_action rest) h).1)

-- no number of a header is too wide
header_fits : (h : Header) → are_header_numbers h ≡ true → NoneWide ((Carry, h.carry)
    ∷ (Treasures, h.treasures) ∷ (Light, h.light) ∷ (Home, h.home) ∷ [])
header_fits h all = (
  number_fits Carry h.carry carry.0,
  (
    number_fits Treasures h.treasures treasures.0,
    (number_fits Light h.light light.0, (number_fits Home h.home home.0, tt)),
  ),
) where
  rest1 : list_all is_number (h.carry ∷ h.treasures ∷ h.light ∷ h.home ∷ []) ≡ true
  rest1 = (and_parts (is_number h.unused) _ all).1

  carry : (is_number h.carry ≡ true)
      × (list_all is_number (h.treasures ∷ h.light ∷ h.home ∷ []) ≡ true)
  carry = and_parts _ _ rest1

  treasures : (is_number h.treasures ≡ true)
      × (list_all is_number (h.light ∷ h.home ∷ []) ≡ true)
  treasures = and_parts _ _ carry.1

  light : (is_number h.light ≡ true) × (list_all is_number (h.home ∷ []) ≡ true)
  light = and_parts _ _ treasures.1

  home : (is_number h.home ≡ true) × (true ≡ true)
  home = and_parts _ true light.1

pub none_wide_at_32 : NoneWideAt32
none_wide_at_32 db limits = found_none (placed_numbers db)
    (both (placed_header db.header) (placed_actions 0 db.actions)
    (header_fits db.header limits.header.numbers)
    (actions_fit 0 db.actions limits.entries.actions))
