-- Where no number of a database is too wide, the numbers of its lines are words.
use Rattle.std.proofs.Common.{◌≡◌, arith, ℕ, ◌+◌, ◌/◌, ◌%◌, ◌<◌, pos, Bool, true, false, not, cond, List, [], ◌∷◌, ◌++◌, find, Some, None, refl}
use Rattle.std.specs.Prelude.{flat_map}
use Rattle.std.specs.List.{AllByRecursion}
use Rattle.std.proofs.lemmas.Int.{ints}
use Rattle.inform_tree.specs.declared.widths.Width.{Width}
use Rattle.inform_tree.specs.declared.widths.Width.TheVariants.{W16, W32}
use Rattle.scott_types.specs.declared.parts.Action.{Action}
use Rattle.scott_types.specs.Action.{argument_of}
use Rattle.trans_specs.specs.Wide.{Placed, is_word_of, placed_header, placed_conditions, placed_opcodes, placed_action, placed_actions, is_too_wide}
use Rattle.trans_specs.specs.Laws.{HasWords, LinesHaveWords}
use Rattle.trans_specs.proofs.Lists.{of_first, of_rest}

none_found : {X : Type 0} (test : X → Bool) (xs : List X) → find test xs ≡ None
    → AllByRecursion (λ x. test x ≡ false) xs
none_found test [] h = tt
none_found {X} test (x ∷ xs) h = from (test x) refl h (none_found test xs) where
  from : (b : Bool) → test x ≡ b → cond b (Some x) (find test xs) ≡ None
      → (find test xs ≡ None → AllByRecursion (λ x. test x ≡ false) xs)
      → (test x ≡ false) × AllByRecursion (λ x. test x ≡ false) xs
  from true is h more = cc
  from false is h more = (is, more h)

module _ (width : Width) where
  abbrev NoneWide : List Placed → Type 0
  NoneWide xs = AllByRecursion (λ x. is_too_wide width x ≡ false) xs

  first_part : (xs ys : List Placed) → NoneWide (xs ++ ys) → NoneWide xs
  first_part = of_first (λ x. is_too_wide width x ≡ false)

  rest : (xs ys : List Placed) → NoneWide (xs ++ ys) → NoneWide ys
  rest = of_rest (λ x. is_too_wide width x ≡ false)

  is_word : (b : Bool) → not b ≡ false → b ≡ true
  is_word true h = refl
  is_word false h = cc

  arguments : (k j : ℕ) (conds : List ℕ) → NoneWide (placed_conditions k j conds)
      → AllByRecursion (λ c. is_word_of width (pos (argument_of c)) ≡ true) conds
  arguments k j [] h = tt
  arguments k j (packed ∷ conds) h = (is_word _ h.0, arguments k (j + 1) conds h.1)

  -- the second opcode of a pair is less than 150
  second_is_word : (width : Width) (n : ℕ) → n < 150 → is_word_of width (pos n) ≡ true
  second_is_word W16 n few = grind (arith, ints, few)
  second_is_word W32 n few = grind (arith, ints, few)

  second_few : (n : ℕ) → n % 150 < 150
  second_few n = omega arith

  opcodes : (k j : ℕ) (pairs : List ℕ) → NoneWide (placed_opcodes k j pairs)
      → AllByRecursion (λ n. is_word_of width (pos n) ≡ true)
      (flat_map (λ pair. pair / 150 ∷ pair % 150 ∷ []) pairs)
  opcodes k j [] h = tt
  opcodes k j (pair ∷ pairs) h = (
    is_word _ h.0,
    (second_is_word width (pair % 150) (second_few pair), opcodes k (j + 2) pairs h.1),
  )

  line : (k : ℕ) (a : Action) → NoneWide (placed_action k a) → HasWords width a
  line k a h = record {
    verb = is_word _ h.0;
    arguments = arguments k 1 a.conds
        (first_part (placed_conditions k 1 a.conds) (placed_opcodes k 1 a.pairs) h.1);
    opcodes = opcodes k 1 a.pairs
        (rest (placed_conditions k 1 a.conds) (placed_opcodes k 1 a.pairs) h.1);
  }

  lines : (k : ℕ) (actions : List Action) → NoneWide (placed_actions k actions)
      → AllByRecursion (HasWords width) actions
  lines k [] h = tt
  lines k (a ∷ actions) h = (
    line k a (first_part (placed_action k a) (placed_actions (k + 1) actions) h),
    lines (k + 1) actions (rest (placed_action k a) (placed_actions (k + 1) actions) h),
  )

pub lines_have_words : LinesHaveWords
lines_have_words width db none = lines width 0 db.actions
    (rest width (placed_header db.header) (placed_actions 0 db.actions)
    (none_found (is_too_wide width) (placed_header db.header ++ placed_actions 0 db.actions) none))
