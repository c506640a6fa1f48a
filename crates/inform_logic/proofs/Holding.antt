-- What a program of directives holds, and lists of directives by their parts.
use Rattle.std.proofs.Common.{◌≡◌, ◌≢◌, ◌∙◌, arith, ℕ, zero, suc, ◌+◌, Bool, true, false, cond, List, [], ◌∷◌, ◌++◌, drop, slice_get, Option, Some, None, option_map, refl, sym, ap, subst}
use Rattle.std.specs.List.{AllByRecursion, position_from}
use Rattle.std.specs.Option.{option_and_then, unwrap_or}
use Rattle.std.specs.Str.{bytes_eq}
use Rattle.std.proofs.lemmas.Slice.Eq.{bytes_eq-Decides}
use Rattle.inform_tree.specs.declared.widths.Width.{Width}
use Rattle.inform_tree.specs.Programs as t
use Rattle.inform_tree.specs.Programs.{RoutineTree, DirectiveTree}
use Rattle.inform_names.specs.declared.meanings.Meaning.{Meaning}
use Rattle.inform_names.specs.Meanings.{name_of, meanings, first_directive}
use Rattle.inform_names.specs.Laws.{MeaningsAreFirst}
use Rattle.inform_meaning.specs.Worlds.{Program}
use Rattle.inform_meaning.specs.Programs.{program_in, number_of, routine_in, global_in, array_in}
use Rattle.inform_logic.specs.Holding.{Has, Notes, Held, Holds, Opened, opening_stage, Distinct}
use Rattle.inform_logic.specs.Laws.{ProgramHolds, OpeningOpens}
use Rattle.inform_logic.proofs.Lists.{at_rest, after_rest}

-- ---- parts of a list

module _ {X : Type 0} (P : X → Type 0) where
  all_first : (xs ys : List X) → AllByRecursion P (xs ++ ys) → AllByRecursion P xs
  all_first [] ys h = tt
  all_first (x ∷ xs) ys h = (h.0, all_first xs ys h.1)

  all_rest : (xs ys : List X) → AllByRecursion P (xs ++ ys) → AllByRecursion P ys
  all_rest [] ys h = h
  all_rest (x ∷ xs) ys h = all_rest xs ys h.1

  -- what holds of the one that is there
  abbrev OfSome : Option X → Type 0
  OfSome None = Unit {0}
  OfSome (Some x) = P x

  all_at : (xs : List X) (at : ℕ) {x : X} → AllByRecursion P xs → slice_get xs at ≡ Some x → P x
  all_at [] at h is = cc
  all_at (y ∷ ys) zero h is = subst OfSome is h.0
  all_at (y ∷ ys) (suc at) h is = all_at ys at h.1 is

  -- one by one, from a place on
  all_from : (xs : List X) → ((at : ℕ) (x : X) → slice_get xs at ≡ Some x → P x)
      → (rest : List X) (at : ℕ) → drop at xs ≡ rest → AllByRecursion P rest
  all_from xs each [] at left = tt
  all_from xs each (x ∷ rest) at left =
      (each at x (at_rest xs at left), all_from xs each rest (at + 1) (after_rest xs at left))

module _ (p : Program) where
  -- the first directives of a list, those after them, and the one at a place
  pub holds_first : (xs ys : List DirectiveTree) → Holds p (xs ++ ys) → Holds p xs
  holds_first = all_first (Held p)

  pub holds_rest : (xs ys : List DirectiveTree) → Holds p (xs ++ ys) → Holds p ys
  holds_rest = all_rest (Held p)

  -- a routine that is held, where nothing or this number is noted
  pub has : {r : RoutineTree} (held : Held p (t.Routine r)) → p.notes r.name held.0 ≡ None → Has p r
  has held unseen = record { at = held.0; there = held.1; unseen = unseen }

  pub notes : {r : RoutineTree} {number : ℕ} (held : Held p (t.Routine r))
      → p.notes r.name held.0 ≡ Some number → Notes p r number
  notes held seen = record { at = held.0; there = held.1; seen = seen }

-- ---- a program of directives

not_true : (b : Bool) → ¬ (b ≡ true) → b ≡ false
not_true true h = absurd (h refl)
not_true false h = refl

-- whether a directive has the name of another
abbrev same_as : DirectiveTree → DirectiveTree → Bool
same_as x y = bytes_eq (name_of x) (name_of y)

-- the first directive of a name is the one that has it, where no two have one
first_is : (ds : List DirectiveTree) (i at : ℕ) (x : DirectiveTree) → Distinct ds
    → slice_get ds at ≡ Some x → position_from (same_as x) i ds ≡ Some (i + at)
first_is [] i at x distinct is = cc
first_is (y ∷ ys) i zero x distinct is =
    ap (λ b. cond b (Some i) (position_from (same_as x) (i + 1) ys))
    ((bytes_eq-Decides (name_of x) (name_of y)).1 (sym same)) ∙ ap Some (omega arith) where
      same : name_of y ≡ name_of x
      same = ap (λ o. unwrap_or (option_map name_of o) []) is
first_is (y ∷ ys) i (suc at) x distinct is =
    ap (λ b. cond b (Some i) (position_from (same_as x) (i + 1) ys)) other
    ∙ first_is ys (i + 1) at x distinct.1 is ∙ ap Some (omega arith) where
      other : same_as x y ≡ false
      other = not_true (same_as x y) (λ h. all_at (λ z. name_of y ≢ name_of z) ys at distinct.0 is
          (sym ((bytes_eq-Decides (name_of x) (name_of y)).0 h)))

-- what a name means, by the directive of this name at this place
module _ (law : MeaningsAreFirst) (width : Width) (ds : List DirectiveTree) (distinct : Distinct ds)
    (at : ℕ) (x : DirectiveTree) (there : slice_get ds at ≡ Some x) where
  pub meant : option_map (λ m. m.at) (meanings width ds (name_of x)) ≡ Some at
  meant = law width ds (name_of x) ∙ first_is ds 0 at x distinct there ∙ ap Some (omega arith)

  number_is : number_of (meanings width ds (name_of x)) ≡ at
  number_is = by (meanings width ds (name_of x)) meant where
    by : (o : Option Meaning) → option_map (λ m. m.at) o ≡ Some at → number_of o ≡ at
    by None h = cc
    by (Some m) h = ap (λ o. unwrap_or o 0) h

  directive_is : first_directive width ds (name_of x) ≡ Some x
  directive_is = by (meanings width ds (name_of x)) meant ∙ there where
    by : (o : Option Meaning) → option_map (λ m. m.at) o ≡ Some at
        → option_and_then (λ m. slice_get ds m.at) o ≡ slice_get ds at
    by None h = cc
    by (Some m) h = ap (λ o. slice_get ds (unwrap_or o 0)) h

-- where no two directives have one name, the program holds each routine of its directives
held_by : (law : MeaningsAreFirst) (width : Width) (ds : List DirectiveTree)
    (notes : List ℕ → ℕ → Option ℕ) → Distinct ds → (at : ℕ) (x : DirectiveTree)
    → slice_get ds at ≡ Some x → Held (program_in width ds notes) x
held_by law width ds notes distinct at (t.Constant name x) there = tt
held_by law width ds notes distinct at (t.Global name x) there = tt
held_by law width ds notes distinct at (t.Array name words xs) there = tt
held_by law width ds notes distinct at (t.Routine r) there = (
  at,
  ap (λ n. option_and_then (routine_in n) (first_directive width ds r.name))
      (number_is law width ds distinct at (t.Routine r) there)
      ∙ ap (option_and_then (routine_in at))
      (directive_is law width ds distinct at (t.Routine r) there),
)

pub program_holds : MeaningsAreFirst → ProgramHolds
program_holds law width ds notes distinct = all_from (Held (program_in width ds notes)) ds
    (held_by law width ds notes distinct) ds 0 refl

-- where no two directives have one name, each global and each array opens with its first values
opened_by : (law : MeaningsAreFirst) (width : Width) (ds : List DirectiveTree)
    (lines : List (List ℕ)) (draws : List ℕ) → Distinct ds → (at : ℕ) (x : DirectiveTree)
    → slice_get ds at ≡ Some x
    → Opened width (meanings width ds) (opening_stage width ds lines draws) x
opened_by law width ds lines draws distinct at (t.Constant name x) there = tt
opened_by law width ds lines draws distinct at (t.Global name x) there =
    ap (option_and_then (global_in width (meanings width ds)))
    (directive_is law width ds distinct at (t.Global name x) there)
opened_by law width ds lines draws distinct at (t.Array name words xs) there =
    ap (option_and_then (array_in width (meanings width ds)))
    (directive_is law width ds distinct at (t.Array name words xs) there)
opened_by law width ds lines draws distinct at (t.Routine r) there = tt

pub opening_opens : MeaningsAreFirst → OpeningOpens
opening_opens law width ds lines draws distinct =
    all_from (Opened width (meanings width ds) (opening_stage width ds lines draws)) ds
    (opened_by law width ds lines draws distinct) ds 0 refl
