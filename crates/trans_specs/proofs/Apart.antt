-- Directives that are no routine of a line or a group, by their names.
use Rattle.std.proofs.Common.{◌≡◌, ◌∙◌, ℕ, zero, suc, nat_eq, Bool, true, not, List, [], ◌∷◌, slice_get, codes, Some, sym, ap, true≢false}
use Rattle.std.specs.List.{list_all, starts_with}
use Rattle.std.proofs.lemmas.Bool.{and_parts}
use Rattle.inform_tree.specs.Programs as t
use Rattle.inform_tree.specs.Programs.{RoutineTree, DirectiveTree}
use Rattle.trans_specs.specs.Names.{line_name, group_name}
use Rattle.trans_specs.specs.Shaped.{IsIn}

-- a directive is no routine whose name begins so
abbrev pub is_apart : List ℕ → DirectiveTree → Bool
is_apart opening (t.Constant name x) = true
is_apart opening (t.Global name x) = true
is_apart opening (t.Array name words xs) = true
is_apart opening (t.Routine r) = not (starts_with nat_eq r.name opening)

abbrev pub all_apart : List ℕ → List DirectiveTree → Bool
all_apart opening ds = list_all (is_apart opening) ds

abbrev pub line_opening : List ℕ
line_opening = codes "line_"

abbrev pub group_opening : List ℕ
group_opening = codes "group_"

-- what all of a list pass, each in it does
each_in : {X : Type 0} (test : X → Bool) (xs : List X) {x : X} (at : ℕ) → list_all test xs ≡ true
    → slice_get xs at ≡ Some x → test x ≡ true
each_in test [] at h there = cc
each_in {X} test (y ∷ ys) {x} zero h there =
    first (and_parts (test y) (list_all test ys) h).0 there where
      first : test y ≡ true → Some y ≡ Some x → test x ≡ true
      first passes is = cc
each_in test (y ∷ ys) (suc at) h there =
    each_in test ys at (and_parts (test y) (list_all test ys) h).1 there

module _ (ds : List DirectiveTree) (k : ℕ) (r : RoutineTree) (there : IsIn (t.Routine r) ds) where
  pub no_line : all_apart line_opening ds ≡ true → r.name ≡ line_name k → ⊥
  no_line apart name = true≢false (sym (each_in (is_apart line_opening) ds there.0 apart there.1)
      ∙ ap (λ (n : List ℕ). not (starts_with nat_eq n line_opening)) name)

  pub no_group : all_apart group_opening ds ≡ true → r.name ≡ group_name k → ⊥
  no_group apart name = true≢false (sym (each_in (is_apart group_opening) ds there.0 apart there.1)
      ∙ ap (λ (n : List ℕ). not (starts_with nat_eq n group_opening)) name)
