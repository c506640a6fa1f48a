-- The names of the directives of the globals and arrays.
use Rattle.std.proofs.Common.{◌≡◌, ◌≢◌, ◌∙◌, Bool, true, not, ◌&&◌, List, [], ◌∷◌, bytes_eq, refl, sym, ap, true≢false}
use Rattle.std.specs.List.{AllByRecursion, list_all}
use Rattle.std.proofs.lemmas.Bool.{and_parts}
use Rattle.std.proofs.lemmas.Slice.Eq.{bytes_eq-Decides}
use Rattle.inform_tree.specs.Programs.{DirectiveTree}
use Rattle.inform_names.specs.Meanings.{name_of}
use Rattle.inform_logic.specs.Holding.{Distinct}
use Rattle.trans_specs.specs.Directives.{data_directives}
use Rattle.trans_specs.specs.Laws.{DataDistinct}

-- a directive of another name
abbrev pub is_apart : DirectiveTree → DirectiveTree → Bool
is_apart x y = not (bytes_eq (name_of x) (name_of y))

abbrev pub are_apart : List DirectiveTree → Bool
are_apart [] = true
are_apart (x ∷ xs) = list_all (is_apart x) xs && are_apart xs

apart : (x y : DirectiveTree) → is_apart x y ≡ true → name_of x ≢ name_of y
apart x y h e =
    true≢false (sym h ∙ ap not ((bytes_eq-Decides (name_of x) (name_of y)).1 e))

all_apart : (x : DirectiveTree) (ys : List DirectiveTree) → list_all (is_apart x) ys ≡ true
    → AllByRecursion (λ y. name_of x ≢ name_of y) ys
all_apart x [] h = tt
all_apart x (y ∷ ys) h = (
  apart x y (and_parts (is_apart x y) (list_all (is_apart x) ys) h).0,
  all_apart x ys (and_parts (is_apart x y) (list_all (is_apart x) ys) h).1,
)

pub distinct : (ds : List DirectiveTree) → are_apart ds ≡ true → Distinct ds
distinct [] h = tt
distinct (x ∷ xs) h = (
  all_apart x xs (and_parts (list_all (is_apart x) xs) (are_apart xs) h).0,
  distinct xs (and_parts (list_all (is_apart x) xs) (are_apart xs) h).1,
)

pub data_distinct : DataDistinct
data_distinct db s = distinct (data_directives db s) refl
