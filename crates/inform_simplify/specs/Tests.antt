-- Tests whose truth is known, and tests that do nothing but look at variables.
use Rattle.std.specs.Prelude.{ℤ, pos, Bool, true, false, not, ◌&&◌, Option, Some, None, option_map}
use Rattle.std.specs.Ordering.{int_eq}
use Rattle.inform_tree.specs.declared.widths.Width.{Width}
use Rattle.inform_tree.specs.declared.values.ProdOp.TheVariants.{Mul, Div, Rem}
use Rattle.inform_tree.specs.declared.conditions.Relation.{Relation}
use Rattle.inform_tree.specs.Values as v
use Rattle.inform_tree.specs.Values.{Expression, Terms, Factors}
use Rattle.inform_tree.specs.Conditions as d
use Rattle.inform_tree.specs.Conditions.{Condition, Conditions}
use Rattle.inform_meaning.specs.Words.{number_word, compares}

-- ---- constant tests

-- the word of a constant, which is a number or a character
abbrev pub word_of : Width → Expression → Option ℤ
word_of width (v.Number n) = Some (number_word width n)
word_of width (v.Char byte) = Some (pos byte)
word_of width x = None

abbrev pub compared : Relation → Option ℤ → Option ℤ → Option Bool
compared relation None b = None
compared relation (Some a) None = None
compared relation (Some a) (Some b) = Some (compares relation a b)

-- the truth value of a constant test: one of a constant, or of two that are compared
abbrev pub truth_of : Width → Condition → Option Bool
truth_of width (d.Compare relation x y) = compared relation (word_of width x) (word_of width y)
truth_of width (d.Nonzero x) = option_map (λ a. not (int_eq a (pos 0))) (word_of width x)
truth_of width x = None

-- ---- plain tests

-- a value is plain without an entry, a call, `random`, a division or a remainder in it
abbrev mutual
  pub is_plain : Expression → Bool
  is_plain (v.Number n) = true
  is_plain (v.Char byte) = true
  is_plain (v.Name name) = true
  is_plain (v.Entry name words index) = false
  is_plain (v.Call name xs) = false
  is_plain (v.Random x) = false
  is_plain (v.Neg x) = is_plain x
  is_plain (v.Sum x xs) = is_plain x && are_plain_terms xs
  is_plain (v.Product x xs) = is_plain x && are_plain_factors xs

  pub are_plain_terms : Terms → Bool
  are_plain_terms v.NoTerms = true
  are_plain_terms (v.MoreTerms op x xs) = is_plain x && are_plain_terms xs

  pub are_plain_factors : Factors → Bool
  are_plain_factors v.NoFactors = true
  are_plain_factors (v.MoreFactors Mul x xs) = is_plain x && are_plain_factors xs
  are_plain_factors (v.MoreFactors Div x xs) = false
  are_plain_factors (v.MoreFactors Rem x xs) = false

-- a test is plain where all its values are
abbrev mutual
  pub is_plain_test : Condition → Bool
  is_plain_test (d.Compare relation x y) = is_plain x && is_plain y
  is_plain_test (d.Nonzero x) = is_plain x
  is_plain_test (d.All xs) = are_plain_tests xs
  is_plain_test (d.Any xs) = are_plain_tests xs
  is_plain_test (d.Not x) = is_plain_test x

  pub are_plain_tests : Conditions → Bool
  are_plain_tests d.NoConditions = true
  are_plain_tests (d.MoreConditions x xs) = is_plain_test x && are_plain_tests xs
