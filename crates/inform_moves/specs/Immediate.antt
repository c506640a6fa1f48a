-- Values and truth values that are there at once: no call, no draw and no trap is met.
use Rattle.std.specs.Prelude.{ℕ, ℤ, pos, Bool, true, false, not, if◌then◌else◌, List, [], ◌∷◌, Option, Some, None}
use Rattle.std.specs.Option.{option_and_then}
use Rattle.std.specs.Ordering.{int_eq}
use Rattle.inform_tree.specs.Values as v
use Rattle.inform_tree.specs.Values.{Expression, Arguments, Terms, Factors}
use Rattle.inform_tree.specs.Conditions as d
use Rattle.inform_tree.specs.Conditions.{Condition, Conditions}
use Rattle.inform_meaning.specs.Words.{number_word, word_negation, summed, multiplied, compares}
use Rattle.inform_meaning.specs.Worlds.{Program, World, value_of, entries_of, entry_at, with_argument}

-- ---- values

abbrev mutual
  pub immediate_value : Program → World → Expression → Option ℤ
  immediate_value p w (v.Number n) = Some (number_word p.width n)
  immediate_value p w (v.Char byte) = Some (pos byte)
  immediate_value p w (v.Name name) = Some (value_of p name w)
  immediate_value p w (v.Entry name words index) =
      option_and_then (entry_at (entries_of name w)) (immediate_value p w index)
  immediate_value p w (v.Call name xs) = None
  immediate_value p w (v.Random x) = None
  immediate_value p w (v.Neg x) =
      option_and_then (λ a. Some (word_negation p.width a)) (immediate_value p w x)
  immediate_value p w (v.Sum x xs) =
      option_and_then (λ a. immediate_sum p w a xs) (immediate_value p w x)
  immediate_value p w (v.Product x xs) =
      option_and_then (λ a. immediate_product p w a xs) (immediate_value p w x)

  -- of a sum of which this much is known
  pub immediate_sum : Program → World → ℤ → Terms → Option ℤ
  immediate_sum p w a v.NoTerms = Some a
  immediate_sum p w a (v.MoreTerms op x xs) =
      option_and_then (λ b. immediate_sum p w (summed p.width op a b) xs) (immediate_value p w x)

  pub immediate_product : Program → World → ℤ → Factors → Option ℤ
  immediate_product p w a v.NoFactors = Some a
  immediate_product p w a (v.MoreFactors op x xs) = option_and_then
      (λ b. option_and_then (λ c. immediate_product p w c xs) (multiplied p.width op a b))
      (immediate_value p w x)

-- all arguments of a call of which these are known
abbrev pub immediate_arguments : Program → World → List ℤ → Arguments → Option (List ℤ)
immediate_arguments p w values v.NoArguments = Some values
immediate_arguments p w values (v.MoreArguments x xs) = option_and_then
    (λ a. immediate_arguments p w (with_argument values a) xs) (immediate_value p w x)

-- ---- conditions

abbrev mutual
  pub immediate_truth : Program → World → Condition → Option Bool
  immediate_truth p w (d.Compare relation x y) = option_and_then
      (λ a. option_and_then (λ b. Some (compares relation a b)) (immediate_value p w y))
      (immediate_value p w x)
  immediate_truth p w (d.Nonzero x) =
      option_and_then (λ a. Some (not (int_eq a (pos 0)))) (immediate_value p w x)
  immediate_truth p w (d.All xs) = immediate_all p w xs
  immediate_truth p w (d.Any xs) = immediate_any p w xs
  immediate_truth p w (d.Not x) = option_and_then (λ b. Some (not b)) (immediate_truth p w x)

  -- up to the first member that isn't true
  pub immediate_all : Program → World → Conditions → Option Bool
  immediate_all p w d.NoConditions = Some true
  immediate_all p w (d.MoreConditions x xs) = option_and_then
      (λ b. if b then immediate_all p w xs else Some false) (immediate_truth p w x)

  -- up to the first member that is true
  pub immediate_any : Program → World → Conditions → Option Bool
  immediate_any p w d.NoConditions = Some false
  immediate_any p w (d.MoreConditions x xs) = option_and_then
      (λ b. if b then Some true else immediate_any p w xs) (immediate_truth p w x)
