-- Plain values and tests are evaluated without a step, and constant tests have their truth values.
use Rattle.std.proofs.Common.{◌≡◌, ◌∙◌, ℤ, pos, Bool, true, false, not, Option, Some, None, refl, ap, subst}
use Rattle.std.specs.Prelude.{◌&&◌, ⊤, unwrap_or, option_map}
use Rattle.std.specs.Ordering.{int_eq}
use Rattle.inform_tree.specs.declared.values.ProdOp.TheVariants.{Mul, Div, Rem}
use Rattle.inform_tree.specs.declared.conditions.Relation.{Relation}
use Rattle.inform_tree.specs.Values as v
use Rattle.inform_tree.specs.Values.{Expression, Terms, Factors}
use Rattle.inform_tree.specs.Conditions as d
use Rattle.inform_tree.specs.Conditions.{Condition, Conditions}
use Rattle.inform_meaning.specs.Words.{number_word, word_negation, summed, word_product, compares}
use Rattle.inform_meaning.specs.Worlds.{Program, Config, value_of}
use Rattle.inform_meaning.specs.Frames.{Outcome, Value, Truth, Meaning, bind, when, on_value, on_truth}
use Rattle.inform_meaning.specs.Meaning.{Calls, eval, eval_sum, eval_product, test, test_all, test_any}
use Rattle.inform_simplify.specs.Tests.{word_of, compared, truth_of, is_plain, are_plain_terms, are_plain_factors, is_plain_test, are_plain_tests}

-- ---- truth values and what may be there

abbrev IsFalse : Bool → Type 0
IsFalse false = ⊤
IsFalse true = ⊥

pub no : false ≡ true → ⊥
no is = subst IsFalse is tt

abbrev IsAbsent : {X : Type 0} → Option X → Type 0
IsAbsent None = ⊤
IsAbsent (Some x) = ⊥

pub none : {X : Type 0} {x : X} → None ≡ Some x → ⊥
none is = subst IsAbsent is tt

pub both : (a b : Bool) → (a && b) ≡ true → (a ≡ true) × (b ≡ true)
both true b is = (refl, is)
both false b is = absurd (no is)

-- a part that does nothing but to come to this outcome
pub record Comes (m : Meaning) (e : Outcome) (c : Config) : Type 0 where
  pub is : m c ≡ (e, c)

here : {m : Meaning} {e : Outcome} {c : Config} → m c ≡ (e, c) → Comes m e c
here is = record { is = is }

-- one part after another
pub goes_on : {m : Meaning} {e e' : Outcome} (k : Outcome → Meaning) (c : Config) → Comes m e c
    → Comes (k e) e' c → Comes (bind m k) e' c
unfolding bind
goes_on k c first next = record { is = ap (λ r. k r.0 r.1) first.is ∙ next.is }

abbrev HasValue : Meaning → Config → Type 0
HasValue m c = (a : ℤ) × Comes m (Value a) c

pub record HasTruth (m : Meaning) (c : Config) : Type 0 where
  pub truth : Bool
  pub comes : Comes m (Truth truth) c

truly : {m : Meaning} {c : Config} (a : Bool) → Comes m (Truth a) c → HasTruth m c
truly a comes = record { truth = a; comes = comes }

chosen : (a : Bool) {m n : Meaning} {c : Config} → HasTruth m c → HasTruth n c
    → HasTruth (when a m n) c
unfolding when
chosen true h k = h
chosen false h k = k

-- ---- plain values and tests

module _ (p : Program) (call : Calls) (c : Config) where
  -- a plain value has a value at once, and nothing happens
  mutual
    unfolding on_value

    plain-value : (x : Expression) → is_plain x ≡ true → HasValue (eval p call x) c
    plain-value (v.Number n) is = (number_word p.width n, here refl)
    plain-value (v.Char byte) is = (pos byte, here refl)
    plain-value (v.Name name) is = (value_of p name c.world, here refl)
    plain-value (v.Entry name words index) is = absurd (no is)
    plain-value (v.Call name xs) is = absurd (no is)
    plain-value (v.Random x) is = absurd (no is)
    plain-value (v.Neg x) is = let value = plain-value x is in
        (word_negation p.width value.0, goes_on _ c value.1 (here refl))
    plain-value (v.Sum x xs) is = let parts = both (is_plain x) (are_plain_terms xs) is in
        let value = plain-value x parts.0 in let rest = plain-sum value.0 xs parts.1 in
        (rest.0, goes_on _ c value.1 rest.1)
    plain-value (v.Product x xs) is = let parts = both (is_plain x) (are_plain_factors xs) is in
        let value = plain-value x parts.0 in let rest = plain-product value.0 xs parts.1 in
        (rest.0, goes_on _ c value.1 rest.1)

    plain-sum : (a : ℤ) (xs : Terms) → are_plain_terms xs ≡ true
        → HasValue (eval_sum p call a xs) c
    plain-sum a v.NoTerms is = (a, here refl)
    plain-sum a (v.MoreTerms op x xs) is = let parts = both (is_plain x) (are_plain_terms xs) is in
        let value = plain-value x parts.0 in
        let rest = plain-sum (summed p.width op a value.0) xs parts.1 in
        (rest.0, goes_on _ c value.1 rest.1)

    plain-product : (a : ℤ) (xs : Factors) → are_plain_factors xs ≡ true
        → HasValue (eval_product p call a xs) c
    plain-product a v.NoFactors is = (a, here refl)
    plain-product a (v.MoreFactors Mul x xs) is =
        let parts = both (is_plain x) (are_plain_factors xs) is in
        let value = plain-value x parts.0 in
        let rest = plain-product (word_product p.width a value.0) xs parts.1 in
        (rest.0, goes_on _ c value.1 rest.1)
    plain-product a (v.MoreFactors Div x xs) is = absurd (no is)
    plain-product a (v.MoreFactors Rem x xs) is = absurd (no is)

  -- and so has a plain test a truth value
  mutual
    unfolding on_value on_truth when

    pub plain-truth : (x : Condition) → is_plain_test x ≡ true → HasTruth (test p call x) c
    plain-truth (d.Compare relation x y) is = let parts = both (is_plain x) (is_plain y) is in
        let left = plain-value x parts.0 in let right = plain-value y parts.1 in
        truly (compares relation left.0 right.0)
        (goes_on _ c left.1 (goes_on _ c right.1 (here refl)))
    plain-truth (d.Nonzero x) is = let value = plain-value x is in
        truly (not (int_eq value.0 (pos 0))) (goes_on _ c value.1 (here refl))
    plain-truth (d.All xs) is = plain-all xs is
    plain-truth (d.Any xs) is = plain-any xs is
    plain-truth (d.Not x) is = let found = plain-truth x is in
        truly (not found.truth) (goes_on _ c found.comes (here refl))

    plain-all : (xs : Conditions) → are_plain_tests xs ≡ true → HasTruth (test_all p call xs) c
    plain-all d.NoConditions is = truly true (here refl)
    plain-all (d.MoreConditions x xs) is =
        let parts = both (is_plain_test x) (are_plain_tests xs) is in
        let found = plain-truth x parts.0 in
        let rest = chosen found.truth (plain-all xs parts.1) (truly false (here refl)) in
        truly rest.truth (goes_on _ c found.comes rest.comes)

    plain-any : (xs : Conditions) → are_plain_tests xs ≡ true → HasTruth (test_any p call xs) c
    plain-any d.NoConditions is = truly false (here refl)
    plain-any (d.MoreConditions x xs) is =
        let parts = both (is_plain_test x) (are_plain_tests xs) is in
        let found = plain-truth x parts.0 in
        let rest = chosen found.truth (truly true (here refl)) (plain-any xs parts.1) in
        truly rest.truth (goes_on _ c found.comes rest.comes)

  -- ---- constant tests

  -- a constant has its word
  constant-value : (x : Expression) (a : ℤ) → word_of p.width x ≡ Some a
      → Comes (eval p call x) (Value a) c
  constant-value (v.Number n) a is = here (ap (λ o. (Value (unwrap_or o (pos 0)), c)) is)
  constant-value (v.Char byte) a is = here (ap (λ o. (Value (unwrap_or o (pos 0)), c)) is)
  constant-value (v.Name name) a is = absurd (none is)
  constant-value (v.Entry name words index) a is = absurd (none is)
  constant-value (v.Call name xs) a is = absurd (none is)
  constant-value (v.Random x) a is = absurd (none is)
  constant-value (v.Neg x) a is = absurd (none is)
  constant-value (v.Sum x xs) a is = absurd (none is)
  constant-value (v.Product x xs) a is = absurd (none is)

  compared-truth : (relation : Relation) (x y : Expression) (a : Bool) (o o' : Option ℤ)
      → word_of p.width x ≡ o → word_of p.width y ≡ o' → compared relation o o' ≡ Some a
      → Comes (test p call (d.Compare relation x y)) (Truth a) c
  unfolding on_value
  compared-truth relation x y a None o' left right is = absurd (none is)
  compared-truth relation x y a (Some m) None left right is = absurd (none is)
  compared-truth relation x y a (Some m) (Some n) left right is =
      goes_on _ c (constant-value x m left) (goes_on _ c (constant-value y n right)
      (here (ap (λ o. (Truth (unwrap_or o false), c)) is)))

  nonzero-truth : (x : Expression) (a : Bool) (o : Option ℤ) → word_of p.width x ≡ o
      → option_map (λ a. not (int_eq a (pos 0))) o ≡ Some a
      → Comes (test p call (d.Nonzero x)) (Truth a) c
  unfolding on_value
  nonzero-truth x a None there is = absurd (none is)
  nonzero-truth x a (Some m) there is = goes_on _ c (constant-value x m there)
      (here (ap (λ o. (Truth (unwrap_or o false), c)) is))

  pub constant-truth : (x : Condition) (a : Bool) → truth_of p.width x ≡ Some a
      → Comes (test p call x) (Truth a) c
  constant-truth (d.Compare relation x y) a is =
      compared-truth relation x y a (word_of p.width x) (word_of p.width y) refl refl is
  constant-truth (d.Nonzero x) a is = nonzero-truth x a (word_of p.width x) refl is
  constant-truth (d.All xs) a is = absurd (none is)
  constant-truth (d.Any xs) a is = absurd (none is)
  constant-truth (d.Not x) a is = absurd (none is)
