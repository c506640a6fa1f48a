-- Two lists that are compared element by element: what is left to compare decides.
use Rattle.std.proofs.Common.{◌≡◌, ℕ, zero, suc, ◌<◌, Bool, false, List, [], ◌∷◌, length, get_or, drop, map, ◌↔◌, IsTrue, refl, subst, ap, ◌∙◌, arith}
use Rattle.std.proofs.lemmas.Bool.{false≢true}
use Rattle.std.specs.Global.{Box, Vec}
use Rattle.inform_tree.specs.declared.values.SumOp.{SumOp}
use Rattle.inform_tree.specs.declared.values.ProdOp.{ProdOp}
use Rattle.inform_tree.specs.declared.values.Expr.{Expr}
use Rattle.inform_tree.specs.declared.values.Expr.TheVariants as ev
use Rattle.inform_tree.specs.Values as v
use Rattle.inform_tree.specs.Values.{Expression, expression_of, arguments, terms, terms_of, factors, factors_of}
use Rattle.inform_tree.specs.Conditions.{Condition, conditions}
use Rattle.inform_tree.specs.Statements.{Statement, Statements, Choice, statements, cases}
use Rattle.inform_tree.proofs.Views.{expression_of_sum, expression_of_product}

-- ---- lists

-- the lists are as long, and equal where those from an index on are
pub record Along {A B : Type 0} (f : A → B) (xs ys : List A) (i : ℕ) : Type 0 where
  pub long : length xs ≡ length ys
  pub left : (map f xs ≡ map f ys) ↔ (map f (drop i xs) ≡ map f (drop i ys))

pub as_long : {A B : Type 0} (f : A → B) (xs ys : List A) → map f xs ≡ map f ys
    → length xs ≡ length ys
as_long f [] [] e = refl
as_long f [] (y ∷ ys) e = absurd (let n : ⊥ = cc in n)
as_long f (x ∷ xs) [] e = absurd (let n : ⊥ = cc in n)
as_long f (x ∷ xs) (y ∷ ys) e = let rest : map f xs ≡ map f ys = cc in ap suc (as_long f xs ys rest)

alike_at : {A B : Type 0} (f : A → B) (xs ys : List A) (i : ℕ) (x y : A) → map f xs ≡ map f ys
    → i < length xs → x ≡ get_or xs i x → y ≡ get_or ys i y → f x ≡ f y
alike_at f [] ys i x y e lt p q = absurd (omega arith)
alike_at f (a ∷ xs) [] i x y e lt p q = absurd (let n : ⊥ = cc in n)
alike_at f (a ∷ xs) (b ∷ ys) zero x y e lt p q = cc
alike_at f (a ∷ xs) (b ∷ ys) (suc i) x y e lt p q =
    let rest : map f xs ≡ map f ys = cc in alike_at f xs ys i x y rest (omega arith) p q

no : {P : Type 0} → (P → ⊥) → IsTrue false ↔ P
no n = (λ e. absurd (false≢true e), λ p. absurd (n p))

-- lists of two lengths are different
pub unlike_long : {A B P : Type 0} (f : A → B) (xs ys : List A) → (P → map f xs ≡ map f ys)
    → (length xs ≡ length ys → ⊥) → IsTrue false ↔ P
unlike_long f xs ys h differ = no (λ p. differ (as_long f xs ys (h p)))

-- and so are lists with two elements at one place that are
pub unlike_at : {A B P : Type 0} (f : A → B) (xs ys zs : List A) (i : ℕ) (x y : A)
    → (P → map f xs ≡ map f ys) → zs ≡ xs → i < length xs → x ≡ get_or zs i x → y ≡ get_or ys i y
    → (f x ≡ f y → IsTrue false) → IsTrue false ↔ P
unlike_at f xs ys zs i x y h same lt p q differ =
    let at : x ≡ get_or xs i x = subst (λ l. x ≡ get_or l i x) same p in
    no (λ e. false≢true (differ (alike_at f xs ys i x y (h e) lt at q)))

-- ---- lists are equal where their trees are

-- two pairs with equal parts, and rests that are equal
pairs_join : {A B : Type 0} (x y : A × B) (xs ys : List (A × B)) → x.0 ≡ y.0 → x.1 ≡ y.1
    → xs ≡ ys → x ∷ xs ≡ y ∷ ys
pairs_join x y xs ys p q r =
    let head : x ≡ y = ap (λ a. (a, x.1)) p ∙ ap (λ b. (y.0, b)) q in cc

pub arguments_apart : (xs ys : List Expression) → arguments xs ≡ arguments ys → xs ≡ ys
arguments_apart [] [] e = refl
arguments_apart [] (y ∷ ys) e = absurd (let n : ⊥ = cc in n)
arguments_apart (x ∷ xs) [] e = absurd (let n : ⊥ = cc in n)
arguments_apart (x ∷ xs) (y ∷ ys) e =
    let rest : arguments xs ≡ arguments ys = cc in let same = arguments_apart xs ys rest in cc

pub terms_apart : (xs ys : List (SumOp × Expression)) → terms xs ≡ terms ys → xs ≡ ys
terms_apart [] [] e = refl
terms_apart [] (y ∷ ys) e = absurd (let n : ⊥ = cc in n)
terms_apart (x ∷ xs) [] e = absurd (let n : ⊥ = cc in n)
terms_apart (x ∷ xs) (y ∷ ys) e =
    let rest : terms xs ≡ terms ys = cc in pairs_join x y xs ys (cc) (cc) (terms_apart xs ys rest)

pub factors_apart : (xs ys : List (ProdOp × Expression)) → factors xs ≡ factors ys → xs ≡ ys
factors_apart [] [] e = refl
factors_apart [] (y ∷ ys) e = absurd (let n : ⊥ = cc in n)
factors_apart (x ∷ xs) [] e = absurd (let n : ⊥ = cc in n)
factors_apart (x ∷ xs) (y ∷ ys) e =
    let rest : factors xs ≡ factors ys = cc in pairs_join x y xs ys (cc) (cc) (factors_apart xs ys rest)

pub conditions_apart : (xs ys : List Condition) → conditions xs ≡ conditions ys → xs ≡ ys
conditions_apart [] [] e = refl
conditions_apart [] (y ∷ ys) e = absurd (let n : ⊥ = cc in n)
conditions_apart (x ∷ xs) [] e = absurd (let n : ⊥ = cc in n)
conditions_apart (x ∷ xs) (y ∷ ys) e =
    let rest : conditions xs ≡ conditions ys = cc in let same = conditions_apart xs ys rest in cc

pub statements_apart : (xs ys : List Statement) → statements xs ≡ statements ys → xs ≡ ys
statements_apart [] [] e = refl
statements_apart [] (y ∷ ys) e = absurd (let n : ⊥ = cc in n)
statements_apart (x ∷ xs) [] e = absurd (let n : ⊥ = cc in n)
statements_apart (x ∷ xs) (y ∷ ys) e =
    let rest : statements xs ≡ statements ys = cc in let same = statements_apart xs ys rest in cc

pub cases_apart : (xs ys : List (List Choice × Statements)) → cases xs ≡ cases ys → xs ≡ ys
cases_apart [] [] e = refl
cases_apart [] (y ∷ ys) e = absurd (let n : ⊥ = cc in n)
cases_apart (x ∷ xs) [] e = absurd (let n : ⊥ = cc in n)
cases_apart (x ∷ xs) (y ∷ ys) e =
    let rest : cases xs ≡ cases ys = cc in pairs_join x y xs ys (cc) (cc) (cases_apart xs ys rest)

-- ---- chains

-- two sums with the same first operand are the same exactly if their terms are
pub sums_alike : (r : Bool) (a b : Expr) (x y : Box Expr) (xs ys : Vec (SumOp × Expr))
    (u w : Expr)
    → a ≡ ev.Sum x xs → b ≡ ev.Sum y ys → u ≡ x.value → w ≡ y.value
    → expression_of u ≡ expression_of w
    → (IsTrue r ↔ (terms_of xs.items ≡ terms_of ys.items))
    → IsTrue r ↔ (expression_of a ≡ expression_of b)
sums_alike r a b x y xs ys u w p q f g first rest =
    let one : expression_of a ≡ v.Sum (expression_of x.value) (terms_of xs.items) =
    ap expression_of p ∙ expression_of_sum x xs in
    let two : expression_of b ≡ v.Sum (expression_of y.value) (terms_of ys.items) =
    ap expression_of q ∙ expression_of_sum y ys in
    (λ t. let same = rest.0 t in cc, λ e. rest.1 cc)

-- two products with the same first operand are the same exactly if their factors are
pub products_alike : (r : Bool) (a b : Expr) (x y : Box Expr) (xs ys : Vec (ProdOp × Expr))
    (u w : Expr)
    → a ≡ ev.Product x xs → b ≡ ev.Product y ys → u ≡ x.value → w ≡ y.value
    → expression_of u ≡ expression_of w
    → (IsTrue r ↔ (factors_of xs.items ≡ factors_of ys.items))
    → IsTrue r ↔ (expression_of a ≡ expression_of b)
products_alike r a b x y xs ys u w p q f g first rest =
    let one : expression_of a ≡ v.Product (expression_of x.value) (factors_of xs.items) =
    ap expression_of p ∙ expression_of_product x xs in
    let two : expression_of b ≡ v.Product (expression_of y.value) (factors_of ys.items) =
    ap expression_of q ∙ expression_of_product y ys in
    (λ t. let same = rest.0 t in cc, λ e. rest.1 cc)
