-- A part that is there at once does nothing but give its value.
use Rattle.std.proofs.Common.{◌≡◌, ◌∙◌, ℕ, ℤ, pos, Bool, true, false, List, [], ◌∷◌, Option, Some, None, refl, ap}
use Rattle.std.specs.Prelude.{⊤, not, if◌then◌else◌}
use Rattle.std.specs.Option.{option_and_then}
use Rattle.std.specs.Ordering.{int_eq}
use Rattle.inform_tree.specs.Values as v
use Rattle.inform_tree.specs.Values.{Expression, Arguments, Terms, Factors}
use Rattle.inform_tree.specs.Conditions as d
use Rattle.inform_tree.specs.Conditions.{Condition, Conditions}
use Rattle.inform_tree.specs.declared.conditions.Relation.{Relation}
use Rattle.inform_meaning.specs.Words.{word_negation, summed, multiplied, compares}
use Rattle.inform_meaning.specs.Worlds.{Program, Config, entries_of, entry_at, with_argument}
use Rattle.inform_meaning.specs.Frames as f
use Rattle.inform_meaning.specs.Frames.{Frame, Begins, Wants, Decides, Outcome, Value, Truth, Meaning, gives, bind, when, on_value, on_truth}
use Rattle.inform_meaning.specs.Parts.{tick, entry_by, fetch}
use Rattle.inform_meaning.specs.Meaning.{Calls, on_product, eval, eval_call, eval_sum, eval_product, test, test_all, test_any}
use Rattle.inform_meaning.proofs.Opened.{opened}
use Rattle.inform_moves.specs.Immediate.{immediate_value, immediate_sum, immediate_product, immediate_arguments, immediate_truth, immediate_all, immediate_any}

-- a part gives this, if it is there, and changes nothing
abbrev pub Gives : {X : Type 0} → (X → Outcome) → Option X → Meaning → Config → Type 0
Gives e None m c = ⊤
Gives e (Some x) m c = m c ≡ (e x, c)

-- what is done with a value or a truth value that is there
pub after-value : (y : Frame) (m : Meaning) (k : ℤ → Meaning) (a : ℤ) (c : Config)
    → m c ≡ (Value a, c) → bind m (on_value y k) c ≡ k a c
unfolding opened
after-value y m k a c is = ap (λ r. on_value y k r.0 r.1) is

pub after-truth : (y : Frame) (m : Meaning) (k : Bool → Meaning) (b : Bool) (c : Config)
    → m c ≡ (Truth b, c) → bind m (on_truth y k) c ≡ k b c
unfolding opened
after-truth y m k b c is = ap (λ r. on_truth y k r.0 r.1) is

-- another meaning that does the same gives the same
same-gives : {X : Type 0} (e : X → Outcome) (o : Option X) (m n : Meaning) (c : Config)
    → n c ≡ m c → Gives e o m c → Gives e o n c
same-gives e None m n c is h = tt
same-gives e (Some x) m n c is h = is ∙ h

then-gives : {X : Type 0} (e : X → Outcome) (y : Frame) (m : Meaning) (k : ℤ → Meaning) (g : ℤ → Option X) (c : Config) (o : Option ℤ)
    → Gives Value o m c → ((a : ℤ) → Gives e (g a) (k a) c)
    → Gives e (option_and_then g o) (bind m (on_value y k)) c
then-gives e y m k g c None h t = tt
then-gives e y m k g c (Some a) h t =
    same-gives e (g a) (k a) (bind m (on_value y k)) c (after-value y m k a c h) (t a)

then-tests : {X : Type 0} (e : X → Outcome) (y : Frame) (m : Meaning) (k : Bool → Meaning) (g : Bool → Option X) (c : Config) (o : Option Bool)
    → Gives Truth o m c → ((b : Bool) → Gives e (g b) (k b) c)
    → Gives e (option_and_then g o) (bind m (on_truth y k)) c
then-tests e y m k g c None h t = tt
then-tests e y m k g c (Some b) h t =
    same-gives e (g b) (k b) (bind m (on_truth y k)) c (after-truth y m k b c h) (t b)

fetch-gives : (name : List ℕ) (i : ℤ) (c : Config)
    → Gives Value (entry_at (entries_of name c.world) i) (fetch name i) c
fetch-gives name i c =
    let o = entry_at (entries_of name c.world) i in
    same-gives Value o (entry_by o) (fetch name i) c refl (by o) where
      by : (o : Option ℤ) → Gives Value o (entry_by o) c
      by None = tt
      by (Some a) = refl

product-gives : (o : Option ℤ) (k : ℤ → Meaning) (g : ℤ → Option ℤ) (c : Config)
    → ((a : ℤ) → Gives Value (g a) (k a) c) → Gives Value (option_and_then g o) (on_product o k) c
product-gives None k g c h = tt
product-gives (Some a) k g c h = h a

module _ (p : Program) (call : Calls) (c : Config) where
  mutual
    pub eval-gives : (x : Expression) → Gives Value (immediate_value p c.world x) (eval p call x) c
    eval-gives (v.Number n) = refl
    eval-gives (v.Char byte) = refl
    eval-gives (v.Name name) = refl
    eval-gives (v.Entry name words index) =
        then-gives Value (Wants (f.IndexOf name)) (eval p call index) (fetch name) (entry_at (entries_of name c.world)) c
        (immediate_value p c.world index) (eval-gives index) (λ i. fetch-gives name i c)
    eval-gives (v.Call name xs) = tt
    eval-gives (v.Random x) = tt
    eval-gives (v.Neg x) =
        then-gives Value (Wants f.Negates) (eval p call x) (λ a. gives (Value (word_negation p.width a))) (λ a. Some (word_negation p.width a)) c
        (immediate_value p c.world x) (eval-gives x) (λ a. refl)
    eval-gives (v.Sum x xs) =
        then-gives Value (Wants (f.SumFrom xs)) (eval p call x) (λ a. eval_sum p call a xs) (λ a. immediate_sum p c.world a xs) c
        (immediate_value p c.world x) (eval-gives x) (λ a. sum-gives a xs)
    eval-gives (v.Product x xs) =
        then-gives Value (Wants (f.ProductFrom xs)) (eval p call x) (λ a. eval_product p call a xs) (λ a. immediate_product p c.world a xs) c
        (immediate_value p c.world x) (eval-gives x) (λ a. product_from-gives a xs)

    pub sum-gives : (a : ℤ) (xs : Terms)
        → Gives Value (immediate_sum p c.world a xs) (eval_sum p call a xs) c
    sum-gives a v.NoTerms = refl
    sum-gives a (v.MoreTerms op x xs) =
        then-gives Value (Wants (f.SumOnto op a xs)) (eval p call x) (λ b. eval_sum p call (summed p.width op a b) xs) (λ b. immediate_sum p c.world (summed p.width op a b) xs) c
        (immediate_value p c.world x) (eval-gives x) (λ b. sum-gives (summed p.width op a b) xs)

    pub product_from-gives : (a : ℤ) (xs : Factors)
        → Gives Value (immediate_product p c.world a xs) (eval_product p call a xs) c
    product_from-gives a v.NoFactors = refl
    product_from-gives a (v.MoreFactors op x xs) =
        then-gives Value (Wants (f.ProductOnto op a xs)) (eval p call x) (λ b. on_product (multiplied p.width op a b) (λ r. eval_product p call r xs))
        (λ b. option_and_then (λ r. immediate_product p c.world r xs) (multiplied p.width op a b)) c
        (immediate_value p c.world x) (eval-gives x)
        (λ b. product-gives (multiplied p.width op a b) (λ r. eval_product p call r xs) (λ r. immediate_product p c.world r xs) c (λ r. product_from-gives r xs))

  -- the right side of a comparison whose left side is known
  right-gives : (relation : Relation) (a : ℤ) (y : Expression)
      → Gives Truth (option_and_then (λ b. Some (compares relation a b)) (immediate_value p c.world y))
      (bind (eval p call y) (on_value (Wants (f.RightOf relation a)) (λ b. gives (Truth (compares relation a b))))) c
  right-gives relation a y =
      then-gives Truth (Wants (f.RightOf relation a)) (eval p call y) (λ b. gives (Truth (compares relation a b))) (λ b. Some (compares relation a b)) c
      (immediate_value p c.world y) (eval-gives y) (λ b. refl)

  mutual
    unfolding opened

    pub test-gives : (x : Condition) → Gives Truth (immediate_truth p c.world x) (test p call x) c
    test-gives (d.Compare relation x y) =
        then-gives Truth (Wants (f.LeftOf relation y)) (eval p call x)
        (λ a. bind (eval p call y) (on_value (Wants (f.RightOf relation a)) (λ b. gives (Truth (compares relation a b)))))
        (λ a. option_and_then (λ b. Some (compares relation a b)) (immediate_value p c.world y)) c
        (immediate_value p c.world x) (eval-gives x) (λ a. right-gives relation a y)
    test-gives (d.Nonzero x) =
        then-gives Truth (Wants f.IsNonzero) (eval p call x) (λ a. gives (Truth (not (int_eq a (pos 0))))) (λ a. Some (not (int_eq a (pos 0)))) c
        (immediate_value p c.world x) (eval-gives x) (λ a. refl)
    test-gives (d.All xs) = all-gives xs
    test-gives (d.Any xs) = any-gives xs
    test-gives (d.Not x) =
        then-tests Truth (Decides f.Flips) (test p call x) (λ b. gives (Truth (not b))) (λ b. Some (not b)) c
        (immediate_truth p c.world x) (test-gives x) (λ b. refl)

    pub all-gives : (xs : Conditions) → Gives Truth (immediate_all p c.world xs) (test_all p call xs) c
    all-gives d.NoConditions = refl
    all-gives (d.MoreConditions x xs) =
        then-tests Truth (Decides (f.AllOf xs)) (test p call x) (λ b. when b (test_all p call xs) (gives (Truth false)))
        (λ b. if b then immediate_all p c.world xs else Some false) c
        (immediate_truth p c.world x) (test-gives x) (by (all-gives xs)) where
          by : Gives Truth (immediate_all p c.world xs) (test_all p call xs) c → (b : Bool)
              → Gives Truth (if b then immediate_all p c.world xs else Some false) (when b (test_all p call xs) (gives (Truth false))) c
          by h true = h
          by h false = refl

    pub any-gives : (xs : Conditions) → Gives Truth (immediate_any p c.world xs) (test_any p call xs) c
    any-gives d.NoConditions = refl
    any-gives (d.MoreConditions x xs) =
        then-tests Truth (Decides (f.AnyOf xs)) (test p call x) (λ b. when b (gives (Truth true)) (test_any p call xs))
        (λ b. if b then Some true else immediate_any p c.world xs) c
        (immediate_truth p c.world x) (test-gives x) (by (any-gives xs)) where
          by : Gives Truth (immediate_any p c.world xs) (test_any p call xs) c → (b : Bool)
              → Gives Truth (if b then Some true else immediate_any p c.world xs) (when b (gives (Truth true)) (test_any p call xs)) c
          by h true = refl
          by h false = h

  -- a call whose arguments are there at once is due
  abbrev pub IsDue : Option (List ℤ) → List ℕ → Meaning → Type 0
  IsDue None name m = ⊤
  IsDue (Some values) name m = m c ≡ tick (Begins (f.CallDue name values)) (call name values) c

  then-due : (y : Frame) (name : List ℕ) (m : Meaning) (k : ℤ → Meaning) (g : ℤ → Option (List ℤ)) (o : Option ℤ)
      → Gives Value o m c → ((a : ℤ) → IsDue (g a) name (k a))
      → IsDue (option_and_then g o) name (bind m (on_value y k))
  then-due y name m k g None h t = tt
  then-due y name m k g (Some a) h t = by (g a) (t a) where
    by : (o : Option (List ℤ)) → IsDue o name (k a) → IsDue o name (bind m (on_value y k))
    by None d = tt
    by (Some values) d = after-value y m k a c h ∙ d

  pub call-due : (name : List ℕ) (values : List ℤ) (xs : Arguments)
      → IsDue (immediate_arguments p c.world values xs) name (eval_call p call name values xs)
  call-due name values v.NoArguments = refl
  call-due name values (v.MoreArguments x xs) =
      then-due (Wants (f.Args name values xs)) name (eval p call x) (λ a. eval_call p call name (with_argument values a) xs)
      (λ a. immediate_arguments p c.world (with_argument values a) xs)
      (immediate_value p c.world x) (eval-gives x) (λ a. call-due name (with_argument values a) xs)
