-- What each part of a plan does where it stands: an equation a case.
use Rattle.std.proofs.Common.{◌≡◌, ℕ, Bool, true, false, cond, List, [], ◌∷◌, ◌++◌, Option, Some, None, is_some, Ok, Err, refl, ap, ◌∙◌}
use Rattle.inform_lexemes.specs.Lexemes.{Lexeme}
use Rattle.inform_grammar.specs.Faults.{Unexpected, Mixed, fault}
use Rattle.inform_grammar.specs.Rules.{Rule, TreeOf}
use Rattle.inform_grammar.specs.Lexemes.{heads, Yes, No, one_less}
use Rattle.inform_grammar.specs.Plan.{Plan, done, next, look, maybe, chain, many, shut, ◌>>=◌, one, onward}
use Rattle.inform_grammar.specs.Rule.{rule}
use Rattle.inform_grammar.specs.Reading.{StepResult, stops, goes, either_way, step, Input, input, at_lexeme, reads}
use Rattle.inform_grammar.proofs.Binding.{assoc}

-- a rule may begin with the lexeme
abbrev pub starts : Rule → Lexeme → Bool
starts r x = is_some (rule r x)

-- where a test holds, what stands for that case
pub opened-here : {A : Type 0} {b : Bool} → b ≡ true → (x y : A) → cond b x y ≡ x
opened-here {A = A} h x y = ap (λ (b : Bool). cond b x y) h

none-there : {A B : Type 0} (o : Option A) → is_some o ≡ false → (f : A → B) (other : B) → either_way o f other ≡ other
none-there None h f other = refl
none-there (Some x) h f other = absurd (cc)

other-way : {A B : Type 0} (o : Option A) → is_some o ≡ true → (f : A → B) (x y : B) → either_way o f x ≡ either_way o f y
other-way None h f x y = absurd (cc)
other-way (Some a) h f x y = refl

module _ (room : ℕ → Bool) {X : Type 0} where
  pub done-here : (ts : List Lexeme) (x : X) (n : ℕ) → reads room ts (done x) n ≡ Ok (x, input n ts)
  unfolding reads step
  done-here [] x n = refl
  done-here (t ∷ ts) x n = refl

  pub shut-here : (ts : List Lexeme) (p : Plan X) (n : ℕ) → reads room ts (shut p) n ≡ reads room ts p (one_less n)
  unfolding reads step
  shut-here [] p n = refl
  shut-here (t ∷ ts) p n = refl

  pub next-no : (ts : List Lexeme) (test : Lexeme → Bool) → No test ts → (k : Lexeme → Plan X) (q : Plan X) (n : ℕ)
      → reads room ts (next test k q) n ≡ reads room ts q n
  unfolding reads step
  next-no [] test h k q n = refl
  next-no (t ∷ ts) test h k q n =
      ap (λ (b : Bool). at_lexeme room t ts (either_way (cond b (Some t) None) (λ x. goes (k x) n) (step (Some t) q n)) (reads room ts)) h

  pub look-no : (ts : List Lexeme) (test : Lexeme → Bool) → No test ts → (p q : Plan X) (n : ℕ)
      → reads room ts (look test p q) n ≡ reads room ts q n
  unfolding reads step
  look-no [] test h p q n = refl
  look-no (t ∷ ts) test h p q n =
      ap (λ (b : Bool). at_lexeme room t ts (either_way (cond b (Some t) None) (λ _. step (Some t) p n) (step (Some t) q n)) (reads room ts)) h

  pub look-yes : (ts : List Lexeme) (test : Lexeme → Bool) → Yes test ts → (p q : Plan X) (n : ℕ)
      → reads room ts (look test p q) n ≡ reads room ts p n
  unfolding reads step
  look-yes [] test h p q n = absurd (cc)
  look-yes (t ∷ ts) test h p q n =
      ap (λ (b : Bool). at_lexeme room t ts (either_way (cond b (Some t) None) (λ _. step (Some t) p n) (step (Some t) q n)) (reads room ts)) h

  -- ---- rules

  pub maybe-no : (ts : List Lexeme) (r : Rule) → No (starts r) ts → (k : TreeOf r → Plan X) (q : Plan X) (n : ℕ)
      → reads room ts (maybe r k q) n ≡ reads room ts q n
  unfolding reads step
  maybe-no [] r h k q n = refl
  maybe-no (t ∷ ts) r h k q n = ap (λ o. at_lexeme room t ts o (reads room ts)) (none-there (rule r t) h _ _)

  pub maybe-yes : (ts : List Lexeme) (r : Rule) → Yes (starts r) ts → (k : TreeOf r → Plan X) (q : Plan X) (n : ℕ)
      → reads room ts (maybe r k q) n ≡ reads room ts (one r k) n
  unfolding reads step
  maybe-yes [] r h k q n = absurd (cc)
  maybe-yes (t ∷ ts) r h k q n = ap (λ o. at_lexeme room t ts o (reads room ts)) (other-way (rule r t) h _ _ _)

  pub chain-no : (ts : List Lexeme) (r : Rule) (test : Lexeme → Bool) → No (starts r) ts → No test ts → (front : List (TreeOf r)) (k : List (TreeOf r) → Plan X) (n : ℕ)
      → reads room ts (chain r test front k) n ≡ reads room ts (k front) n
  unfolding reads step
  chain-no [] r test h g front k n = refl
  chain-no (t ∷ ts) r test h g front k n =
      ap (λ o. at_lexeme room t ts o (reads room ts))
      (none-there (rule r t) h _ _ ∙ ap (λ (b : Bool). either_way (cond b (Some t) None) (λ _. stops Mixed) (step (Some t) (k front) n)) g)

  pub many-no : (ts : List Lexeme) (r : Rule) → No (starts r) ts → (front : List (TreeOf r)) (k : List (TreeOf r) → Plan X) (n : ℕ)
      → reads room ts (many r front k) n ≡ reads room ts (k front) n
  unfolding reads step
  many-no [] r h front k n = refl
  many-no (t ∷ ts) r h front k n = ap (λ o. at_lexeme room t ts o (reads room ts)) (none-there (rule r t) h _ _)

  pub many-yes : (ts : List Lexeme) (r : Rule) → Yes (starts r) ts → (front : List (TreeOf r)) (k : List (TreeOf r) → Plan X) (n : ℕ)
      → reads room ts (many r front k) n ≡ reads room ts (one r (λ x. many r (front ++ x ∷ []) k)) n
  unfolding reads step
  many-yes [] r h front k n = absurd (cc)
  many-yes (t ∷ ts) r h front k n = ap (λ o. at_lexeme room t ts o (reads room ts)) (other-way (rule r t) h _ _ _)

  -- ---- a rule that begins as another

  goes-on : {A B : Type 0} (o : Option (Plan A)) (f : A → Plan B) (k : B → Plan X) (n : ℕ) (other : StepResult X)
      → either_way (onward o f) (λ p. goes (p >>= k) n) other ≡ either_way o (λ p. goes (p >>= λ x. f x >>= k) n) other
  goes-on None f k n other = refl
  goes-on (Some p) f k n other = ap (λ p. goes p n) (assoc p f k)

  pub one-as-here : (t : Lexeme) (ts : List Lexeme) (r q : Rule) (f : TreeOf q → Plan (TreeOf r)) (k : TreeOf r → Plan X) (n : ℕ)
      → rule r t ≡ onward (rule q t) f → reads room (t ∷ ts) (one r k) n ≡ reads room (t ∷ ts) (one q (λ x. f x >>= k)) n
  unfolding reads step
  one-as-here t ts r q f k n e =
      ap (λ o. at_lexeme room t ts (either_way o (λ p. goes (p >>= k) n) (stops Unexpected)) (reads room ts)) e
      ∙ ap (λ o. at_lexeme room t ts o (reads room ts)) (goes-on (rule q t) f k n (stops Unexpected))

  pub one-as : (ts : List Lexeme) (r q : Rule) (f : TreeOf q → Plan (TreeOf r)) (k : TreeOf r → Plan X) (n : ℕ)
      → ((t : Lexeme) → rule r t ≡ onward (rule q t) f) → reads room ts (one r k) n ≡ reads room ts (one q (λ x. f x >>= k)) n
  unfolding reads step
  one-as [] r q f k n e = refl
  one-as (t ∷ ts) r q f k n e = one-as-here t ts r q f k n (e t)

-- ---- what is read by a rule begins with a lexeme that it may begin with

abbrev pub mark : Plan ℕ
mark = done 0

starts-here : (room : ℕ → Bool) (r : Rule) (o : Option (Plan (TreeOf r))) (t : Lexeme) (ts : List Lexeme) (n : ℕ) (y : ℕ × Input)
    → at_lexeme room t ts (either_way o (λ p. goes (p >>= λ _. mark) n) (stops Unexpected)) (reads room ts) ≡ Ok y → is_some o ≡ true
starts-here room r None t ts n y e = absurd (cc)
starts-here room r (Some p) t ts n y e = refl

no-lexeme : (s : ℕ × Input) → Err (fault Unexpected []) ≡ Ok s → ⊥
no-lexeme s e = cc

pub there : (room : ℕ → Bool) (r : Rule) (ts rest : List Lexeme) (n m : ℕ)
    → reads room ts (one r (λ _. mark)) n ≡ reads room rest mark m → Yes (starts r) ts
unfolding reads step
there room r [] rest n m e = absurd (no-lexeme (0, input m rest) (e ∙ done-here room rest 0 m))
there room r (t ∷ ts) rest n m e =
    starts-here room r (rule r t) t ts n (0, input m rest) (e ∙ done-here room rest 0 m)

-- ---- tests that tell the same

pub same-heads : {f g : Lexeme → Bool} → ((x : Lexeme) → f x ≡ g x) → (ts : List Lexeme) → heads f ts ≡ heads g ts
same-heads e [] = refl
same-heads e (t ∷ ts) = e t
