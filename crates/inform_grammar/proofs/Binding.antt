-- Reading by a plan that is made of others.
use Rattle.std.proofs.Common.{◌≡◌, ℕ, Bool, true, false, cond, List, [], ◌∷◌, ◌++◌, Option, Some, None, Ok, Err, refl, sym, ap, ap₂, ◌∙◌}
use Rattle.std.proofs.Math.Path.{fun_ext}
use Rattle.inform_lexemes.specs.Lexemes.{Lexeme}
use Rattle.inform_grammar.specs.Faults.{Mixed}
use Rattle.inform_grammar.specs.Lexemes.{is_opener}
use Rattle.inform_grammar.specs.Plan.{Plan, done, refuse, next, look, maybe, chain, shut, ◌>>=◌}
use Rattle.inform_grammar.specs.Reading.{StepResult, stops, gives, goes, passed, begun, either_way, step, Input, Answer, opened_after, taken, at_end, at_lexeme, reads}

-- plans regroup
pub assoc : {X Y Z : Type 0} (p : Plan X) (f : X → Plan Y) (g : Y → Plan Z) → (p >>= f) >>= g ≡ p >>= (λ x. f x >>= g)
assoc (done x) f g = refl
assoc refuse f g = refl
assoc (next test k q) f g = ap₂ (λ k q. next test k q) (fun_ext (λ x. assoc (k x) f g)) (assoc q f g)
assoc (look test p q) f g = ap₂ (λ p q. look test p q) (assoc p f g) (assoc q f g)
assoc (maybe r k q) f g = ap₂ (λ k q. maybe r k q) (fun_ext (λ x. assoc (k x) f g)) (assoc q f g)
assoc (chain r test front k) f g = ap (λ k. chain r test front k) (fun_ext (λ xs. assoc (k xs) f g))
assoc (shut p) f g = ap (λ p. shut p) (assoc p f g)

-- what the first plan makes of a lexeme, and then the second
abbrev pub then_step : {X Y : Type 0} → Option Lexeme → (X → Plan Y) → StepResult X → StepResult Y
then_step t f (stops kind) = stops kind
then_step t f (gives x n) = step t (f x) n
then_step t f (goes p n) = goes (p >>= f) n

-- both sides do the same, where there is something and where there is nothing
either-same : {A B C : Type 0} (o : Option A) (f : A → B) (other : B) (g : B → C) (f' : A → C) (other' : C)
    → ((x : A) → f' x ≡ g (f x)) → other' ≡ g other → either_way o f' other' ≡ g (either_way o f other)
either-same None f other g f' other' some none = none
either-same (Some x) f other g f' other' some none = some x

-- the step of two plans in turn is that of the first, with the second to follow what it reads
pub step-then : {X Y : Type 0} (t : Option Lexeme) (p : Plan X) (n : ℕ) (f : X → Plan Y)
    → step t (p >>= f) n ≡ then_step t f (step t p n)
unfolding step
step-then t (done x) n f = refl
step-then t refuse n f = refl
step-then t (next test k q) n f =
    either-same (passed test t) (λ x. goes (k x) n) (step t q n) (then_step t f) (λ x. goes (k x >>= f) n) (step t (q >>= f) n)
    (λ x. refl) (step-then t q n f)
step-then t (look test p q) n f =
    either-same (passed test t) (λ _. step t p n) (step t q n) (then_step t f) (λ _. step t (p >>= f) n) (step t (q >>= f) n)
    (λ x. step-then t p n f) (step-then t q n f)
step-then t (maybe r k q) n f =
    either-same (begun r t) (λ p. goes (p >>= k) n) (step t q n) (then_step t f) (λ p. goes (p >>= λ x. k x >>= f) n) (step t (q >>= f) n)
    (λ p. ap (λ p. goes p n) (sym (assoc p k f))) (step-then t q n f)
step-then t (chain r test front k) n f =
    either-same (begun r t) (λ p. goes (p >>= λ x. chain r test (front ++ x ∷ []) k) n)
    (either_way (passed test t) (λ _. stops Mixed) (step t (k front) n)) (then_step t f)
    (λ p. goes (p >>= λ x. chain r test (front ++ x ∷ []) (λ xs. k xs >>= f)) n)
    (either_way (passed test t) (λ _. stops Mixed) (step t (k front >>= f) n))
    (λ p. ap (λ p. goes p n) (sym (assoc p (λ x. chain r test (front ++ x ∷ []) k) f)))
    (either-same (passed test t) (λ _. stops Mixed) (step t (k front) n) (then_step t f) (λ _. stops Mixed) (step t (k front >>= f) n)
    (λ x. refl) (step-then t (k front) n f))
step-then t (shut p) n f = step-then t p _ f

-- what was read first, and then more
abbrev pub and_then : {X Y : Type 0} → Answer X → (X → Input → Answer Y) → Answer Y
and_then (Ok y) f = f y.0 y.1
and_then (Err e) f = Err e

module _ (room : ℕ → Bool) {X Y : Type 0} (f : X → Plan Y) where
  abbrev pub continued : X → Input → Answer Y
  continued x s = reads room s.rest (f x) s.opened

  at-end : (o : StepResult X) → at_end (then_step None f o) ≡ and_then (at_end o) continued
  unfolding reads
  at-end (stops kind) = refl
  at-end (gives x n) = refl
  at-end (goes p n) = refl

  cond-then : (b : Bool) (go other : Answer X) (go' other' : Answer Y) → go' ≡ and_then go continued → other' ≡ and_then other continued
      → cond b go' other' ≡ and_then (cond b go other) continued
  cond-then true go other go' other' e h = e
  cond-then false go other go' other' e h = h

  taken-then : (x : Lexeme) (xs : List Lexeme) (n : ℕ) (go : ℕ → Answer X) (go' : ℕ → Answer Y)
      → ((n : ℕ) → go' n ≡ and_then (go n) continued) → taken room x xs n go' ≡ and_then (taken room x xs n go) continued
  taken-then x xs n go go' e =
      cond-then (is_opener x) _ _ _ _ (cond-then (room n) _ _ _ _ (e _) refl) (e (opened_after x n))

  at-lexeme : (x : Lexeme) (xs : List Lexeme) → ((p : Plan X) (n : ℕ) → reads room xs (p >>= f) n ≡ and_then (reads room xs p n) continued)
      → (o : StepResult X) → at_lexeme room x xs (then_step (Some x) f o) (reads room xs) ≡ and_then (at_lexeme room x xs o (reads room xs)) continued
  unfolding reads
  at-lexeme x xs ih (stops kind) = refl
  at-lexeme x xs ih (gives v n) = refl
  at-lexeme x xs ih (goes p n) = taken-then x xs n (reads room xs p) (reads room xs (p >>= f)) (ih p)

  -- a plan and then another are read one after the other
  pub reads-then : (ts : List Lexeme) (p : Plan X) (n : ℕ) → reads room ts (p >>= f) n ≡ and_then (reads room ts p n) continued
  unfolding reads
  reads-then [] p n = ap at_end (step-then None p n f) ∙ at-end (step None p n)
  reads-then (x ∷ xs) p n =
      ap (λ o. at_lexeme room x xs o (reads room xs)) (step-then (Some x) p n f) ∙ at-lexeme x xs (reads-then xs) (step (Some x) p n)
