-- What was read by a plan is what the plan says, where each rule reads what the grammar says of it.
use Rattle.std.proofs.Common.{◌≡◌, inl, inr, ℕ, suc, Bool, true, false, cond, List, [], ◌∷◌, ◌++◌, Option, Some, None, is_some, Ok, Err, refl, sym, ap, subst, append_assoc, append-nil}
use Rattle.std.specs.Bool.{MatchBool}
use Rattle.std.specs.Prelude.{⊤}
use Rattle.inform_lexemes.specs.Lexemes.{Lexeme}
use Rattle.inform_grammar.specs.Faults.{Fault, fault, Mixed, TooDeep}
use Rattle.inform_grammar.specs.Rules.{Rule, TreeOf}
use Rattle.inform_grammar.specs.Lexemes.{is_opener, is_closer, one_less}
use Rattle.inform_grammar.specs.Plan.{Plan, done, refuse, next, look, maybe, chain, shut, ◌>>=◌, onward}
use Rattle.inform_grammar.specs.Rule.{rule}
use Rattle.inform_grammar.specs.Reading.{StepResult, stops, goes, passed, either_way, step, Input, input, Answer, opened_after, taken, at_end, at_lexeme, reads}
use Rattle.inform_grammar.proofs.Steps.{starts}
use Rattle.inform_grammar.proofs.Says.{Says, Fits, Holds, Read, Begun, Found}

-- ---- answers

abbrev value_of : {X : Type 0} → X → Answer X → X
value_of other (Ok y) = y.0
value_of other (Err e) = other

abbrev opened_of : {X : Type 0} → ℕ → Answer X → ℕ
opened_of other (Ok y) = y.1.opened
opened_of other (Err e) = other

abbrev rest_of : {X : Type 0} → List Lexeme → Answer X → List Lexeme
rest_of other (Ok y) = y.1.rest
rest_of other (Err e) = other

abbrev pub answered : {X : Type 0} → X → ℕ → List Lexeme → Answer X
answered x n ts = Ok (x, input n ts)

pub same-answers : {X : Type 0} (x v : X) (n m : ℕ) (ts rest : List Lexeme) → answered x n ts ≡ answered v m rest → (x ≡ v) × (n ≡ m) × (ts ≡ rest)
same-answers x v n m ts rest e = (ap (value_of x) e, ap (opened_of n) e, ap (rest_of ts) e)

pub not-both : {X : Type 0} {A : Type 0} {f : Fault} {y : X × Input} → Err f ≡ Ok y → A
not-both e = absurd (cc)

module _ (room : ℕ → Bool) where
  -- ---- one plan, and then another

  -- what two plans in turn read is what the first reads up to some input, and the second from there
  pub holds-then : {X Y : Type 0} (p : Plan X) (f : X → Plan Y) (n : ℕ) (v : Y) (ts : List Lexeme) (m : ℕ) (rest : List Lexeme)
      → Holds room (p >>= f) n v ts m rest
      → (w : X) × (i : ℕ) × (mid : List Lexeme) × Holds room p n w ts i mid × Holds room (f w) i v mid m rest
  holds-then (done x) f n v ts m rest h = (x, n, ts, (refl, refl, refl), h)
  holds-then refuse f n v ts m rest h = absurd h
  holds-then (next test k q) f n v ts m rest (inl (x, us, e, t, g, h)) =
      let a = holds-then (k x) f (opened_after x n) v us m rest h in (a.0, a.1, a.2, inl (x, us, e, t, g, a.3), a.4)
  holds-then (next test k q) f n v ts m rest (inr (t, h)) = let a = holds-then q f n v ts m rest h in (a.0, a.1, a.2, inr (t, a.3), a.4)
  holds-then (look test p q) f n v ts m rest (inl (t, h)) = let a = holds-then p f n v ts m rest h in (a.0, a.1, a.2, inl (t, a.3), a.4)
  holds-then (look test p q) f n v ts m rest (inr (t, h)) = let a = holds-then q f n v ts m rest h in (a.0, a.1, a.2, inr (t, a.3), a.4)
  holds-then (maybe r k q) f n v ts m rest (inl (x, mid, d, h)) =
      let a = holds-then (k x) f n v mid m rest h in (a.0, a.1, a.2, inl (x, mid, d, a.3), a.4)
  holds-then (maybe r k q) f n v ts m rest (inr (t, h)) = let a = holds-then q f n v ts m rest h in (a.0, a.1, a.2, inr (t, a.3), a.4)
  holds-then (chain r test front k) f n v ts m rest (xs, mid, d, t, g, h) =
      let a = holds-then (k (front ++ xs)) f n v mid m rest h in (a.0, a.1, a.2, (xs, mid, d, t, g, a.3), a.4)
  holds-then (shut p) f n v ts m rest h = holds-then p f (one_less n) v ts m rest h

  pub begun-then : {X Y : Type 0} (o : Option (Plan X)) (f : X → Plan Y) (n : ℕ) (v : Y) (us : List Lexeme) (m : ℕ) (rest : List Lexeme)
      → Begun room (onward o f) n v us m rest
      → (w : X) × (i : ℕ) × (mid : List Lexeme) × Begun room o n w us i mid × Read room (f w) i v mid m rest
  begun-then None f n v us m rest h = absurd h
  begun-then (Some p) f n v us m rest h =
      let a = holds-then p f n v us m rest h.says in (a.0, a.1, a.2, record { says = a.3 }, record { says = a.4 })

  -- ---- what was read

  fits-or-not : {X : Type 0} (x : Lexeme) (xs : List Lexeme) (n : ℕ) (go : ℕ → Answer X) (y : X × Input) (opens fits closes : Bool)
      → cond opens (cond fits (go (suc n)) (Err (fault TooDeep (x ∷ xs)))) (go (cond opens (suc n) (cond closes (one_less n) n))) ≡ Ok y
      → MatchBool opens (fits ≡ true) ⊤ × (go (cond opens (suc n) (cond closes (one_less n) n)) ≡ Ok y)
  fits-or-not x xs n go y true true closes e = (refl, e)
  fits-or-not x xs n go y true false closes e = not-both e
  fits-or-not x xs n go y false fits closes e = (tt, e)

  -- an answer after a lexeme that was taken
  pub taken-fits : {X : Type 0} (x : Lexeme) (xs : List Lexeme) (n : ℕ) (go : ℕ → Answer X) (y : X × Input) → taken room x xs n go ≡ Ok y
      → Fits room x n × (go (opened_after x n) ≡ Ok y)
  taken-fits x xs n go y e = fits-or-not x xs n go y (is_opener x) (room n) (is_closer x) e

  module _ (says : (r : Rule) (x : Lexeme) (n : ℕ) (v : TreeOf r) (us : List Lexeme) (m : ℕ) (rest : List Lexeme) → Fits room x n
      → Begun room (rule r x) (opened_after x n) v us m rest → Found room r n (x ∷ us) v m rest) where
    -- at the end
    held-at-end : {X : Type 0} (p : Plan X) (n : ℕ) (v : X) (m : ℕ) (rest : List Lexeme) → at_end (step None p n) ≡ Ok (v, input m rest)
        → Holds room p n v [] m rest
    unfolding step
    held-at-end (done x) n v m rest e = same-answers _ _ _ _ _ _ e
    held-at-end refuse n v m rest e = not-both e
    held-at-end (next test k q) n v m rest e = inr (refl, held-at-end q n v m rest e)
    held-at-end (look test p q) n v m rest e = inr (refl, held-at-end q n v m rest e)
    held-at-end (maybe r k q) n v m rest e = inr (refl, held-at-end q n v m rest e)
    held-at-end (chain r test front k) n v m rest e =
        ([], [], refl, refl, refl, subst (λ xs. Holds room (k xs) n v [] m rest) (sym (append-nil front)) (held-at-end (k front) n v m rest e))
    held-at-end (shut p) n v m rest e = held-at-end p (one_less n) v m rest e

    module _ (x : Lexeme) (xs : List Lexeme) {X : Type 0}
        (later : (p : Plan X) (n : ℕ) (v : X) (m : ℕ) (rest : List Lexeme) → reads room xs p n ≡ Ok (v, input m rest) → Holds room p n v xs m rest) where
      abbrev Here : StepResult X → X → ℕ → List Lexeme → Type 0
      Here o v m rest = at_lexeme room x xs o (reads room xs) ≡ Ok (v, input m rest)

      held-next : (test : Lexeme → Bool) (k : Lexeme → Plan X) (q : Plan X) (n : ℕ) (v : X) (m : ℕ) (rest : List Lexeme) (b : Bool) → test x ≡ b
          → Here (either_way (cond b (Some x) None) (λ x. goes (k x) n) (step (Some x) q n)) v m rest
          → (Here (step (Some x) q n) v m rest → Holds room q n v (x ∷ xs) m rest) → Holds room (next test k q) n v (x ∷ xs) m rest
      held-next test k q n v m rest true t e other =
          let a = taken-fits x xs n (reads room xs (k x)) (v, input m rest) e in
          inl (x, xs, refl, t, a.0, later (k x) (opened_after x n) v m rest a.1)
      held-next test k q n v m rest false t e other = inr (t, other e)

      held-look : (test : Lexeme → Bool) (p q : Plan X) (n : ℕ) (v : X) (m : ℕ) (rest : List Lexeme) (b : Bool) → test x ≡ b
          → Here (either_way (cond b (Some x) None) (λ _. step (Some x) p n) (step (Some x) q n)) v m rest
          → (Here (step (Some x) p n) v m rest → Holds room p n v (x ∷ xs) m rest)
          → (Here (step (Some x) q n) v m rest → Holds room q n v (x ∷ xs) m rest) → Holds room (look test p q) n v (x ∷ xs) m rest
      held-look test p q n v m rest true t e one other = inl (t, one e)
      held-look test p q n v m rest false t e one other = inr (t, other e)

      -- a rule that was read, and what was read after it
      held-rule : {Y : Type 0} (r : Rule) (p : Plan (TreeOf r)) → rule r x ≡ Some p → (k : TreeOf r → Plan X) (n : ℕ) (v : X) (m : ℕ) (rest : List Lexeme)
          → Here (goes (p >>= k) n) v m rest
          → ((w : TreeOf r) (mid : List Lexeme) → Says room r n w (x ∷ xs) mid → Holds room (k w) n v mid m rest → Y) → Y
      held-rule r p same k n v m rest e go =
          let a = taken-fits x xs n (reads room xs (p >>= k)) (v, input m rest) e in
          let h = holds-then p k (opened_after x n) v xs m rest (later (p >>= k) (opened_after x n) v m rest a.1) in
          let b = says r x n h.0 xs h.1 h.2 a.0 (subst (λ o. Begun room o (opened_after x n) h.0 xs h.1 h.2) (sym same) (record { says = h.3 })) in
          go h.0 h.2 b.says (subst (λ i. Holds room (k h.0) i v h.2 m rest) (sym b.same) h.4)

      held-maybe : (r : Rule) (k : TreeOf r → Plan X) (q : Plan X) (n : ℕ) (v : X) (m : ℕ) (rest : List Lexeme) (o : Option (Plan (TreeOf r))) → rule r x ≡ o
          → Here (either_way o (λ p. goes (p >>= k) n) (step (Some x) q n)) v m rest
          → (Here (step (Some x) q n) v m rest → Holds room q n v (x ∷ xs) m rest) → Holds room (maybe r k q) n v (x ∷ xs) m rest
      held-maybe r k q n v m rest None same e other = inr (ap (λ o. is_some o) same, other e)
      held-maybe r k q n v m rest (Some p) same e other =
          held-rule r p same k n v m rest e (λ w mid d h. inl (w, mid, d, h))

      -- nothing that a chain may go on with
      held-no-more : (r : Rule) (test : Lexeme → Bool) (front : List (TreeOf r)) (k : List (TreeOf r) → Plan X) (n : ℕ) (v : X) (m : ℕ) (rest : List Lexeme)
          → starts r x ≡ false → (b : Bool) → test x ≡ b
          → Here (either_way (cond b (Some x) None) (λ _. stops Mixed) (step (Some x) (k front) n)) v m rest
          → (Here (step (Some x) (k front) n) v m rest → Holds room (k front) n v (x ∷ xs) m rest)
          → Holds room (chain r test front k) n v (x ∷ xs) m rest
      held-no-more r test front k n v m rest none true t e other = not-both e
      held-no-more r test front k n v m rest none false t e other =
          ([], x ∷ xs, refl, none, t, subst (λ ys. Holds room (k ys) n v (x ∷ xs) m rest) (sym (append-nil front)) (other e))

      held-chain : (r : Rule) (test : Lexeme → Bool) (front : List (TreeOf r)) (k : List (TreeOf r) → Plan X) (n : ℕ) (v : X) (m : ℕ) (rest : List Lexeme)
          (o : Option (Plan (TreeOf r))) → rule r x ≡ o
          → Here (either_way o (λ p. goes (p >>= λ y. chain r test (front ++ y ∷ []) k) n)
          (either_way (passed test (Some x)) (λ _. stops Mixed) (step (Some x) (k front) n))) v m rest
          → (Here (step (Some x) (k front) n) v m rest → Holds room (k front) n v (x ∷ xs) m rest) → Holds room (chain r test front k) n v (x ∷ xs) m rest
      held-chain r test front k n v m rest None same e other =
          held-no-more r test front k n v m rest (ap (λ o. is_some o) same) (test x) refl e other
      held-chain r test front k n v m rest (Some p) same e other =
          held-rule r p same (λ y. chain r test (front ++ y ∷ []) k) n v m rest e
          (λ w mid d h. (w ∷ h.0, h.1, (mid, d, h.2), h.3, h.4, subst (λ ys. Holds room (k ys) n v h.1 m rest) (append_assoc front (w ∷ []) h.0) h.5))

      held-here : (p : Plan X) (n : ℕ) (v : X) (m : ℕ) (rest : List Lexeme) → Here (step (Some x) p n) v m rest → Holds room p n v (x ∷ xs) m rest
      unfolding step
      held-here (done y) n v m rest e = same-answers _ _ _ _ _ _ e
      held-here refuse n v m rest e = not-both e
      held-here (next test k q) n v m rest e = held-next test k q n v m rest (test x) refl e (held-here q n v m rest)
      held-here (look test p q) n v m rest e =
          held-look test p q n v m rest (test x) refl e (held-here p n v m rest) (held-here q n v m rest)
      held-here (maybe r k q) n v m rest e = held-maybe r k q n v m rest (rule r x) refl e (held-here q n v m rest)
      held-here (chain r test front k) n v m rest e = held-chain r test front k n v m rest (rule r x) refl e (held-here (k front) n v m rest)
      held-here (shut p) n v m rest e = held-here p (one_less n) v m rest e

    -- what was read by a plan is what it says
    pub held : {X : Type 0} (ts : List Lexeme) (p : Plan X) (n : ℕ) (v : X) (m : ℕ) (rest : List Lexeme) → reads room ts p n ≡ Ok (v, input m rest)
        → Holds room p n v ts m rest
    unfolding reads
    held [] p n v m rest e = held-at-end p n v m rest e
    held (x ∷ xs) p n v m rest e = held-here x xs (held xs) p n v m rest e
