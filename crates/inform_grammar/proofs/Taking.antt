-- How to go on from what a plan says: a way for each part of a plan.
use Rattle.std.proofs.Common.{◌≡◌, inl, inr, ℕ, Bool, true, List, ◌∷◌, ◌++◌, refl, sym, ap, subst, ◌∙◌}
use Rattle.inform_lexemes.specs.declared.symbols.Symbol.TheVariants.{Equal, NotEqual, Less, Greater, LessEqual, GreaterEqual, ByteArrow, WordArrow}
use Rattle.inform_lexemes.specs.Lexemes.{Lexeme, Name, Number, Sign, is_sign, is_name, is_number}
use Rattle.inform_grammar.specs.Rules.{Rule, TreeOf}
use Rattle.inform_grammar.specs.Lexemes.{Yes, No, name_in, arrow, is_arrow, is_relation, relation_of, relation_sign, one_less}
use Rattle.inform_grammar.specs.ValueRules.{number_in}
use Rattle.inform_grammar.specs.Plan.{Plan, done, refuse, next, look, maybe, chain, shut}
use Rattle.inform_grammar.specs.Reading.{opened_after}
use Rattle.inform_grammar.proofs.Steps.{starts}
use Rattle.inform_grammar.proofs.Says.{Says, Each, Fits, Holds, Read, Found}

module _ (room : ℕ → Bool) where
  -- a plan that is done: what was found is this
  pub ended : {r : Rule} {x v : TreeOf r} {n i m : ℕ} {ts us rest : List Lexeme} → Read room (done x) i v us m rest
      → n ≡ i → Says room r n x ts us → Found room r n ts v m rest
  ended {r = r} {x = x} {v = v} {n = n} {i = i} {m = m} {ts = ts} {us = us} {rest = rest} h e d = record {
    same = e ∙ h.says.1;
    says = subst (λ us. Says room r n v ts us) h.says.2 (subst (λ x. Says room r n x ts us) h.says.0 d);
  }

  -- what was found, where its lexemes are known in another way
  pub found_at : {r : Rule} {v : TreeOf r} {n m : ℕ} {x : Lexeme} {ts us rest : List Lexeme} → ts ≡ us → Found room r n (x ∷ us) v m rest
      → Found room r n (x ∷ ts) v m rest
  found_at {r = r} {v = v} {n = n} {m = m} {x = x} {rest = rest} e d = subst (λ us. Found room r n (x ∷ us) v m rest) (sym e) d

  pub refused : {X : Type 0} {v : X} {n m : ℕ} {ts rest : List Lexeme} {A : Type 0} → Read room refuse n v ts m rest → A
  refused h = absurd h.says

  pub closed : {X : Type 0} {p : Plan X} {v : X} {n m : ℕ} {ts rest : List Lexeme} → Read room (shut p) n v ts m rest → Read room p (one_less n) v ts m rest
  closed h = record { says = h.says }

  -- a rule that may be read
  pub ruled : {X : Type 0} {r : Rule} {k : TreeOf r → Plan X} {q : Plan X} {v : X} {n m : ℕ} {ts rest : List Lexeme} {A : Type 0}
      → Read room (maybe r k q) n v ts m rest
      → ((x : TreeOf r) (mid : List Lexeme) → Says room r n x ts mid → Read room (k x) n v mid m rest → A)
      → (No (starts r) ts → Read room q n v ts m rest → A) → A
  ruled {X = X} {r = r} {k = k} {q = q} {v = v} {n = n} {m = m} {ts = ts} {rest = rest} {A = A} h one other = by h.says
    where
      by : Holds room (maybe r k q) n v ts m rest → A
      by (inl (x, mid, d, h)) = one x mid d (record { says = h })
      by (inr (e, h)) = other e (record { says = h })

  -- a rule that must be read
  pub must_be : {X : Type 0} {r : Rule} {k : TreeOf r → Plan X} {v : X} {n m : ℕ} {ts rest : List Lexeme} {A : Type 0}
      → Read room (maybe r k refuse) n v ts m rest
      → ((x : TreeOf r) (mid : List Lexeme) → Says room r n x ts mid → Read room (k x) n v mid m rest → A) → A
  must_be h one = ruled h one (λ e h. refused h)

  -- a rule that is read again and again
  pub repeated : {X : Type 0} {r : Rule} {test : Lexeme → Bool} {front : List (TreeOf r)} {k : List (TreeOf r) → Plan X} {v : X} {n m : ℕ} {ts rest : List Lexeme} {A : Type 0}
      → Read room (chain r test front k) n v ts m rest
      → ((xs : List (TreeOf r)) (mid : List Lexeme) → Each room r n xs ts mid → No (starts r) mid → No test mid → Read room (k (front ++ xs)) n v mid m rest → A) → A
  repeated h go = go h.says.0 h.says.1 h.says.2 h.says.3 h.says.4 (record { says = h.says.5 })

  -- a lexeme that was looked at
  pub looked : {X : Type 0} {test : Lexeme → Bool} {p q : Plan X} {v : X} {n m : ℕ} {ts rest : List Lexeme} {A : Type 0}
      → Read room (look test p q) n v ts m rest
      → (Yes test ts → Read room p n v ts m rest → A) → (No test ts → Read room q n v ts m rest → A) → A
  looked {test = test} {p = p} {q = q} {v = v} {n = n} {m = m} {ts = ts} {rest = rest} {A = A} h one other = by h.says
    where
      by : Holds room (look test p q) n v ts m rest → A
      by (inl (e, h)) = one e (record { says = h })
      by (inr (e, h)) = other e (record { says = h })

  -- ---- lexemes

  module _ {X : Type 0} {test : Lexeme → Bool} {k : Lexeme → Plan X} {q : Plan X} {v : X} {n m : ℕ} {ts rest : List Lexeme} {A : Type 0} where
    -- a lexeme that passed a test
    pub passing : Read room (next test k q) n v ts m rest
        → ((x : Lexeme) (us : List Lexeme) → ts ≡ x ∷ us → test x ≡ true → Fits room x n → Read room (k x) (opened_after x n) v us m rest → A)
        → (No test ts → Read room q n v ts m rest → A) → A
    passing h one other = by h.says
      where
        by : Holds room (next test k q) n v ts m rest → A
        by (inl (x, us, e, t, f, h)) = one x us e t f (record { says = h })
        by (inr (e, h)) = other e (record { says = h })

    -- one of which the test tells which it is
    pub took : (t : Lexeme) → ((x : Lexeme) → test x ≡ true → x ≡ t) → Read room (next test k q) n v ts m rest
        → ((us : List Lexeme) → ts ≡ t ∷ us → Fits room t n → Read room (k t) (opened_after t n) v us m rest → A)
        → (No test ts → Read room q n v ts m rest → A) → A
    took t told h one other =
        passing h
        (λ x us e c f h. subst (λ x. ts ≡ x ∷ us → Fits room x n → Read room (k x) (opened_after x n) v us m rest → A) (sym (told x c)) (one us) e f h)
        other

    -- one that is told by what it holds
    pub took_as : (same : Lexeme → Lexeme) → ((x : Lexeme) → test x ≡ true → x ≡ same x)
        → ((x : Lexeme) → test x ≡ true → opened_after x n ≡ n) → Read room (next test k q) n v ts m rest
        → ((x : Lexeme) (us : List Lexeme) → ts ≡ same x ∷ us → Read room (k x) n v us m rest → A)
        → (No test ts → Read room q n v ts m rest → A) → A
    took_as same told plain h one other =
        passing h
        (λ x us e c f h. one x us (e ∙ ap (λ x. x ∷ us) (told x c)) (subst (λ n. Read room (k x) n v us m rest) (plain x c) h))
        other

  -- where nothing else is right
  module _ {X : Type 0} {test : Lexeme → Bool} {k : Lexeme → Plan X} {v : X} {n m : ℕ} {ts rest : List Lexeme} {A : Type 0} where
    pub must : (t : Lexeme) → ((x : Lexeme) → test x ≡ true → x ≡ t) → Read room (next test k refuse) n v ts m rest
        → ((us : List Lexeme) → ts ≡ t ∷ us → Fits room t n → Read room (k t) (opened_after t n) v us m rest → A) → A
    must t told h one = took t told h one (λ e h. refused h)

    -- the same, after what was spelled up to there
    pub must_after : (S : List Lexeme → Type 0) (t : Lexeme) → ((x : Lexeme) → test x ≡ true → x ≡ t) → S ts
        → Read room (next test k refuse) n v ts m rest
        → ((us : List Lexeme) → S (t ∷ us) → Fits room t n → Read room (k t) (opened_after t n) v us m rest → A) → A
    must_after S t told d h one = must t told h (λ us e f h. one us (subst S e d) f h)

    pub must_as : (same : Lexeme → Lexeme) → ((x : Lexeme) → test x ≡ true → x ≡ same x)
        → ((x : Lexeme) → test x ≡ true → opened_after x n ≡ n) → Read room (next test k refuse) n v ts m rest
        → ((x : Lexeme) (us : List Lexeme) → ts ≡ same x ∷ us → Read room (k x) n v us m rest → A) → A
    must_as same told plain h one = took_as same told plain h one (λ e h. refused h)

-- a lexeme, and what follows it
pub and_after : {t : Lexeme} {ts us vs : List Lexeme} → ts ≡ t ∷ us → us ≡ vs → ts ≡ t ∷ vs
and_after {t = t} e g = e ∙ ap (λ us. t ∷ us) g

-- ---- what these tests tell

pub name-told : (x : Lexeme) → is_name x ≡ true → x ≡ Name (name_in x)
name-told (Name name) e = refl
name-told _ e = absurd (cc)

pub name-plain : (n : ℕ) (x : Lexeme) → is_name x ≡ true → opened_after x n ≡ n
name-plain n (Name name) e = refl
name-plain n _ e = absurd (cc)

pub number-told : (x : Lexeme) → is_number x ≡ true → x ≡ Number (number_in x)
number-told (Number n) e = refl
number-told _ e = absurd (cc)

pub number-plain : (n : ℕ) (x : Lexeme) → is_number x ≡ true → opened_after x n ≡ n
number-plain n (Number k) e = refl
number-plain n _ e = absurd (cc)

pub arrow-told : (x : Lexeme) → is_arrow x ≡ true → x ≡ Sign (arrow (is_sign WordArrow x))
arrow-told (Sign ByteArrow) e = refl
arrow-told (Sign WordArrow) e = refl
arrow-told _ e = absurd (cc)

pub arrow-plain : (n : ℕ) (x : Lexeme) → is_arrow x ≡ true → opened_after x n ≡ n
arrow-plain n (Sign ByteArrow) e = refl
arrow-plain n (Sign WordArrow) e = refl
arrow-plain n _ e = absurd (cc)

pub relation-told : (x : Lexeme) → is_relation x ≡ true → x ≡ Sign (relation_sign (relation_of x))
relation-told (Sign Equal) e = refl
relation-told (Sign NotEqual) e = refl
relation-told (Sign Less) e = refl
relation-told (Sign Greater) e = refl
relation-told (Sign LessEqual) e = refl
relation-told (Sign GreaterEqual) e = refl
relation-told _ e = absurd (cc)

pub relation-plain : (n : ℕ) (x : Lexeme) → is_relation x ≡ true → opened_after x n ≡ n
relation-plain n (Sign Equal) e = refl
relation-plain n (Sign NotEqual) e = refl
relation-plain n (Sign Less) e = refl
relation-plain n (Sign Greater) e = refl
relation-plain n (Sign LessEqual) e = refl
relation-plain n (Sign GreaterEqual) e = refl
relation-plain n _ e = absurd (cc)
