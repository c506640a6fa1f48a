-- Each kind of plan: when it can be completed, and where it leads.
use Rattle.std.proofs.Common.{◌≡◌, ℕ, suc, Bool, true, false, cond, List, [], ◌∷◌, ◌++◌, Option, Some, None, refl, ap, ◌∙◌}
use Rattle.std.specs.Prelude.{⊤}
use Rattle.inform_lexemes.specs.Lexemes.{Lexeme}
use Rattle.inform_grammar.specs.Faults.{Mixed}
use Rattle.inform_grammar.specs.Rules.{Rule, TreeOf}
use Rattle.inform_grammar.specs.Lexemes.{is_opener, is_closer, is_connective, swapped, one_less}
use Rattle.inform_grammar.specs.Plan.{Plan, done, refuse, next, look, maybe, chain, shut, ◌>>=◌, take, one}
use Rattle.inform_grammar.specs.Rule.{rule}
use Rattle.inform_grammar.specs.Reading.{StepResult, stops, gives, goes, either_way, step, Answer, opened_after, taken, at_lexeme, reads, no_limit}
use Rattle.inform_grammar.proofs.Steps.{starts, done-here, shut-here, next-no, maybe-no, chain-no}
use Rattle.inform_grammar.proofs.Ready.{Place, is_stop, place_of, Free, free-heads, Completes, Closes, Onward, Good, Safe, completes-then, onward-then}

-- ---- each kind of plan

pub done-safe : {X : Type 0} {place : Place} {x : X} → Safe place place (done x)
done-safe {x = x} = record {
  closes = record {
    completes = record { value = x; more = []; finishes = λ rest n s. (n, done-here no_limit rest x n) };
    stops = λ rest s. s;
  };
  onward = tt;
}

-- a statement that ends changes nothing in what completes a plan and in where the plan leads
pub shut-safe : {X : Type 0} {place before : Place} {p : Plan X} → Safe place before p → Safe place before (shut p)
shut-safe {p = p} a =
    let c = a.closes.completes in
    record {
      closes = record {
        completes = record {
          value = c.value;
          more = c.more;
          finishes = λ rest n s. let h = c.finishes rest (one_less n) s in (h.0, shut-here no_limit (c.more ++ rest) p n ∙ h.1);
        };
        stops = a.closes.stops;
      };
      onward = a.onward;
    }

-- where there is always room
free-taken : {X : Type 0} (x : Lexeme) (xs : List Lexeme) (n : ℕ) (go : ℕ → Answer X) → taken no_limit x xs n go ≡ go (opened_after x n)
free-taken {X = X} x xs n go = by (is_opener x) (cond (is_closer x) (one_less n) n)
  where
    by : (b : Bool) (i : ℕ) → cond b (go (suc n)) (go (cond b (suc n) i)) ≡ go (cond b (suc n) i)
    by true i = refl
    by false i = refl

module _ {X : Type 0} {place : Place} {test : Lexeme → Bool} {k : Lexeme → Plan X} {q : Plan X} where
  -- a plan that takes such a lexeme can be completed by it and by what completes the plan after it
  next-completes : (x : Lexeme) → test x ≡ true → Completes place (k x) → Completes place (next test k q)
  unfolding reads step
  next-completes x e a = record {
    value = a.value;
    more = x ∷ a.more;
    finishes = λ rest n s. let h = a.finishes rest (opened_after x n) s in (
      h.0,
      ap (λ (b : Bool). at_lexeme no_limit x (a.more ++ rest) (either_way (cond b (Some x) None) (λ x. goes (k x) n) (step (Some x) q n)) (reads no_limit (a.more ++ rest))) e
          ∙ free-taken x (a.more ++ rest) n (reads no_limit (a.more ++ rest) (k x)) ∙ h.1,
    );
  }

  pub next-good : (x : Lexeme) → test x ≡ true → ((y : Lexeme) → test y ≡ true → Good place (k y)) → Onward place q → Good place (next test k q)
  next-good x e g o = record {
    completes = next-completes x e (g x e).completes;
    onward = (λ y e. ((g y e).completes, (g y e).onward), o);
  }

  pub next-safe : {before : Place} (x : Lexeme) → test x ≡ true → is_stop before x ≡ true → ((y : Lexeme) → test y ≡ true → Good place (k y)) → Onward place q
      → Safe place before (next test k q)
  unfolding next-completes
  next-safe x e s g o = record {
    closes = record { completes = next-completes x e (g x e).completes; stops = λ rest _. s };
    onward = (λ y e. ((g y e).completes, (g y e).onward), o);
  }

  -- where a lexeme may be left out, what completes the plan without it completes this one
  pub next-skip : {before : Place} → Free before test → ((y : Lexeme) → test y ≡ true → Good place (k y)) → Safe place before q → Safe place before (next test k q)
  next-skip {before = before} f g a =
      let c = a.closes.completes in
      record {
        closes = record {
          completes = record {
            value = c.value;
            more = c.more;
            finishes = λ rest n s. let h = c.finishes rest n s in
                (h.0, next-no no_limit (c.more ++ rest) test (free-heads before test f (c.more ++ rest) (a.closes.stops rest s)) k q n ∙ h.1);
          };
          stops = a.closes.stops;
        };
        onward = (λ y e. ((g y e).completes, (g y e).onward), a.onward);
      }

-- where a lexeme leads
pub leads : {X : Type 0} {place : Place} {test : Lexeme → Bool} {k : Lexeme → Plan X} → ((y : Lexeme) → test y ≡ true → Good place (k y))
    → (y : Lexeme) → test y ≡ true → Completes place (k y) × Onward place (k y)
leads g y e = ((g y e).completes, (g y e).onward)

pub take-good : {X : Type 0} {place : Place} {test : Lexeme → Bool} {p : Plan X} (x : Lexeme) → test x ≡ true → Good place p → Good place (take test p)
take-good x e a = next-good x e (λ _ _. a) tt

pub take-safe : {X : Type 0} {place before : Place} {test : Lexeme → Bool} {p : Plan X} (x : Lexeme) → test x ≡ true → is_stop before x ≡ true → Good place p
    → Safe place before (take test p)
take-safe x e s a = next-safe x e s (λ _ _. a) tt

-- ---- rules

-- a lexeme with which a rule may begin, so that it can be completed
pub record Witness (r : Rule) : Type 0 where
  pub first : Lexeme
  pub plan : Plan (TreeOf r)
  pub begins : rule r first ≡ Some plan
  pub completes : Completes (place_of r) plan

module _ {X : Type 0} {place : Place} {r : Rule} {k : TreeOf r → Plan X} {q : Plan X} where
  -- a plan that a rule begins can be completed by what the rule reads and what completes the rest
  rule-completes : Witness r → ((x : TreeOf r) → Closes place (place_of r) (k x)) → Completes place (maybe r k q)
  unfolding reads step
  rule-completes a g =
      let c : Completes place (a.plan >>= k) = completes-then a.completes g in
      record {
        value = c.value;
        more = a.first ∷ c.more;
        finishes = λ rest n s. let h = c.finishes rest (opened_after a.first n) s in (
          h.0,
          ap (λ o. at_lexeme no_limit a.first (c.more ++ rest) (either_way o (λ p. goes (p >>= k) n) (step (Some a.first) q n)) (reads no_limit (c.more ++ rest))) a.begins
              ∙ free-taken a.first (c.more ++ rest) n (reads no_limit (c.more ++ rest) (a.plan >>= k)) ∙ h.1,
        );
      }

  pub maybe-good : Witness r → ((x : TreeOf r) → Safe place (place_of r) (k x)) → Onward place q → Good place (maybe r k q)
  maybe-good a g o = record {
    completes = rule-completes a (λ x. (g x).closes);
    onward = (λ x. ((g x).closes, (g x).onward), o);
  }

  -- where what a rule reads may be left out, what completes the plan without it completes this one
  pub maybe-skip : {before : Place} → Free before (starts r) → ((x : TreeOf r) → Safe place (place_of r) (k x)) → Safe place before q → Safe place before (maybe r k q)
  maybe-skip {before = before} f g a =
      let c = a.closes.completes in
      record {
        closes = record {
          completes = record {
            value = c.value;
            more = c.more;
            finishes = λ rest n s. let h = c.finishes rest n s in
                (h.0, maybe-no no_limit (c.more ++ rest) r (free-heads before (starts r) f (c.more ++ rest) (a.closes.stops rest s)) k q n ∙ h.1);
          };
          stops = a.closes.stops;
        };
        onward = (λ x. ((g x).closes, (g x).onward), a.onward);
      }

pub one-good : {X : Type 0} {place : Place} {r : Rule} {k : TreeOf r → Plan X} → Witness r → ((x : TreeOf r) → Safe place (place_of r) (k x)) → Good place (one r k)
one-good a g = maybe-good a g tt

-- which lexemes may not follow a chain
abbrev pub Bars : Rule → (Lexeme → Bool) → Type 0
Bars r test = Free (place_of r) test × ((x : Lexeme) → test x ≡ true → (is_connective x ≡ true) × (starts r (swapped x) ≡ true))

-- a chain may end at once: what completes the plan after it completes the chain
chain-closes : {X : Type 0} {place : Place} {r : Rule} {test : Lexeme → Bool} {front : List (TreeOf r)} {k : List (TreeOf r) → Plan X} → Free (place_of r) (starts r)
    → Free (place_of r) test → Closes place (place_of r) (k front) → Closes place (place_of r) (chain r test front k)
chain-closes {r = r} {test = test} {front = front} {k = k} f g a =
    let c = a.completes in
    record {
      completes = record {
        value = c.value;
        more = c.more;
        finishes = λ rest n s. let h = c.finishes rest n s in
            let stop = a.stops rest s in (
              h.0,
              chain-no no_limit (c.more ++ rest) r test (free-heads (place_of r) (starts r) f (c.more ++ rest) stop) (free-heads (place_of r) test g (c.more ++ rest) stop) front k n
                  ∙ h.1,
            );
      };
      stops = a.stops;
    }

pub chain-safe : {X : Type 0} {place : Place} {r : Rule} {test : Lexeme → Bool} {front : List (TreeOf r)} {k : List (TreeOf r) → Plan X} → Free (place_of r) (starts r)
    → Bars r test → ((xs : List (TreeOf r)) → Safe place (place_of r) (k xs)) → Safe place (place_of r) (chain r test front k)
chain-safe {front = front} f b g = record {
  closes = chain-closes f b.0 (g front).closes;
  onward = (f, b.0, b.1, λ xs. ((g xs).closes, (g xs).onward));
}

-- ---- where a step leads

-- a plan of a rule, if there is one
abbrev pub GoodIfAny : {X : Type 0} → Place → Option (Plan X) → Type 0
GoodIfAny place None = ⊤
GoodIfAny place (Some p) = Good place p

abbrev pub GoodNext : {X : Type 0} → Place → StepResult X → Type 0
GoodNext place (stops kind) = ⊤
GoodNext place (gives x n) = ⊤
GoodNext place (goes p n) = Good place p

module _ (ready : (r : Rule) (x : Lexeme) → GoodIfAny (place_of r) (rule r x)) where
  next-step : {X : Type 0} {place : Place} (b : Bool) (x : Lexeme) (k : Lexeme → Plan X) (n : ℕ) (other : StepResult X) → (b ≡ true → Good place (k x)) → GoodNext place other
      → GoodNext place (either_way (cond b (Some x) None) (λ x. goes (k x) n) other)
  next-step true x k n other g h = g refl
  next-step false x k n other g h = h

  look-step : {X : Type 0} (place : Place) (b : Bool) (x : Lexeme) (same other : StepResult X) → GoodNext place same → GoodNext place other
      → GoodNext place (either_way (cond b (Some x) None) (λ _. same) other)
  look-step place true x same other g h = g
  look-step place false x same other g h = h

  rule-step : {X Y : Type 0} {place between : Place} (o : Option (Plan X)) (k : X → Plan Y) (n : ℕ) (other : StepResult Y) → GoodIfAny between o
      → ((x : X) → Closes place between (k x)) → ((x : X) → Onward place (k x)) → GoodNext place other → GoodNext place (either_way o (λ p. goes (p >>= k) n) other)
  rule-step None k n other g c o h = h
  rule-step (Some p) k n other g c o h = record { completes = completes-then g.completes c; onward = onward-then p k g.onward c o }

  -- a plan whose next plans can be completed leads to one of that kind
  pub good-step : {X : Type 0} (place : Place) (x : Lexeme) (p : Plan X) (n : ℕ) → Onward place p → GoodNext place (step (Some x) p n)
  unfolding step
  good-step place x (done v) n o = tt
  good-step place x refuse n o = tt
  good-step place x (next test k q) n o =
      next-step (test x) x k n (step (Some x) q n) (λ e. let a = o.0 x e in record { completes = a.0; onward = a.1 }) (good-step place x q n o.1)
  good-step place x (look test p q) n o = look-step place (test x) x (step (Some x) p n) (step (Some x) q n) (good-step place x p n o.1) (good-step place x q n o.2)
  good-step place x (maybe r k q) n o =
      rule-step (rule r x) k n (step (Some x) q n) (ready r x) (λ x. (o.0 x).0) (λ x. (o.0 x).1) (good-step place x q n o.1)
  good-step place x (chain r test front k) n o =
      rule-step (rule r x) (λ y. chain r test (front ++ y ∷ []) k) n _ (ready r x)
      (λ y. chain-closes o.0 o.1 (o.3 (front ++ y ∷ [])).0) (λ y. o)
      (look-step place (test x) x (stops Mixed) (step (Some x) (k front) n) tt (good-step place x (k front) n (o.3 front).1))
  good-step place x (shut p) n o = good-step place x p (one_less n) o
