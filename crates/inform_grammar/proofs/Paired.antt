-- Where one connective can't stand, the other one can't either, unless the first is barred there.
use Rattle.std.proofs.Common.{◌≡◌, ℕ, Bool, true, false, cond, List, [], ◌∷◌, ◌++◌, Option, Some, None, is_some}
use Rattle.std.specs.Bool.{MatchBool}
use Rattle.std.specs.Prelude.{⊤}
use Rattle.inform_lexemes.specs.declared.symbols.Symbol.TheVariants.{And, Or}
use Rattle.inform_lexemes.specs.Lexemes.{Lexeme, Sign}
use Rattle.inform_grammar.specs.Faults.{FaultKind, Unexpected, Mixed, TooDeep}
use Rattle.inform_grammar.specs.Rules.{Rule, TreeOf}
use Rattle.inform_grammar.specs.Lexemes.{is_connective, swapped, one_less}
use Rattle.inform_grammar.specs.Plan.{Plan, done, refuse, next, look, maybe, chain, shut, ◌>>=◌, onward}
use Rattle.inform_grammar.specs.Rule.{rule}
use Rattle.inform_grammar.specs.Reading.{StepResult, stops, gives, goes, either_way, step}
use Rattle.inform_grammar.proofs.Steps.{starts}
use Rattle.inform_grammar.proofs.FaultKinds.{Goes}

-- ---- what becomes of two lexemes

-- the lexeme is taken, or barred by a chain
abbrev pub Meets : {X : Type 0} → Lexeme → Plan X → Type 0
Meets x (done v) = ⊥
Meets x refuse = ⊥
Meets x (next test k q) = MatchBool (test x) ⊤ (Meets x q)
Meets x (look test p q) = ⊥
Meets x (maybe r k q) = MatchBool (starts r x) ⊤ (Meets x q)
Meets x (chain r test front k) = ⊥
Meets x (shut p) = Meets x p

-- a chain that goes on with the first, bars it, bars the second, or leaves both to what follows
abbrev pub Barred : Bool → Bool → Bool → Bool → Type 0 → Type 0
Barred goes_on bars other_goes_on other_bars P =
    MatchBool goes_on ⊤ (MatchBool bars ⊤ (MatchBool other_goes_on ⊥ (MatchBool other_bars ⊤ P)))

-- where the second lexeme is taken, the first one is taken or barred
abbrev pub Follows : {X : Type 0} → Lexeme → Lexeme → Plan X → Type 0
Follows x y (done v) = ⊤
Follows x y refuse = ⊤
Follows x y (next test k q) = MatchBool (test x) ⊤ (MatchBool (test y) (Meets x q) (Follows x y q))
Follows x y (look test p q) = MatchBool (test x) ((test y ≡ true) × Follows x y p) ((test y ≡ false) × Follows x y q)
Follows x y (maybe r k q) = MatchBool (starts r x) ⊤ (MatchBool (starts r y) (Meets x q) (Follows x y q))
Follows x y (chain r test front k) =
    Barred (starts r x) (test x) (starts r y) (test y) ((xs : List (TreeOf r)) → Follows x y (k xs))
Follows x y (shut p) = Follows x y p

abbrev pub Both : {X : Type 0} → Plan X → Type 0
Both p = Follows (Sign And) (Sign Or) p × Follows (Sign Or) (Sign And) p

-- the same of each plan that it leads to
abbrev pub Leading : {X : Type 0} → Plan X → Type 0
Leading (done v) = ⊤
Leading refuse = ⊤
Leading (next test k q) = ((x : Lexeme) → Both (k x) × Leading (k x)) × Leading q
Leading (look test p q) = Leading p × Leading q
Leading (maybe r k q) = ((x : TreeOf r) → Both (k x) × Leading (k x)) × Leading q
Leading (chain r test front k) =
    Barred (starts r (Sign And)) (test (Sign And)) (starts r (Sign Or)) (test (Sign Or)) ((xs : List (TreeOf r)) → Follows (Sign And) (Sign Or) (k xs))
    × Barred (starts r (Sign Or)) (test (Sign Or)) (starts r (Sign And)) (test (Sign And)) ((xs : List (TreeOf r)) → Follows (Sign Or) (Sign And) (k xs))
    × ((xs : List (TreeOf r)) → Both (k xs) × Leading (k xs))
Leading (shut p) = Leading p

pub record Paired {X : Type 0} (p : Plan X) : Type 0 where
  pub both : Both p
  pub leading : Leading p

abbrev pub PairedIfAny : {X : Type 0} → Option (Plan X) → Type 0
PairedIfAny None = ⊤
PairedIfAny (Some p) = Paired p

abbrev pub PairedNext : {X : Type 0} → StepResult X → Type 0
PairedNext (stops kind) = ⊤
PairedNext (gives v n) = ⊤
PairedNext (goes p n) = Paired p

-- ---- one plan, and then another

either : (b : Bool) (P Q R : Type 0) → (Q → R) → MatchBool b P Q → MatchBool b P R
either true P Q R f h = h
either false P Q R f h = f h

barred-then : (a b c d : Bool) (P Q : Type 0) → (P → Q) → Barred a b c d P → Barred a b c d Q
barred-then true b c d P Q f h = h
barred-then false true c d P Q f h = h
barred-then false false true d P Q f h = h
barred-then false false false true P Q f h = h
barred-then false false false false P Q f h = f h

meets-then : {X Y : Type 0} (x : Lexeme) (p : Plan X) (f : X → Plan Y) → Meets x p → Meets x (p >>= f)
meets-then x (done v) f m = absurd m
meets-then x refuse f m = m
meets-then x (next test k q) f m = either (test x) ⊤ (Meets x q) (Meets x (q >>= f)) (meets-then x q f) m
meets-then x (look test p q) f m = m
meets-then x (maybe r k q) f m = either (starts r x) ⊤ (Meets x q) (Meets x (q >>= f)) (meets-then x q f) m
meets-then x (chain r test front k) f m = m
meets-then x (shut p) f m = meets-then x p f m

past-then : (a b : Bool) (M N P Q : Type 0) → (M → N) → (P → Q) → MatchBool a ⊤ (MatchBool b M P) → MatchBool a ⊤ (MatchBool b N Q)
past-then true b M N P Q f g h = h
past-then false true M N P Q f g h = f h
past-then false false M N P Q f g h = g h

look-then : (a b : Bool) (M N P Q : Type 0) → (M → N) → (P → Q) → MatchBool a ((b ≡ true) × M) ((b ≡ false) × P) → MatchBool a ((b ≡ true) × N) ((b ≡ false) × Q)
look-then true b M N P Q f g h = (h.0, f h.1)
look-then false b M N P Q f g h = (h.0, g h.1)

-- two plans in turn take or bar the first lexeme where they take the second, if each of them does
follows-then : {X Y : Type 0} (x y : Lexeme) (p : Plan X) (f : X → Plan Y) → Follows x y p → ((v : X) → Follows x y (f v)) → Follows x y (p >>= f)
follows-then x y (done v) f h g = g v
follows-then x y refuse f h g = tt
follows-then x y (next test k q) f h g =
    past-then (test x) (test y) (Meets x q) (Meets x (q >>= f)) (Follows x y q) (Follows x y (q >>= f)) (meets-then x q f) (λ h. follows-then x y q f h g) h
follows-then x y (look test p q) f h g =
    look-then (test x) (test y) (Follows x y p) (Follows x y (p >>= f)) (Follows x y q) (Follows x y (q >>= f))
    (λ h. follows-then x y p f h g) (λ h. follows-then x y q f h g) h
follows-then x y (maybe r k q) f h g =
    past-then (starts r x) (starts r y) (Meets x q) (Meets x (q >>= f)) (Follows x y q) (Follows x y (q >>= f)) (meets-then x q f) (λ h. follows-then x y q f h g) h
follows-then x y (chain r test front k) f h g =
    barred-then (starts r x) (test x) (starts r y) (test y) ((xs : List (TreeOf r)) → Follows x y (k xs)) ((xs : List (TreeOf r)) → Follows x y (k xs >>= f))
    (λ h xs. follows-then x y (k xs) f (h xs) g) h
follows-then x y (shut p) f h g = follows-then x y p f h g

both-then : {X Y : Type 0} (p : Plan X) (f : X → Plan Y) → Both p → ((v : X) → Both (f v)) → Both (p >>= f)
both-then p f h g = (follows-then (Sign And) (Sign Or) p f h.0 (λ v. (g v).0), follows-then (Sign Or) (Sign And) p f h.1 (λ v. (g v).1))

-- two plans in turn lead to plans that do so for both connectives, if each of the two does
leading-then : {X Y : Type 0} (p : Plan X) (f : X → Plan Y) → Leading p → ((v : X) → Paired (f v)) → Leading (p >>= f)
leading-then (done v) f h g = (g v).leading
leading-then refuse f h g = tt
leading-then (next test k q) f h g =
    (λ x. (both-then (k x) f (h.0 x).0 (λ v. (g v).both), leading-then (k x) f (h.0 x).1 g), leading-then q f h.1 g)
leading-then (look test p q) f h g = (leading-then p f h.0 g, leading-then q f h.1 g)
leading-then (maybe r k q) f h g =
    (λ x. (both-then (k x) f (h.0 x).0 (λ v. (g v).both), leading-then (k x) f (h.0 x).1 g), leading-then q f h.1 g)
leading-then (chain r test front k) f h g = (
  follows-then (Sign And) (Sign Or) (chain r test front k) f h.0 (λ v. (g v).both.0),
  follows-then (Sign Or) (Sign And) (chain r test front k) f h.1 (λ v. (g v).both.1),
  λ xs. (both-then (k xs) f (h.2 xs).0 (λ v. (g v).both), leading-then (k xs) f (h.2 xs).1 g),
)
leading-then (shut p) f h g = leading-then p f h g

pub paired-then : {X Y : Type 0} {p : Plan X} {f : X → Plan Y} → Paired p → ((v : X) → Paired (f v)) → Paired (p >>= f)
paired-then {p = p} {f = f} h g = record { both = both-then p f h.both (λ v. (g v).both); leading = leading-then p f h.leading g }

-- a rule that begins as another
pub paired-onward : {X Y : Type 0} (o : Option (Plan X)) (f : X → Plan Y) → PairedIfAny o → ((v : X) → Paired (f v)) → PairedIfAny (onward o f)
paired-onward None f h g = tt
paired-onward (Some p) f h g = paired-then h g

-- ---- a step

module _ (paired : (r : Rule) (x : Lexeme) → PairedIfAny (rule r x)) where
  next-paired : {X : Type 0} (b : Bool) (x : Lexeme) (k : Lexeme → Plan X) (n : ℕ) (other : StepResult X) → Paired (k x) → PairedNext other
      → PairedNext (either_way (cond b (Some x) None) (λ x. goes (k x) n) other)
  next-paired true x k n other h g = h
  next-paired false x k n other h g = g

  look-paired : {X : Type 0} (b : Bool) (x : Lexeme) (same other : StepResult X) → PairedNext same → PairedNext other
      → PairedNext (either_way (cond b (Some x) None) (λ _. same) other)
  look-paired true x same other h g = h
  look-paired false x same other h g = g

  rule-paired : {X Y : Type 0} (o : Option (Plan X)) (k : X → Plan Y) (n : ℕ) (other : StepResult Y) → PairedIfAny o → ((v : X) → Paired (k v)) → PairedNext other
      → PairedNext (either_way o (λ p. goes (p >>= k) n) other)
  rule-paired None k n other h g l = l
  rule-paired (Some p) k n other h g l = paired-then h g

  -- what is paired leads to what is paired
  pub paired-step : {X : Type 0} (x : Lexeme) (p : Plan X) (n : ℕ) → Leading p → PairedNext (step (Some x) p n)
  unfolding step
  paired-step x (done v) n h = tt
  paired-step x refuse n h = tt
  paired-step x (next test k q) n h = next-paired (test x) x k n (step (Some x) q n) (record { both = (h.0 x).0; leading = (h.0 x).1 }) (paired-step x q n h.1)
  paired-step x (look test p q) n h = look-paired (test x) x (step (Some x) p n) (step (Some x) q n) (paired-step x p n h.0) (paired-step x q n h.1)
  paired-step x (maybe r k q) n h = rule-paired (rule r x) k n (step (Some x) q n) (paired r x) (λ v. record { both = (h.0 v).0; leading = (h.0 v).1 }) (paired-step x q n h.1)
  paired-step x (chain r test front k) n h =
      rule-paired (rule r x) (λ y. chain r test (front ++ y ∷ []) k) n _ (paired r x) (λ y. record { both = (h.0, h.1); leading = h })
      (look-paired (test x) x (stops Mixed) (step (Some x) (k front) n) tt (paired-step x (k front) n (h.2 front).1))
  paired-step x (shut p) n h = paired-step x p (one_less n) h

-- ---- a lexeme that is unexpected

-- where a lexeme is unexpected, the other one isn't taken
abbrev pub Apart : {X : Type 0} → StepResult X → StepResult X → Type 0
Apart (stops Unexpected) other = Goes other → ⊥
Apart _ other = ⊤

-- it isn't unexpected
abbrev Met : {X : Type 0} → StepResult X → Type 0
Met (stops Unexpected) = ⊥
Met _ = ⊤

met-apart : {X : Type 0} (o other : StepResult X) → Met o → Apart o other
met-apart (stops Unexpected) other m = absurd m
met-apart (stops Mixed) other m = tt
met-apart (stops TooDeep) other m = tt
met-apart (gives v n) other m = tt
met-apart (goes p n) other m = tt

no-goes : {X : Type 0} (o : StepResult X) (kind : FaultKind) → Apart {X = X} o (stops kind)
no-goes (stops Unexpected) kind = λ g. g
no-goes (stops Mixed) kind = tt
no-goes (stops TooDeep) kind = tt
no-goes (gives v n) kind = tt
no-goes (goes p n) kind = tt

module _ {X : Type 0} (x : Lexeme) where
  next-met : (b : Bool) (k : Lexeme → Plan X) (n : ℕ) (other : StepResult X) (M : Type 0) → (M → Met other) → MatchBool b ⊤ M
      → Met (either_way (cond b (Some x) None) (λ x. goes (k x) n) other)
  next-met true k n other M f h = tt
  next-met false k n other M f h = f h

  rule-met : {Y : Type 0} (o : Option (Plan Y)) (k : Y → Plan X) (n : ℕ) (other : StepResult X) (M : Type 0) → (M → Met other) → MatchBool (is_some o) ⊤ M
      → Met (either_way o (λ p. goes (p >>= k) n) other)
  rule-met (Some p) k n other M f h = tt
  rule-met None k n other M f h = f h

  meets-met : (p : Plan X) (n : ℕ) → Meets x p → Met (step (Some x) p n)
  unfolding step
  meets-met (done v) n m = absurd m
  meets-met refuse n m = absurd m
  meets-met (next test k q) n m = next-met (test x) k n (step (Some x) q n) (Meets x q) (meets-met q n) m
  meets-met (look test p q) n m = absurd m
  meets-met (maybe r k q) n m = rule-met (rule r x) k n (step (Some x) q n) (Meets x q) (meets-met q n) m
  meets-met (chain r test front k) n m = absurd m
  meets-met (shut p) n m = meets-met p (one_less n) m

  module _ (y : Lexeme) where
    next-apart : (a b : Bool) (k : Lexeme → Plan X) (n : ℕ) (o other : StepResult X) (M P : Type 0) → (M → Met o) → (P → Apart o other)
        → MatchBool a ⊤ (MatchBool b M P)
        → Apart (either_way (cond a (Some x) None) (λ x. goes (k x) n) o) (either_way (cond b (Some y) None) (λ x. goes (k x) n) other)
    next-apart true b k n o other M P f g h = tt
    next-apart false true k n o other M P f g h = met-apart o _ (f h)
    next-apart false false k n o other M P f g h = g h

    rule-apart : {Y : Type 0} (a b : Option (Plan Y)) (k : Y → Plan X) (n : ℕ) (o other : StepResult X) (M P : Type 0) → (M → Met o) → (P → Apart o other)
        → MatchBool (is_some a) ⊤ (MatchBool (is_some b) M P)
        → Apart (either_way a (λ p. goes (p >>= k) n) o) (either_way b (λ p. goes (p >>= k) n) other)
    rule-apart (Some p) b k n o other M P f g h = tt
    rule-apart None (Some p) k n o other M P f g h = met-apart o _ (f h)
    rule-apart None None k n o other M P f g h = g h

    look-apart : (a b : Bool) (p q o other : StepResult X) (P Q : Type 0) → (P → Apart p q) → (Q → Apart o other)
        → MatchBool a ((b ≡ true) × P) ((b ≡ false) × Q)
        → Apart (either_way (cond a (Some x) None) (λ _. p) o) (either_way (cond b (Some y) None) (λ _. q) other)
    look-apart true true p q o other P Q f g h = f h.1
    look-apart true false p q o other P Q f g h = let e : false ≡ true = h.0 in absurd (cc)
    look-apart false true p q o other P Q f g h = let e : true ≡ false = h.0 in absurd (cc)
    look-apart false false p q o other P Q f g h = g h.1

    chain-apart : {Y : Type 0} (a b : Option (Plan Y)) (c d : Bool) (k : Y → Plan X) (n : ℕ) (o other : StepResult X) (P : Type 0) → (P → Apart o other)
        → Barred (is_some a) c (is_some b) d P
        → Apart (either_way a (λ p. goes (p >>= k) n) (either_way (cond c (Some x) None) (λ _. stops Mixed) o))
        (either_way b (λ p. goes (p >>= k) n) (either_way (cond d (Some y) None) (λ _. stops Mixed) other))
    chain-apart (Some p) b c d k n o other P f h = tt
    chain-apart None b true d k n o other P f h = tt
    chain-apart None (Some p) false d k n o other P f h = absurd h
    chain-apart None None false true k n o other P f h = no-goes o Mixed
    chain-apart None None false false k n o other P f h = f h

    apart : (p : Plan X) (n : ℕ) → Follows x y p → Apart (step (Some x) p n) (step (Some y) p n)
    unfolding step
    apart (done v) n h = tt
    apart refuse n h = λ g. g
    apart (next test k q) n h =
        next-apart (test x) (test y) k n (step (Some x) q n) (step (Some y) q n) (Meets x q) (Follows x y q) (meets-met q n) (apart q n) h
    apart (look test p q) n h =
        look-apart (test x) (test y) (step (Some x) p n) (step (Some y) p n) (step (Some x) q n) (step (Some y) q n) (Follows x y p) (Follows x y q)
        (apart p n) (apart q n) h
    apart (maybe r k q) n h =
        rule-apart (rule r x) (rule r y) k n (step (Some x) q n) (step (Some y) q n) (Meets x q) (Follows x y q) (meets-met q n) (apart q n) h
    apart (chain r test front k) n h =
        chain-apart (rule r x) (rule r y) (test x) (test y) (λ y. chain r test (front ++ y ∷ []) k) n (step (Some x) (k front) n) (step (Some y) (k front) n)
        ((xs : List (TreeOf r)) → Follows x y (k xs)) (λ h. apart (k front) n (h front)) h
    apart (shut p) n h = apart p (one_less n) h

-- where a connective is unexpected, the other one isn't taken
pub apart-swapped : {X : Type 0} (x : Lexeme) (p : Plan X) (n : ℕ) → is_connective x ≡ true → Both p → Apart (step (Some x) p n) (step (Some (swapped x)) p n)
apart-swapped (Sign And) p n e h = apart (Sign And) (Sign Or) p n h.0
apart-swapped (Sign Or) p n e h = apart (Sign Or) (Sign And) p n h.1
apart-swapped _ p n e h = absurd (cc)
