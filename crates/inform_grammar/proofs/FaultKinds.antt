-- Of which kind the fault is at a lexeme that can't stand there.
use Rattle.std.proofs.Common.{◌≡◌, ℕ, Bool, true, false, cond, List, [], ◌∷◌, ◌++◌, Option, Some, None, is_some, Result, Ok, Err, refl, sym, ap, subst}
use Rattle.std.specs.Prelude.{⊤}
use Rattle.inform_lexemes.specs.declared.symbols.Symbol.TheVariants.{And, Or}
use Rattle.inform_lexemes.specs.Lexemes.{Lexeme, Sign}
use Rattle.inform_grammar.specs.Faults.{FaultKind, Unexpected, Mixed, TooDeep, Fault, fault}
use Rattle.inform_grammar.specs.Lexemes.{is_connective, swapped, one_less}
use Rattle.inform_grammar.specs.Plan.{Plan, done, refuse, next, look, maybe, chain, shut, ◌>>=◌}
use Rattle.inform_grammar.specs.Rule.{rule}
use Rattle.inform_grammar.specs.Reading.{StepResult, stops, gives, goes, either_way, step, Answer, at_end}
use Rattle.inform_grammar.proofs.Steps.{starts}
use Rattle.inform_grammar.proofs.Held.{not-both}
use Rattle.inform_grammar.proofs.Ready.{Place, Onward}

abbrev pub Goes : {X : Type 0} → StepResult X → Type 0
Goes (goes p n) = ⊤
Goes _ = ⊥

-- a lexeme is refused as one that is unexpected, or it is a connective in whose place the other one
-- goes on
abbrev pub Judged : {X : Type 0} → Lexeme → StepResult X → StepResult X → Type 0
Judged x (stops Unexpected) other = ⊤
Judged x (stops Mixed) other = (is_connective x ≡ true) × Goes other
Judged x (stops TooDeep) other = ⊥
Judged x _ other = ⊤

judged-more : {X : Type 0} (x : Lexeme) (o other more : StepResult X) → Judged x o other → (Goes other → Goes more) → Judged x o more
judged-more x (stops Unexpected) other more h g = tt
judged-more x (stops Mixed) other more h g = (h.0, g h.1)
judged-more x (stops TooDeep) other more h g = h
judged-more x (gives v n) other more h g = tt
judged-more x (goes p n) other more h g = tt

-- what goes on goes on also where a lexeme or a rule may come first
goes-past : {X : Type 0} (b : Bool) (x : Lexeme) (k : Lexeme → Plan X) (n : ℕ) (other : StepResult X) → Goes other
    → Goes (either_way (cond b (Some x) None) (λ x. goes (k x) n) other)
goes-past true x k n other h = tt
goes-past false x k n other h = h

goes-past-rule : {X Y : Type 0} (o : Option (Plan X)) (k : X → Plan Y) (n : ℕ) (other : StepResult Y) → (is_some o ≡ false → Goes other)
    → Goes (either_way o (λ p. goes (p >>= k) n) other)
goes-past-rule None k n other h = h refl
goes-past-rule (Some p) k n other h = tt

swapped-twice : (x : Lexeme) → swapped (swapped x) ≡ x
swapped-twice (Sign And) = refl
swapped-twice (Sign Or) = refl
swapped-twice _ = refl

next-judged : {X : Type 0} (x y : Lexeme) (b c : Bool) (k : Lexeme → Plan X) (n : ℕ) (o other : StepResult X) → Judged x o other
    → Judged x (either_way (cond b (Some x) None) (λ x. goes (k x) n) o) (either_way (cond c (Some y) None) (λ x. goes (k x) n) other)
next-judged x y true c k n o other h = tt
next-judged x y false c k n o other h = judged-more x o other _ h (goes-past c y k n other)

look-judged : {X : Type 0} (x y : Lexeme) (b c : Bool) (p q o other : StepResult X) → c ≡ b → Judged x p q → Judged x o other
    → Judged x (either_way (cond b (Some x) None) (λ _. p) o) (either_way (cond c (Some y) None) (λ _. q) other)
look-judged x y true true p q o other e g h = g
look-judged x y true false p q o other e g h = absurd (cc)
look-judged x y false true p q o other e g h = absurd (cc)
look-judged x y false false p q o other e g h = h

maybe-judged : {X Y : Type 0} (x : Lexeme) (a b : Option (Plan X)) (k : X → Plan Y) (n : ℕ) (o other : StepResult Y) → Judged x o other
    → Judged x (either_way a (λ p. goes (p >>= k) n) o) (either_way b (λ p. goes (p >>= k) n) other)
maybe-judged x (Some p) b k n o other h = tt
maybe-judged x None b k n o other h = judged-more x o other _ h (λ g. goes-past-rule b k n other (λ _. g))

no-bar : {X : Type 0} (y : Lexeme) (b : Bool) (other : StepResult X) → (b ≡ true → ⊥) → Goes other → Goes (either_way (cond b (Some y) None) (λ _. stops Mixed) other)
no-bar y true other h g = absurd (h refl)
no-bar y false other h g = g

-- a chain: what is barred is a connective, and the chain may go on with the other one
bar-judged : {X Y : Type 0} (x y : Lexeme) (b c : Bool) (a : Option (Plan X)) (k : X → Plan Y) (n : ℕ) (o other : StepResult Y)
    → (b ≡ true → (is_connective x ≡ true) × (is_some a ≡ true)) → (c ≡ true → ⊥) → Judged x o other
    → Judged x (either_way (cond b (Some x) None) (λ _. stops Mixed) o)
    (either_way a (λ p. goes (p >>= k) n) (either_way (cond c (Some y) None) (λ _. stops Mixed) other))
bar-judged x y true c None k n o other f g h = let e : false ≡ true = (f refl).1 in absurd (cc)
bar-judged x y true c (Some p) k n o other f g h = ((f refl).0, tt)
bar-judged x y false c a k n o other f g h =
    judged-more x o other _ h (λ l. goes-past-rule a k n (either_way (cond c (Some y) None) (λ _. stops Mixed) other) (λ _. no-bar y c other g l))

chain-judged : {X Y : Type 0} (x y : Lexeme) (b c : Bool) (s a : Option (Plan X)) (k : X → Plan Y) (n : ℕ) (o other : StepResult Y)
    → (b ≡ true → (is_connective x ≡ true) × (is_some a ≡ true)) → (c ≡ true → is_some s ≡ true) → Judged x o other
    → Judged x (either_way s (λ p. goes (p >>= k) n) (either_way (cond b (Some x) None) (λ _. stops Mixed) o))
    (either_way a (λ p. goes (p >>= k) n) (either_way (cond c (Some y) None) (λ _. stops Mixed) other))
chain-judged x y b c (Some p) a k n o other f g h = tt
chain-judged x y b c None a k n o other f g h = bar-judged x y b c a k n o other f (λ e. let i : false ≡ true = g e in cc) h

-- a lexeme that a plan refuses is unexpected, or a connective in whose place the other one goes on
pub judged : {X : Type 0} (place : Place) (x : Lexeme) (p : Plan X) (n : ℕ) → Onward place p → Judged x (step (Some x) p n) (step (Some (swapped x)) p n)
unfolding step
judged place x (done v) n o = tt
judged place x refuse n o = tt
judged place x (next test k q) n o = next-judged x (swapped x) (test x) (test (swapped x)) k n _ _ (judged place x q n o.1)
judged place x (look test p q) n o =
    look-judged x (swapped x) (test x) (test (swapped x)) _ _ _ _ (o.0 x) (judged place x p n o.1) (judged place x q n o.2)
judged place x (maybe r k q) n o = maybe-judged x (rule r x) (rule r (swapped x)) k n _ _ (judged place x q n o.1)
judged place x (chain r test front k) n o =
    chain-judged x (swapped x) (test x) (test (swapped x)) (rule r x) (rule r (swapped x)) (λ y. chain r test (front ++ y ∷ []) k) n _ _
    (o.2 x)
    (λ e. subst (λ y. starts r y ≡ true) (swapped-twice x) (o.2 (swapped x) e).1)
    (judged place x (k front) n (o.3 front).1)
judged place x (shut p) n o = judged place x p (one_less n) o

-- ---- answers

abbrev kind_of : {X : Type 0} → Result X Fault → FaultKind
kind_of (Ok y) = Unexpected
kind_of (Err f) = f.kind

abbrev rest_of : {X : Type 0} → Result X Fault → List Lexeme
rest_of (Ok y) = []
rest_of (Err f) = f.rest

abbrev pub refused_with : {X : Type 0} → FaultKind → List Lexeme → Answer X
refused_with kind ts = Err (fault kind ts)

pub same-faults : {X : Type 0} (kind same : FaultKind) (ts rest : List Lexeme) → refused_with {X = X} kind ts ≡ refused_with same rest
    → (kind ≡ same) × (ts ≡ rest)
same-faults kind same ts rest e = (ap kind_of e, ap rest_of e)

-- at the end nothing is mixed or too deep
pub end-kind : {X : Type 0} (p : Plan X) (n : ℕ) (kind : FaultKind) (rest : List Lexeme) → at_end (step None p n) ≡ Err (fault kind rest)
    → (Unexpected ≡ kind) × ([] ≡ rest)
unfolding step
end-kind (done v) n kind rest e = not-both (sym e)
end-kind refuse n kind rest e = same-faults Unexpected kind [] rest e
end-kind (next test k q) n kind rest e = end-kind q n kind rest e
end-kind (look test p q) n kind rest e = end-kind q n kind rest e
end-kind (maybe r k q) n kind rest e = end-kind q n kind rest e
end-kind (chain r test front k) n kind rest e = end-kind (k front) n kind rest e
end-kind (shut p) n kind rest e = end-kind p (one_less n) kind rest e
