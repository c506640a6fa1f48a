-- A grammar as data: what may come next, and what it is read as.
use Rattle.std.specs.Prelude.{Bool, false, List, Option, Some, None}
use Rattle.inform_lexemes.specs.Lexemes.{Lexeme}
use Rattle.inform_grammar.specs.Rules.{Rule, TreeOf}

pub data Plan (X : Type 0) : Type 0 where
  -- all is read, and this is what it is
  done : X → Plan X
  -- nothing that could stand here is right
  refuse : Plan X
  -- a lexeme that passes the test is taken; where none stands next, the other plan
  next : (Lexeme → Bool) → (Lexeme → Plan X) → Plan X → Plan X
  -- the first plan where a lexeme that passes the test stands next, and else the second; none is
  -- taken
  look : (Lexeme → Bool) → Plan X → Plan X → Plan X
  -- what a rule reads; where nothing that it may begin with stands next, the other plan
  maybe : (r : Rule) → (TreeOf r → Plan X) → Plan X → Plan X
  -- what a rule reads, as often as something that it may begin with stands next, after those that
  -- were read so far; no lexeme that passes the test may follow
  chain : (r : Rule) → (Lexeme → Bool) → List (TreeOf r) → (List (TreeOf r) → Plan X) → Plan X
  -- a statement that was open has ended
  shut : Plan X → Plan X

-- one plan, and then another that depends on what the first one read
infixl 10 ◌>>=◌
abbrev pub ◌>>=◌ : {X Y : Type 0} → Plan X → (X → Plan Y) → Plan Y
(done x) >>= f = f x
refuse >>= f = refuse
(next test k q) >>= f = next test (λ x. k x >>= f) (q >>= f)
(look test p q) >>= f = look test (p >>= f) (q >>= f)
(maybe r k q) >>= f = maybe r (λ x. k x >>= f) (q >>= f)
(chain r test front k) >>= f = chain r test front (λ xs. k xs >>= f)
(shut p) >>= f = shut (p >>= f)

-- a lexeme that passes the test must stand here
abbrev pub take : {X : Type 0} → (Lexeme → Bool) → Plan X → Plan X
take test p = next test (λ _. p) refuse

-- what a rule reads must stand here
abbrev pub one : {X : Type 0} → (r : Rule) → (TreeOf r → Plan X) → Plan X
one r k = maybe r k refuse

-- what a rule reads may stand here
abbrev pub optional : {X : Type 0} → (r : Rule) → (Option (TreeOf r) → Plan X) → Plan X
optional r k = maybe r (λ x. k (Some x)) (k None)

abbrev pub no_lexeme : Lexeme → Bool
no_lexeme x = false

-- what a rule reads, again and again
abbrev pub many : {X : Type 0} → (r : Rule) → List (TreeOf r) → (List (TreeOf r) → Plan X) → Plan X
many r front k = chain r no_lexeme front k

-- a plan of a rule, if the rule has one, and then another
abbrev pub onward : {X Y : Type 0} → Option (Plan X) → (X → Plan Y) → Option (Plan Y)
onward None f = None
onward (Some p) f = Some (p >>= f)
