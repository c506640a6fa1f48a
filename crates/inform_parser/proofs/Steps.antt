-- How reading goes on, part by part of a plan.
use Rattle.std.proofs.Common.{◌≡◌, ℕ, Bool, true, false, List, [], ◌∷◌, Ok, Err, refl, ap}
use Rattle.inform_lexemes.specs.Lexemes.{Lexeme}
use Rattle.inform_grammar.specs.Lexemes.{heads}
use Rattle.inform_grammar.specs.Rules.{Rule, TreeOf}
use Rattle.inform_grammar.specs.Plan.{Plan, done, refuse, next, maybe, chain, shut, ◌>>=◌, one}
use Rattle.inform_grammar.specs.Reading.{Input, input, Answer, step, reads, within_limit}
use Rattle.inform_grammar.proofs.Binding.{and_then, reads-then}
use Rattle.inform_grammar.proofs.Steps.{done-here, shut-here, next-no}
use Rattle.inform_parser.specs.declared.stops.Stop.{Stop}
use Rattle.inform_parser.specs.declared.stops.Stop.TheVariants as stop
use Rattle.inform_parser.specs.Reading.{read, StopsAt, shut_spot}
use Rattle.inform_parser.specs.Nexts.{next_of}

-- a value is what was read
pub read-done : {X : Type 0} (x : X) (s : Input) → read (done x) s ≡ Ok (x, s)
unfolding read
read-done x s = done-here within_limit s.rest x s.opened

pub read-shut : {X : Type 0} (p : Plan X) (s : Input) → read (shut p) s ≡ read p (shut_spot s)
unfolding read
read-shut p s = shut-here within_limit s.rest p s.opened

module _ {X Y : Type 0} (f : X → Plan Y) where
  abbrev pub continued : X → Input → Answer Y
  continued x s = read (f x) s

  -- one plan, and then another
  pub read-then : (p : Plan X) (s : Input) → read (p >>= f) s ≡ and_then (read p s) continued
  unfolding read
  read-then p s = reads-then within_limit f s.rest p s.opened

-- a rule, and then a plan
pub read-one : {X : Type 0} (r : Rule) (k : TreeOf r → Plan X) (s : Input) → read (maybe r k refuse) s ≡ and_then (read (maybe r done refuse) s) (continued k)
read-one r k s = read-then k (one r done) s

pub read-chain : {X : Type 0} (r : Rule) (test : Lexeme → Bool) (front : List (TreeOf r)) (k : List (TreeOf r) → Plan X) (s : Input)
    → read (chain r test front k) s ≡ and_then (read (chain r test front done) s) (continued k)
read-chain r test front k s = read-then k (chain r test front done) s

-- a lexeme, and then a plan
pub read-next : {X : Type 0} (test : Lexeme → Bool) (k : Lexeme → Plan X) (s : Input) → read (next test k refuse) s ≡ and_then (read (next test done refuse) s) (continued k)
read-next test k s = read-then k (next_of test) s

-- a fault of what is read first is one of the whole
pub stops-then : {X Y : Type 0} (after : Input) (stop : Stop) (f : X → Input → Answer Y) (r : Answer X) → StopsAt after stop r → StopsAt after stop (and_then r f)
stops-then after stop.Unexpected f r e = ap (λ r. and_then r f) e
stops-then after stop.Mixed f r e = ap (λ r. and_then r f) e
stops-then after stop.TooDeep f r e = ap (λ r. and_then r f) e
stops-then after stop.Memory f r e = tt

next_yes_at : {X : Type 0} (xs : List Lexeme) (n : ℕ) (test : Lexeme → Bool) (k : Lexeme → Plan X) (q : Plan X) → heads test xs ≡ true
    → read (next test k q) (input n xs) ≡ read (next test k refuse) (input n xs)
unfolding read reads step
next_yes_at [] n test k q e = absurd (cc)
next_yes_at (x ∷ xs) n test k q e = rw e refl

-- where one of two ways is known to be the one
pub next_yes : {X : Type 0} (test : Lexeme → Bool) (k : Lexeme → Plan X) (q : Plan X) (s : Input) → heads test s.rest ≡ true
    → read (next test k q) s ≡ read (next test k refuse) s
next_yes test k q s e = next_yes_at s.rest s.opened test k q e

pub next_no : {X : Type 0} (test : Lexeme → Bool) (k : Lexeme → Plan X) (q : Plan X) (s : Input) → heads test s.rest ≡ false
    → read (next test k q) s ≡ read q s
unfolding read
next_no test k q s e = next-no within_limit s.rest test e k q s.opened

-- nothing more is read
pub ends-done : {X : Type 0} (a : Answer X) → and_then a (continued done) ≡ a
ends-done (Ok x) = read-done x.0 x.1
ends-done (Err fault) = refl

pub ruleset steps = (ends-done, next_yes, next_no, read-done, read-shut, read-then, read-one, read-chain, read-next, stops-then)
