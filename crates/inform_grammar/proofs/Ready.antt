-- Plans that can always be read to their end, and so can each plan that they lead to.
use Rattle.std.proofs.Common.{◌≡◌, ℕ, Bool, true, false, List, [], ◌∷◌, ◌++◌, Ok, refl, sym, ap, subst, ◌∙◌, append_assoc}
use Rattle.std.specs.Prelude.{⊤}
use Rattle.inform_lexemes.specs.declared.symbols.Symbol.TheVariants.{Semicolon, Colon, RightRound, RightBrace, RightSquare, Assign}
use Rattle.inform_lexemes.specs.declared.keywords.Keyword.TheVariants as w
use Rattle.inform_lexemes.specs.Lexemes.{Lexeme, Word, Sign}
use Rattle.inform_grammar.specs.Rules as r
use Rattle.inform_grammar.specs.Rules.{Rule, TreeOf}
use Rattle.inform_grammar.specs.Lexemes.{No, is_connective, swapped}
use Rattle.inform_grammar.specs.Plan.{Plan, done, refuse, next, look, maybe, chain, shut, ◌>>=◌}
use Rattle.inform_grammar.specs.Reading.{input, reads, no_limit}
use Rattle.inform_grammar.proofs.Binding.{and_then, continued, reads-then}
use Rattle.inform_grammar.proofs.Steps.{starts}

-- ---- lexemes that begin nothing that may be left out

-- after the program, after a statement or a directive, and after anything else
pub data Place : Type 0 where
  Program : Place
  Statements : Place
  Others : Place

-- what may follow there; a semicolon may begin a statement
abbrev pub is_stop : Place → Lexeme → Bool
is_stop Program _ = false
is_stop place (Sign RightRound) = true
is_stop place (Sign RightBrace) = true
is_stop place (Sign RightSquare) = true
is_stop place (Sign Colon) = true
is_stop place (Sign Assign) = true
is_stop place (Word w.Until) = true
is_stop Others (Sign Semicolon) = true
is_stop place _ = false

-- such a lexeme stands next, or the end
abbrev pub Stop : Place → List Lexeme → Type 0
Stop place [] = ⊤
Stop place (x ∷ ts) = is_stop place x ≡ true

-- where a rule may end
abbrev pub place_of : Rule → Place
place_of r.Statement = Statements
place_of r.Body = Statements
place_of r.Part = Statements
place_of r.Directive = Statements
place_of _ = Others

-- no such lexeme passes the test
abbrev pub Free : Place → (Lexeme → Bool) → Type 0
Free place test = (x : Lexeme) → is_stop place x ≡ true → test x ≡ false

pub free-heads : (place : Place) (test : Lexeme → Bool) → Free place test → (ts : List Lexeme) → Stop place ts → No test ts
free-heads place test f [] h = refl
free-heads place test f (t ∷ ts) h = f t h

-- ---- what can be completed

-- some lexemes complete it, where such a lexeme comes next
pub record Completes {X : Type 0} (place : Place) (p : Plan X) : Type 0 where
  pub value : X
  pub more : List Lexeme
  pub finishes : (rest : List Lexeme) (n : ℕ) → Stop place rest → (m : ℕ) × (reads no_limit (more ++ rest) p n ≡ Ok (value, input m rest))

-- and then a lexeme that may follow in the other place comes first
pub record Closes {X : Type 0} (place before : Place) (p : Plan X) : Type 0 where
  pub completes : Completes place p
  pub stops : (rest : List Lexeme) → Stop place rest → Stop before (completes.more ++ rest)

-- each plan that it leads to can be completed
abbrev pub Onward : {X : Type 0} → Place → Plan X → Type 0
Onward place (done x) = ⊤
Onward place refuse = ⊤
Onward place (next test k q) = ((x : Lexeme) → test x ≡ true → Completes place (k x) × Onward place (k x)) × Onward place q
Onward place (look test p q) = ((x : Lexeme) → test (swapped x) ≡ test x) × Onward place p × Onward place q
Onward place (maybe r k q) = ((x : TreeOf r) → Closes place (place_of r) (k x) × Onward place (k x)) × Onward place q
Onward place (chain r test front k) =
    Free (place_of r) (starts r) × Free (place_of r) test
    × ((x : Lexeme) → test x ≡ true → (is_connective x ≡ true) × (starts r (swapped x) ≡ true))
    × ((xs : List (TreeOf r)) → Closes place (place_of r) (k xs) × Onward place (k xs))
Onward place (shut p) = Onward place p

pub record Good {X : Type 0} (place : Place) (p : Plan X) : Type 0 where
  pub completes : Completes place p
  pub onward : Onward place p

pub record Safe {X : Type 0} (place before : Place) (p : Plan X) : Type 0 where
  pub closes : Closes place before p
  pub onward : Onward place p

pub good : {X : Type 0} {place before : Place} {p : Plan X} → Safe place before p → Good place p
good s = record { completes = s.closes.completes; onward = s.onward }

-- ---- one plan, and then another

-- two plans in turn can be completed, if the first can, and the second by what may follow it
unfoldable pub completes-then : {X Y : Type 0} {place between : Place} {p : Plan X} {f : X → Plan Y} → Completes between p → ((x : X) → Closes place between (f x))
    → Completes place (p >>= f)
completes-then {Y = Y} {place = place} {p = p} {f = f} a g =
    let b : Completes place (f a.value) = (g a.value).completes in
    record {
      value = b.value;
      more = a.more ++ b.more;
      finishes = λ rest n s.
          let h = a.finishes (b.more ++ rest) n ((g a.value).stops rest s) in
          let l = b.finishes rest h.0 s in (
            l.0,
            ap (λ ts. reads no_limit ts (p >>= f) n) (append_assoc a.more b.more rest) ∙ reads-then no_limit f (a.more ++ (b.more ++ rest)) p n
                ∙ ap (λ r. and_then r (continued no_limit f)) h.1 ∙ l.1,
          );
    }

pub closes-then : {X Y : Type 0} {place between before : Place} {p : Plan X} {f : X → Plan Y} → Closes between before p
    → ((x : X) → Closes place between (f x)) → Closes place before (p >>= f)
unfolding completes-then
closes-then {before = before} {p = p} {f = f} a g = record {
  completes = completes-then a.completes g;
  stops = λ rest s.
      let v = a.completes.value in
      let more = (g v).completes.more in
      subst (Stop before) (sym (append_assoc a.completes.more more rest)) (a.stops (more ++ rest) ((g v).stops rest s));
}

-- all that two plans in turn lead to can be completed, if all that each of the two leads to can
pub onward-then : {X Y : Type 0} {place between : Place} (p : Plan X) (f : X → Plan Y) → Onward between p → ((x : X) → Closes place between (f x))
    → ((x : X) → Onward place (f x)) → Onward place (p >>= f)
onward-then (done x) f o c g = g x
onward-then refuse f o c g = tt
onward-then (next test k q) f o c g =
    (λ x e. let a = o.0 x e in (completes-then a.0 c, onward-then (k x) f a.1 c g), onward-then q f o.1 c g)
onward-then (look test p q) f o c g = (o.0, onward-then p f o.1 c g, onward-then q f o.2 c g)
onward-then (maybe r k q) f o c g =
    (λ x. let a = o.0 x in (closes-then a.0 c, onward-then (k x) f a.1 c g), onward-then q f o.1 c g)
onward-then (chain r test front k) f o c g =
    (o.0, o.1, o.2, λ xs. let a = o.3 xs in (closes-then a.0 c, onward-then (k xs) f a.1 c g))
onward-then (shut p) f o c g = onward-then p f o c g

pub good-then : {X Y : Type 0} {place between : Place} {p : Plan X} {f : X → Plan Y} → Good between p → ((x : X) → Safe place between (f x))
    → Good place (p >>= f)
good-then {p = p} {f = f} a g = record {
  completes = completes-then a.completes (λ x. (g x).closes);
  onward = onward-then p f a.onward (λ x. (g x).closes) (λ x. (g x).onward);
}

pub safe-then : {X Y : Type 0} {place between before : Place} {p : Plan X} {f : X → Plan Y} → Safe between before p
    → ((x : X) → Safe place between (f x)) → Safe place before (p >>= f)
safe-then {p = p} {f = f} a g = record {
  closes = closes-then a.closes (λ x. (g x).closes);
  onward = onward-then p f a.onward (λ x. (g x).closes) (λ x. (g x).onward);
}
