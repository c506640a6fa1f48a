-- What the grammar says of each rule, and what a plan that was read to its end says of the lexemes.
use Rattle.std.proofs.Common.{◌≡◌, ◌⊎◌, ℕ, Bool, true, List, [], ◌∷◌, ◌++◌, Option, Some, None}
use Rattle.std.specs.Bool.{MatchBool}
use Rattle.std.specs.Prelude.{⊤}
use Rattle.inform_tree.specs.Statements as s
use Rattle.inform_lexemes.specs.declared.symbols.Symbol.{Symbol}
use Rattle.inform_lexemes.specs.declared.symbols.Symbol.TheVariants.{Comma, Colon}
use Rattle.inform_lexemes.specs.Lexemes.{Lexeme, Name, Sign}
use Rattle.inform_grammar.specs.Rules as r
use Rattle.inform_grammar.specs.Rules.{Rule, TreeOf, SwitchPart, Head, Said}
use Rattle.inform_grammar.specs.Lexemes.{Yes, No, factor_sign, term_sign, connective, is_opener, one_less}
use Rattle.inform_grammar.specs.Plan.{Plan, done, refuse, next, look, maybe, chain, shut}
use Rattle.inform_grammar.specs.Reading.{opened_after}
use Rattle.inform_grammar.specs.Values.{Constant, Entry, Primary, Unary, Product, Value}
use Rattle.inform_grammar.specs.Conditions.{Test, Condition}
use Rattle.inform_grammar.specs.Statements.{Change, Item, Choice, Choices, Statement, Body}
use Rattle.inform_grammar.specs.Sentences.{Directive}
use Rattle.inform_grammar.proofs.Steps.{starts}
use Rattle.inform_grammar.specs.Trees.{Guard, condition}

-- a symbol, and what follows it
abbrev pub After : Symbol → (List Lexeme → Type 0) → List Lexeme → Type 0
After symbol P ts = (us : List Lexeme) × (ts ≡ Sign symbol ∷ us) × P us

module _ (room : ℕ → Bool) where
  abbrev pub PartSays : ℕ → SwitchPart → List Lexeme → List Lexeme → Type 0
  PartSays o (Head xs) ts rest =
      (x : s.Choice) × (ys : List s.Choice) × (mid : List Lexeme) × (xs ≡ x ∷ ys) × Choice x ts mid × Choices ys mid (Sign Colon ∷ rest)
  PartSays o (Said x) ts rest = Statement room o x ts rest

  -- the lexemes up to the rest spell what the rule reads, by what the grammar says of the rule
  abbrev pub Says : (r : Rule) → ℕ → TreeOf r → List Lexeme → List Lexeme → Type 0
  Says r.Constant o x ts rest = Constant x ts rest
  Says r.Entry o x ts rest = Entry room o x ts rest
  Says r.Primary o x ts rest = Primary room o x ts rest
  Says r.Unary o x ts rest = Unary room o x ts rest
  Says r.Factor o x ts rest = After (factor_sign x.0) (λ us. Unary room o x.1 us rest) ts
  Says r.Product o x ts rest = Product room o x ts rest
  Says r.Term o x ts rest = After (term_sign x.0) (λ us. Product room o x.1 us rest) ts
  Says r.Value o x ts rest = Value room o x ts rest
  Says r.Argument o x ts rest = After Comma (λ us. Value room o x us rest) ts
  Says r.Test o x ts rest = Test room o x ts rest
  Says (r.Member join) o x ts rest = (g : Guard) × (x ≡ condition g) × After (connective join) (λ us. Test room o g us rest) ts
  Says r.Condition o x ts rest = Condition room o x ts rest
  Says r.Change o x ts rest = Change room o x ts rest
  Says r.Item o x ts rest = Item room o x ts rest
  Says r.FurtherItem o x ts rest = After Comma (λ us. Item room o x us rest) ts
  Says r.Statement o x ts rest = Statement room o x ts rest
  Says r.Body o x ts rest = Body room o x ts rest
  Says r.Choice o x ts rest = Choice x ts rest
  Says r.FurtherChoice o x ts rest = After Comma (λ us. Choice x us rest) ts
  Says r.Part o x ts rest = PartSays o x ts rest
  Says r.Local o x ts rest = ts ≡ Name x ∷ rest
  Says r.Directive o x ts rest = o ≡ 0 → Directive room x ts rest

  -- a rule, again and again
  abbrev pub Each : (r : Rule) → ℕ → List (TreeOf r) → List Lexeme → List Lexeme → Type 0
  Each r o [] ts rest = ts ≡ rest
  Each r o (x ∷ xs) ts rest = (mid : List Lexeme) × Says r o x ts mid × Each r o xs mid rest

  -- there is room for a lexeme, where so many are open
  abbrev pub Fits : Lexeme → ℕ → Type 0
  Fits x n = MatchBool (is_opener x) (room n ≡ true) ⊤

  -- from so many open, a plan reads the lexemes up to the rest as the value, and leaves so many
  -- open
  abbrev pub Holds : {X : Type 0} → Plan X → ℕ → X → List Lexeme → ℕ → List Lexeme → Type 0
  Holds (done x) n v ts m rest = (x ≡ v) × (n ≡ m) × (ts ≡ rest)
  Holds refuse n v ts m rest = ⊥
  Holds (next test k q) n v ts m rest =
      ((x : Lexeme) × (us : List Lexeme) × (ts ≡ x ∷ us) × (test x ≡ true) × Fits x n × Holds (k x) (opened_after x n) v us m rest)
      ⊎ (No test ts × Holds q n v ts m rest)
  Holds (look test p q) n v ts m rest = (Yes test ts × Holds p n v ts m rest) ⊎ (No test ts × Holds q n v ts m rest)
  Holds (maybe r k q) n v ts m rest =
      ((x : TreeOf r) × (mid : List Lexeme) × Says r n x ts mid × Holds (k x) n v mid m rest)
      ⊎ (No (starts r) ts × Holds q n v ts m rest)
  Holds (chain r test front k) n v ts m rest =
      (xs : List (TreeOf r)) × (mid : List Lexeme) × Each r n xs ts mid × No (starts r) mid × No test mid × Holds (k (front ++ xs)) n v mid m rest
  Holds (shut p) n v ts m rest = Holds p (one_less n) v ts m rest

  -- the same as a record, from which its parts are known
  pub record Read {X : Type 0} (p : Plan X) (n : ℕ) (v : X) (ts : List Lexeme) (m : ℕ) (rest : List Lexeme) : Type 0 where
    pub says : Holds p n v ts m rest

  -- the same of a plan of a rule, which there is
  abbrev pub Begun : {X : Type 0} → Option (Plan X) → ℕ → X → List Lexeme → ℕ → List Lexeme → Type 0
  Begun None n v us m rest = ⊥
  Begun (Some p) n v us m rest = Read p n v us m rest

  -- what a rule reads is what the grammar says, and it leaves as many open as there were
  pub record Found (r : Rule) (n : ℕ) (ts : List Lexeme) (v : TreeOf r) (m : ℕ) (rest : List Lexeme) : Type 0 where
    pub same : n ≡ m
    pub says : Says r n v ts rest
