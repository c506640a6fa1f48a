-- Constants and expressions that are spelled so are read so.
use Rattle.std.proofs.Common.{◌≡◌, ℕ, Bool, true, false, List, [], ◌∷◌, ◌++◌, refl, sym, ap, ◌∙◌, append_assoc, append-nil}
use Rattle.inform_tree.specs.declared.values.Const.{Const}
use Rattle.inform_tree.specs.declared.values.SumOp.{SumOp}
use Rattle.inform_tree.specs.declared.values.SumOp.TheVariants.{Add, Sub}
use Rattle.inform_tree.specs.declared.values.ProdOp.{ProdOp}
use Rattle.inform_tree.specs.declared.values.ProdOp.TheVariants.{Mul, Div, Rem}
use Rattle.inform_tree.specs.Values.{Expression}
use Rattle.inform_lexemes.specs.declared.symbols.Symbol.TheVariants.{Comma, LeftRound, Plus, Minus, Times}
use Rattle.inform_lexemes.specs.Lexemes.{Lexeme, Name, Sign, is_sign}
use Rattle.inform_grammar.specs.Rules as r
use Rattle.inform_grammar.specs.Lexemes.{Yes, No, is_arrow, is_factor_sign, is_term_sign, one_less}
use Rattle.inform_grammar.specs.Plan.{Plan, many, ◌>>=◌, one}
use Rattle.inform_grammar.specs.ValueRules.{arguments, name_after, factors_after, terms_after}
use Rattle.inform_grammar.specs.Reading.{reads}
use Rattle.inform_grammar.specs.Values.{Constant, a_number, a_character, a_constant, below_zero, Entry, entry_number, entry_character, entry_constant, entry_below_zero, begins_entry, Primary, number, character, named, called, random, bracketed, Arguments, no_arguments, some_arguments, FurtherArguments, last_argument, one_more_argument, Unary, negative, indexed, operand, Factors, no_factor, one_more_factor, Product, a_product, Terms, no_term, one_more_term, Value, a_value}
use Rattle.inform_grammar.proofs.Opened.{opened}
use Rattle.inform_grammar.proofs.Steps.{starts, opened-here, next-no, maybe-yes, many-no, one-as, mark, there, same-heads}

-- ---- what a rule may begin with

pub starts-argument : (x : Lexeme) → starts r.Argument x ≡ is_sign Comma x
unfolding opened
starts-argument (Sign Comma) = refl
starts-argument _ = refl

pub starts-factor : (x : Lexeme) → starts r.Factor x ≡ is_factor_sign x
unfolding opened
starts-factor (Sign Times) = refl
starts-factor _ = refl

pub starts-term : (x : Lexeme) → starts r.Term x ≡ is_term_sign x
unfolding opened
starts-term (Sign Plus) = refl
starts-term _ = refl

-- ---- constants and entries

module _ (room : ℕ → Bool) {X : Type 0} where
  pub read-constant : {x : Const} {ts rest : List Lexeme} → Constant x ts rest → (k : Const → Plan X) (o : ℕ)
      → reads room ts (one r.Constant k) o ≡ reads room rest (k x) o
  unfolding opened
  read-constant a_number k o = refl
  read-constant a_character k o = refl
  read-constant a_constant k o = refl
  read-constant below_zero k o = refl

  pub read-entry : {x : Const} {o : ℕ} {ts rest : List Lexeme} → Entry room o x ts rest → (k : Const → Plan X)
      → reads room ts (one r.Entry k) o ≡ reads room rest (k x) o
  unfolding opened
  read-entry entry_number k = refl
  read-entry entry_character k = refl
  read-entry entry_constant k = refl
  read-entry (entry_below_zero h) k = opened-here h _ _

-- ---- operands

-- what is no entry of an array is read as a primary, where it may be one
pub unary-as-primary : (room : ℕ → Bool) {X : Type 0} (ts : List Lexeme) → begins_entry ts ≡ false → Yes (starts r.Primary) ts
    → (k : Expression → Plan X) (o : ℕ) → reads room ts (one r.Unary k) o ≡ reads room ts (one r.Primary k) o
unfolding opened
unary-as-primary room [] h e k o = refl
unary-as-primary room (Name name ∷ []) h e k o = refl
unary-as-primary room (Name name ∷ Sign symbol ∷ ts) h e k o = next-no room (Sign symbol ∷ ts) is_arrow h _ (name_after name >>= k) o
unary-as-primary room (Name name ∷ _) h e k o = refl
unary-as-primary room (Sign Minus ∷ ts) h e k o = absurd (cc)
unary-as-primary room (_ ∷ ts) h e k o = refl

mutual
  unfolding opened

  pub read-primary : (room : ℕ → Bool) {X : Type 0} {o : ℕ} {x : Expression} {ts rest : List Lexeme} → Primary room o x ts rest
      → (k : Expression → Plan X) → reads room ts (one r.Primary k) o ≡ reads room rest (k x) o
  read-primary room number k = refl
  read-primary room character k = refl
  read-primary room (named {rest = rest} h) k = next-no room rest (is_sign LeftRound) h _ _ _
  read-primary room (called h xs) k = opened-here h _ _ ∙ read-arguments room xs _
  read-primary room (random h x) k = opened-here h _ _ ∙ read-value room x _
  read-primary room (bracketed h x) k = opened-here h _ _ ∙ read-value room x _

  pub read-arguments : (room : ℕ → Bool) {X : Type 0} {o : ℕ} {xs : List Expression} {ts rest : List Lexeme} → Arguments room o xs ts rest
      → (k : List Expression → Plan X) → reads room ts (arguments >>= k) o ≡ reads room rest (k xs) (one_less o)
  read-arguments room no_arguments k = refl
  read-arguments room (some_arguments {ts = ts} x xs) k =
      maybe-yes room ts r.Value (there room r.Value _ _ _ _ (read-value room x (λ _. mark))) _ _ _
      ∙ read-value room x _ ∙ read-further room xs refl _ _

  read-further : (room : ℕ → Bool) {X : Type 0} {o : ℕ} {xs : List Expression} {ts rest : List Lexeme} → FurtherArguments room o xs ts rest
      → No (is_sign Comma) rest → (front : List Expression) (k : List Expression → Plan X)
      → reads room ts (many r.Argument front k) o ≡ reads room rest (k (front ++ xs)) o
  read-further room {o = o} (last_argument {rest = rest}) h front k =
      many-no room rest r.Argument (same-heads starts-argument rest ∙ h) front k o
      ∙ ap (λ xs. reads room rest (k xs) o) (sym (append-nil front))
  read-further room {o = o} {rest = rest} (one_more_argument {x = x} {xs = xs} d ds) h front k =
      read-value room d _ ∙ read-further room ds h _ k ∙ ap (λ xs. reads room rest (k xs) o) (append_assoc front (x ∷ []) xs)

  pub read-unary : (room : ℕ → Bool) {X : Type 0} {o : ℕ} {x : Expression} {ts rest : List Lexeme} → Unary room o x ts rest
      → (k : Expression → Plan X) → reads room ts (one r.Unary k) o ≡ reads room rest (k x) o
  read-unary room (negative x) k = read-primary room x _
  read-unary room (indexed {words = true} x) k = read-primary room x _
  read-unary room (indexed {words = false} x) k = read-primary room x _
  read-unary room (operand {ts = ts} h x) k =
      unary-as-primary room ts h (there room r.Primary _ _ _ _ (read-primary room x (λ _. mark))) k _ ∙ read-primary room x k

  -- factors that are spelled so, each after its sign, are read so, after those read before
  pub read-factors : (room : ℕ → Bool) {X : Type 0} {o : ℕ} {xs : List (ProdOp × Expression)} {ts rest : List Lexeme} → Factors room o xs ts rest
      → (front : List (ProdOp × Expression)) (k : List (ProdOp × Expression) → Plan X)
      → reads room ts (many r.Factor front k) o ≡ reads room rest (k (front ++ xs)) o
  read-factors room {o = o} (no_factor {rest = rest} h) front k =
      many-no room rest r.Factor (same-heads starts-factor rest ∙ h) front k o
      ∙ ap (λ xs. reads room rest (k xs) o) (sym (append-nil front))
  read-factors room {o = o} {rest = rest} (one_more_factor {op = Mul} {x = x} {xs = xs} d ds) front k =
      read-unary room d _ ∙ read-factors room ds _ k ∙ ap (λ xs. reads room rest (k xs) o) (append_assoc front ((Mul, x) ∷ []) xs)
  read-factors room {o = o} {rest = rest} (one_more_factor {op = Div} {x = x} {xs = xs} d ds) front k =
      read-unary room d _ ∙ read-factors room ds _ k ∙ ap (λ xs. reads room rest (k xs) o) (append_assoc front ((Div, x) ∷ []) xs)
  read-factors room {o = o} {rest = rest} (one_more_factor {op = Rem} {x = x} {xs = xs} d ds) front k =
      read-unary room d _ ∙ read-factors room ds _ k ∙ ap (λ xs. reads room rest (k xs) o) (append_assoc front ((Rem, x) ∷ []) xs)

  pub read-product : (room : ℕ → Bool) {X : Type 0} {o : ℕ} {x : Expression} {ts rest : List Lexeme} → Product room o x ts rest
      → (k : Expression → Plan X) → reads room ts (one r.Product k) o ≡ reads room rest (k x) o
  read-product room (a_product {ts = ts} x xs) k =
      one-as room ts r.Product r.Unary factors_after k _ (λ t. refl) ∙ read-unary room x _ ∙ read-factors room xs [] _

  pub read-terms : (room : ℕ → Bool) {X : Type 0} {o : ℕ} {xs : List (SumOp × Expression)} {ts rest : List Lexeme} → Terms room o xs ts rest
      → (front : List (SumOp × Expression)) (k : List (SumOp × Expression) → Plan X)
      → reads room ts (many r.Term front k) o ≡ reads room rest (k (front ++ xs)) o
  read-terms room {o = o} (no_term {rest = rest} h) front k =
      many-no room rest r.Term (same-heads starts-term rest ∙ h) front k o
      ∙ ap (λ xs. reads room rest (k xs) o) (sym (append-nil front))
  read-terms room {o = o} {rest = rest} (one_more_term {op = Add} {x = x} {xs = xs} d ds) front k =
      read-product room d _ ∙ read-terms room ds _ k ∙ ap (λ xs. reads room rest (k xs) o) (append_assoc front ((Add, x) ∷ []) xs)
  read-terms room {o = o} {rest = rest} (one_more_term {op = Sub} {x = x} {xs = xs} d ds) front k =
      read-product room d _ ∙ read-terms room ds _ k ∙ ap (λ xs. reads room rest (k xs) o) (append_assoc front ((Sub, x) ∷ []) xs)

  pub read-value : (room : ℕ → Bool) {X : Type 0} {o : ℕ} {x : Expression} {ts rest : List Lexeme} → Value room o x ts rest
      → (k : Expression → Plan X) → reads room ts (one r.Value k) o ≡ reads room rest (k x) o
  read-value room (a_value {ts = ts} x xs) k =
      one-as room ts r.Value r.Product terms_after k _ (λ t. refl) ∙ read-product room x _ ∙ read-terms room xs [] _

-- a value begins with a lexeme that a value may begin with
pub value-there : (room : ℕ → Bool) {o : ℕ} {x : Expression} {ts rest : List Lexeme} → Value room o x ts rest → Yes (starts r.Value) ts
value-there room {o = o} {ts = ts} {rest = rest} x = there room r.Value ts rest o o (read-value room x (λ _. mark))
