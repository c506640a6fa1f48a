-- The grammar of constants and expressions. A relation says of a tree that it is spelled by the
-- lexemes of the first list up to where the second one begins, which is its end. `o` is how many
-- openers are open where it begins, and `room` tells whether one more may be opened. A chain goes
-- on as long as it can.
use Rattle.std.specs.Prelude.{ℕ, suc, Bool, true, false, ◌≡◌, List, [], ◌∷◌}
use Rattle.inform_tree.specs.declared.values.Const.{Const}
use Rattle.inform_tree.specs.declared.values.Const.TheVariants as k
use Rattle.inform_tree.specs.declared.values.SumOp.{SumOp}
use Rattle.inform_tree.specs.declared.values.ProdOp.{ProdOp}
use Rattle.inform_tree.specs.Values as v
use Rattle.inform_tree.specs.Values.{Expression}
use Rattle.inform_lexemes.specs.declared.symbols.Symbol.TheVariants.{Comma, LeftRound, RightRound, Minus}
use Rattle.inform_lexemes.specs.declared.keywords.Keyword.TheVariants as w
use Rattle.inform_lexemes.specs.Lexemes.{Lexeme, Word, Name, Number, Character, Sign, is_sign}
use Rattle.inform_grammar.specs.Lexemes.{No, arrow, is_arrow, factor_sign, is_factor_sign, term_sign, is_term_sign}
use Rattle.inform_grammar.specs.Trees.{product_of, sum_of}

-- const = number | character | name | - number
pub data Constant : Const → List Lexeme → List Lexeme → Type 0 where
  a_number : {n : ℕ} {rest : List Lexeme} → Constant (k.Number n) (Number n ∷ rest) rest
  a_character : {byte : ℕ} {rest : List Lexeme}
      → Constant (k.Char byte) (Character byte ∷ rest) rest
  a_constant : {name : List ℕ} {rest : List Lexeme} → Constant (k.Name name) (Name name ∷ rest) rest
  below_zero : {n : ℕ} {rest : List Lexeme} → Constant (k.Minus n) (Sign Minus ∷ Number n ∷ rest)
      rest

-- entry = number | character | name | "(" - number ")"
pub data Entry (room : ℕ → Bool) : ℕ → Const → List Lexeme → List Lexeme → Type 0 where
  entry_number : {o n : ℕ} {rest : List Lexeme} → Entry room o (k.Number n) (Number n ∷ rest) rest
  entry_character : {o byte : ℕ} {rest : List Lexeme}
      → Entry room o (k.Char byte) (Character byte ∷ rest) rest
  entry_constant : {o : ℕ} {name : List ℕ} {rest : List Lexeme}
      → Entry room o (k.Name name) (Name name ∷ rest) rest
  entry_below_zero : {o n : ℕ} {rest : List Lexeme} → room o ≡ true
      → Entry room o (k.Minus n) (Sign LeftRound ∷ Sign Minus ∷ Number n ∷ Sign RightRound ∷ rest)
      rest

-- a name and an arrow, which begin an entry of an array and no other operand
abbrev pub begins_entry : List Lexeme → Bool
begins_entry (Name name ∷ Sign symbol ∷ rest) = is_arrow (Sign symbol)
begins_entry _ = false

mutual
  -- primary = number | character | name | name "(" arguments ")" | random "(" value ")" | "(" value
  -- ")"
  pub data Primary (room : ℕ → Bool) : ℕ → Expression → List Lexeme → List Lexeme → Type 0 where
    number : {o n : ℕ} {rest : List Lexeme} → Primary room o (v.Number n) (Number n ∷ rest) rest
    character : {o byte : ℕ} {rest : List Lexeme}
        → Primary room o (v.Char byte) (Character byte ∷ rest) rest
    named : {o : ℕ} {name : List ℕ} {rest : List Lexeme} → No (is_sign LeftRound) rest
        → Primary room o (v.Name name) (Name name ∷ rest) rest
    called : {o : ℕ} {name : List ℕ} {xs : List Expression} {ts rest : List Lexeme} → room o ≡ true
        → Arguments room (suc o) xs ts rest → Primary room o (v.Call name (v.arguments xs))
        (Name name ∷ Sign LeftRound ∷ ts) rest
    random : {o : ℕ} {x : Expression} {ts rest : List Lexeme} → room o ≡ true
        → Value room (suc o) x ts (Sign RightRound ∷ rest)
        → Primary room o (v.Random x) (Word w.Random ∷ Sign LeftRound ∷ ts) rest
    bracketed : {o : ℕ} {x : Expression} {ts rest : List Lexeme} → room o ≡ true
        → Value room (suc o) x ts (Sign RightRound ∷ rest)
        → Primary room o x (Sign LeftRound ∷ ts) rest

  -- arguments = [ value { , value } ], with the closing bracket
  pub data Arguments (room : ℕ → Bool) : ℕ → List Expression → List Lexeme → List Lexeme
      → Type 0 where
    no_arguments : {o : ℕ} {rest : List Lexeme} → Arguments room o [] (Sign RightRound ∷ rest) rest
    some_arguments : {o : ℕ} {x : Expression} {xs : List Expression} {ts mid rest : List Lexeme}
        → Value room o x ts mid → FurtherArguments room o xs mid (Sign RightRound ∷ rest)
        → Arguments room o (x ∷ xs) ts rest

  pub data FurtherArguments (room : ℕ → Bool) : ℕ → List Expression → List Lexeme → List Lexeme
      → Type 0 where
    last_argument : {o : ℕ} {rest : List Lexeme} → FurtherArguments room o [] rest rest
    one_more_argument : {o : ℕ} {x : Expression} {xs : List Expression} {ts mid rest : List Lexeme}
        → Value room o x ts mid → FurtherArguments room o xs mid rest
        → FurtherArguments room o (x ∷ xs) (Sign Comma ∷ ts) rest

  -- unary = - primary | name ( -> | --> ) primary | primary
  pub data Unary (room : ℕ → Bool) : ℕ → Expression → List Lexeme → List Lexeme → Type 0 where
    negative : {o : ℕ} {x : Expression} {ts rest : List Lexeme} → Primary room o x ts rest
        → Unary room o (v.Neg x) (Sign Minus ∷ ts) rest
    indexed : {o : ℕ} {name : List ℕ} {words : Bool} {x : Expression} {ts rest : List Lexeme}
        → Primary room o x ts rest → Unary room o (v.Entry name words x)
        (Name name ∷ Sign (arrow words) ∷ ts) rest
    operand : {o : ℕ} {x : Expression} {ts rest : List Lexeme} → begins_entry ts ≡ false
        → Primary room o x ts rest → Unary room o x ts rest

  -- { ( * | / | % ) unary }
  pub data Factors (room : ℕ → Bool) : ℕ → List (ProdOp × Expression) → List Lexeme → List Lexeme
      → Type 0 where
    no_factor : {o : ℕ} {rest : List Lexeme} → No is_factor_sign rest → Factors room o [] rest rest
    one_more_factor : {o : ℕ} {op : ProdOp} {x : Expression} {xs : List (ProdOp × Expression)}
        {ts mid rest : List Lexeme}
        → Unary room o x ts mid → Factors room o xs mid rest
        → Factors room o ((op, x) ∷ xs) (Sign (factor_sign op) ∷ ts) rest

  -- product = unary { ( * | / | % ) unary }
  pub data Product (room : ℕ → Bool) : ℕ → Expression → List Lexeme → List Lexeme → Type 0 where
    a_product : {o : ℕ} {x : Expression} {xs : List (ProdOp × Expression)}
        {ts mid rest : List Lexeme}
        → Unary room o x ts mid → Factors room o xs mid rest
        → Product room o (product_of x xs) ts rest

  -- { ( + | - ) product }
  pub data Terms (room : ℕ → Bool) : ℕ → List (SumOp × Expression) → List Lexeme → List Lexeme
      → Type 0 where
    no_term : {o : ℕ} {rest : List Lexeme} → No is_term_sign rest → Terms room o [] rest rest
    one_more_term : {o : ℕ} {op : SumOp} {x : Expression} {xs : List (SumOp × Expression)}
        {ts mid rest : List Lexeme}
        → Product room o x ts mid → Terms room o xs mid rest
        → Terms room o ((op, x) ∷ xs) (Sign (term_sign op) ∷ ts) rest

  -- value = product { ( + | - ) product }
  pub data Value (room : ℕ → Bool) : ℕ → Expression → List Lexeme → List Lexeme → Type 0 where
    a_value : {o : ℕ} {x : Expression} {xs : List (SumOp × Expression)} {ts mid rest : List Lexeme}
        → Product room o x ts mid → Terms room o xs mid rest → Value room o (sum_of x xs) ts rest
