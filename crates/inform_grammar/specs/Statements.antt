-- The grammar of statements.
use Rattle.std.specs.Prelude.{ℕ, suc, Bool, true, ◌≡◌, List, [], ◌∷◌, Option, Some, None, option_map}
use Rattle.inform_tree.specs.declared.values.Const.{Const}
use Rattle.inform_tree.specs.Values as v
use Rattle.inform_tree.specs.Values.{Expression}
use Rattle.inform_tree.specs.Statements as s
use Rattle.inform_tree.specs.Statements.{Assignment, PrintItem}
use Rattle.inform_lexemes.specs.declared.symbols.Symbol.TheVariants.{Semicolon, Comma, Colon, LeftRound, RightRound, LeftBrace, RightBrace, Assign, Increment, Decrement}
use Rattle.inform_lexemes.specs.declared.keywords.Keyword.TheVariants as w
use Rattle.inform_lexemes.specs.Lexemes.{Lexeme, Word, Name, Quoted, Sign, is_sign, is_word}
use Rattle.inform_grammar.specs.Lexemes.{No, arrow}
use Rattle.inform_grammar.specs.Values.{Constant, Primary, Arguments, Value}
use Rattle.inform_grammar.specs.Conditions.{Condition}
use Rattle.inform_grammar.specs.Trees.{Guard, condition, cases_tree}

-- change = name = value | name ( -> | --> ) primary = value | name ++ | name --
pub data Change (room : ℕ → Bool) : ℕ → Assignment → List Lexeme → List Lexeme → Type 0 where
  set : {o : ℕ} {name : List ℕ} {x : Expression} {ts rest : List Lexeme}
      → Value room o x ts rest → Change room o (s.Set name x) (Name name ∷ Sign Assign ∷ ts) rest
  set_entry : {o : ℕ} {name : List ℕ} {words : Bool} {i x : Expression} {ts mid rest : List Lexeme}
      → Primary room o i ts (Sign Assign ∷ mid) → Value room o x mid rest
      → Change room o (s.SetEntry name words i x) (Name name ∷ Sign (arrow words) ∷ ts) rest
  increment : {o : ℕ} {name : List ℕ} {rest : List Lexeme}
      → Change room o (s.Inc name) (Name name ∷ Sign Increment ∷ rest) rest
  decrement : {o : ℕ} {name : List ℕ} {rest : List Lexeme}
      → Change room o (s.Dec name) (Name name ∷ Sign Decrement ∷ rest) rest

-- [ change ], before a lexeme that begins none
pub data ChangeIfAny (room : ℕ → Bool) : ℕ → Option Assignment → List Lexeme → List Lexeme
    → Type 0 where
  no_change : {o : ℕ} {rest : List Lexeme} → ChangeIfAny room o None rest rest
  a_change : {o : ℕ} {x : Assignment} {ts rest : List Lexeme} → Change room o x ts rest
      → ChangeIfAny room o (Some x) ts rest

-- [ cond ]
pub data ConditionIfAny (room : ℕ → Bool) : ℕ → Option Guard → List Lexeme → List Lexeme
    → Type 0 where
  no_condition : {o : ℕ} {rest : List Lexeme} → ConditionIfAny room o None rest rest
  some_condition : {o : ℕ} {x : Guard} {ts rest : List Lexeme} → Condition room o x ts rest
      → ConditionIfAny room o (Some x) ts rest

-- item = string | value | "(" char ")" value
pub data Item (room : ℕ → Bool) : ℕ → PrintItem → List Lexeme → List Lexeme → Type 0 where
  text : {o : ℕ} {bytes : List ℕ} {rest : List Lexeme}
      → Item room o (s.Text bytes) (Quoted bytes ∷ rest) rest
  decimal : {o : ℕ} {x : Expression} {ts rest : List Lexeme} → Value room o x ts rest
      → Item room o (s.Value x) ts rest
  as_character : {o : ℕ} {x : Expression} {ts rest : List Lexeme} → room o ≡ true
      → Value room o x ts rest → Item room o (s.Char x)
      (Sign LeftRound ∷ Word w.Char ∷ Sign RightRound ∷ ts) rest

-- { , item }
pub data Items (room : ℕ → Bool) : ℕ → List PrintItem → List Lexeme → List Lexeme → Type 0 where
  last_item : {o : ℕ} {rest : List Lexeme} → Items room o [] rest rest
  one_more_item : {o : ℕ} {x : PrintItem} {xs : List PrintItem} {ts mid rest : List Lexeme}
      → Item room o x ts mid → Items room o xs mid rest
      → Items room o (x ∷ xs) (Sign Comma ∷ ts) rest

-- choice = const [ to const ]
pub data Choice : s.Choice → List Lexeme → List Lexeme → Type 0 where
  single : {x : Const} {ts rest : List Lexeme} → Constant x ts rest → No (is_word w.To) rest
      → Choice (x, None) ts rest
  range : {x y : Const} {ts mid rest : List Lexeme} → Constant x ts (Word w.To ∷ mid)
      → Constant y mid rest → Choice (x, Some y) ts rest

-- { , choice }
pub data Choices : List s.Choice → List Lexeme → List Lexeme → Type 0 where
  last_choice : {rest : List Lexeme} → Choices [] rest rest
  one_more_choice : {x : s.Choice} {xs : List s.Choice} {ts mid rest : List Lexeme}
      → Choice x ts mid → Choices xs mid rest → Choices (x ∷ xs) (Sign Comma ∷ ts) rest

mutual
  pub data Statement (room : ℕ → Bool) : ℕ → s.Statement → List Lexeme → List Lexeme → Type 0 where
    -- ;  |  "{" { statement } "}"  |  change ;  |  name "(" arguments ")" ;
    empty : {o : ℕ} {rest : List Lexeme} → Statement room o s.Empty (Sign Semicolon ∷ rest) rest
    block : {o : ℕ} {xs : List s.Statement} {ts rest : List Lexeme} → room o ≡ true
        → Statements room (suc o) xs ts (Sign RightBrace ∷ rest)
        → Statement room o (s.Block (s.statements xs)) (Sign LeftBrace ∷ ts) rest
    change : {o : ℕ} {x : Assignment} {ts rest : List Lexeme}
        → Change room o x ts (Sign Semicolon ∷ rest) → Statement room o (s.Assign x) ts rest
    call : {o : ℕ} {name : List ℕ} {xs : List Expression} {ts rest : List Lexeme} → room o ≡ true
        → Arguments room (suc o) xs ts (Sign Semicolon ∷ rest)
        → Statement room o (s.Call name (v.arguments xs)) (Name name ∷ Sign LeftRound ∷ ts) rest
    -- if "(" cond ")" body [ else body ]
    conditional : {o : ℕ} {x : Guard} {xs ys : List s.Statement} {ts mid far rest : List Lexeme}
        → room o ≡ true → room (suc o) ≡ true
        → Condition room (suc (suc o)) x ts (Sign RightRound ∷ mid) → Body room (suc o) xs mid far
        → ElseIfAny room (suc o) ys far rest
        → Statement room o (s.If (condition x) (s.statements xs) (s.statements ys))
        (Word w.If ∷ Sign LeftRound ∷ ts) rest
    -- while "(" cond ")" body
    while_loop : {o : ℕ} {x : Guard} {xs : List s.Statement} {ts mid rest : List Lexeme}
        → room o ≡ true → room (suc o) ≡ true
        → Condition room (suc (suc o)) x ts (Sign RightRound ∷ mid) → Body room (suc o) xs mid rest
        → Statement room o (s.While (condition x) (s.statements xs))
        (Word w.While ∷ Sign LeftRound ∷ ts) rest
    -- do body until "(" cond ")" ;
    do_loop : {o : ℕ} {x : Guard} {xs : List s.Statement} {ts mid rest : List Lexeme}
        → room o ≡ true → room (suc o) ≡ true
        → Body room (suc o) xs ts (Word w.Until ∷ Sign LeftRound ∷ mid)
        → Condition room (suc (suc o)) x mid (Sign RightRound ∷ Sign Semicolon ∷ rest)
        → Statement room o (s.Do (s.statements xs) (condition x)) (Word w.Do ∷ ts) rest
    -- for "(" [ change ] : [ cond ] : [ change ] ")" body
    for_loop : {o : ℕ} {first last : Option Assignment} {x : Option Guard} {xs : List s.Statement}
        {ts second third mid rest : List Lexeme}
        → room o ≡ true → room (suc o) ≡ true
        → ChangeIfAny room (suc (suc o)) first ts (Sign Colon ∷ second)
        → ConditionIfAny room (suc (suc o)) x second (Sign Colon ∷ third)
        → ChangeIfAny room (suc (suc o)) last third (Sign RightRound ∷ mid)
        → Body room (suc o) xs mid rest
        → Statement room o (s.For first (option_map condition x) last (s.statements xs))
        (Word w.For ∷ Sign LeftRound ∷ ts) rest
    -- switch "(" value ")" "{" { case } [ default : { statement } ] "}"
    switch : {o : ℕ} {x : Expression} {xs : List (List s.Choice × List s.Statement)}
        {other : Option (List s.Statement)} {ts mid far rest : List Lexeme}
        → room o ≡ true → Value room (suc o) x ts (Sign RightRound ∷ Sign LeftBrace ∷ mid)
        → Cases room (suc o) xs mid far → DefaultIfAny room (suc o) other far
        (Sign RightBrace ∷ rest)
        → Statement room o (s.Switch x (cases_tree xs) (s.default other))
        (Word w.Switch ∷ Sign LeftRound ∷ ts) rest
    -- break ; | continue ; | quit ; | rtrue ; | rfalse ; | return [ value ] ; | new_line ;
    break : {o : ℕ} {rest : List Lexeme} → Statement room o s.Break
        (Word w.Break ∷ Sign Semicolon ∷ rest) rest
    continue : {o : ℕ} {rest : List Lexeme} → Statement room o s.Continue
        (Word w.Continue ∷ Sign Semicolon ∷ rest) rest
    quit : {o : ℕ} {rest : List Lexeme} → Statement room o s.Quit
        (Word w.Quit ∷ Sign Semicolon ∷ rest) rest
    rtrue : {o : ℕ} {rest : List Lexeme} → Statement room o s.Rtrue
        (Word w.Rtrue ∷ Sign Semicolon ∷ rest) rest
    rfalse : {o : ℕ} {rest : List Lexeme} → Statement room o s.Rfalse
        (Word w.Rfalse ∷ Sign Semicolon ∷ rest) rest
    return : {o : ℕ} {rest : List Lexeme} → Statement room o (s.Return None)
        (Word w.Return ∷ Sign Semicolon ∷ rest) rest
    return_value : {o : ℕ} {x : Expression} {ts rest : List Lexeme}
        → Value room o x ts (Sign Semicolon ∷ rest)
        → Statement room o (s.Return (Some x)) (Word w.Return ∷ ts) rest
    new_line : {o : ℕ} {rest : List Lexeme} → Statement room o s.NewLine
        (Word w.NewLine ∷ Sign Semicolon ∷ rest) rest
    -- print item { , item } ;
    print : {o : ℕ} {x : PrintItem} {xs : List PrintItem} {ts mid rest : List Lexeme}
        → Item room o x ts mid → Items room o xs mid (Sign Semicolon ∷ rest)
        → Statement room o (s.Print (x ∷ xs)) (Word w.Print ∷ ts) rest
    -- read name name ;
    read : {o : ℕ} {line words : List ℕ} {rest : List Lexeme}
        → Statement room o (s.Read line words)
        (Word w.Read ∷ Name line ∷ Name words ∷ Sign Semicolon ∷ rest) rest

  -- body = "{" { statement } "}" | one other statement
  pub data Body (room : ℕ → Bool) : ℕ → List s.Statement → List Lexeme → List Lexeme → Type 0 where
    in_braces : {o : ℕ} {xs : List s.Statement} {ts rest : List Lexeme} → room o ≡ true
        → Statements room (suc o) xs ts (Sign RightBrace ∷ rest)
        → Body room o xs (Sign LeftBrace ∷ ts) rest
    just_one : {o : ℕ} {x : s.Statement} {ts rest : List Lexeme} → No (is_sign LeftBrace) ts
        → Statement room o x ts rest → Body room o (x ∷ []) ts rest

  -- [ else body ]: an `else` belongs to the nearest `if`
  pub data ElseIfAny (room : ℕ → Bool) : ℕ → List s.Statement → List Lexeme → List Lexeme
      → Type 0 where
    no_else : {o : ℕ} {rest : List Lexeme} → No (is_word w.Else) rest
        → ElseIfAny room o [] rest rest
    an_else : {o : ℕ} {xs : List s.Statement} {ts rest : List Lexeme} → Body room o xs ts rest
        → ElseIfAny room o xs (Word w.Else ∷ ts) rest

  -- { statement }
  pub data Statements (room : ℕ → Bool) : ℕ → List s.Statement → List Lexeme → List Lexeme
      → Type 0 where
    last_statement : {o : ℕ} {rest : List Lexeme} → Statements room o [] rest rest
    one_more_statement : {o : ℕ} {x : s.Statement} {xs : List s.Statement}
        {ts mid rest : List Lexeme}
        → Statement room o x ts mid → Statements room o xs mid rest
        → Statements room o (x ∷ xs) ts rest

  -- { case }, with case = choice { , choice } : { statement }
  pub data Cases (room : ℕ → Bool) : ℕ → List (List s.Choice × List s.Statement) → List Lexeme
      → List Lexeme → Type 0 where
    last_case : {o : ℕ} {rest : List Lexeme} → Cases room o [] rest rest
    one_more_case : {o : ℕ} {x : s.Choice} {xs : List s.Choice} {ys : List s.Statement}
        {cs : List (List s.Choice × List s.Statement)}
        {ts mid body far rest : List Lexeme} → Choice x ts mid → Choices xs mid (Sign Colon ∷ body)
        → Statements room o ys body far
        → Cases room o cs far rest → Cases room o ((x ∷ xs, ys) ∷ cs) ts rest

  -- [ default : { statement } ]
  pub data DefaultIfAny (room : ℕ → Bool) : ℕ → Option (List s.Statement) → List Lexeme
      → List Lexeme → Type 0 where
    no_default : {o : ℕ} {rest : List Lexeme} → DefaultIfAny room o None rest rest
    a_default : {o : ℕ} {xs : List s.Statement} {ts rest : List Lexeme}
        → Statements room o xs ts rest → DefaultIfAny room o (Some xs)
        (Word w.Default ∷ Sign Colon ∷ ts) rest
