-- The grammar of programs: which list of lexemes is a sentence, and of which program.
use Rattle.std.specs.Prelude.{ℕ, Bool, List, [], ◌∷◌, Some, None}
use Rattle.inform_tree.specs.declared.values.Const.{Const}
use Rattle.inform_tree.specs.Statements as s
use Rattle.inform_tree.specs.Programs as d
use Rattle.inform_tree.specs.Programs.{DirectiveTree}
use Rattle.inform_lexemes.specs.declared.symbols.Symbol.TheVariants.{Semicolon, LeftSquare, RightSquare, Assign}
use Rattle.inform_lexemes.specs.declared.keywords.Keyword.TheVariants as w
use Rattle.inform_lexemes.specs.Lexemes.{Lexeme, Word, Name, Sign}
use Rattle.inform_grammar.specs.Lexemes.{arrow}
use Rattle.inform_grammar.specs.Values.{Constant, Entry}
use Rattle.inform_grammar.specs.Statements.{Statements}
use Rattle.inform_grammar.specs.Trees.{routine_tree}

-- { entry }
pub data Entries (room : ℕ → Bool) : ℕ → List Const → List Lexeme → List Lexeme → Type 0 where
  last_entry : {o : ℕ} {rest : List Lexeme} → Entries room o [] rest rest
  one_more_entry : {o : ℕ} {x : Const} {xs : List Const} {ts mid rest : List Lexeme}
      → Entry room o x ts mid → Entries room o xs mid rest → Entries room o (x ∷ xs) ts rest

-- { name }
pub data Names : List (List ℕ) → List Lexeme → List Lexeme → Type 0 where
  last_name : {rest : List Lexeme} → Names [] rest rest
  one_more_name : {name : List ℕ} {names : List (List ℕ)} {ts rest : List Lexeme}
      → Names names ts rest → Names (name ∷ names) (Name name ∷ ts) rest

pub data Directive (room : ℕ → Bool) : DirectiveTree → List Lexeme → List Lexeme → Type 0 where
  -- Constant name = const ;
  constant : {name : List ℕ} {x : Const} {ts rest : List Lexeme}
      → Constant x ts (Sign Semicolon ∷ rest)
      → Directive room (d.Constant name x) (Word w.Constant ∷ Name name ∷ Sign Assign ∷ ts) rest
  -- Global name [ = const ] ;
  global : {name : List ℕ} {rest : List Lexeme}
      → Directive room (d.Global name None) (Word w.Global ∷ Name name ∷ Sign Semicolon ∷ rest) rest
  global_with : {name : List ℕ} {x : Const} {ts rest : List Lexeme}
      → Constant x ts (Sign Semicolon ∷ rest)
      → Directive room (d.Global name (Some x)) (Word w.Global ∷ Name name ∷ Sign Assign ∷ ts) rest
  -- Array name ( -> | --> ) entry { entry } ;
  array : {name : List ℕ} {words : Bool} {x : Const} {xs : List Const} {ts mid rest : List Lexeme}
      → Entry room 0 x ts mid → Entries room 0 xs mid (Sign Semicolon ∷ rest)
      → Directive room (d.Array name words (x ∷ xs))
      (Word w.Array ∷ Name name ∷ Sign (arrow words) ∷ ts) rest
  -- [ name { name } ; { statement } ] ;
  routine : {name : List ℕ} {locals : List (List ℕ)} {xs : List s.Statement}
      {ts mid rest : List Lexeme}
      → Names locals ts (Sign Semicolon ∷ mid)
      → Statements room 0 xs mid (Sign RightSquare ∷ Sign Semicolon ∷ rest)
      → Directive room (routine_tree name locals xs) (Sign LeftSquare ∷ Name name ∷ ts) rest

-- program = { directive }, and nothing after it
pub data Sentence (room : ℕ → Bool) : List DirectiveTree → List Lexeme → Type 0 where
  no_more : Sentence room [] []
  one_more : {x : DirectiveTree} {xs : List DirectiveTree} {ts rest : List Lexeme}
      → Directive room x ts rest → Sentence room xs rest → Sentence room (x ∷ xs) ts
