-- Worked examples: sentences with their programs, and faults with their places.
use Rattle.std.specs.Prelude.{true, false, nat_lt, ◌≡◌, List, [], ◌∷◌, ◌++◌, codes, replicate, Some, None, Ok, Err, is_ok}
use Rattle.inform_tree.specs.declared.values.Const.TheVariants as k
use Rattle.inform_tree.specs.declared.values.SumOp.TheVariants.{Add, Sub}
use Rattle.inform_tree.specs.declared.values.ProdOp.TheVariants.{Mul}
use Rattle.inform_tree.specs.declared.conditions.Relation.TheVariants.{Eq, Lt}
use Rattle.inform_tree.specs.Values as v
use Rattle.inform_tree.specs.Values.{Expression}
use Rattle.inform_tree.specs.Conditions as c
use Rattle.inform_tree.specs.Statements as s
use Rattle.inform_tree.specs.Statements.{Statement}
use Rattle.inform_tree.specs.Programs as d
use Rattle.inform_tree.specs.Programs.{DirectiveTree}
use Rattle.inform_lexemes.specs.declared.symbols.Symbol.TheVariants.{Semicolon, Comma, Colon, LeftRound, RightRound, LeftBrace, RightBrace, LeftSquare, RightSquare, Assign, Equal, Less, And, Or, Plus, Minus, Times, ByteArrow, WordArrow, Increment}
use Rattle.inform_lexemes.specs.declared.keywords.Keyword.TheVariants as w
use Rattle.inform_lexemes.specs.Lexemes.{Lexeme, Word, Reserved, Name, Number, Quoted, Sign}
use Rattle.inform_grammar.specs.declared.limits.TheConstants.{OPENER_LIMIT}
use Rattle.inform_grammar.specs.Faults.{FaultKind, Unexpected, Mixed, TooDeep, fault}
use Rattle.inform_grammar.specs.Rule.{program}
use Rattle.inform_grammar.specs.Reading.{input, reads, within_limit}
use Rattle.inform_grammar.specs.Trees.{routine_tree}

abbrev a : Lexeme
a = Name (codes "a")

abbrev b : Lexeme
b = Name (codes "b")

abbrev a_value : Expression
a_value = v.Name (codes "a")

abbrev b_value : Expression
b_value = v.Name (codes "b")

-- `[ main; .. ];`
abbrev in_main : List Lexeme → List Lexeme
in_main ts =
    Sign LeftSquare ∷ Name (codes "main") ∷ Sign Semicolon
    ∷ (ts ++ Sign RightSquare ∷ Sign Semicolon ∷ [])

abbrev main_tree : List Statement → List DirectiveTree
main_tree xs = routine_tree (codes "main") [] xs ∷ []

-- the statements of these lexemes, in a routine by themselves
abbrev MainIs : List Lexeme → List Statement → Type 0
MainIs ts xs = reads within_limit (in_main ts) program 0 ≡ Ok (main_tree xs, input 0 [])

-- after some lexemes, a fault stands at the next one
abbrev FaultAt : FaultKind → List Lexeme → List Lexeme → Type 0
FaultAt kind before rest =
    reads within_limit (Sign LeftSquare ∷ Name (codes "main") ∷ Sign Semicolon ∷ (before ++ rest))
    program 0 ≡ Err (fault kind rest)

-- ---- sentences

-- `a = 1 - a * b - (a + 1);`
abbrev pub ChainsRead : Type 0
ChainsRead = MainIs
    (a ∷ Sign Assign ∷ Number 1 ∷ Sign Minus ∷ a ∷ Sign Times ∷ b ∷ Sign Minus ∷ Sign LeftRound ∷ a
    ∷ Sign Plus ∷ Number 1 ∷ Sign RightRound ∷ Sign Semicolon ∷ [])
    (s.Assign (s.Set (codes "a") (v.Sum (v.Number 1) (v.terms
    ((Sub, v.Product a_value (v.factors ((Mul, b_value) ∷ [])))
    ∷ (Sub, v.Sum a_value (v.terms ((Add, v.Number 1) ∷ []))) ∷ [])))) ∷ [])

-- `a-->b = a->2;`, and `a = -a->b;`, since an entry of an array is no operand of a minus sign
abbrev pub EntriesRead : Type 0
EntriesRead =
    MainIs (a ∷ Sign WordArrow ∷ b ∷ Sign Assign ∷ a ∷ Sign ByteArrow ∷ Number 2 ∷ Sign Semicolon
    ∷ [])
    (s.Assign (s.SetEntry (codes "a") true b_value (v.Entry (codes "a") false (v.Number 2))) ∷ [])
    × FaultAt Unexpected (a ∷ Sign Assign ∷ Sign Minus ∷ a ∷ []) (Sign ByteArrow ∷ b ∷ [])

-- `if (1) if (2) ; else a++;`
abbrev pub ElseIsNearest : Type 0
ElseIsNearest = MainIs
    (Word w.If ∷ Sign LeftRound ∷ Number 1 ∷ Sign RightRound ∷ Word w.If ∷ Sign LeftRound ∷ Number 2
    ∷ Sign RightRound ∷ Sign Semicolon
    ∷ Word w.Else ∷ a ∷ Sign Increment ∷ Sign Semicolon ∷ [])
    (s.If (c.Nonzero (v.Number 1))
    (s.statements
    (s.If (c.Nonzero (v.Number 2)) (s.statements (s.Empty ∷ []))
    (s.statements (s.Assign (s.Inc (codes "a")) ∷ [])) ∷ []))
    s.NoStatements ∷ [])

-- `if ((a) + 1 == b) ;` and `if ((a == b)) ;`
abbrev pub BracketsRead : Type 0
BracketsRead =
    MainIs
    (Word w.If ∷ Sign LeftRound ∷ Sign LeftRound ∷ a ∷ Sign RightRound ∷ Sign Plus ∷ Number 1
    ∷ Sign Equal ∷ b ∷ Sign RightRound ∷ Sign Semicolon ∷ [])
    (s.If (c.Compare Eq (v.Sum a_value (v.terms ((Add, v.Number 1) ∷ []))) b_value)
    (s.statements (s.Empty ∷ [])) s.NoStatements ∷ [])
    × MainIs
    (Word w.If ∷ Sign LeftRound ∷ Sign LeftRound ∷ a ∷ Sign Equal ∷ b ∷ Sign RightRound
    ∷ Sign RightRound ∷ Sign Semicolon ∷ [])
    (s.If (c.Compare Eq a_value b_value) (s.statements (s.Empty ∷ [])) s.NoStatements ∷ [])

-- `switch (a) { 1, b: a(); b to 3: b = 2; default: ; }`: a name begins a case, or a statement
abbrev pub CasesRead : Type 0
CasesRead = MainIs
    (Word w.Switch ∷ Sign LeftRound ∷ a ∷ Sign RightRound ∷ Sign LeftBrace ∷ Number 1 ∷ Sign Comma
    ∷ b ∷ Sign Colon
    ∷ a ∷ Sign LeftRound ∷ Sign RightRound ∷ Sign Semicolon ∷ b ∷ Word w.To ∷ Number 3 ∷ Sign Colon
    ∷ b ∷ Sign Assign ∷ Number 2 ∷ Sign Semicolon
    ∷ Word w.Default ∷ Sign Colon ∷ Sign Semicolon ∷ Sign RightBrace ∷ [])
    (s.Switch a_value
    (s.MoreCases ((k.Number 1, None) ∷ (k.Name (codes "b"), None)
    ∷ []) (s.statements (s.Call (codes "a") v.NoArguments ∷ []))
    (s.MoreCases ((k.Name (codes "b"), Some (k.Number 3))
    ∷ []) (s.statements (s.Assign (s.Set (codes "b") (v.Number 2)) ∷ []))
    s.NoCases))
    (s.SomeDefault (s.statements (s.Empty ∷ []))) ∷ [])

-- `print "a", (char) a, (a) + 1;`
abbrev pub ItemsRead : Type 0
ItemsRead = MainIs
    (Word w.Print ∷ Quoted (codes "a") ∷ Sign Comma ∷ Sign LeftRound ∷ Word w.Char ∷ Sign RightRound
    ∷ a ∷ Sign Comma
    ∷ Sign LeftRound ∷ a ∷ Sign RightRound ∷ Sign Plus ∷ Number 1 ∷ Sign Semicolon ∷ [])
    (s.Print (s.Text (codes "a") ∷ s.Char a_value
    ∷ s.Value (v.Sum a_value (v.terms ((Add, v.Number 1) ∷ []))) ∷ []) ∷ [])

-- `for (a = 0 : a < b : a++) ;` and `for (::) ;`
abbrev pub LoopsRead : Type 0
LoopsRead =
    MainIs
    (Word w.For ∷ Sign LeftRound ∷ a ∷ Sign Assign ∷ Number 0 ∷ Sign Colon ∷ a ∷ Sign Less ∷ b
    ∷ Sign Colon ∷ a ∷ Sign Increment ∷ Sign RightRound ∷ Sign Semicolon ∷ [])
    (s.For (Some (s.Set (codes "a") (v.Number 0))) (Some (c.Compare Lt a_value b_value))
    (Some (s.Inc (codes "a"))) (s.statements (s.Empty ∷ [])) ∷ [])
    × MainIs
    (Word w.For ∷ Sign LeftRound ∷ Sign Colon ∷ Sign Colon ∷ Sign RightRound ∷ Sign Semicolon ∷ [])
    (s.For None None None (s.statements (s.Empty ∷ [])) ∷ [])

-- no directive, and `Array a -> 3 (-4);`
abbrev pub DirectivesRead : Type 0
DirectivesRead =
    (reads within_limit [] program 0 ≡ Ok ([], input 0 []))
    × (reads within_limit
    (Word w.Array ∷ a ∷ Sign ByteArrow ∷ Number 3 ∷ Sign LeftRound ∷ Sign Minus ∷ Number 4
    ∷ Sign RightRound ∷ Sign Semicolon ∷ []) program 0
    ≡ Ok (d.Array (codes "a") false (k.Number 3 ∷ k.Minus 4 ∷ []) ∷ [], input 0 []))

-- ---- faults

-- `a = (a == b);`, and `if ((a == b) + 1) ;` at its plus sign
abbrev pub ConditionsAreNoValues : Type 0
ConditionsAreNoValues =
    FaultAt Unexpected (a ∷ Sign Assign ∷ Sign LeftRound ∷ a ∷ [])
    (Sign Equal ∷ b ∷ Sign RightRound ∷ Sign Semicolon ∷ [])
    × FaultAt Unexpected
    (Word w.If ∷ Sign LeftRound ∷ Sign LeftRound ∷ a ∷ Sign Equal ∷ b ∷ Sign RightRound ∷ [])
    (Sign Plus ∷ Number 1 ∷ Sign RightRound ∷ [])

-- `if (a && b || a)`, and `if (a && || b)`, where nothing could stand
abbrev pub MixedJudged : Type 0
MixedJudged =
    FaultAt Mixed (Word w.If ∷ Sign LeftRound ∷ a ∷ Sign And ∷ b ∷ [])
    (Sign Or ∷ a ∷ Sign RightRound ∷ [])
    × FaultAt Mixed (Word w.If ∷ Sign LeftRound ∷ a ∷ Sign Or ∷ b ∷ [])
    (Sign And ∷ a ∷ Sign RightRound ∷ [])
    × FaultAt Unexpected (Word w.If ∷ Sign LeftRound ∷ a ∷ Sign And ∷ [])
    (Sign Or ∷ b ∷ Sign RightRound ∷ [])

-- the text may not end before a sentence does, and nothing else is a directive
abbrev pub EndsJudged : Type 0
EndsJudged =
    FaultAt Unexpected (Word w.Return ∷ a ∷ []) []
    × (reads within_limit (Reserved ∷ Quoted (codes "x") ∷ Sign Semicolon ∷ []) program 0
    ≡ Err (fault Unexpected (Reserved ∷ Quoted (codes "x") ∷ Sign Semicolon ∷ [])))

-- where two may be open: `{ { } }`, and `if (1) if (2)`, which has no room for its second `(`
abbrev pub RoomJudged : Type 0
RoomJudged =
    (reads (λ o. nat_lt o 2)
    (in_main (Sign LeftBrace ∷ Sign LeftBrace ∷ Sign RightBrace ∷ Sign RightBrace ∷ [])) program
    0
    ≡ Ok (main_tree (s.Block (s.statements (s.Block s.NoStatements ∷ [])) ∷ []), input 0 []))
    × (reads (λ o. nat_lt o 2)
    (in_main (Word w.If ∷ Sign LeftRound ∷ Number 1 ∷ Sign RightRound ∷ Word w.If ∷ Sign LeftRound
    ∷ [])) program 0
    ≡ Err (fault TooDeep (Sign LeftRound ∷ Sign RightSquare ∷ Sign Semicolon ∷ [])))

-- as many may be open
abbrev pub LimitListed : Type 0
LimitListed = OPENER_LIMIT ≡ 200

-- 200 blocks, one in another, and the opening brace of another one
abbrev pub LimitJudged : Type 0
LimitJudged =
    (is_ok (reads within_limit
    (in_main (replicate 200 (Sign LeftBrace) ++ replicate 200 (Sign RightBrace))) program 0)
    ≡ true)
    × FaultAt TooDeep (replicate 200 (Sign LeftBrace)) (Sign LeftBrace ∷ [])
