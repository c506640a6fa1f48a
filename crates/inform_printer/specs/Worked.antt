-- Worked examples: printed texts that were judged by hand.
use Rattle.std.specs.Prelude.{ℕ, ◌≡◌, ◌++◌, true, false, List, [], ◌∷◌, Some, None, codes}
use Rattle.inform_tree.specs.declared.values.Const.TheVariants as k
use Rattle.inform_tree.specs.declared.values.SumOp.TheVariants.{Add, Sub}
use Rattle.inform_tree.specs.declared.values.ProdOp.TheVariants.{Mul}
use Rattle.inform_tree.specs.declared.conditions.Relation.TheVariants.{Lt}
use Rattle.inform_tree.specs.Values as v
use Rattle.inform_tree.specs.Values.{Expression}
use Rattle.inform_tree.specs.Conditions as c
use Rattle.inform_tree.specs.Conditions.{Condition}
use Rattle.inform_tree.specs.Statements as s
use Rattle.inform_tree.specs.Statements.{Statement, Statements, statements}
use Rattle.inform_tree.specs.Programs as d
use Rattle.inform_lexer.specs.Written.{text_of}
use Rattle.inform_printer.specs.StatementLexemes.{statement_lexemes}
use Rattle.inform_printer.specs.Printing.{printed}

-- ---- what stands in the examples

abbrev var : List ℕ → Expression
var name = v.Name name

-- `a + b`
abbrev sum : Expression
sum = v.Sum (var (codes "a")) (v.MoreTerms Add (var (codes "b")) v.NoTerms)

-- `p && q`
abbrev both : Condition
both =
    c.All (c.MoreConditions (c.Nonzero (var (codes "p")))
    (c.MoreConditions (c.Nonzero (var (codes "q"))) c.NoConditions))

abbrev one : Statement → Statements
one x = statements (x ∷ [])

abbrev text : Statement → List ℕ
text x = text_of (statement_lexemes x [])

abbrev set_to : Expression → List ℕ
set_to x = text (s.Assign (s.Set (codes "x") x))

abbrev looped : Condition → List ℕ
looped x = text (s.While x s.NoStatements)

-- ---- the examples

-- a part of a chain stands in brackets where it is a chain itself
abbrev pub ChainsPrinted : Type 0
ChainsPrinted =
    (set_to (v.Product sum (v.MoreFactors Mul (v.Number 2) v.NoFactors))
    ≡ codes "x = ( a + b ) * 2 ;\n")
    × (set_to (v.Sum (v.Number 1) (v.MoreTerms Sub sum v.NoTerms)) ≡ codes "x = 1 - ( a + b ) ;\n")
    × (set_to (v.Random sum) ≡ codes "x = random ( a + b ) ;\n")

-- and so does an operand, or an index
abbrev pub OperandsPrinted : Type 0
OperandsPrinted = (set_to (v.Neg sum) ≡ codes "x = - ( a + b ) ;\n")
    × (set_to (v.Neg (v.Neg (v.Number 1))) ≡ codes "x = - ( - 1 ) ;\n")
    × (set_to (v.Entry (codes "t") true sum) ≡ codes "x = t --> ( a + b ) ;\n")
    × (set_to (v.Entry (codes "t") false (v.Number 0)) ≡ codes "x = t -> 0 ;\n")

-- conditions that are joined stand in brackets among others
abbrev pub ConditionsPrinted : Type 0
ConditionsPrinted = (looped both ≡ codes "while ( p && q ) {\n}\n")
    × (looped (c.Any (c.MoreConditions both (c.MoreConditions (c.Not both) c.NoConditions)))
    ≡ codes "while ( ( p && q ) || ~~ ( p && q ) ) {\n}\n")

-- an `else` without a statement isn't printed, and the braces keep one from an `if` that
-- stands nearer
abbrev pub ElsePrinted : Type 0
ElsePrinted = (text (s.If both s.NoStatements s.NoStatements) ≡ codes "if ( p && q ) {\n}\n")
    × (text (s.If both (one (s.If both s.NoStatements s.NoStatements)) (one s.Quit))
    ≡ codes "if ( p && q ) {\nif ( p && q ) {\n}\n}\nelse {\nquit ;\n}\n")

-- a case has its choices, and the default stands last
abbrev pub CasesPrinted : Type 0
CasesPrinted =
    text (s.Switch (var (codes "x")) (s.MoreCases
    ((k.Number 1, None) ∷ (k.Minus 2, Some (k.Char 99)) ∷ []) (one s.Empty) s.NoCases)
    (s.SomeDefault (one s.Quit)))
    ≡ codes "switch ( x ) {\n1 , - 2 to 'c' : ;\ndefault : quit ;\n}\n"

-- a digit after an escape is escaped too
abbrev pub TextsPrinted : Type 0
TextsPrinted =
    (text (s.Print (s.Text (codes "@5 ~ ^ \\") ∷ []))
    ≡ codes "print \"@@64@@53 @@126 @@94 @@92\" ;\n")
    × (text (s.Print (s.Text (97 ∷ 10 ∷ 200 ∷ 32 ∷ 32 ∷ 55 ∷ []) ∷ s.Char sum ∷ []))
    ≡ codes "print \"a^@@200  7\" , ( char ) a + b ;\n")

-- `i = 0`, `i < 3` and `i++`, and what is done in between
abbrev counted : Statement
counted =
    let i = codes "i" in
    s.For (Some (s.Set i (v.Number 0))) (Some (c.Compare Lt (var i) (v.Number 3))) (Some (s.Inc i))
    (one (s.Print (s.Value (var i) ∷ [])))

-- a whole program
abbrev pub ProgramPrinted : Type 0
ProgramPrinted = printed (d.Constant (codes "low") (k.Minus 7)
    ∷ d.Array (codes "list") true (k.Number 3 ∷ k.Minus 1 ∷ [])
    ∷ d.Routine (record { name = codes "main"; locals = codes "i" ∷ []; body = one counted }) ∷ [])
    ≡ codes "Constant low = - 7 ;\nArray list --> 3 ( - 1 ) ;\n"
    ++ codes "[ main i ;\nfor ( i = 0 : i < 3 : i ++ ) {\nprint i ;\n}\n] ;\n"
