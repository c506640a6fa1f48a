-- How statements are read.
use Rattle.std.specs.Prelude.{ℕ, List, [], ◌∷◌, Option, Some, None, option_map}
use Rattle.inform_tree.specs.declared.values.Const.{Const}
use Rattle.inform_tree.specs.declared.values.Const.TheVariants as k
use Rattle.inform_tree.specs.Values as v
use Rattle.inform_tree.specs.Values.{Expression}
use Rattle.inform_tree.specs.Statements as s
use Rattle.inform_tree.specs.Statements.{Statement, Assignment, PrintItem}
use Rattle.inform_lexemes.specs.declared.symbols.Symbol.TheVariants.{Semicolon, Comma, Colon, LeftRound, RightRound, LeftBrace, RightBrace, Assign, WordArrow, Increment, Decrement}
use Rattle.inform_lexemes.specs.declared.keywords.Keyword.TheVariants as w
use Rattle.inform_lexemes.specs.Lexemes.{Lexeme, Word, Name, Quoted, Sign, is_sign, is_word, is_name}
use Rattle.inform_grammar.specs.Rules as r
use Rattle.inform_grammar.specs.Rules.{SwitchPart, Head, Said}
use Rattle.inform_grammar.specs.Lexemes.{is_arrow, name_in, continues_choice}
use Rattle.inform_grammar.specs.Plan.{Plan, done, refuse, next, look, maybe, many, shut, ◌>>=◌, take, one, optional, onward}
use Rattle.inform_grammar.specs.ValueRules.{constant, value, arguments}
use Rattle.inform_grammar.specs.ConditionRules.{value_after}
use Rattle.inform_grammar.specs.Trees.{Guard, condition, cases_tree}

-- ---- what begins with a name

unfoldable pub change_after : List ℕ → Plan Assignment
change_after name =
    next (is_sign Assign) (λ _. one r.Value (λ x. done (s.Set name x)))
    (next is_arrow
    (λ a. one r.Primary
    (λ i. take (is_sign Assign)
    (one r.Value (λ x. done (s.SetEntry name (is_sign WordArrow a) i x)))))
    (next (is_sign Increment) (λ _. done (s.Inc name))
    (next (is_sign Decrement) (λ _. done (s.Dec name))
    refuse)))

unfoldable pub change : Lexeme → Option (Plan Assignment)
change (Name name) = Some (change_after name)
change _ = None

-- a call or a change, with its semicolon
unfoldable pub statement_after : List ℕ → Plan Statement
statement_after name =
    next (is_sign LeftRound)
    (λ _. arguments >>= λ xs. take (is_sign Semicolon) (done (s.Call name (v.arguments xs))))
    (change_after name >>= λ x. take (is_sign Semicolon) (done (s.Assign x)))

-- ---- `print`

unfoldable pub item : Lexeme → Option (Plan PrintItem)
item (Quoted text) = Some (done (s.Text text))
item (Sign LeftRound) =
    Some (maybe r.Value (λ x. take (is_sign RightRound) (value_after x >>= λ y. done (s.Value y)))
    (take (is_word w.Char) (take (is_sign RightRound) (one r.Value (λ x. done (s.Char x))))))
item x = onward (value x) (λ y. done (s.Value y))

unfoldable pub further_item : Lexeme → Option (Plan PrintItem)
further_item (Sign Comma) = Some (one r.Item done)
further_item _ = None

-- ---- `switch`

-- a value, or a value and the last one of a range
unfoldable pub range_after : Const → Plan s.Choice
range_after x = next (is_word w.To) (λ _. one r.Constant (λ y. done (x, Some y))) (done (x, None))

unfoldable pub choice : Lexeme → Option (Plan s.Choice)
choice x = onward (constant x) range_after

unfoldable pub further_choice : Lexeme → Option (Plan s.Choice)
further_choice (Sign Comma) = Some (one r.Choice done)
further_choice _ = None

-- the further choices of a case, and its colon
unfoldable pub choices_after : s.Choice → Plan (List s.Choice)
choices_after x = many r.FurtherChoice (x ∷ []) (λ xs. take (is_sign Colon) (done xs))

-- a case with its first choice begun
unfoldable pub head_after : Const → Plan SwitchPart
head_after x = (range_after x >>= choices_after) >>= λ xs. done (Head xs)

-- a name begins a case where `:`, `,` or `to` follows it, and else a statement
unfoldable pub part_after : List ℕ → Plan SwitchPart
part_after name =
    look continues_choice (head_after (k.Name name)) (statement_after name >>= λ x. done (Said x))

-- the statements up to the first case, and the cases
abbrev pub split_parts : List SwitchPart → List Statement × List (List s.Choice × List Statement)
split_parts [] = ([], [])
split_parts (Said x ∷ ps) = (x ∷ (split_parts ps).0, (split_parts ps).1)
split_parts (Head xs ∷ ps) = ([], (xs, (split_parts ps).0) ∷ (split_parts ps).1)

-- the cases, where these are the choices of the first one, and this stands after them
abbrev pub cases_of : List s.Choice → List SwitchPart → List (List s.Choice × List Statement)
cases_of xs ps = (xs, (split_parts ps).0) ∷ (split_parts ps).1

-- statements, up to a closing brace
abbrev pub statements_to_brace : {X : Type 0} → (List Statement → Plan X) → Plan X
statements_to_brace k = many r.Statement [] (λ xs. take (is_sign RightBrace) (k xs))

-- what ends a `switch`
unfoldable pub default_after : Expression → List (List s.Choice × List Statement) → Plan Statement
default_after x cases =
    next (is_word w.Default)
    (λ _. take (is_sign Colon)
    (statements_to_brace (λ xs. done (s.Switch x (cases_tree cases) (s.default (Some xs))))))
    (take (is_sign RightBrace) (done (s.Switch x (cases_tree cases) (s.default None))))

-- what stands in the braces
unfoldable pub cases_after : Expression → Plan Statement
cases_after x =
    maybe r.Choice
    (λ first. choices_after first >>= λ xs. many r.Part []
    (λ ps. default_after x (cases_of xs ps)))
    (default_after x [])

unfoldable pub switch : Plan Statement
switch = take (is_sign LeftRound)
    (one r.Value (λ x. take (is_sign RightRound) (take (is_sign LeftBrace) (cases_after x))))

-- ---- statements with bodies

-- a body in braces is a list of statements, and any other body a list of one
unfoldable pub body_of : Option (Plan Statement) → Lexeme → Option (Plan (List Statement))
body_of p (Sign LeftBrace) = Some (statements_to_brace done)
body_of p x = onward p (λ y. done (y ∷ []))

-- an `else` belongs to the nearest `if` that has none
unfoldable pub else_after : Guard → List Statement → Plan Statement
else_after x xs =
    next (is_word w.Else)
    (λ _. one r.Body
    (λ ys. shut (done (s.If (condition x) (s.statements xs) (s.statements ys)))))
    (shut (done (s.If (condition x) (s.statements xs) s.NoStatements)))

-- a condition in brackets
abbrev pub in_brackets : {X : Type 0} → (Guard → Plan X) → Plan X
in_brackets k = take (is_sign LeftRound) (one r.Condition (λ x. take (is_sign RightRound) (k x)))

unfoldable pub if_after : Plan Statement
if_after = in_brackets (λ x. one r.Body (else_after x))

unfoldable pub while_after : Plan Statement
while_after =
    in_brackets (λ x. one r.Body (λ xs. shut (done (s.While (condition x) (s.statements xs)))))

unfoldable pub do_after : Plan Statement
do_after =
    one r.Body (λ xs. take (is_word w.Until)
    (in_brackets
    (λ x. take (is_sign Semicolon) (shut (done (s.Do (s.statements xs) (condition x)))))))

-- the head of a `for` has three parts, each of which may be left out
unfoldable pub for_body : Option Assignment → Option Guard → Option Assignment → Plan Statement
for_body first x last =
    one r.Body (λ xs. shut (done (s.For first (option_map condition x) last (s.statements xs))))

unfoldable pub for_last : Option Assignment → Option Guard → Plan Statement
for_last first x = optional r.Change (λ last. take (is_sign RightRound) (for_body first x last))

unfoldable pub for_test : Option Assignment → Plan Statement
for_test first = optional r.Condition (λ x. take (is_sign Colon) (for_last first x))

unfoldable pub for_after : Plan Statement
for_after =
    take (is_sign LeftRound) (optional r.Change (λ first. take (is_sign Colon) (for_test first)))

-- ---- statements

-- a statement that is nothing but a word
abbrev pub alone : Statement → Option (Plan Statement)
alone x = Some (take (is_sign Semicolon) (done x))

unfoldable pub return_after : Plan Statement
return_after =
    maybe r.Value (λ x. take (is_sign Semicolon) (done (s.Return (Some x))))
    (take (is_sign Semicolon) (done (s.Return None)))

unfoldable pub print_after : Plan Statement
print_after =
    one r.Item
    (λ x. many r.FurtherItem (x ∷ []) (λ xs. take (is_sign Semicolon) (done (s.Print xs))))

unfoldable pub read_after : Plan Statement
read_after =
    next is_name
    (λ line. next is_name
    (λ words. take (is_sign Semicolon) (done (s.Read (name_in line) (name_in words))))
    refuse) refuse

unfoldable pub statement : Lexeme → Option (Plan Statement)
statement (Sign Semicolon) = Some (done s.Empty)
statement (Sign LeftBrace) = Some (statements_to_brace (λ xs. done (s.Block (s.statements xs))))
statement (Name name) = Some (statement_after name)
statement (Word w.If) = Some if_after
statement (Word w.While) = Some while_after
statement (Word w.Do) = Some do_after
statement (Word w.For) = Some for_after
statement (Word w.Switch) = Some switch
statement (Word w.Break) = alone s.Break
statement (Word w.Continue) = alone s.Continue
statement (Word w.Quit) = alone s.Quit
statement (Word w.Rtrue) = alone s.Rtrue
statement (Word w.Rfalse) = alone s.Rfalse
statement (Word w.Return) = Some return_after
statement (Word w.NewLine) = alone s.NewLine
statement (Word w.Print) = Some print_after
statement (Word w.Read) = Some read_after
statement _ = None

unfoldable pub body : Lexeme → Option (Plan (List Statement))
body x = body_of (statement x) x

-- a constant that is no name begins a case
unfoldable pub part_of : Option (Plan SwitchPart) → Option (Plan SwitchPart)
    → Option (Plan SwitchPart)
part_of (Some p) q = Some p
part_of None q = q

unfoldable pub part : Lexeme → Option (Plan SwitchPart)
part (Name name) = Some (part_after name)
part x = part_of (onward (constant x) head_after) (onward (statement x) (λ y. done (Said y)))
