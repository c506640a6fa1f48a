-- Plans that have a method of their own.
use Rattle.std.specs.Prelude.{ℕ, List, Option, Some, None}
use Rattle.inform_tree.specs.declared.values.Const.{Const}
use Rattle.inform_tree.specs.Conditions.{Condition}
use Rattle.inform_tree.specs.Statements as s
use Rattle.inform_tree.specs.Statements.{Statement, Assignment, PrintItem, Cases}
use Rattle.inform_tree.specs.Values as v
use Rattle.inform_tree.specs.Values.{Expression}
use Rattle.inform_lexemes.specs.declared.symbols.Symbol.TheVariants.{Semicolon, Colon, LeftRound, RightRound, LeftBrace, RightBrace, Assign, Minus}
use Rattle.inform_lexemes.specs.declared.keywords.Keyword.{Keyword}
use Rattle.inform_lexemes.specs.declared.keywords.Keyword.TheVariants as w
use Rattle.inform_lexemes.specs.Lexemes.{is_sign, is_word}
use Rattle.inform_grammar.specs.Rules as r
use Rattle.inform_grammar.specs.Lexemes.{other_connective}
use Rattle.inform_grammar.specs.Trees.{Guard, Join}
use Rattle.inform_grammar.specs.ValueRules.{minus_number}
use Rattle.inform_grammar.specs.ConditionRules.{value_after}
use Rattle.inform_grammar.specs.StatementRules.{if_after, while_after, do_after, for_after, choices_after, statements_to_brace, in_brackets, return_after, print_after, read_after}
use Rattle.inform_grammar.specs.Plan.{Plan, done, refuse, next, maybe, chain, ◌>>=◌, take, one, optional}
use Rattle.inform_parser.specs.Nexts.{arrow_next}

-- ---- constants

-- a number with its minus sign, between brackets
abbrev pub negative_entry : Plan Const
negative_entry =
    take (is_sign LeftRound)
    (take (is_sign Minus) (minus_number >>= λ x. take (is_sign RightRound) (done x)))

-- ---- values

-- a value between brackets
unfoldable pub value_in_brackets : Plan Expression
value_in_brackets =
    take (is_sign LeftRound) (one r.Value (λ x. take (is_sign RightRound) (done x)))

-- what follows a minus sign
abbrev pub negation : Plan Expression
negation = one r.Primary (λ x. done (v.Neg x))

-- ---- tests

-- a condition between brackets
unfoldable pub guard_in_brackets : Plan Guard
guard_in_brackets = in_brackets done

-- ---- chains of conditions

-- the members of a chain of conditions, after these
unfoldable pub members_from : Join → List Condition → Plan (List Condition)
members_from join front = chain (r.Member join) (is_sign (other_connective join)) front done

-- ---- statements

-- a change, if one stands next
unfoldable pub change_if_any : Plan (Option Assignment)
change_if_any = optional r.Change done

-- what follows a name and `=`
abbrev pub set_after : List ℕ → Plan Assignment
set_after name = one r.Value (λ x. done (s.Set name x))

-- what follows the name of an array that is changed
abbrev pub entry_change : List ℕ → Plan Assignment
entry_change name =
    arrow_next >>= λ words. one r.Primary
    (λ i. take (is_sign Assign) (one r.Value (λ x. done (s.SetEntry name words i x))))

-- what follows `char` in an item
abbrev pub char_after : Plan PrintItem
char_after = take (is_sign RightRound) (one r.Value (λ x. done (s.Char x)))

-- a value with its closing bracket, which goes on
abbrev pub value_inside : Plan PrintItem
value_inside =
    one r.Value (λ x. take (is_sign RightRound) (value_after x >>= λ y. done (s.Value y)))

-- what follows the opening bracket of an item
unfoldable pub item_inside : Plan PrintItem
item_inside =
    maybe r.Value (λ x. take (is_sign RightRound) (value_after x >>= λ y. done (s.Value y)))
    (take (is_word w.Char) (take (is_sign RightRound) (one r.Value (λ x. done (s.Char x)))))

-- a value
abbrev pub value_item : Plan PrintItem
value_item = one r.Value (λ x. done (s.Value x))

-- a statement that is nothing but a word
unfoldable pub plain_statement : Plan Statement
plain_statement =
    (next (is_word w.Break) (λ _. take (is_sign Semicolon) (done s.Break))
    (next (is_word w.Continue) (λ _. take (is_sign Semicolon) (done s.Continue))
    (next (is_word w.Quit) (λ _. take (is_sign Semicolon) (done s.Quit))
    (next (is_word w.Rtrue) (λ _. take (is_sign Semicolon) (done s.Rtrue))
    (next (is_word w.Rfalse) (λ _. take (is_sign Semicolon) (done s.Rfalse))
    (next (is_word w.NewLine) (λ _. take (is_sign Semicolon) (done s.NewLine))
    refuse))))))

-- a statement that has no body and begins with a word
unfoldable pub simple_statement : Plan Statement
simple_statement =
    next (is_word w.Print) (λ _. print_after)
    (next (is_word w.Return) (λ _. return_after)
    (next (is_word w.Read) (λ _. read_after)
    plain_statement))

-- statements between braces
unfoldable pub statements_in_braces : Plan (List Statement)
statements_in_braces = take (is_sign LeftBrace) (statements_to_brace done)

-- this word, and a condition between brackets
unfoldable pub guard_after : Keyword → Plan Guard
guard_after keyword = take (is_word keyword) guard_in_brackets

abbrev pub if_statement : Plan Statement
if_statement = take (is_word w.If) (if_after >>= done)

abbrev pub while_statement : Plan Statement
while_statement = take (is_word w.While) (while_after >>= done)

abbrev pub do_statement : Plan Statement
do_statement = take (is_word w.Do) (do_after >>= done)

abbrev pub for_statement : Plan Statement
for_statement = take (is_word w.For) (for_after >>= done)

-- the test of a `do`, with its word and its semicolon
unfoldable pub until_test : Plan Guard
until_test = guard_after w.Until >>= λ x. take (is_sign Semicolon) (done x)

-- `for`, and the first change in its head, if there is one, between its bracket and its colon
unfoldable pub first_change : Plan (Option Assignment)
first_change =
    take (is_word w.For)
    (take (is_sign LeftRound) (change_if_any >>= λ first. take (is_sign Colon) (done first)))

-- the last change, if there is one, and the closing bracket
unfoldable pub last_change : Plan (Option Assignment)
last_change = change_if_any >>= λ last. take (is_sign RightRound) (done last)

-- the test in the head of a `for`, if there is one, and its colon
unfoldable pub test_to_colon : Plan (Option Guard)
test_to_colon = optional r.Condition (λ x. take (is_sign Colon) (done x))

-- the choices of the first case, and their colon
unfoldable pub first_choices : Plan (List s.Choice)
first_choices = one r.Choice choices_after

-- what ends a `switch`, after the tree of its cases
unfoldable pub default_read : Expression → Cases → Plan Statement
default_read x cases =
    next (is_word w.Default)
    (λ _. take (is_sign Colon)
    (statements_to_brace (λ xs. done (s.Switch x cases (s.default (Some xs))))))
    (take (is_sign RightBrace) (done (s.Switch x cases (s.default None))))
