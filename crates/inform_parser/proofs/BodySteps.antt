-- The rules of statements with bodies, by what stands next.
use Rattle.std.proofs.Common.{◌≡◌, ℕ, true, false, ◌||◌, List, [], ◌∷◌, ◌++◌, Option, Some, None, Ok, refl, ◌∙◌}
use Rattle.inform_tree.specs.Values.{Expression}
use Rattle.inform_tree.specs.declared.values.Const.TheVariants as k
use Rattle.inform_tree.specs.Statements as s
use Rattle.inform_tree.specs.Statements.{Statement, Assignment, Choice}
use Rattle.inform_lexemes.specs.declared.symbols.Symbol.TheVariants.{Semicolon, Colon, LeftRound, LeftBrace, Minus}
use Rattle.inform_lexemes.specs.declared.keywords.Keyword.TheVariants as w
use Rattle.inform_lexemes.specs.Lexemes.{Lexeme, Word, Name, Number, Character, Sign, is_sign, is_word, is_name}
use Rattle.inform_grammar.specs.Rules as r
use Rattle.inform_grammar.specs.Rules.{SwitchPart, Said}
use Rattle.inform_grammar.specs.Lexemes.{heads, name_in, continues_choice}
use Rattle.inform_grammar.specs.Trees.{Guard, condition, cases_tree}
use Rattle.inform_grammar.specs.ValueRules.{minus_number, constant, primary, unary, product, value}
use Rattle.inform_grammar.specs.ConditionRules.{test, guarded}
use Rattle.inform_grammar.specs.StatementRules.{statement_after, choice, head_after, part_after, default_after, cases_after, cases_of, switch, body_of, else_after, if_after, while_after, do_after, for_body, for_last, for_test, for_after, statements_to_brace, statement, body, part_of, part}
use Rattle.inform_grammar.specs.Plan.{Plan, done, refuse, next, ◌>>=◌, take, one, many, shut}
use Rattle.inform_grammar.specs.Rule.{rule}
use Rattle.inform_grammar.specs.Reading.{Input, input, step, reads, within_limit}
use Rattle.inform_grammar.proofs.Steps.{starts, one-as-here, many-no, many-yes, look-yes, look-no, done-here}
use Rattle.inform_parser.specs.Reading.{read}
use Rattle.inform_parser.specs.Begins.{begins_statement, begins_bare}
use Rattle.inform_parser.proofs.TreesMade.{no_cases}
use Rattle.inform_parser.specs.Plans.{change_if_any, plain_statement, simple_statement, value_in_brackets, guard_in_brackets, guard_after, statements_in_braces, if_statement, while_statement, do_statement, for_statement, until_test, first_change, last_change, test_to_colon, first_choices, default_read}

-- ---- heads

abbrev pub test_to_colon_plan : Plan (Option Guard)
test_to_colon_plan =
    next (is_sign Colon) (λ _. done None)
    (one r.Condition (λ x. take (is_sign Colon) (done (Some x))))

test_to_colon_by : (xs : List Lexeme) (n : ℕ) → read test_to_colon (input n xs) ≡ read test_to_colon_plan (input n xs)
unfolding read reads step rule test_to_colon guarded test value product unary primary
test_to_colon_by [] n = refl
test_to_colon_by (Sign Colon ∷ xs) n = refl
test_to_colon_by (Sign LeftRound ∷ xs) n = refl
test_to_colon_by (x ∷ xs) n = refl

pub test_to_colon_as : (s : Input) → read test_to_colon s ≡ read test_to_colon_plan s
test_to_colon_as s = test_to_colon_by s.rest s.opened

pub part_after_head : (name : List ℕ) (s : Input) → heads continues_choice s.rest ≡ true → read (part_after name) s ≡ read (head_after (k.Name name)) s
unfolding read part_after
part_after_head name s e = look-yes within_limit s.rest continues_choice e (head_after (k.Name name)) (statement_after name >>= λ x. done (Said x)) s.opened

pub part_after_said : (name : List ℕ) (s : Input) → heads continues_choice s.rest ≡ false → read (part_after name) s ≡ read (statement_after name >>= λ x. done (Said x)) s
unfolding read part_after
part_after_said name s e = look-no within_limit s.rest continues_choice e (head_after (k.Name name)) (statement_after name >>= λ x. done (Said x)) s.opened

-- ---- statements

-- what a statement is read by: one test after another of what stands first
abbrev pub statement_plan : Plan Statement
statement_plan =
    next (is_sign Semicolon) (λ _. done s.Empty)
    (next (is_sign LeftBrace) (λ _. statements_to_brace (λ xs. done (s.Block (s.statements xs))))
    (next is_name (λ x. statement_after (name_in x) >>= done)
    (next (is_word w.If) (λ _. if_after >>= done)
    (next (is_word w.While) (λ _. while_after >>= done)
    (next (is_word w.Do) (λ _. do_after >>= done)
    (next (is_word w.For) (λ _. for_after >>= done)
    (next (is_word w.Switch) (λ _. switch >>= done)
    (simple_statement >>= done))))))))

statement_by : (xs : List Lexeme) (n : ℕ) → read (one r.Statement done) (input n xs) ≡ read statement_plan (input n xs)
unfolding read reads step rule statement simple_statement plain_statement
statement_by [] n = refl
statement_by (Sign Semicolon ∷ xs) n = refl
statement_by (Word w.If ∷ xs) n = refl
statement_by (x ∷ xs) n = refl

pub statement_as : (s : Input) → read (one r.Statement done) s ≡ read statement_plan s
statement_as s = statement_by s.rest s.opened

pub block_as : (z : Input) → read (take (is_sign LeftBrace) (statements_to_brace (λ xs. done (s.Block (s.statements xs))))) z
    ≡ read (statements_in_braces >>= λ xs. done (s.Block (s.statements xs))) z
unfolding statements_in_braces
block_as z = refl

abbrev pub body_plan : Plan (List Statement)
body_plan =
    next (is_sign LeftBrace) (λ _. statements_to_brace done)
    (one r.Statement (λ x. done (x ∷ [])))

body_by : (xs : List Lexeme) (n : ℕ) → read (one r.Body done) (input n xs) ≡ read body_plan (input n xs)
unfolding read reads step rule body body_of
body_by [] n = refl
body_by (Sign LeftBrace ∷ xs) n = refl
body_by (x ∷ xs) n = one-as-here within_limit _ xs r.Body r.Statement (λ x. done (x ∷ [])) done n refl

pub body_as : (s : Input) → read (one r.Body done) s ≡ read body_plan s
body_as s = body_by s.rest s.opened

statement_starts : (xs : List Lexeme) → heads begins_statement xs ≡ heads (starts r.Statement) xs
unfolding rule statement
statement_starts [] = refl
statement_starts (Sign Semicolon ∷ xs) = refl
statement_starts (Word w.If ∷ xs) = refl
statement_starts (_ ∷ xs) = refl

pub statement_more : (front : List Statement) (s : Input) → heads begins_statement s.rest ≡ true
    → read (many r.Statement front done) s ≡ read (one r.Statement (λ x. many r.Statement (front ++ x ∷ []) done)) s
unfolding read
statement_more front s e = many-yes within_limit s.rest r.Statement (rw (statement_starts s.rest) at e) front done s.opened

pub statement_last : (front : List Statement) (s : Input) → heads begins_statement s.rest ≡ false → read (many r.Statement front done) s ≡ Ok (front, s)
unfolding read
statement_last front s e = many-no within_limit s.rest r.Statement (rw (statement_starts s.rest) at e) front done s.opened ∙ done-here within_limit s.rest front s.opened

pub if_statement_as : (s : Input) → read if_statement s ≡ read (guard_after w.If >>= λ x. one r.Body (λ xs. else_after x xs >>= done)) s
unfolding if_after guard_after guard_in_brackets
if_statement_as s = refl

pub while_statement_as : (z : Input) → read while_statement z ≡ read (guard_after w.While >>= λ x. one r.Body (λ xs. shut (done (s.While (condition x) (s.statements xs))))) z
unfolding while_after guard_after guard_in_brackets
while_statement_as z = refl

pub do_statement_as : (z : Input) → read do_statement z ≡ read (take (is_word w.Do) (one r.Body (λ xs. until_test >>= λ x. shut (done (s.Do (s.statements xs) (condition x)))))) z
unfolding do_after guard_after guard_in_brackets until_test
do_statement_as z = refl

pub for_statement_as : (s : Input) → read for_statement s ≡ read (first_change >>= λ first. for_test first >>= done) s
unfolding for_after change_if_any first_change
for_statement_as s = refl

pub for_test_as : (first : Option Assignment) (s : Input) → read (for_test first) s ≡ read (test_to_colon >>= λ x. for_last first x) s
unfolding for_test test_to_colon
for_test_as first s = refl

pub for_last_as : (first : Option Assignment) (x : Option Guard) (s : Input) → read (for_last first x) s ≡ read (last_change >>= λ last. for_body first x last) s
unfolding for_last change_if_any last_change
for_last_as first x s = refl

-- ---- `switch`

pub switch_as : (s : Input) → read switch s ≡ read (value_in_brackets >>= λ x. take (is_sign LeftBrace) (cases_after x)) s
unfolding switch value_in_brackets
switch_as s = refl

pub default_after_as : (x : Expression) (cases : List (List Choice × List Statement)) (s : Input) → read (default_after x cases) s ≡ read (default_read x (cases_tree cases)) s
unfolding default_after default_read
default_after_as x cases s = refl

module _ (x : Expression) where
  abbrev pub cases_plan : Plan Statement
  cases_plan = first_choices >>= λ xs. many r.Part [] (λ ps. default_after x (cases_of xs ps))

  bare_by : (xs : List Lexeme) (n : ℕ) → heads begins_bare xs ≡ true → read (cases_after x) (input n xs) ≡ read cases_plan (input n xs)
  unfolding read reads step rule cases_after first_choices choice constant
  bare_by (Number m ∷ xs) n e = refl
  bare_by (Character byte ∷ xs) n e = refl
  bare_by (Sign Minus ∷ xs) n e = refl
  bare_by _ n e = absurd (cc)

  name_by : (xs : List Lexeme) (n : ℕ) → heads is_name xs ≡ true → read (cases_after x) (input n xs) ≡ read cases_plan (input n xs)
  unfolding read reads step rule cases_after first_choices choice constant
  name_by (Name name ∷ xs) n e = refl
  name_by _ n e = absurd (cc)

  none_by : (xs : List Lexeme) (n : ℕ) → heads begins_bare xs ≡ false → heads is_name xs ≡ false → read (cases_after x) (input n xs) ≡ read (default_after x []) (input n xs)
  unfolding read reads step rule cases_after choice constant
  none_by [] n e f = refl
  none_by (Number m ∷ xs) n e f = absurd (cc)
  none_by (Character byte ∷ xs) n e f = absurd (cc)
  none_by (Name name ∷ xs) n e f = absurd (cc)
  none_by (Sign Minus ∷ xs) n e f = absurd (cc)
  none_by (_ ∷ xs) n e f = refl

pub cases_bare : (x : Expression) (s : Input) → heads begins_bare s.rest ≡ true → read (cases_after x) s ≡ read (cases_plan x) s
cases_bare x s e = bare_by x s.rest s.opened e

pub cases_name : (x : Expression) (s : Input) → heads is_name s.rest ≡ true → read (cases_after x) s ≡ read (cases_plan x) s
cases_name x s e = name_by x s.rest s.opened e

pub cases_none : (x : Expression) (z : Input) → heads begins_bare z.rest ≡ false → heads is_name z.rest ≡ false → read (cases_after x) z ≡ read (default_read x s.NoCases) z
cases_none x z e f = none_by x z.rest z.opened e f ∙ default_after_as x [] z

pub ruleset cases_steps = (cases_bare, cases_name, cases_none, default_after_as, no_cases)

part_name_by : (xs : List Lexeme) (n : ℕ) → heads is_name xs ≡ true
    → read (one r.Part done) (input n xs) ≡ read (next is_name (λ x. part_after (name_in x) >>= done) refuse) (input n xs)
unfolding read reads step rule part
part_name_by (Name name ∷ xs) n e = refl
part_name_by _ n e = absurd (cc)

part_bare_by : (xs : List Lexeme) (n : ℕ) → heads begins_bare xs ≡ true → read (one r.Part done) (input n xs) ≡ read (one r.Constant (λ x. head_after x >>= done)) (input n xs)
unfolding read reads step rule part part_of constant minus_number
part_bare_by (Number m ∷ xs) n e = refl
part_bare_by (Character byte ∷ xs) n e = refl
part_bare_by (Sign Minus ∷ xs) n e = refl
part_bare_by _ n e = absurd (cc)

part_said_by : (xs : List Lexeme) (n : ℕ) → heads is_name xs ≡ false → heads begins_bare xs ≡ false → read (one r.Part done) (input n xs) ≡ read (one r.Statement (λ x. done (Said x))) (input n xs)
unfolding read reads step rule part part_of constant
part_said_by [] n e f = refl
part_said_by (Name name ∷ xs) n e f = absurd (cc)
part_said_by (Number m ∷ xs) n e f = absurd (cc)
part_said_by (Character byte ∷ xs) n e f = absurd (cc)
part_said_by (Sign Minus ∷ xs) n e f = absurd (cc)
part_said_by (x ∷ xs) n e f = one-as-here within_limit _ xs r.Part r.Statement (λ x. done (Said x)) done n refl

pub part_name : (s : Input) → heads is_name s.rest ≡ true → read (one r.Part done) s ≡ read (next is_name (λ x. part_after (name_in x) >>= done) refuse) s
part_name s e = part_name_by s.rest s.opened e

pub part_bare : (s : Input) → heads begins_bare s.rest ≡ true → read (one r.Part done) s ≡ read (one r.Constant (λ x. head_after x >>= done)) s
part_bare s e = part_bare_by s.rest s.opened e

pub part_said : (s : Input) → heads is_name s.rest ≡ false → heads begins_bare s.rest ≡ false → read (one r.Part done) s ≡ read (one r.Statement (λ x. done (Said x))) s
part_said s e f = part_said_by s.rest s.opened e f

part_starts : (xs : List Lexeme) → (heads begins_bare xs || heads begins_statement xs) ≡ heads (starts r.Part) xs
unfolding rule part part_of constant statement
part_starts [] = refl
part_starts (Sign Semicolon ∷ xs) = refl
part_starts (Word w.If ∷ xs) = refl
part_starts (_ ∷ xs) = refl

pub part_more : (front : List SwitchPart) (s : Input) → (heads begins_bare s.rest || heads begins_statement s.rest) ≡ true
    → read (many r.Part front done) s ≡ read (one r.Part (λ x. many r.Part (front ++ x ∷ []) done)) s
unfolding read
part_more front s e = many-yes within_limit s.rest r.Part (rw (part_starts s.rest) at e) front done s.opened

pub part_last : (front : List SwitchPart) (s : Input) → (heads begins_bare s.rest || heads begins_statement s.rest) ≡ false → read (many r.Part front done) s ≡ Ok (front, s)
unfolding read
part_last front s e = many-no within_limit s.rest r.Part (rw (part_starts s.rest) at e) front done s.opened ∙ done-here within_limit s.rest front s.opened
