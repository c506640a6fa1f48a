-- The rules of statements without bodies, by what stands next.
use Rattle.std.proofs.Common.{◌≡◌, ℕ, true, false, List, [], ◌∷◌, ◌++◌, Option, Some, None, Result, Ok, refl, ◌∙◌}
use Rattle.inform_tree.specs.Statements as s
use Rattle.inform_tree.specs.Statements.{Statement, Assignment, PrintItem, print_item_of}
use Rattle.inform_tree.specs.declared.statements.Item.{Item}
use Rattle.inform_lexemes.specs.declared.symbols.Symbol.TheVariants.{Semicolon, Comma, LeftRound, Assign, ByteArrow, WordArrow, Increment, Decrement, Minus}
use Rattle.inform_lexemes.specs.declared.keywords.Keyword.TheVariants as w
use Rattle.inform_lexemes.specs.Lexemes.{Lexeme, Word, Name, Quoted, Sign, is_sign, is_word, is_name, is_quoted}
use Rattle.inform_grammar.specs.Rules as r
use Rattle.inform_grammar.specs.Lexemes.{heads, name_in, is_arrow}
use Rattle.inform_grammar.specs.ValueRules.{primary, unary, product, value}
use Rattle.inform_grammar.specs.StatementRules.{change_after, change, item, further_item, return_after, print_after, read_after}
use Rattle.inform_grammar.specs.Plan.{Plan, done, refuse, next, ◌>>=◌, take, one, many}
use Rattle.inform_grammar.specs.Rule.{rule}
use Rattle.inform_grammar.specs.Reading.{Input, input, step, reads, within_limit}
use Rattle.inform_grammar.proofs.Steps.{starts, one-as-here, many-no, many-yes, done-here}
use Rattle.inform_parser.specs.declared.stops.Stop.{Stop}
use Rattle.inform_parser.specs.Reading.{read, ReadsSome, Passes}
use Rattle.inform_parser.specs.Nexts.{text_in, arrow_next}
use Rattle.inform_parser.specs.Plans.{set_after, entry_change, change_if_any, char_after, value_inside, item_inside, value_item, plain_statement, simple_statement}
use Rattle.inform_parser.proofs.InTurn.{only, same_some, passed}

-- ---- changes

module _ (name : List ℕ) where
  abbrev pub set_plan : Plan Assignment
  set_plan = take (is_sign Assign) (set_after name)

  abbrev pub by_one_plan : Plan Assignment
  by_one_plan = next (is_sign Increment) (λ _. done (s.Inc name)) (next (is_sign Decrement) (λ _. done (s.Dec name)) refuse)

  set_by : (xs : List Lexeme) (n : ℕ) → heads (is_sign Assign) xs ≡ true → read (change_after name) (input n xs) ≡ read set_plan (input n xs)
  unfolding read reads step change_after
  set_by (Sign Assign ∷ xs) n e = refl
  set_by _ n e = absurd (cc)

  set_entry_by : (xs : List Lexeme) (n : ℕ) → heads is_arrow xs ≡ true → read (change_after name) (input n xs) ≡ read (entry_change name) (input n xs)
  unfolding read reads step change_after arrow_next
  set_entry_by (Sign ByteArrow ∷ xs) n e = refl
  set_entry_by (Sign WordArrow ∷ xs) n e = refl
  set_entry_by _ n e = absurd (cc)

  by_one_by : (xs : List Lexeme) (n : ℕ) → heads (is_sign Assign) xs ≡ false → heads is_arrow xs ≡ false
      → read (change_after name) (input n xs) ≡ read by_one_plan (input n xs)
  unfolding read reads step change_after
  by_one_by [] n e f = refl
  by_one_by (Sign Assign ∷ xs) n e f = absurd (cc)
  by_one_by (Sign ByteArrow ∷ xs) n e f = absurd (cc)
  by_one_by (Sign WordArrow ∷ xs) n e f = absurd (cc)
  by_one_by (_ ∷ xs) n e f = refl

pub set_as : (name : List ℕ) (s : Input) → heads (is_sign Assign) s.rest ≡ true → read (change_after name) s ≡ read (set_plan name) s
set_as name s e = set_by name s.rest s.opened e

pub set_entry_as : (name : List ℕ) (s : Input) → heads is_arrow s.rest ≡ true → read (change_after name) s ≡ read (entry_change name) s
set_entry_as name s e = set_entry_by name s.rest s.opened e

pub by_one_as : (name : List ℕ) (s : Input) → heads (is_sign Assign) s.rest ≡ false → heads is_arrow s.rest ≡ false → read (change_after name) s ≡ read (by_one_plan name) s
by_one_as name s e f = by_one_by name s.rest s.opened e f

no_change_by : (xs : List Lexeme) (n : ℕ) → heads is_name xs ≡ false → read change_if_any (input n xs) ≡ Ok (None, input n xs)
unfolding read reads step rule change change_if_any
no_change_by [] n e = refl
no_change_by (Name name ∷ xs) n e = absurd (cc)
no_change_by (_ ∷ xs) n e = refl

pub no_change : (s : Input) → heads is_name s.rest ≡ false → read change_if_any s ≡ Ok (None, s)
no_change s e = no_change_by s.rest s.opened e

abbrev pub change_plan : Plan (Option Assignment)
change_plan = next is_name (λ x. change_after (name_in x) >>= λ x. done (Some x)) refuse

some_change_by : (xs : List Lexeme) (n : ℕ) → heads is_name xs ≡ true → read change_if_any (input n xs) ≡ read change_plan (input n xs)
unfolding read reads step rule change change_if_any
some_change_by (Name name ∷ xs) n e = refl
some_change_by _ n e = absurd (cc)

pub some_change : (s : Input) → heads is_name s.rest ≡ true → read change_if_any s ≡ read change_plan s
some_change s e = some_change_by s.rest s.opened e

-- ---- `print`

abbrev pub item_inside_plan : Plan PrintItem
item_inside_plan =
    next (is_word w.Char) (λ _. char_after) value_inside

item_inside_by : (xs : List Lexeme) (n : ℕ) → read item_inside (input n xs) ≡ read item_inside_plan (input n xs)
unfolding read reads step rule item_inside value product unary primary
item_inside_by [] n = refl
item_inside_by (Word w.Char ∷ xs) n = refl
item_inside_by (Sign LeftRound ∷ xs) n = refl
item_inside_by (Sign Minus ∷ xs) n = refl
item_inside_by (x ∷ xs) n = refl

pub item_inside_as : (s : Input) → read item_inside s ≡ read item_inside_plan s
item_inside_as s = item_inside_by s.rest s.opened

abbrev pub item_plan : Plan PrintItem
item_plan =
    next is_quoted (λ x. done (s.Text (text_in x)))
    (next (is_sign LeftRound) (λ _. item_inside >>= done)
    value_item)

item_by : (xs : List Lexeme) (n : ℕ) → read (one r.Item done) (input n xs) ≡ read item_plan (input n xs)
unfolding read reads step rule item item_inside
item_by [] n = refl
item_by (Quoted text ∷ xs) n = refl
item_by (Sign LeftRound ∷ xs) n = refl
item_by (x ∷ xs) n = one-as-here within_limit _ xs r.Item r.Value (λ x. done (s.Value x)) done n refl

pub item_as : (s : Input) → read (one r.Item done) s ≡ read item_plan s
item_as s = item_by s.rest s.opened

abbrev pub further_item_plan : Plan PrintItem
further_item_plan =
    next (is_sign Comma) (λ _. one r.Item done >>= done) refuse

further_item_by : (xs : List Lexeme) (n : ℕ) → read (one r.FurtherItem done) (input n xs) ≡ read further_item_plan (input n xs)
unfolding read reads step rule further_item
further_item_by [] n = refl
further_item_by (Sign Comma ∷ xs) n = refl
further_item_by (x ∷ xs) n = refl

further_item_as : (s : Input) → read (one r.FurtherItem done) s ≡ read further_item_plan s
further_item_as s = further_item_by s.rest s.opened

-- a comma, and then an item
pub further_item_read : {s mid after : Input} {x : Result Item Stop} → heads (is_sign Comma) s.rest ≡ true → Passes (is_sign Comma) (Sign Comma) s mid
    → ReadsSome print_item_of (one r.Item done) mid x after → ReadsSome print_item_of (one r.FurtherItem done) s x after
further_item_read e h g = same_some _ (further_item_as _) (passed _ _ e h (only g))

item_starts : (xs : List Lexeme) → heads (is_sign Comma) xs ≡ heads (starts r.FurtherItem) xs
unfolding rule further_item
item_starts [] = refl
item_starts (Sign Comma ∷ xs) = refl
item_starts (_ ∷ xs) = refl

pub item_more : (front : List PrintItem) (s : Input) → heads (is_sign Comma) s.rest ≡ true
    → read (many r.FurtherItem front done) s ≡ read (one r.FurtherItem (λ x. many r.FurtherItem (front ++ x ∷ []) done)) s
unfolding read
item_more front s e = many-yes within_limit s.rest r.FurtherItem (rw (item_starts s.rest) at e) front done s.opened

pub item_last : (front : List PrintItem) (s : Input) → heads (is_sign Comma) s.rest ≡ false → read (many r.FurtherItem front done) s ≡ Ok (front, s)
unfolding read
item_last front s e = many-no within_limit s.rest r.FurtherItem (rw (item_starts s.rest) at e) front done s.opened ∙ done-here within_limit s.rest front s.opened

-- ---- words

abbrev pub return_after_plan : Plan Statement
return_after_plan =
    next (is_sign Semicolon) (λ _. done (s.Return None))
    (one r.Value (λ x. take (is_sign Semicolon) (done (s.Return (Some x)))))

return_after_by : (xs : List Lexeme) (n : ℕ) → read return_after (input n xs) ≡ read return_after_plan (input n xs)
unfolding read reads step rule return_after value product unary primary
return_after_by [] n = refl
return_after_by (Sign Semicolon ∷ xs) n = refl
return_after_by (Sign LeftRound ∷ xs) n = refl
return_after_by (Sign Minus ∷ xs) n = refl
return_after_by (x ∷ xs) n = refl

pub return_after_as : (s : Input) → read return_after s ≡ read return_after_plan s
return_after_as s = return_after_by s.rest s.opened

abbrev pub simple_plan : Plan Statement
simple_plan =
    next (is_word w.Print) (λ _. print_after)
    (next (is_word w.Return) (λ _. return_after)
    (next (is_word w.Read) (λ _. read_after)
    plain_statement))

pub simple_as : (s : Input) → read simple_statement s ≡ read simple_plan s
unfolding simple_statement
simple_as s = refl
