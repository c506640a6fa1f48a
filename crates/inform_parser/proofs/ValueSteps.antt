-- The rules of constants and expressions, by what stands next.
use Rattle.std.proofs.Common.{◌≡◌, ℕ, true, false, List, [], ◌∷◌, ◌++◌, Result, Ok, Err, refl, ◌∙◌}
use Rattle.inform_tree.specs.declared.values.ProdOp.{ProdOp}
use Rattle.inform_tree.specs.declared.values.SumOp.{SumOp}
use Rattle.inform_tree.specs.declared.values.Expr.{Expr}
use Rattle.inform_tree.specs.Values as v
use Rattle.inform_tree.specs.Values.{Expression, expression_of}
use Rattle.inform_tree.specs.declared.values.Const.{Const}
use Rattle.inform_tree.specs.declared.values.Const.TheVariants as k
use Rattle.inform_lexemes.specs.declared.symbols.Symbol.TheVariants.{Comma, LeftRound, RightRound, Plus, Minus, Times, ByteArrow, WordArrow}
use Rattle.inform_lexemes.specs.Lexemes.{Lexeme, Word, Sign, is_sign, is_name, is_word, is_number, is_character}
use Rattle.inform_lexemes.specs.declared.keywords.Keyword.TheVariants as w
use Rattle.inform_grammar.specs.Rules as r
use Rattle.inform_grammar.specs.Lexemes.{heads, name_in, is_arrow, is_factor_sign, is_term_sign}
use Rattle.inform_grammar.specs.ValueRules.{number_in, minus_number, constant, entry, arguments, name_after, entry_after, primary, unary, factor, factors_after, product, term, terms_after, value, argument}
use Rattle.inform_grammar.specs.Plan.{Plan, done, refuse, next, ◌>>=◌, take, one, many}
use Rattle.inform_grammar.specs.Rule.{rule}
use Rattle.inform_grammar.specs.Reading.{Input, input, step, reads, within_limit}
use Rattle.inform_grammar.specs.Trees.{product_of, sum_of}
use Rattle.inform_grammar.proofs.Steps.{starts, one-as, many-no, many-yes, done-here}
use Rattle.inform_parser.specs.declared.stops.Stop.{Stop}
use Rattle.inform_parser.specs.Reading.{read, ReadsSome, Passes}
use Rattle.inform_parser.specs.Nexts.{character_in, arrow_next, factor_next, term_next}
use Rattle.inform_parser.specs.Plans.{negative_entry, value_in_brackets, negation}
use Rattle.inform_parser.specs.Views.{factor_of, term_of}
use Rattle.inform_parser.proofs.TreesMade.{factor_of_pair, term_of_pair}
use Rattle.inform_parser.proofs.InTurn.{only, made, same_some, stops, stops_some, follows, follows_some, passed}

-- ---- constants

abbrev pub constant_plan : Plan Const
constant_plan =
    next is_number (λ x. done (k.Number (number_in x)))
    (next is_character (λ x. done (k.Char (character_in x)))
    (next is_name (λ x. done (k.Name (name_in x)))
    (take (is_sign Minus) minus_number)))

constant_by : (xs : List Lexeme) (n : ℕ) → read (one r.Constant done) (input n xs) ≡ read constant_plan (input n xs)
unfolding read reads step rule constant minus_number
constant_by [] n = refl
constant_by (Sign Minus ∷ xs) n = refl
constant_by (_ ∷ xs) n = refl

pub constant_as : (s : Input) → read (one r.Constant done) s ≡ read constant_plan s
constant_as s = constant_by s.rest s.opened

abbrev pub entry_plan : Plan Const
entry_plan =
    next is_number (λ x. done (k.Number (number_in x)))
    (next is_character (λ x. done (k.Char (character_in x)))
    (next is_name (λ x. done (k.Name (name_in x)))
    negative_entry))

entry_by : (xs : List Lexeme) (n : ℕ) → read (one r.Entry done) (input n xs) ≡ read entry_plan (input n xs)
unfolding read reads step rule entry minus_number
entry_by [] n = refl
entry_by (Sign LeftRound ∷ xs) n = refl
entry_by (_ ∷ xs) n = refl

pub entry_as : (s : Input) → read (one r.Entry done) s ≡ read entry_plan s
entry_as s = entry_by s.rest s.opened

-- ---- operands

abbrev pub arguments_plan : Plan (List Expression)
arguments_plan =
    next (is_sign RightRound) (λ _. done [])
    (one r.Value (λ x. many r.Argument (x ∷ []) (λ xs. take (is_sign RightRound) (done xs))))

arguments_by : (xs : List Lexeme) (n : ℕ) → read arguments (input n xs) ≡ read arguments_plan (input n xs)
unfolding read reads step rule arguments value product unary primary
arguments_by [] n = refl
arguments_by (Sign LeftRound ∷ xs) n = refl
arguments_by (Sign Minus ∷ xs) n = refl
arguments_by (_ ∷ xs) n = refl

pub arguments_as : (s : Input) → read arguments s ≡ read arguments_plan s
arguments_as s = arguments_by s.rest s.opened

abbrev pub argument_plan : Plan Expression
argument_plan =
    next (is_sign Comma) (λ _. one r.Value done >>= done) refuse

argument_by : (xs : List Lexeme) (n : ℕ) → read (one r.Argument done) (input n xs) ≡ read argument_plan (input n xs)
unfolding read reads step rule argument
argument_by [] n = refl
argument_by (Sign Comma ∷ xs) n = refl
argument_by (_ ∷ xs) n = refl

argument_as : (s : Input) → read (one r.Argument done) s ≡ read argument_plan s
argument_as s = argument_by s.rest s.opened

-- a comma, and then a value
pub argument_read : {s mid after : Input} {x : Result Expr Stop} → heads (is_sign Comma) s.rest ≡ true → Passes (is_sign Comma) (Sign Comma) s mid
    → ReadsSome expression_of (one r.Value done) mid x after → ReadsSome expression_of (one r.Argument done) s x after
argument_read e h g = same_some _ (argument_as _) (passed _ _ e h (only g))

module _ (name : List ℕ) where
  abbrev pub entry_read : Plan Expression
  entry_read = arrow_next >>= λ words. one r.Primary (λ x. done (v.Entry name words x))

  with_arrow : (xs : List Lexeme) (n : ℕ) → heads is_arrow xs ≡ true → read (entry_after name) (input n xs) ≡ read entry_read (input n xs)
  unfolding read reads step entry_after arrow_next
  with_arrow (Sign ByteArrow ∷ xs) n e = refl
  with_arrow (Sign WordArrow ∷ xs) n e = refl
  with_arrow _ n e = absurd (cc)

  without_arrow : (xs : List Lexeme) (n : ℕ) → heads is_arrow xs ≡ false → read (entry_after name) (input n xs) ≡ read (name_after name) (input n xs)
  unfolding read reads step entry_after
  without_arrow (Sign ByteArrow ∷ xs) n e = absurd (cc)
  without_arrow (Sign WordArrow ∷ xs) n e = absurd (cc)
  without_arrow [] n e = refl
  without_arrow (_ ∷ xs) n e = refl

pub entry_after_arrow : (name : List ℕ) (s : Input) → heads is_arrow s.rest ≡ true → read (entry_after name) s ≡ read (entry_read name) s
entry_after_arrow name s e = with_arrow name s.rest s.opened e

pub entry_after_name : (name : List ℕ) (s : Input) → heads is_arrow s.rest ≡ false → read (entry_after name) s ≡ read (name_after name) s
entry_after_name name s e = without_arrow name s.rest s.opened e

pub ruleset entries_after = (entry_after_arrow, entry_after_name)

abbrev pub primary_plan : Plan Expression
primary_plan =
    next is_number (λ x. done (v.Number (number_in x)))
    (next is_character (λ x. done (v.Char (character_in x)))
    (next is_name (λ x. name_after (name_in x) >>= done)
    (next (is_word w.Random) (λ _. value_in_brackets >>= λ x. done (v.Random x))
    value_in_brackets)))

primary_by : (xs : List Lexeme) (n : ℕ) → read (one r.Primary done) (input n xs) ≡ read primary_plan (input n xs)
unfolding read reads step rule primary value_in_brackets
primary_by [] n = refl
primary_by (Word w.Random ∷ xs) n = refl
primary_by (Sign LeftRound ∷ xs) n = refl
primary_by (_ ∷ xs) n = refl

pub primary_as : (s : Input) → read (one r.Primary done) s ≡ read primary_plan s
primary_as s = primary_by s.rest s.opened

abbrev pub unary_plan : Plan Expression
unary_plan =
    next is_name (λ x. entry_after (name_in x) >>= done)
    (next (is_sign Minus) (λ _. negation)
    (one r.Primary done))

unary_by : (xs : List Lexeme) (n : ℕ) → read (one r.Unary done) (input n xs) ≡ read unary_plan (input n xs)
unfolding read reads step rule unary primary
unary_by [] n = refl
unary_by (Word w.Random ∷ xs) n = refl
unary_by (Sign LeftRound ∷ xs) n = refl
unary_by (Sign Minus ∷ xs) n = refl
unary_by (_ ∷ xs) n = refl

pub unary_as : (s : Input) → read (one r.Unary done) s ≡ read unary_plan s
unary_as s = unary_by s.rest s.opened

-- ---- chains

factor_by : (xs : List Lexeme) (n : ℕ) → read (one r.Factor done) (input n xs) ≡ read (factor_next >>= λ op. one r.Unary (λ x. done (op, x))) (input n xs)
unfolding read reads step rule factor factor_next
factor_by [] n = refl
factor_by (Sign Times ∷ xs) n = refl
factor_by (_ ∷ xs) n = refl

factor_as : (s : Input) → read (one r.Factor done) s ≡ read (factor_next >>= λ op. one r.Unary (λ x. done (op, x))) s
factor_as s = factor_by s.rest s.opened

-- a sign, and then an operand
pub factor_read : {s mid after : Input} {op : ProdOp} {x : Expr} → ReadsSome (λ (op : ProdOp). op) factor_next s (Ok op) mid
    → ReadsSome expression_of (one r.Unary done) mid (Ok x) after → ReadsSome factor_of (one r.Factor done) s (Ok (op, x)) after
factor_read h g = same_some _ (factor_as _) (follows_some _ h (follows _ (only g) (made _ (factor_of_pair _ _))))

pub factor_stops : {s mid after : Input} {op : ProdOp} {e : Stop} → ReadsSome (λ (op : ProdOp). op) factor_next s (Ok op) mid
    → ReadsSome expression_of (one r.Unary done) mid (Err e) after → ReadsSome factor_of (one r.Factor done) s (Err e) after
factor_stops {e = e} h g = same_some _ (factor_as _) (follows_some _ h (stops _ (Err e) refl (only g)))

pub factor_sign_stops : {s mid : Input} {e : Stop} → ReadsSome (λ (op : ProdOp). op) factor_next s (Err e) mid → ReadsSome factor_of (one r.Factor done) s (Err e) mid
factor_sign_stops {e = e} h = same_some _ (factor_as _) (stops_some _ (Err e) refl (only h))

pub product_as : (s : Input) → read (one r.Product done) s ≡ read (one r.Unary (λ x. factors_after x >>= done)) s
unfolding read rule product
product_as s = one-as within_limit s.rest r.Product r.Unary factors_after done s.opened (λ t. refl)

term_by : (xs : List Lexeme) (n : ℕ) → read (one r.Term done) (input n xs) ≡ read (term_next >>= λ op. one r.Product (λ x. done (op, x))) (input n xs)
unfolding read reads step rule term term_next
term_by [] n = refl
term_by (Sign Plus ∷ xs) n = refl
term_by (_ ∷ xs) n = refl

term_as : (s : Input) → read (one r.Term done) s ≡ read (term_next >>= λ op. one r.Product (λ x. done (op, x))) s
term_as s = term_by s.rest s.opened

-- a sign, and then a product
pub term_read : {s mid after : Input} {op : SumOp} {x : Expr} → ReadsSome (λ (op : SumOp). op) term_next s (Ok op) mid
    → ReadsSome expression_of (one r.Product done) mid (Ok x) after → ReadsSome term_of (one r.Term done) s (Ok (op, x)) after
term_read h g = same_some _ (term_as _) (follows_some _ h (follows _ (only g) (made _ (term_of_pair _ _))))

pub term_stops : {s mid after : Input} {op : SumOp} {e : Stop} → ReadsSome (λ (op : SumOp). op) term_next s (Ok op) mid
    → ReadsSome expression_of (one r.Product done) mid (Err e) after → ReadsSome term_of (one r.Term done) s (Err e) after
term_stops {e = e} h g = same_some _ (term_as _) (follows_some _ h (stops _ (Err e) refl (only g)))

pub term_sign_stops : {s mid : Input} {e : Stop} → ReadsSome (λ (op : SumOp). op) term_next s (Err e) mid → ReadsSome term_of (one r.Term done) s (Err e) mid
term_sign_stops {e = e} h = same_some _ (term_as _) (stops_some _ (Err e) refl (only h))

pub value_as : (s : Input) → read (one r.Value done) s ≡ read (one r.Product (λ x. terms_after x >>= done)) s
unfolding read rule value
value_as s = one-as within_limit s.rest r.Value r.Product terms_after done s.opened (λ t. refl)

-- ---- lists

argument_starts : (xs : List Lexeme) → heads (is_sign Comma) xs ≡ heads (starts r.Argument) xs
unfolding rule argument
argument_starts [] = refl
argument_starts (Sign Comma ∷ xs) = refl
argument_starts (_ ∷ xs) = refl

pub argument_more : (front : List (Expression)) (s : Input) → heads (is_sign Comma) s.rest ≡ true
    → read (many r.Argument front done) s ≡ read (one r.Argument (λ x. many r.Argument (front ++ x ∷ []) done)) s
unfolding read
argument_more front s e = many-yes within_limit s.rest r.Argument (rw (argument_starts s.rest) at e) front done s.opened

pub argument_last : (front : List (Expression)) (s : Input) → heads (is_sign Comma) s.rest ≡ false → read (many r.Argument front done) s ≡ Ok (front, s)
unfolding read
argument_last front s e = many-no within_limit s.rest r.Argument (rw (argument_starts s.rest) at e) front done s.opened ∙ done-here within_limit s.rest front s.opened

factor_starts : (xs : List Lexeme) → heads is_factor_sign xs ≡ heads (starts r.Factor) xs
unfolding rule factor
factor_starts [] = refl
factor_starts (Sign Times ∷ xs) = refl
factor_starts (_ ∷ xs) = refl

pub factor_more : (front : List (ProdOp × Expression)) (s : Input) → heads is_factor_sign s.rest ≡ true
    → read (many r.Factor front done) s ≡ read (one r.Factor (λ x. many r.Factor (front ++ x ∷ []) done)) s
unfolding read
factor_more front s e = many-yes within_limit s.rest r.Factor (rw (factor_starts s.rest) at e) front done s.opened

pub factor_last : (front : List (ProdOp × Expression)) (s : Input) → heads is_factor_sign s.rest ≡ false → read (many r.Factor front done) s ≡ Ok (front, s)
unfolding read
factor_last front s e = many-no within_limit s.rest r.Factor (rw (factor_starts s.rest) at e) front done s.opened ∙ done-here within_limit s.rest front s.opened

-- a first factor by itself
pub factor_alone : (x : Expression) (s : Input) → heads is_factor_sign s.rest ≡ false → read (factors_after x) s ≡ Ok (x, s)
unfolding read factors_after
factor_alone x s e = many-no within_limit s.rest r.Factor (rw (factor_starts s.rest) at e) [] (λ ys. done (product_of x ys)) s.opened ∙ done-here within_limit s.rest x s.opened

term_starts : (xs : List Lexeme) → heads is_term_sign xs ≡ heads (starts r.Term) xs
unfolding rule term
term_starts [] = refl
term_starts (Sign Plus ∷ xs) = refl
term_starts (_ ∷ xs) = refl

pub term_more : (front : List (SumOp × Expression)) (s : Input) → heads is_term_sign s.rest ≡ true
    → read (many r.Term front done) s ≡ read (one r.Term (λ x. many r.Term (front ++ x ∷ []) done)) s
unfolding read
term_more front s e = many-yes within_limit s.rest r.Term (rw (term_starts s.rest) at e) front done s.opened

pub term_last : (front : List (SumOp × Expression)) (s : Input) → heads is_term_sign s.rest ≡ false → read (many r.Term front done) s ≡ Ok (front, s)
unfolding read
term_last front s e = many-no within_limit s.rest r.Term (rw (term_starts s.rest) at e) front done s.opened ∙ done-here within_limit s.rest front s.opened

-- a first term by itself
pub term_alone : (x : Expression) (s : Input) → heads is_term_sign s.rest ≡ false → read (terms_after x) s ≡ Ok (x, s)
unfolding read terms_after
term_alone x s e = many-no within_limit s.rest r.Term (rw (term_starts s.rest) at e) [] (λ ys. done (sum_of x ys)) s.opened ∙ done-here within_limit s.rest x s.opened
