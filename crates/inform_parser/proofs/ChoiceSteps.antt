-- The rules of the heads of cases, by what stands next.
use Rattle.std.proofs.Common.{◌≡◌, ℕ, true, false, List, [], ◌∷◌, ◌++◌, Some, None, Result, Ok, refl, ap, ◌∙◌}
use Rattle.inform_tree.specs.declared.values.Const.{Const}
use Rattle.inform_tree.specs.Statements.{Choice}
use Rattle.inform_lexemes.specs.declared.symbols.Symbol.TheVariants.{Comma, Colon}
use Rattle.inform_lexemes.specs.declared.keywords.Keyword.TheVariants as w
use Rattle.inform_lexemes.specs.Lexemes.{Lexeme, Sign, is_sign, is_word}
use Rattle.inform_grammar.specs.Rules as r
use Rattle.inform_grammar.specs.Rules.{SwitchPart, Head}
use Rattle.inform_grammar.specs.Lexemes.{heads}
use Rattle.inform_grammar.specs.StatementRules.{range_after, choice, further_choice, choices_after, head_after}
use Rattle.inform_grammar.specs.Plan.{Plan, done, refuse, next, ◌>>=◌, take, one, many}
use Rattle.inform_grammar.specs.Rule.{rule}
use Rattle.inform_grammar.specs.Reading.{Input, input, step, reads, within_limit}
use Rattle.inform_grammar.proofs.Binding.{assoc}
use Rattle.inform_grammar.proofs.Steps.{starts, one-as, many-no, many-yes, done-here}
use Rattle.inform_parser.specs.declared.stops.Stop.{Stop}
use Rattle.inform_parser.specs.Reading.{read, ReadsSome, Passes}
use Rattle.inform_parser.specs.Parts.{choice_of}
use Rattle.inform_parser.proofs.InTurn.{only, same_some, passed}

abbrev pub range_plan : Const → Plan Choice
range_plan x = next (is_word w.To) (λ _. one r.Constant (λ y. done (x, Some y))) (done (x, None))

pub range_as : (x : Const) (s : Input) → read (range_after x) s ≡ read (range_plan x) s
unfolding range_after
range_as x s = refl

pub choice_as : (s : Input) → read (one r.Choice done) s ≡ read (one r.Constant (λ x. range_after x >>= done)) s
unfolding read rule choice
choice_as s = one-as within_limit s.rest r.Choice r.Constant range_after done s.opened (λ t. refl)

abbrev pub further_choice_plan : Plan Choice
further_choice_plan =
    next (is_sign Comma) (λ _. one r.Choice done >>= done) refuse

further_choice_by : (xs : List Lexeme) (n : ℕ) → read (one r.FurtherChoice done) (input n xs) ≡ read further_choice_plan (input n xs)
unfolding read reads step rule further_choice
further_choice_by [] n = refl
further_choice_by (Sign Comma ∷ xs) n = refl
further_choice_by (x ∷ xs) n = refl

further_choice_as : (s : Input) → read (one r.FurtherChoice done) s ≡ read further_choice_plan s
further_choice_as s = further_choice_by s.rest s.opened

-- a comma, and then a choice
pub further_choice_read : {s mid after : Input} {x : Result Choice Stop} → heads (is_sign Comma) s.rest ≡ true → Passes (is_sign Comma) (Sign Comma) s mid
    → ReadsSome choice_of (one r.Choice done) mid x after → ReadsSome choice_of (one r.FurtherChoice done) s x after
further_choice_read e h g = same_some _ (further_choice_as _) (passed _ _ e h (only g))

choice_starts : (xs : List Lexeme) → heads (is_sign Comma) xs ≡ heads (starts r.FurtherChoice) xs
unfolding rule further_choice
choice_starts [] = refl
choice_starts (Sign Comma ∷ xs) = refl
choice_starts (_ ∷ xs) = refl

pub choice_more : (front : List Choice) (s : Input) → heads (is_sign Comma) s.rest ≡ true
    → read (many r.FurtherChoice front done) s ≡ read (one r.FurtherChoice (λ x. many r.FurtherChoice (front ++ x ∷ []) done)) s
unfolding read
choice_more front s e = many-yes within_limit s.rest r.FurtherChoice (rw (choice_starts s.rest) at e) front done s.opened

pub choice_last : (front : List Choice) (s : Input) → heads (is_sign Comma) s.rest ≡ false → read (many r.FurtherChoice front done) s ≡ Ok (front, s)
unfolding read
choice_last front s e = many-no within_limit s.rest r.FurtherChoice (rw (choice_starts s.rest) at e) front done s.opened ∙ done-here within_limit s.rest front s.opened

pub choices_after_as : (x : Choice) (s : Input) → read (choices_after x) s ≡ read (many r.FurtherChoice (x ∷ []) (λ xs. take (is_sign Colon) (done xs))) s
unfolding choices_after
choices_after_as x s = refl

pub head_after_as : (x : Const) (s : Input) → read (head_after x) s ≡ read (range_after x >>= λ y. choices_after y >>= λ xs. done (Head xs)) s
unfolding head_after
head_after_as x s = ap (λ (p : Plan SwitchPart). read p s) (assoc (range_after x) choices_after (λ xs. done (Head xs)))
