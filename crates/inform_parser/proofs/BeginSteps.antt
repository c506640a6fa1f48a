-- With what the rules begin.
use Rattle.std.proofs.Common.{◌≡◌, false, ◌||◌, List, [], ◌∷◌, Some, None, refl, ap, ◌∙◌}
use Rattle.inform_lexemes.specs.declared.symbols.Symbol.TheVariants.{Semicolon, Colon, Comma, LeftRound, LeftSquare, Minus}
use Rattle.inform_lexemes.specs.declared.keywords.Keyword.TheVariants as w
use Rattle.inform_lexemes.specs.Lexemes.{Lexeme, Word, Sign, is_sign, is_word, is_name, is_number, is_character}
use Rattle.inform_lexer.specs.declared.glances.Glance.{Glance}
use Rattle.inform_lexer.specs.Spans.{glance_of}
use Rattle.inform_grammar.specs.Lexemes.{heads, continues_choice}
use Rattle.inform_parser.specs.Glances.{first_glance}
use Rattle.inform_parser.specs.Begins.{begins_statement, statement_seen, begins_bare, begins_entry, begins_directive}

by_seen : (x : Lexeme) → begins_statement x ≡ statement_seen (glance_of x)
by_seen (Sign Semicolon) = refl
by_seen (Word w.If) = refl
by_seen _ = refl

pub some_seen : (xs : List Lexeme) (g : Glance) → first_glance xs ≡ Some g → heads begins_statement xs ≡ statement_seen g
some_seen [] g e = absurd (cc)
some_seen (x ∷ xs) g e = let same : glance_of x ≡ g = cc in by_seen x ∙ ap statement_seen same

pub none_seen : (xs : List Lexeme) → first_glance xs ≡ None → heads begins_statement xs ≡ false
none_seen [] e = refl
none_seen (x ∷ xs) e = absurd (cc)

pub ruleset statements_seen = (some_seen, none_seen)

pub bare : (xs : List Lexeme) → heads begins_bare xs ≡ (heads is_number xs || heads is_character xs || heads (is_sign Minus) xs)
bare [] = refl
bare (Sign Semicolon ∷ xs) = refl
bare (Word w.If ∷ xs) = refl
bare (_ ∷ xs) = refl

pub choices : (xs : List Lexeme) → heads continues_choice xs ≡ (heads (is_sign Colon) xs || heads (is_sign Comma) xs || heads (is_word w.To) xs)
choices [] = refl
choices (Sign Semicolon ∷ xs) = refl
choices (Word w.If ∷ xs) = refl
choices (_ ∷ xs) = refl

pub entries : (xs : List Lexeme) → heads begins_entry xs ≡ (heads is_number xs || heads is_character xs || heads is_name xs || heads (is_sign LeftRound) xs)
entries [] = refl
entries (Sign Semicolon ∷ xs) = refl
entries (Word w.If ∷ xs) = refl
entries (_ ∷ xs) = refl

pub directives : (xs : List Lexeme) → heads begins_directive xs ≡ (heads (is_word w.Constant) xs || heads (is_word w.Global) xs || heads (is_word w.Array) xs || heads (is_sign LeftSquare) xs)
directives [] = refl
directives (Sign Semicolon ∷ xs) = refl
directives (Word w.If ∷ xs) = refl
directives (_ ∷ xs) = refl
