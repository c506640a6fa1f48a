-- What a token says: the lexeme of the bytes of its span.
use Rattle.std.specs.Prelude.{ℕ, ◌==◌, ◌-◌, nat_le, if◌then◌else◌, List, [], ◌∷◌, take, drop, length, map, slice_index, Option, Some, None, Result, Ok, Err}
use Rattle.std.specs.Char.{to_ascii_lowercase}
use Rattle.inform_tree.specs.declared.words.TheConstants.{NAME_LIMIT}
use Rattle.inform_lexemes.specs.declared.symbols.Symbol.{Symbol}
use Rattle.inform_lexemes.specs.Symbols.{symbol_spelled}
use Rattle.inform_lexemes.specs.Lexemes.{Lexeme, Reserved, Number, Character, Quoted, Sign, word_lexeme}
use Rattle.inform_lexemes.specs.Lexemes.{Word as GrammarWord, Name as NameWord}
use Rattle.inform_lexer.specs.declared.kinds.Kind.{Kind}
use Rattle.inform_lexer.specs.declared.kinds.Kind.TheVariants as kind
use Rattle.inform_lexer.specs.declared.kinds.Token.{Token}
use Rattle.inform_lexer.specs.declared.glances.Glance.{Glance}
use Rattle.inform_lexer.specs.declared.glances.Glance.TheVariants as glance
use Rattle.inform_lexer.specs.Numbers.{number_in}
use Rattle.inform_lexer.specs.Strings.{inside_said}

-- the bytes of a token
abbrev pub span : List ℕ → Token → List ℕ
span bytes t = take (t.end - t.start) (drop t.start bytes)

-- ---- each kind; bytes that are no token of it say what begins nothing, or nothing

-- the number that decimal digits are, or those after `$` (36) or `$$`
abbrev pub number_said : List ℕ → Option ℕ
number_said [] = number_in 10 []
number_said (b ∷ bytes) =
    if b == 36
    then (if slice_index bytes 0 == 36 then number_in 2 (drop 1 bytes) else number_in 16 bytes)
    else number_in 10 (b ∷ bytes)

abbrev pub number_lexeme : Option ℕ → Lexeme
number_lexeme (Some n) = Number n
number_lexeme None = Reserved

-- the bytes between the first and the last one
abbrev pub inside : List ℕ → List ℕ
inside bytes = take (length bytes - 2) (drop 1 bytes)

abbrev pub or_nothing : Result (List ℕ) ℕ → List ℕ
or_nothing (Ok text) = text
or_nothing (Err place) = []

abbrev pub string_said : List ℕ → List ℕ
string_said bytes = or_nothing (inside_said (inside bytes))

abbrev pub sign_lexeme : Option Symbol → Lexeme
sign_lexeme (Some symbol) = Sign symbol
sign_lexeme None = Reserved

-- ---- the lexeme

abbrev pub word_said : List ℕ → List ℕ
word_said bytes = map to_ascii_lowercase bytes

-- of the bytes of a span
abbrev pub lexeme_of : Kind → List ℕ → Lexeme
lexeme_of kind.Word bytes =
    if nat_le (length bytes) NAME_LIMIT then word_lexeme (word_said bytes) else Reserved
lexeme_of kind.Number bytes = number_lexeme (number_said bytes)
lexeme_of kind.Character bytes = Character (slice_index bytes 1)
lexeme_of kind.Quoted bytes = Quoted (string_said bytes)
lexeme_of kind.Symbol bytes = sign_lexeme (symbol_spelled bytes)

-- of a token of a text
abbrev pub lexeme_at : List ℕ → Token → Lexeme
lexeme_at bytes t = lexeme_of t.kind (span bytes t)

abbrev pub lexemes : List ℕ → List Token → List Lexeme
lexemes bytes tokens = map (lexeme_at bytes) tokens

-- ---- what is seen of a lexeme at a glance: all but the bytes of a name and of a string

abbrev pub glance_of : Lexeme → Glance
glance_of (GrammarWord keyword) = glance.Word keyword
glance_of Reserved = glance.Reserved
glance_of (NameWord name) = glance.Name
glance_of (Number n) = glance.Number n
glance_of (Character byte) = glance.Character byte
glance_of (Quoted text) = glance.Quoted
glance_of (Sign symbol) = glance.Symbol symbol
