-- The pieces of a text: blanks, comments and tokens, each as long as it can be.
use Rattle.std.specs.Prelude.{ℕ, ◌==◌, ◌&&◌, ◌+◌, ◌-◌, ◌≤◌, ◌<◌, nat_le, nat_lt, if◌then◌else◌, List, [], ◌∷◌, take, length, Option, Some, None, Result, Ok, Err}
use Rattle.std.specs.List.{prefix_len}
use Rattle.std.specs.Option.{option_or}
use Rattle.inform_tree.specs.Words.{is_character}
use Rattle.inform_tree.specs.declared.words.TheConstants.{NAME_LIMIT}
use Rattle.inform_lexemes.specs.declared.symbols.Symbol.{Symbol}
use Rattle.inform_lexemes.specs.Symbols.{symbol_text, symbol_spelled}
use Rattle.inform_lexer.specs.declared.kinds.Kind.{Kind}
use Rattle.inform_lexer.specs.declared.kinds.Kind.TheVariants as kind
use Rattle.inform_lexer.specs.declared.kinds.Token.{Token}
use Rattle.inform_lexer.specs.declared.faults.LexFault.{LexFault}
use Rattle.inform_lexer.specs.declared.faults.LexFault.TheVariants.{BadByte, BigNumber, LongName, BadCharacter, BadString, OpenString}
use Rattle.inform_lexer.specs.Pieces.{Piece, Pieces, Breaks, cut}
use Rattle.inform_lexer.specs.Bytes.{is_blank, is_comment_byte, begins_word, is_word_byte, is_digit_in, is_inside}
use Rattle.inform_lexer.specs.Numbers.{number_in}
use Rattle.inform_lexer.specs.Strings.{inside_said}

-- A piece, or the fault of a token that begins there. Nothing need be known of what stands before.
abbrev pub TokenStep : Type 0
TokenStep = Result (Piece (Unit {0}) Token) LexFault

-- a token with so many bytes after its first one
abbrev pub token : Kind → ℕ → ℕ → TokenStep
token k at more =
    Ok (record {
      gives = record { kind = k; start = at; end = at + 1 + more } ∷ [];
      more = more;
      next = tt;
    })

-- blanks or a comment
abbrev pub gap : ℕ → TokenStep
gap more = Ok (record { gives = []; more = more; next = tt })

-- ---- words and numbers

abbrev pub word_here : ℕ → List ℕ → TokenStep
word_here at bytes =
    let more = prefix_len is_word_byte bytes in
    if nat_lt more NAME_LIMIT then token kind.Word at more else Err (LongName at)

-- a number, where it isn't too large
abbrev pub number_token : ℕ → ℕ → Option ℕ → TokenStep
number_token at more (Some n) = token kind.Number at more
number_token at more None = Err (BigNumber at)

abbrev pub decimal_here : ℕ → List ℕ → TokenStep
decimal_here at [] = Err (BadByte at)
decimal_here at (b ∷ bytes) =
    let more =
    prefix_len (is_digit_in 10) bytes in number_token at more
    (number_in 10 (b ∷ take more bytes))

-- after one dollar sign, and so many further ones
abbrev pub based_here : ℕ → ℕ → ℕ → List ℕ → TokenStep
based_here at base signs bytes =
    let size = prefix_len (is_digit_in base) bytes in
    if nat_le 1 size then number_token at (signs + size) (number_in base (take size bytes))
    else Err (BadByte at)

-- after a first dollar sign (36): binary digits after a second one, or else hexadecimal digits
abbrev pub dollar_here : ℕ → List ℕ → TokenStep
dollar_here at [] = Err (BadByte at)
dollar_here at (b ∷ bytes) =
    if b == 36 then based_here at 2 1 bytes else based_here at 16 0 (b ∷ bytes)

-- ---- characters and strings

-- after an apostrophe: a character, and another apostrophe (39)
abbrev pub character_here : ℕ → List ℕ → TokenStep
character_here at (b ∷ c ∷ bytes) =
    if is_character b && c == 39 then token kind.Character at 2 else Err (BadCharacter at)
character_here at _ = Err (BadCharacter at)

abbrev pub quoted : ℕ → ℕ → Result (List ℕ) ℕ → TokenStep
quoted at size (Ok text) = token kind.Quoted at (size + 1)
quoted at size (Err place) = Err (BadString (at + 1 + place))

-- after a quote: up to the next one, which must be there, whatever stands between them
abbrev pub string_here : ℕ → List ℕ → TokenStep
string_here at bytes =
    let size = prefix_len is_inside bytes in
    if nat_lt size (length bytes) then quoted at size (inside_said (take size bytes))
    else Err (OpenString at)

-- ---- symbols

-- the longest symbol that the bytes begin with
abbrev pub symbol_first : List ℕ → Option Symbol
symbol_first bytes =
    option_or (symbol_spelled (take 3 bytes))
    (option_or (symbol_spelled (take 2 bytes)) (symbol_spelled (take 1 bytes)))

abbrev pub symbol_token : ℕ → Option Symbol → TokenStep
symbol_token at None = Err (BadByte at)
symbol_token at (Some symbol) = token kind.Symbol at (length (symbol_text symbol) - 1)

-- ---- texts

-- the piece that begins with a byte; `"` is 34, `'` is 39, `!` is 33, `$` is 36
unfoldable pub token_step : Unit {0} → ℕ → List ℕ → TokenStep
token_step known at [] = Err (BadByte at)
token_step known at (b ∷ bytes) =
    if is_blank b then gap (prefix_len is_blank bytes) else
    if begins_word b then word_here at bytes else
    if is_digit_in 10 b then decimal_here at (b ∷ bytes) else
    if b == 34 then string_here at bytes else
    if b == 39 then character_here at bytes else
    if b == 33 then gap (prefix_len is_comment_byte bytes) else
    if b == 36 then dollar_here at bytes else
    symbol_token at (symbol_first (b ∷ bytes))

-- the bytes are these tokens, with blanks and comments before, between and after them
abbrev pub Spelled : List ℕ → List Token → Type 0
Spelled bytes tokens = Pieces token_step tt 0 bytes tokens

-- this is the first fault of the bytes
abbrev pub Faulty : List ℕ → LexFault → Type 0
Faulty bytes fault = Breaks token_step tt 0 bytes fault

-- the tokens of the bytes, or their first fault
unfoldable pub lexed : List ℕ → Result (List Token) LexFault
lexed bytes = cut token_step 0 tt 0 bytes

-- ---- spans

-- each token begins after the end of the one before it and has a byte, and all end within so many
-- bytes
abbrev pub InOrder : ℕ → ℕ → List Token → Type 0
InOrder size at [] = at ≤ size
InOrder size at (t ∷ tokens) = (at ≤ t.start) × (t.start < t.end) × InOrder size t.end tokens
