-- Worked examples: texts that were judged by hand.
use Rattle.std.specs.Prelude.{ℕ, ◌≡◌, ◌++◌, false, List, [], ◌∷◌, Result, Ok, Err, codes, replicate}
use Rattle.inform_lexemes.specs.declared.symbols.Symbol.TheVariants as s
use Rattle.inform_lexemes.specs.declared.keywords.Keyword.TheVariants as k
use Rattle.inform_lexemes.specs.Lexemes.{Lexeme, Word, Reserved, Name, Number, Character, Sign}
use Rattle.inform_lexer.specs.declared.kinds.Token.{Token}
use Rattle.inform_lexer.specs.declared.faults.LexFault.{LexFault}
use Rattle.inform_lexer.specs.declared.faults.LexFault.TheVariants.{BadByte, BigNumber, BadString, OpenString}
use Rattle.inform_lexer.specs.Strings.{inside_said}
use Rattle.inform_lexer.specs.Tokens.{lexed}
use Rattle.inform_lexer.specs.Spans.{lexemes}
use Rattle.inform_lexer.specs.Written.{string_text, text_of}

-- what a text says, where it has tokens
abbrev said_by : List ℕ → Result (List Token) LexFault → Result (List Lexeme) LexFault
said_by bytes (Ok tokens) = Ok (lexemes bytes tokens)
said_by bytes (Err fault) = Err fault

abbrev said : List ℕ → Result (List Lexeme) LexFault
said bytes = said_by bytes (lexed bytes)

-- `--` stands before `->`, and `-->` is one
abbrev pub LongestSymbolsFirst : Type 0
LongestSymbolsFirst =
    (said (codes "a-->b") ≡ Ok (Name (codes "a") ∷ Sign s.WordArrow ∷ Name (codes "b") ∷ []))
    × (said (codes "--->") ≡ Ok (Sign s.Decrement ∷ Sign s.ByteArrow ∷ []))
    × (said (codes "x<=-1")
    ≡ Ok (Name (codes "x") ∷ Sign s.LessEqual ∷ Sign s.Minus ∷ Number 1 ∷ []))

abbrev pub CommentsPassed : Type 0
CommentsPassed = (said (codes "If!a \" '\n;!") ≡ Ok (Word k.If ∷ Sign s.Semicolon ∷ []))
    × (said (codes "'!' Box") ≡ Ok (Character 33 ∷ Reserved ∷ []))

abbrev pub StringsSaid : Type 0
StringsSaid = (inside_said (codes "a^\n  b") ≡ Ok (97 ∷ 10 ∷ 98 ∷ []))
    × (inside_said (codes "a \n b\t\tc") ≡ Ok (codes "a b  c"))
    × (inside_said (codes "@@945@@64") ≡ Err 0)
    × (inside_said (codes "b@@0256") ≡ Err 1)
    × (inside_said (codes "@@064 5~") ≡ Ok (64 ∷ 32 ∷ 53 ∷ 34 ∷ []))

abbrev pub EscapesWritten : Type 0
EscapesWritten = (string_text false (codes "@5 ~ ^ \\") ≡ codes "@@64@@53 @@126 @@94 @@92")
    × (inside_said (codes "@@64@@53 @@126 @@94 @@92") ≡ Ok (codes "@5 ~ ^ \\"))
    × (string_text false (97 ∷ 10 ∷ 200 ∷ 32 ∷ 32 ∷ 55 ∷ []) ≡ codes "a^@@200  7")
    × (inside_said (codes "a^@@200  7") ≡ Ok (97 ∷ 10 ∷ 200 ∷ 32 ∷ 32 ∷ 55 ∷ []))
    × (text_of (Word k.Constant ∷ Name (codes "n") ∷ Sign s.Assign ∷ Number 7 ∷ Sign s.Semicolon
    ∷ [])
    ≡ codes "Constant n = 7 ;\n")

-- a string that is never closed has its fault at the quote, before anything in it
abbrev pub FaultsPlaced : Type 0
FaultsPlaced = (said (codes "x \"a\\b") ≡ Err (OpenString 2))
    × (said (codes "x \"a\\b\" $") ≡ Err (BadString 4))
    × (said (codes "$ \"a\\b\"") ≡ Err (BadByte 0))
    × (said (codes "$$2") ≡ Err (BadByte 0))

abbrev pub NumbersLimited : Type 0
NumbersLimited =
    (said (codes "4294967295 $00fFffffff") ≡ Ok (Number 4294967295 ∷ Number 4294967295 ∷ []))
    × (said (codes "$$" ++ replicate 32 49) ≡ Ok (Number 4294967295 ∷ []))
    × (said (codes " 4294967296") ≡ Err (BigNumber 1))
