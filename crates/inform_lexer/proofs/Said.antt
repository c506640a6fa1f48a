-- A lexeme that is a name or a string has these bytes.
use Rattle.std.proofs.Common.{◌≡◌, ℕ, Bool, true, false, cond, leb, List, length, Option, Some, None}
use Rattle.inform_tree.specs.Words.{is_reserved}
use Rattle.inform_tree.specs.declared.words.TheConstants.{NAME_LIMIT}
use Rattle.inform_lexemes.specs.declared.keywords.Keyword.{Keyword}
use Rattle.inform_lexemes.specs.declared.symbols.Symbol.{Symbol}
use Rattle.inform_lexemes.specs.Keywords.{keyword_spelled}
use Rattle.inform_lexemes.specs.Symbols.{symbol_spelled}
use Rattle.inform_lexemes.specs.Lexemes.{Reserved, Name, Quoted, word_or_name, word_lexeme}
use Rattle.inform_lexer.specs.declared.kinds.Kind.{Kind}
use Rattle.inform_lexer.specs.declared.kinds.Kind.TheVariants as kind
use Rattle.inform_lexer.specs.Spans.{word_said, number_said, number_lexeme, sign_lexeme, string_said, lexeme_of}

plain_name : (word name : List ℕ) (reserved : Bool) → cond reserved Reserved (Name word) ≡ Name name → word ≡ name
plain_name word name true e = absurd (cc)
plain_name word name false e = cc

name_said : (k : Option Keyword) (word name : List ℕ) → word_or_name k word ≡ Name name → word ≡ name
name_said (Some keyword) word name e = absurd (cc)
name_said None word name e = plain_name word name (is_reserved word) e

short_name : (fits : Bool) (word name : List ℕ) → cond fits (word_lexeme word) Reserved ≡ Name name → word ≡ name
unfolding word_lexeme
short_name true word name e = name_said (keyword_spelled word) word name e
short_name false word name e = absurd (cc)

no_number : (n : Option ℕ) (name : List ℕ) → number_lexeme n ≡ Name name → ⊥
no_number (Some n) name e = cc
no_number None name e = cc

no_sign : (s : Option Symbol) (name : List ℕ) → sign_lexeme s ≡ Name name → ⊥
no_sign (Some s) name e = cc
no_sign None name e = cc

pub name_bytes : (k : Kind) (bytes name : List ℕ) → lexeme_of k bytes ≡ Name name → word_said bytes ≡ name
name_bytes kind.Word bytes name e = short_name (leb (length bytes) NAME_LIMIT) (word_said bytes) name e
name_bytes kind.Number bytes name e = absurd (no_number (number_said bytes) name e)
name_bytes kind.Character bytes name e = absurd (cc)
name_bytes kind.Quoted bytes name e = absurd (cc)
name_bytes kind.Symbol bytes name e = absurd (no_sign (symbol_spelled bytes) name e)

number_is_no_text : (n : Option ℕ) (text : List ℕ) → number_lexeme n ≡ Quoted text → ⊥
number_is_no_text (Some n) text e = cc
number_is_no_text None text e = cc

sign_is_no_text : (s : Option Symbol) (text : List ℕ) → sign_lexeme s ≡ Quoted text → ⊥
sign_is_no_text (Some s) text e = cc
sign_is_no_text None text e = cc

reserved_is_no_text : (word text : List ℕ) (reserved : Bool) → cond reserved Reserved (Name word) ≡ Quoted text → ⊥
reserved_is_no_text word text true e = cc
reserved_is_no_text word text false e = cc

name_is_no_text : (k : Option Keyword) (word text : List ℕ) → word_or_name k word ≡ Quoted text → ⊥
name_is_no_text (Some keyword) word text e = cc
name_is_no_text None word text e = reserved_is_no_text word text (is_reserved word) e

word_is_no_text : (fits : Bool) (word text : List ℕ) → cond fits (word_lexeme word) Reserved ≡ Quoted text → ⊥
unfolding word_lexeme
word_is_no_text true word text e = name_is_no_text (keyword_spelled word) word text e
word_is_no_text false word text e = cc

pub text_bytes : (k : Kind) (bytes text : List ℕ) → lexeme_of k bytes ≡ Quoted text → string_said bytes ≡ text
text_bytes kind.Word bytes text e = absurd (word_is_no_text (leb (length bytes) NAME_LIMIT) (word_said bytes) text e)
text_bytes kind.Number bytes text e = absurd (number_is_no_text (number_said bytes) text e)
text_bytes kind.Character bytes text e = absurd (cc)
text_bytes kind.Quoted bytes text e = cc
text_bytes kind.Symbol bytes text e = absurd (sign_is_no_text (symbol_spelled bytes) text e)
