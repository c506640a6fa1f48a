-- The words of the grammar: how each is spelled.
use Rattle.std.specs.Prelude.{ℕ, Bool, nat_eq, List, codes, Option, find}
use Rattle.std.specs.Cmp.Lexicographic.{pointwise}
use Rattle.inform_lexemes.specs.declared.keywords.Keyword.{Keyword}
use Rattle.inform_lexemes.specs.declared.keywords.Keyword.TheVariants.{Array, Break, Char, Constant, Continue, Default, Do, Else, For, Global, If, NewLine, Print, Quit, Random, Read, Return, Rfalse, Rtrue, Switch, To, Until, While}
use Rattle.inform_lexemes.specs.declared.keywords.TheConstants.{KEYWORDS}

-- how each is spelled
abbrev pub keyword_text : Keyword → List ℕ
keyword_text Array = codes "array"
keyword_text Break = codes "break"
keyword_text Char = codes "char"
keyword_text Constant = codes "constant"
keyword_text Continue = codes "continue"
keyword_text Default = codes "default"
keyword_text Do = codes "do"
keyword_text Else = codes "else"
keyword_text For = codes "for"
keyword_text Global = codes "global"
keyword_text If = codes "if"
keyword_text NewLine = codes "new_line"
keyword_text Print = codes "print"
keyword_text Quit = codes "quit"
keyword_text Random = codes "random"
keyword_text Read = codes "read"
keyword_text Return = codes "return"
keyword_text Rfalse = codes "rfalse"
keyword_text Rtrue = codes "rtrue"
keyword_text Switch = codes "switch"
keyword_text To = codes "to"
keyword_text Until = codes "until"
keyword_text While = codes "while"

-- a number for each, by which they are told apart
abbrev pub keyword_number : Keyword → ℕ
keyword_number Array = 0
keyword_number Break = 1
keyword_number Char = 2
keyword_number Constant = 3
keyword_number Continue = 4
keyword_number Default = 5
keyword_number Do = 6
keyword_number Else = 7
keyword_number For = 8
keyword_number Global = 9
keyword_number If = 10
keyword_number NewLine = 11
keyword_number Print = 12
keyword_number Quit = 13
keyword_number Random = 14
keyword_number Read = 15
keyword_number Return = 16
keyword_number Rfalse = 17
keyword_number Rtrue = 18
keyword_number Switch = 19
keyword_number To = 20
keyword_number Until = 21
keyword_number While = 22

-- whether two are the same
abbrev pub same_keyword : Keyword → Keyword → Bool
same_keyword a b = nat_eq (keyword_number a) (keyword_number b)

-- the word of the grammar that is spelled so, in lower case
unfoldable pub keyword_spelled : List ℕ → Option Keyword
keyword_spelled word = find (λ keyword. pointwise nat_eq word (keyword_text keyword)) KEYWORDS
