-- With which lexemes some rules begin.
use Rattle.std.specs.Prelude.{Bool, true, false}
use Rattle.inform_lexemes.specs.declared.symbols.Symbol.TheVariants.{Semicolon, LeftBrace, LeftRound, LeftSquare, Minus}
use Rattle.inform_lexemes.specs.declared.keywords.Keyword.TheVariants as w
use Rattle.inform_lexemes.specs.Lexemes.{Lexeme, Word, Name, Number, Character, Sign}
use Rattle.inform_lexer.specs.declared.glances.Glance.{Glance}
use Rattle.inform_lexer.specs.declared.glances.Glance.TheVariants as g

abbrev pub begins_statement : Lexeme → Bool
begins_statement (Name name) = true
begins_statement (Sign Semicolon) = true
begins_statement (Sign LeftBrace) = true
begins_statement (Word w.If) = true
begins_statement (Word w.While) = true
begins_statement (Word w.Do) = true
begins_statement (Word w.For) = true
begins_statement (Word w.Switch) = true
begins_statement (Word w.Break) = true
begins_statement (Word w.Continue) = true
begins_statement (Word w.Quit) = true
begins_statement (Word w.Rtrue) = true
begins_statement (Word w.Rfalse) = true
begins_statement (Word w.Return) = true
begins_statement (Word w.NewLine) = true
begins_statement (Word w.Print) = true
begins_statement (Word w.Read) = true
begins_statement _ = false

-- the same of what is seen of a lexeme
abbrev pub statement_seen : Glance → Bool
statement_seen g.Name = true
statement_seen (g.Symbol Semicolon) = true
statement_seen (g.Symbol LeftBrace) = true
statement_seen (g.Word w.If) = true
statement_seen (g.Word w.While) = true
statement_seen (g.Word w.Do) = true
statement_seen (g.Word w.For) = true
statement_seen (g.Word w.Switch) = true
statement_seen (g.Word w.Break) = true
statement_seen (g.Word w.Continue) = true
statement_seen (g.Word w.Quit) = true
statement_seen (g.Word w.Rtrue) = true
statement_seen (g.Word w.Rfalse) = true
statement_seen (g.Word w.Return) = true
statement_seen (g.Word w.NewLine) = true
statement_seen (g.Word w.Print) = true
statement_seen (g.Word w.Read) = true
statement_seen _ = false

-- a constant that is no name
abbrev pub begins_bare : Lexeme → Bool
begins_bare (Number n) = true
begins_bare (Character byte) = true
begins_bare (Sign Minus) = true
begins_bare _ = false

abbrev pub begins_entry : Lexeme → Bool
begins_entry (Number n) = true
begins_entry (Character byte) = true
begins_entry (Name name) = true
begins_entry (Sign LeftRound) = true
begins_entry _ = false

abbrev pub begins_directive : Lexeme → Bool
begins_directive (Word w.Constant) = true
begins_directive (Word w.Global) = true
begins_directive (Word w.Array) = true
begins_directive (Sign LeftSquare) = true
begins_directive _ = false
