-- What the parser answers of tokens, which have these bytes.
use Rattle.std.specs.Prelude.{ℕ, ◌≡◌, ◌-◌, List, [], ◌∷◌, drop, length, Result, Ok, Err}
use Rattle.inform_tree.specs.declared.programs.Program.{Program}
use Rattle.inform_tree.specs.Programs.{DirectiveTree, program_of}
use Rattle.inform_lexemes.specs.Lexemes.{Lexeme}
use Rattle.inform_lexer.specs.declared.kinds.Token.{Token}
use Rattle.inform_lexer.specs.Spans.{lexemes}
use Rattle.inform_grammar.specs.Faults as kind
use Rattle.inform_grammar.specs.Faults.{Fault, FaultKind, fault}
use Rattle.inform_grammar.specs.Rule.{program}
use Rattle.inform_grammar.specs.Reading.{reads, within_limit}
use Rattle.inform_grammar.specs.Sentences.{Sentence}
use Rattle.inform_grammar.specs.Laws.{FirstFault}
use Rattle.inform_parser.specs.declared.faults.ParseFault.{ParseFault}
use Rattle.inform_parser.specs.declared.faults.ParseFault.TheVariants.{Unexpected, Mixed, TooDeep, Memory}
use Rattle.inform_parser.specs.declared.stops.Stop.{Stop}
use Rattle.inform_parser.specs.declared.stops.Stop.TheVariants as stop

-- the tokens say a sentence with room for 200 openers, and this is its program
abbrev pub IsProgramOf : List ℕ → List Token → List DirectiveTree → Type 0
IsProgramOf bytes tokens p = Sentence within_limit p (lexemes bytes tokens)

-- this program was given, unless memory ran out
abbrev pub IsGiven : Result Program ParseFault → List DirectiveTree → Type 0
IsGiven (Ok given) p = program_of given ≡ p
IsGiven (Err fault) p = fault ≡ Memory

-- ---- faults

-- the place of the first of these tokens, or the end of the text
abbrev pub start_of : List ℕ → List Token → ℕ
start_of bytes [] = length bytes
start_of bytes (t ∷ ts) = t.start

-- the place where so many of the tokens are left
abbrev pub place_before : List ℕ → List Token → ℕ → ℕ
place_before bytes tokens left = start_of bytes (drop (length tokens - left) tokens)

-- the tokens are read up to this fault
abbrev pub IsReadTo : List ℕ → List Token → Fault → Type 0
IsReadTo bytes tokens f = reads within_limit (lexemes bytes tokens) program 0 ≡ Err f

-- a fault of this kind is the one that they are read up to, which is the first one, and stands at
-- this place
abbrev pub StandsAt : List ℕ → List Token → FaultKind → ℕ → Type 0
StandsAt bytes tokens kind at =
    (rest : List Lexeme) × IsReadTo bytes tokens (fault kind rest)
    × FirstFault within_limit (lexemes bytes tokens) (fault kind rest)
    × (at ≡ place_before bytes tokens (length rest))

-- want of memory is no fault of the tokens
abbrev pub IsFaultOf : List ℕ → List Token → ParseFault → Type 0
IsFaultOf bytes tokens (Unexpected at) = StandsAt bytes tokens kind.Unexpected at
IsFaultOf bytes tokens (Mixed at) = StandsAt bytes tokens kind.Mixed at
IsFaultOf bytes tokens (TooDeep at) = StandsAt bytes tokens kind.TooDeep at
IsFaultOf bytes tokens Memory = Unit {0}

-- the fault that a stop is at a place
abbrev pub fault_at : Stop → ℕ → ParseFault
fault_at stop.Unexpected at = Unexpected at
fault_at stop.Mixed at = Mixed at
fault_at stop.TooDeep at = TooDeep at
fault_at stop.Memory at = Memory

-- a fault of reading, as it is answered
abbrev pub placed : FaultKind → ℕ → ParseFault
placed kind.Unexpected at = Unexpected at
placed kind.Mixed at = Mixed at
placed kind.TooDeep at = TooDeep at

abbrev pub fault_answer : List ℕ → List Token → Fault → ParseFault
fault_answer bytes tokens f = placed f.kind (place_before bytes tokens (length f.rest))
