-- What is said of a fault, in three pieces.
use Rattle.std.specs.Prelude.{ℕ, List, [], ◌∷◌}
use Rattle.inform_lexer.specs.FaultTexts as lexer
use Rattle.inform_parser.specs.FaultTexts as parser
use Rattle.inform_names.specs.FaultTexts as names
use Rattle.inform_reader.specs.declared.faults.ProgramFault.{ProgramFault}
use Rattle.inform_reader.specs.declared.faults.ProgramFault.TheVariants.{NoTokens, NoSentence, NotAccepted, Memory}

-- that of the fault of the tokens, of the grammar or of the names; want of memory has none
abbrev pub fault_pieces : ProgramFault → List (List ℕ)
fault_pieces (NoTokens fault) = lexer.fault_opening fault ∷ lexer.fault_place fault ∷ [] ∷ []
fault_pieces (NoSentence fault) = parser.fault_opening fault ∷ parser.fault_place fault ∷ [] ∷ []
fault_pieces (NotAccepted fault) = names.fault_pieces fault
fault_pieces Memory = [] ∷ [] ∷ [] ∷ []
