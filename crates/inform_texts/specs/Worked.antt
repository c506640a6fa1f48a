-- Worked examples: texts and faults that were judged by hand.
use Rattle.std.specs.Prelude.{[], ◌∷◌, codes}
use Rattle.inform_tree.specs.declared.values.Const.TheVariants as k
use Rattle.inform_tree.specs.Programs as d
use Rattle.inform_lexer.specs.declared.faults.LexFault.TheVariants.{BadCharacter}
use Rattle.inform_grammar.specs.Faults.{Unexpected}
use Rattle.inform_texts.specs.Texts.{ProgramText}
use Rattle.inform_texts.specs.Faults.{NoTokens, NoSentence, FaultyText}

-- capitals, blanks, the base of a number and a comment leave no trace in the program
abbrev pub LayoutLeavesNoTrace : Type 0
LayoutLeavesNoTrace =
    ProgramText (codes "CONSTANT N=$1f;!end") (d.Constant (codes "n") (k.Number 31) ∷ [])

-- a fault of the grammar stands at the first byte of a token, and at the end after its blanks
abbrev pub FaultsPlaced : Type 0
FaultsPlaced = FaultyText (codes "Global x; 7") (NoSentence Unexpected 10)
    × FaultyText (codes "Global x ") (NoSentence Unexpected 9)
    × FaultyText (codes "; 'ab'") (NoTokens (BadCharacter 2))
