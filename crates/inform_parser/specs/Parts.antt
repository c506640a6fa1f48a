-- The trees of what stands in the braces of a `switch`.
use Rattle.std.specs.Prelude.{List, Option, map}
use Rattle.std.specs.Global.{Vec}
use Rattle.inform_tree.specs.declared.values.Const.{Const}
use Rattle.inform_tree.specs.Statements.{Choice, statement_of}
use Rattle.inform_grammar.specs.Rules.{SwitchPart, Head, Said}
use Rattle.inform_parser.specs.declared.parts.Part.{Part}
use Rattle.inform_parser.specs.declared.parts.Part.TheVariants as part

abbrev pub choice_of : Const × Option Const → Choice
choice_of x = x

abbrev pub choices_in : Vec (Const × Option Const) → List Choice
choices_in xs = xs.items

abbrev pub part_of : Part → SwitchPart
part_of (part.Head choices) = Head choices.items
part_of (part.Said x) = Said (statement_of x)

abbrev pub parts_in : Vec Part → List SwitchPart
parts_in xs = map part_of xs.items
