use Rattle.std.proofs.Common.{◌≡◌, [], map}
use Rattle.inform_tree.specs.Statements.{statement_of, case_of}
use Rattle.inform_parser.specs.Parts.{part_of}
use Rattle.inform_parser.proofs.CaseSteps.{gathered}
use Rattle.inform_parser.proofs.parts.cases.Given as goal

-- the cases so far, and those to come, are all of them
abbrev pub invariant-loop-part : goal.invariant-loop-part
invariant-loop-part l =
    gathered (map case_of l.cases.items) l.current.choices.items (map statement_of l.current.body.items) (map part_of l.part-iterator.rest.items)
    ≡ gathered [] l.fn.first.items [] (map part_of l.fn.parts.items)
