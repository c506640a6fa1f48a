use Rattle.std.proofs.Common.{◌≡◌, ◌≤◌, [], map, length}
use Rattle.inform_tree.specs.Programs.{directive_of}
use Rattle.inform_grammar.specs.Rules as r
use Rattle.inform_grammar.specs.Plan.{done, many}
use Rattle.inform_parser.specs.Reading.{read}
use Rattle.inform_parser.proofs.cursor.Cursor.directives.Given as goal

-- what is read with what was found so far is what is read
abbrev pub invariant-loop-alloc : goal.invariant-loop-alloc
invariant-loop-alloc l =
    (read (many r.Directive (map directive_of l.directives.items) done) l.self ≡ read (many r.Directive [] done) l.fn.self)
    × (length l.self.rest ≤ length l.fn.self.rest)

abbrev pub decreases-loop-alloc : goal.decreases-loop-alloc
decreases-loop-alloc l = length l.self.rest
