use Rattle.std.proofs.Common.{◌≡◌, ◌≤◌, [], length}
use Rattle.inform_grammar.specs.Rules as r
use Rattle.inform_grammar.specs.Plan.{done, many}
use Rattle.inform_parser.specs.Reading.{read}
use Rattle.inform_parser.proofs.cursor.Cursor.locals.Given as goal

-- what is read with what was found so far is what is read
abbrev pub invariant-loop-alloc : goal.invariant-loop-alloc
invariant-loop-alloc l =
    (read (many r.Local l.locals.items done) l.self ≡ read (many r.Local [] done) l.fn.self)
    × (length l.self.rest ≤ length l.fn.self.rest)

abbrev pub decreases-loop-alloc : goal.decreases-loop-alloc
decreases-loop-alloc l = length l.self.rest
