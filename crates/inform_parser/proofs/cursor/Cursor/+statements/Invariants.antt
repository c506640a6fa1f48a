use Rattle.std.proofs.Common.{◌≡◌, ◌+◌, ◌*◌, ◌≤◌, [], map, length}
use Rattle.inform_tree.specs.Statements.{statement_of}
use Rattle.inform_grammar.specs.Rules as r
use Rattle.inform_grammar.specs.Plan.{done, many}
use Rattle.inform_parser.specs.Reading.{read}
use Rattle.inform_parser.specs.Parts.{part_of}
use Rattle.inform_parser.proofs.cursor.Cursor.«+statements».Given as goal

abbrev pub decreases-statement : goal.decreases-statement
decreases-statement l = 8 * length l.self.now.rest + 3

abbrev pub decreases-statements : goal.decreases-statements
decreases-statements l = 8 * length l.self.now.rest + 4

abbrev pub decreases-statements_in_braces : goal.decreases-statements_in_braces
decreases-statements_in_braces l = 8 * length l.self.now.rest

abbrev pub decreases-body : goal.decreases-body
decreases-body l = 8 * length l.self.now.rest + 5

abbrev pub decreases-else_after : goal.decreases-else_after
decreases-else_after l = 8 * length l.self.now.rest + 1

abbrev pub decreases-if_statement : goal.decreases-if_statement
decreases-if_statement l = 8 * length l.self.now.rest + 1

abbrev pub decreases-while_statement : goal.decreases-while_statement
decreases-while_statement l = 8 * length l.self.now.rest + 1

abbrev pub decreases-do_statement : goal.decreases-do_statement
decreases-do_statement l = 8 * length l.self.now.rest + 1

abbrev pub decreases-for_body : goal.decreases-for_body
decreases-for_body l = 8 * length l.self.now.rest + 6

abbrev pub decreases-for_statement : goal.decreases-for_statement
decreases-for_statement l = 8 * length l.self.now.rest + 1

abbrev pub decreases-switch_after : goal.decreases-switch_after
decreases-switch_after l = 8 * length l.self.now.rest + 1

abbrev pub decreases-cases_after : goal.decreases-cases_after
decreases-cases_after l = 8 * length l.self.now.rest + 2

abbrev pub decreases-default_after : goal.decreases-default_after
decreases-default_after l = 8 * length l.self.now.rest + 1

abbrev pub decreases-part : goal.decreases-part
decreases-part l = 8 * length l.self.now.rest + 4

abbrev pub decreases-parts : goal.decreases-parts
decreases-parts l = 8 * length l.self.now.rest + 5

-- what is read with what was found so far is what is read

abbrev pub invariant-statements-loop-alloc : goal.invariant-statements-loop-alloc
invariant-statements-loop-alloc l =
    (read (many r.Statement (map statement_of l.statements.items) done) l.self ≡ read (many r.Statement [] done) l.fn.self)
    × (length l.self.rest ≤ length l.fn.self.rest)

abbrev pub decreases-statements-loop-alloc : goal.decreases-statements-loop-alloc
decreases-statements-loop-alloc l = length l.self.rest

abbrev pub invariant-parts-loop-alloc : goal.invariant-parts-loop-alloc
invariant-parts-loop-alloc l =
    (read (many r.Part (map part_of l.parts.items) done) l.self ≡ read (many r.Part [] done) l.fn.self)
    × (length l.self.rest ≤ length l.fn.self.rest)

abbrev pub decreases-parts-loop-alloc : goal.decreases-parts-loop-alloc
decreases-parts-loop-alloc l = length l.self.rest
