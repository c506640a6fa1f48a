use Rattle.std.proofs.Common.{◌≡◌, ◌+◌, ◌*◌, ◌≤◌, [], ◌∷◌, map, length}
use Rattle.inform_tree.specs.Values.{expression_of}
use Rattle.inform_grammar.specs.Rules as r
use Rattle.inform_grammar.specs.Plan.{done, many}
use Rattle.inform_parser.specs.Reading.{read}
use Rattle.inform_parser.specs.Views.{factor_of, term_of}
use Rattle.inform_parser.proofs.cursor.Cursor.«+values».Given as goal

abbrev pub decreases-value_in_brackets : goal.decreases-value_in_brackets
decreases-value_in_brackets l = 8 * length l.self.now.rest

abbrev pub decreases-primary : goal.decreases-primary
decreases-primary l = 8 * length l.self.now.rest + 2

abbrev pub decreases-name_after : goal.decreases-name_after
decreases-name_after l = 8 * length l.self.now.rest + 1

abbrev pub decreases-unary : goal.decreases-unary
decreases-unary l = 8 * length l.self.now.rest + 3

abbrev pub decreases-entry_after : goal.decreases-entry_after
decreases-entry_after l = 8 * length l.self.now.rest + 3

abbrev pub decreases-product : goal.decreases-product
decreases-product l = 8 * length l.self.now.rest + 4

abbrev pub decreases-value : goal.decreases-value
decreases-value l = 8 * length l.self.now.rest + 5

abbrev pub decreases-arguments : goal.decreases-arguments
decreases-arguments l = 8 * length l.self.now.rest + 7

abbrev pub decreases-further_arguments : goal.decreases-further_arguments
decreases-further_arguments l = 8 * length l.self.now.rest + 2

abbrev pub decreases-factors : goal.decreases-factors
decreases-factors l = 8 * length l.self.now.rest + 2

abbrev pub decreases-factors_after : goal.decreases-factors_after
decreases-factors_after l = 8 * length l.self.now.rest + 3

abbrev pub decreases-terms : goal.decreases-terms
decreases-terms l = 8 * length l.self.now.rest + 2

abbrev pub decreases-terms_after : goal.decreases-terms_after
decreases-terms_after l = 8 * length l.self.now.rest + 3

-- what is read with what was found so far is what is read

abbrev pub invariant-factors-loop-alloc : goal.invariant-factors-loop-alloc
invariant-factors-loop-alloc l =
    (read (many r.Factor (map factor_of l.factors.items) done) l.self ≡ read (many r.Factor [] done) l.fn.self)
    × (length l.self.rest ≤ length l.fn.self.rest)

abbrev pub decreases-factors-loop-alloc : goal.decreases-factors-loop-alloc
decreases-factors-loop-alloc l = length l.self.rest

abbrev pub invariant-further_arguments-loop-alloc : goal.invariant-further_arguments-loop-alloc
invariant-further_arguments-loop-alloc l =
    (read (many r.Argument (map expression_of l.arguments.items) done) l.self ≡ read (many r.Argument (expression_of l.fn.first ∷ []) done) l.fn.self)
    × (length l.self.rest ≤ length l.fn.self.rest)

abbrev pub decreases-further_arguments-loop-alloc : goal.decreases-further_arguments-loop-alloc
decreases-further_arguments-loop-alloc l = length l.self.rest

abbrev pub invariant-terms-loop-alloc : goal.invariant-terms-loop-alloc
invariant-terms-loop-alloc l =
    (read (many r.Term (map term_of l.terms.items) done) l.self ≡ read (many r.Term [] done) l.fn.self)
    × (length l.self.rest ≤ length l.fn.self.rest)

abbrev pub decreases-terms-loop-alloc : goal.decreases-terms-loop-alloc
decreases-terms-loop-alloc l = length l.self.rest
