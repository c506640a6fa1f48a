use Rattle.std.proofs.Common.{◌∙◌, sym, ap, subst}
use Rattle.inform_tree.specs.Programs.{program_of}
use Rattle.inform_grammar.specs.Reading.{Input}
use Rattle.inform_grammar.specs.Rule.{program}
use Rattle.inform_parser.specs.Reading.{read, StopsAt}
use Rattle.inform_parser.specs.Programs.{place_before}
use Rattle.inform_parser.proofs.Answered.{found, same, no_fault, first, no_program, expected, is_memory, is_fault, refused}
use Rattle.inform_parser.proofs.parsing.parse.Goals as goal

pub returns-in-Ok-clause-found : goal.returns-in-Ok-clause-found
returns-in-Ok-clause-found c =
    found c.args.bytes.now c.args.tokens.items c.program.new.self c.read_is_sentence.ensures (program_of c.in-Ok.program)
    (ap (λ (s : Input). read program s) (sym c.new-cursor.ensures) ∙ c.in-Ok.ensures.gives)

pub returns-in-Ok-clause-only : goal.returns-in-Ok-clause-only
returns-in-Ok-clause-only c =
    λ p h. same c.args.bytes.now c.args.tokens.items c.program.new.self c.sentence_is_read.ensures p (program_of c.in-Ok.program)
    (ap (λ (s : Input). read program s) (sym c.new-cursor.ensures) ∙ c.in-Ok.ensures.gives) h

pub returns-clause-only : goal.returns-clause-only
returns-clause-only c =
    let bytes = c.args.bytes.now in
    let tokens = c.args.tokens.items in
    let stopped = subst (λ (s : Input). StopsAt c.program.new.self c.in-Err.stop (read program s)) c.new-cursor.ensures c.in-Err.ensures.gives in
    λ p h. is_memory _ _ (c.fault_before.ensures tokens c.requires) (no_fault bytes tokens c.program.new.self c.sentence_is_read.ensures c.in-Err.stop _ stopped p h)

pub returns-clause-fault : goal.returns-clause-fault
returns-clause-fault c =
    let bytes = c.args.bytes.now in
    let tokens = c.args.tokens.items in
    let stopped = subst (λ (s : Input). StopsAt c.program.new.self c.in-Err.stop (read program s)) c.new-cursor.ensures c.in-Err.ensures.gives in
    is_fault bytes tokens _ _ (c.fault_before.ensures tokens c.requires)
    (first bytes tokens c.program.new.self c.fault_is_first.ensures c.in-Err.stop _ stopped (ap (place_before bytes tokens) c.left.ensures))

pub returns-in-Ok-clause-expected : goal.returns-in-Ok-clause-expected
returns-in-Ok-clause-expected c =
    λ f h. absurd (no_program c.args.bytes.now c.args.tokens.items c.program.new.self (program_of c.in-Ok.program) f
    (ap (λ (s : Input). read program s) (sym c.new-cursor.ensures) ∙ c.in-Ok.ensures.gives) h)

pub returns-clause-expected : goal.returns-clause-expected
returns-clause-expected c =
    let bytes = c.args.bytes.now in
    let tokens = c.args.tokens.items in
    let stopped = subst (λ (s : Input). StopsAt c.program.new.self c.in-Err.stop (read program s)) c.new-cursor.ensures c.in-Err.ensures.gives in
    λ f h. refused _ _ _ (c.fault_before.ensures tokens c.requires)
    (expected bytes tokens c.program.new.self c.in-Err.stop _ stopped (ap (place_before bytes tokens) c.left.ensures) f h)
