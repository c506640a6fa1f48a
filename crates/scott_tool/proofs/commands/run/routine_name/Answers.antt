use Rattle.std.proofs.Common.{◌∙◌, sym, ap}
use Rattle.inform_tree.specs.Programs.{directive_of}
use Rattle.scott_tool.specs.Run.{name_in}
use Rattle.scott_tool.proofs.Routines.{name-of_directive, name-of_none}
use Rattle.scott_tool.proofs.commands.run.routine_name.Goals as goal

pub returns-in-Some-Routine : goal.returns-in-Some-Routine
returns-in-Some-Routine c =
    let same = c.deref.ensures.value ∙ ap (λ p. p.directives.items) c.program.ensures in
    let there = c.in-Some-Routine.ensures.lookup in
    let d = c.in-Some-Routine.field-0.now in
    c.bytes.ensures ∙ ap (λ x. name_in (directive_of x)) (sym c.in-Some-Routine.field-0-is)
    ∙ name-of_directive c.args.accepted.now c.deref.result.now same c.args.at d there.0 there.1

pub returns-in-Some-Constant : goal.returns-in-Some-Constant
returns-in-Some-Constant c =
    let same = c.deref.ensures.value ∙ ap (λ p. p.directives.items) c.program.ensures in
    let there = c.in-Some-Constant.ensures.lookup in
    let d = c.in-Some-Constant.field-0.now in
    ap (λ x. name_in (directive_of x)) (sym c.in-Some-Constant.field-0-is)
    ∙ name-of_directive c.args.accepted.now c.deref.result.now same c.args.at d there.0 there.1

pub returns-in-Some-Global : goal.returns-in-Some-Global
returns-in-Some-Global c =
    let same = c.deref.ensures.value ∙ ap (λ p. p.directives.items) c.program.ensures in
    let there = c.in-Some-Global.ensures.lookup in
    let d = c.in-Some-Global.field-0.now in
    ap (λ x. name_in (directive_of x)) (sym c.in-Some-Global.field-0-is)
    ∙ name-of_directive c.args.accepted.now c.deref.result.now same c.args.at d there.0 there.1

pub returns-in-Some-Array : goal.returns-in-Some-Array
returns-in-Some-Array c =
    let same = c.deref.ensures.value ∙ ap (λ p. p.directives.items) c.program.ensures in
    let there = c.in-Some-Array.ensures.lookup in
    let d = c.in-Some-Array.field-0.now in
    ap (λ x. name_in (directive_of x)) (sym c.in-Some-Array.field-0-is)
    ∙ name-of_directive c.args.accepted.now c.deref.result.now same c.args.at d there.0 there.1

pub returns-in-None : goal.returns-in-None
returns-in-None c =
    let same = c.deref.ensures.value ∙ ap (λ p. p.directives.items) c.program.ensures in
    name-of_none c.args.accepted.now c.deref.result.now same c.args.at c.in-None.ensures.lookup.0
