use Rattle.std.proofs.Common.{◌∙◌, arith, ap, map, unwrap_or, []}
use Rattle.inform_tree.specs.Programs.{DirectiveTree, directive_of}
use Rattle.inform_names.specs.Views.{names_of}
use Rattle.inform_meaning.specs.Programs.{array_in}
use Rattle.inform_worlds.proofs.Opening.{all_mapped}
use Rattle.inform_worlds.proofs.openings.first_arrays.Goals as goal

pub returns : goal.returns
returns c =
    let a = c.args.names.now.accepted.now in
    c.loop-directive.invariant.1
    ∙ all_mapped directive_of (λ (d : DirectiveTree). unwrap_or (array_in a.width (names_of a) d) []) c.deref-directive-items.result.now c.loop-directive.directive-index
    (omega (arith, c.loop-directive-test.false))
    ∙ ap (λ xs. map (λ (d : DirectiveTree). unwrap_or (array_in a.width (names_of a) d) []) (map directive_of xs)) c.loop-directive.invariant.0
