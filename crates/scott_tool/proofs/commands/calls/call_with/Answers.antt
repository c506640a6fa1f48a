use Rattle.std.proofs.Common.{◌∙◌, length, replicate, sym, ap}
use Rattle.std.proofs.lemmas.List.{length-map}
use Rattle.inform_tree.specs.Programs.{directive_of}
use Rattle.scott_tool.proofs.commands.calls.call_with.Goals as goal

pub count_with-requires : goal.count_with-requires
count_with-requires g c =
    c.deref_mut.ensures.value ∙ c.in-Ok.ensures ∙ ap (λ n. replicate n 0)
    (ap length
    (c.as_slice-directives.ensures.value ∙ ap (λ p. p.directives.items) c.program.ensures)
    ∙ sym (length-map c.args.accepted.now.program.directives.items directive_of))
