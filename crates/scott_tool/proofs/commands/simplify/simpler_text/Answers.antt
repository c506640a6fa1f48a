use Rattle.std.proofs.Common.{Ok, ap, subst}
use Rattle.inform_tree.specs.declared.widths.Width.{Width}
use Rattle.inform_names.specs.Views.{directives_of}
use Rattle.scott_tool.specs.Steps.{◌>>=◌}
use Rattle.scott_tool.specs.Simplify.{SimplerText}
use Rattle.scott_tool.specs.Work.{simplification, storing}
use Rattle.scott_tool.proofs.Simplifying.{read_formed}
use Rattle.scott_tool.proofs.commands.simplify.simpler_text.Goals as goal

pub simplified-requires : goal.simplified-requires
simplified-requires c =
    read_formed c.program_in.ensures c.programs_are_well_formed.ensures c.args.asked.width
    c.args.asked.program.now c.args.texts.now.main.items (directives_of c.in_ok-accepted.accepted)
    (rw c.deref.ensures.value at c.in_ok-accepted.ensures.given)

pub returns-in-Ok : goal.returns-in-Ok
returns-in-Ok c =
    let old = directives_of c.in_ok-accepted.accepted in (
      simplification c.args.asked.width old,
      ap (λ r. r >>= λ p. Ok (storing c.args.asked.simpler.now
          (simplification c.args.asked.width p)))
          (rw c.deref.ensures.value at c.in_ok-accepted.ensures.given),
      subst (λ (width : Width). SimplerText width old c.in-Ok.text.items)
          c.in_ok-accepted.ensures.width c.in-Ok.ensures,
    )
