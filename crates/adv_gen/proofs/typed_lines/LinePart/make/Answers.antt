use Rattle.std.proofs.Common.{◌∙◌, ap, map}
use Rattle.std.specs.Char.{to_ascii_lowercase}
use Rattle.adv_gen.specs.declared.typed_lines.Form.{Form}
use Rattle.adv_gen.specs.TypedLines.{command}
use Rattle.adv_gen.proofs.Plain.{typed_command}
use Rattle.adv_gen.proofs.typed_lines.LinePart.make.Goals as goal

pub returns-clause-made : goal.returns-clause-made
returns-clause-made c =
    let text_is = c.bytes.ensures ∙ c.in_ok-command.ensures.made in
    c.of-2.ensures
    ∙ typed_command c.of.result c.args.size c.args.picks.now _ c.requires.some c.requires.small
    text_is
    ∙ ap (λ (form : Form). map to_ascii_lowercase
    (command form c.args.size c.args.picks.now)) c.of.ensures
