use Rattle.std.proofs.Common.{sym, ◌∙◌}
use Rattle.std.proofs.lemmas.Bool.{eqb-true, eq-eqb}
use Rattle.scott_types.proofs.limits.comments_fit.Goals as goal

pub returns : goal.returns
returns c =
    let comments = c.len.ensures ∙ c.args.parts.now.comments.ok.0 in
    let actions = c.len-2.ensures ∙ c.args.parts.now.actions.ok.0 in (
      λ alike. sym comments ∙ eqb-true c.len.result c.len-2.result alike ∙ actions,
      λ same. eq-eqb c.len.result c.len-2.result (comments ∙ same ∙ sym actions),
    )
