use Rattle.std.proofs.Common.{◌∙◌, ◌++◌, ap, append_assoc}
use Rattle.scott_light.proofs.Joining.{joined-parts}
use Rattle.scott_light.proofs.pages.Page.join.Goals as goal

pub returns-in-len1-up-clause-text : goal.returns-in-len1-up-clause-text
returns-in-len1-up-clause-text c =
    let before = c.args.self.now.text in
    c.add_after.ensures.text
    ∙ rw (c.add.ensures.text, append_assoc)
    (ap (λ texts. before ++ texts) (joined-parts (λ text. text.now) c.args.separator.now c.args.texts.now _ c.in-len1-up.len_at_least))
