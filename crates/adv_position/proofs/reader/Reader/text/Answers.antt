use Rattle.std.proofs.Common.{None, Some}
use Rattle.std.proofs.lemmas.Bool.Decides.{Decides-eqb}
use Rattle.std.proofs.lemmas.Slice.Eq.{strip_prefix_is}
use Rattle.adv_position.proofs.Stepping.{not-stripped, stripped}
use Rattle.adv_position.proofs.reader.Reader.text.Goals as goal

pub returns-in_err-self-inside : goal.returns-in_err-self-inside
returns-in_err-self-inside c =
    let bytes = c.self.inside.rest.now in
    let none = strip_prefix_is Decides-eqb bytes c.args.text.now None
    c.in_err-self-inside.ensures.cases in
    rw (c.from_residual.ensures, ← c.self.view_is) (not-stripped c.args.text.now bytes none)

pub returns : goal.returns
returns c =
    let bytes = c.self.inside.rest.now in
    let rest = c.in_ok-self-inside.field-0 in
    let is = strip_prefix_is Decides-eqb bytes c.args.text.now (Some rest)
    c.in_ok-self-inside.ensures.cases in
    rw (← c.self.view_is) (stripped c.args.text.now bytes rest.now is)
