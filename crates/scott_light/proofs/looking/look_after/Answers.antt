use Rattle.std.proofs.Common.{◌∙◌, sym, subst}
use Rattle.adv_io.specs.History.{says}
use Rattle.adv_io.specs.Console.{Speaks}
use Rattle.scott_types.specs.Style.{in_style}
use Rattle.scott_light.proofs.Darkness.{in_dark, in_light}
use Rattle.scott_light.proofs.looking.look_after.Goals as goal

pub returns-then-is_dark : goal.returns-then-is_dark
returns-then-is_dark g c =
    let seen = g.C.Console.seen in
    let game = in_style c.args.style c.args.db.now in
    subst (λ said. Speaks (seen c.args.console.now) (seen c.say_all.new.console) c.say_all.result (says said))
    (in_dark c.args.text.now game c.args.state.now (sym c.is_dark.ensures ∙ c.if-is_dark.true))
    (rw c.text_in-too_dark.ensures at c.say_all.ensures)

pub returns-else-is_dark : goal.returns-else-is_dark
returns-else-is_dark g c =
    let seen = g.C.Console.seen in
    let game = in_style c.args.style c.args.db.now in
    subst (λ said. Speaks (seen c.args.console.now) (seen c.look_in_light.new.console) c.look_in_light.result (says said))
    (in_light c.args.text.now game c.args.state.now (sym c.is_dark.ensures ∙ c.if-is_dark.false))
    c.look_in_light.ensures
