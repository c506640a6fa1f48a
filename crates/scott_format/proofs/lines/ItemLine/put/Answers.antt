use Rattle.std.proofs.Common.{◌≡◌, ◌∙◌, [], ◌∷◌, ◌++◌, ℤ, pos, ap, to_z, of_z, w32, rules}
use Rattle.std.proofs.lemmas.Result.{on_ok_weaker}
use Rattle.adv_text.specs.Writing.{number_text, quoted_text}
use Rattle.scott_format.proofs.Texts.{two_written}
use Rattle.scott_format.proofs.lines.ItemLine.put.Goals as goal

pub returns : goal.returns
returns c =
    let i = c.args.self.now in
    let place : to_z w32 (of_z w32 c.from.result) ≡ pos i.place = search rules in
    on_ok_weaker c.put_number_and.result
    (λ written. two_written c.args.out.now.items c.put_text_and.new.out.items c.put_number_and.new.out.items (quoted_text i.text) (number_text (pos i.place) ++ 10 ∷ []) c.in_ok-put_text_and.ensures
    (written ∙ ap (λ (z : ℤ). c.put_text_and.new.out.items ++ (number_text z ++ 10 ∷ [])) place))
    c.put_number_and.ensures
