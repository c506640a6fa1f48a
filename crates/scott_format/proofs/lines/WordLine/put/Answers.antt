use Rattle.std.proofs.Common.{[], ◌∷◌, ◌++◌}
use Rattle.std.proofs.lemmas.Result.{on_ok_weaker}
use Rattle.adv_text.specs.Writing.{quoted_text}
use Rattle.scott_format.proofs.Texts.{two_written}
use Rattle.scott_format.proofs.lines.WordLine.put.Goals as goal

pub returns : goal.returns
returns c =
    let w = c.args.self.now in
    on_ok_weaker c.put_text_and-2.result
    (two_written c.args.out.now.items c.put_text_and.new.out.items c.put_text_and-2.new.out.items (quoted_text w.verb) (quoted_text w.noun ++ 10 ∷ []) c.in_ok-put_text_and.ensures)
    c.put_text_and-2.ensures
