use Rattle.std.proofs.Common.{◌≡◌, length, arith}
use Rattle.std.specs.Prelude.{◌==◌}
use Rattle.std.specs.List.{list_all}
use Rattle.std.proofs.lemmas.Bool.{and_parts}
use Rattle.scott_types.specs.Limits.{is_natural}
use Rattle.std.proofs.lemmas.Result.{on_ok_weaker}
use Rattle.scott_format.proofs.Texts.{action_written}
use Rattle.scott_format.proofs.lines.ActionLine.put.Goals as goal

pub returns : goal.returns
returns c =
    let a = c.args.self.now in
    let two : length a.pairs ≡ 2 = omega arith in
    on_ok_weaker c.put_natural_and-3.result
    (action_written c.args.out.now.items c.put_natural_and.new.out.items c.put_naturals.new.out.items c.put_natural_and-2.new.out.items c.put_natural_and-3.new.out.items
    a.vocab a.conds a.pairs two
    c.in_ok-put_natural_and.ensures c.in_ok-put_naturals.ensures c.in_ok-put_natural_and-2.ensures)
    c.put_natural_and-3.ensures

pub put_natural_and-requires : goal.put_natural_and-requires
put_natural_and-requires c = (and_parts (is_natural c.args.self.now.vocab) _ c.requires).0

pub put_naturals-requires : goal.put_naturals-requires
put_naturals-requires c =
    let a = c.args.self.now in
    let vocab = and_parts (is_natural a.vocab) _ c.requires in
    let five = and_parts (length a.conds == 5) _ vocab.1 in
    (and_parts (list_all is_natural a.conds) _ five.1).0
