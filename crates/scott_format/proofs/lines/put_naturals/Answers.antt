use Rattle.std.proofs.Common.{pos, get_or, refl, sym, arith}
use Rattle.std.proofs.lemmas.List.{append-nil}
use Rattle.std.proofs.lemmas.List.Sums.{AllPass-from_list_all}
use Rattle.scott_types.specs.Limits.{is_natural}
use Rattle.scott_format.specs.Canon.{number_and_space}
use Rattle.scott_format.proofs.Texts.{one_more, all_written}
use Rattle.scott_format.proofs.lines.put_naturals.Goals as goal

pub loop-number-init : goal.loop-number-init
loop-number-init c = sym (append-nil c.args.out.now.items)

pub put_natural_and-requires : goal.put_natural_and-requires
put_natural_and-requires c = AllPass-from_list_all is_natural c.args.numbers.now c.requires c.loop-number.number-index 0 c.loop-number-test.true

pub loop-number-preserved : goal.loop-number-preserved
loop-number-preserved c =
    let numbers = c.args.numbers.now in
    let i = c.loop-number.number-index in
    one_more (λ n. number_and_space (pos n)) c.args.out.now.items c.loop-number.out.items c.put_natural_and.new.out.items numbers i (get_or numbers i 0) 0
    (omega arith) refl c.loop-number.invariant c.in_ok-put_natural_and.ensures

pub returns : goal.returns
returns c =
    all_written (λ n. number_and_space (pos n)) c.args.out.now.items c.loop-number.out.items c.args.numbers.now c.loop-number.number-index
    c.loop-number.auto.number-index-end c.loop-number-test.false c.loop-number.invariant
