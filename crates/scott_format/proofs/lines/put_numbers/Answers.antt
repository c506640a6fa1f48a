use Rattle.std.proofs.Common.{pos, get_or, sym, to_z, of_z, w32, arith, rules}
use Rattle.std.proofs.lemmas.List.{append-nil}
use Rattle.scott_format.specs.Canon.{number_and_space}
use Rattle.scott_format.proofs.Texts.{one_more, all_written}
use Rattle.scott_format.proofs.lines.put_numbers.Goals as goal

pub loop-number-init : goal.loop-number-init
loop-number-init c = sym (append-nil c.args.out.now.items)

pub loop-number-preserved : goal.loop-number-preserved
loop-number-preserved c =
    let numbers = c.args.numbers.now in
    let i = c.loop-number.number-index in
    let number = to_z w32 (of_z w32 (get_or numbers i (pos 0))) in
    one_more number_and_space c.args.out.now.items c.loop-number.out.items c.put_number_and.new.out.items numbers i number (pos 0)
    (omega arith) (search rules) c.loop-number.invariant c.in_ok-put_number_and.ensures

pub returns : goal.returns
returns c =
    all_written number_and_space c.args.out.now.items c.loop-number.out.items c.args.numbers.now c.loop-number.number-index
    c.loop-number.auto.number-index-end c.loop-number-test.false c.loop-number.invariant
