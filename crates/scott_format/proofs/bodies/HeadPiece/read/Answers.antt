use Rattle.std.proofs.lemmas.Result.{err_from_is_err_and}
use Rattle.scott_format.proofs.BodySteps.{head_read, sizes_stop, numbers_stop, closing_stop}
use Rattle.scott_format.proofs.bodies.HeadPiece.read.Goals as goal

pub returns-in_err-sizes : goal.returns-in_err-sizes
returns-in_err-sizes c =
    let p = err_from_is_err_and c.from_residual.result c.from_residual.ensures.1 in
    rw (p.1, p.2) (sizes_stop c.args.scan.now c.in_err-sizes.field-0.0 c.in_err-sizes.ensures)

pub returns-in_err-numbers : goal.returns-in_err-numbers
returns-in_err-numbers c =
    let p = err_from_is_err_and c.from_residual-in_err-numbers.result c.from_residual-in_err-numbers.ensures.1 in
    rw (p.1, p.2) (numbers_stop c.args.scan.now c.read.new.scan c.in_ok-sizes.sizes c.in_err-numbers.field-0.0 c.in_ok-sizes.ensures c.in_err-numbers.ensures)

pub returns-in_err-closing : goal.returns-in_err-closing
returns-in_err-closing c =
    let p = err_from_is_err_and c.from_residual-in_err-closing.result c.from_residual-in_err-closing.ensures.1 in
    rw (p.1, p.2)
    (closing_stop c.args.scan.now c.read.new.scan c.in_ok-sizes.sizes c.read-2.new.scan c.in_ok-numbers.numbers c.in_err-closing.field-0.0 c.in_ok-sizes.ensures c.in_ok-numbers.ensures
    c.in_err-closing.ensures)

pub returns : goal.returns
returns c =
    head_read c.args.scan.now c.read.new.scan c.in_ok-sizes.sizes c.read-2.new.scan c.read-3.new.scan c.in_ok-numbers.numbers c.in_ok-closing.closing
    c.in_ok-sizes.ensures c.in_ok-numbers.ensures c.in_ok-closing.ensures
