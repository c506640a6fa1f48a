use Rattle.std.proofs.lemmas.Result.{err_from_is_err_and}
use Rattle.scott_format.proofs.BodySteps.{trailer_read, trailer_stops}
use Rattle.scott_format.proofs.bodies.Body.close.Goals as goal

pub returns-in_err-trailer : goal.returns-in_err-trailer
returns-in_err-trailer c =
    let p = err_from_is_err_and c.from_residual.result c.from_residual.ensures.1 in
    rw (p.1, p.2) (trailer_stops c.args.self c.args.scan.now c.in_err-trailer.field-0.0 c.requires c.in_err-trailer.ensures)

pub returns : goal.returns
returns c =
    rw c.header_of.ensures
    (trailer_read c.args.self c.args.scan.now c.last_numbers.new.scan c.in_ok-trailer.trailer c.requires c.in_ok-trailer.ensures)
