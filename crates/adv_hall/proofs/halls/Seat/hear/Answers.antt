use Rattle.std.proofs.lemmas.Result.{err_from_is_err_and}
use Rattle.adv_hall.specs.Seats.{said_by}
use Rattle.adv_hall.proofs.Speaking.{number_fails, text_fails, newline_fails}
use Rattle.adv_hall.proofs.halls.Seat.hear.Goals as goal

pub returns-in_err-say_number-clause-spoken : goal.returns-in_err-say_number-clause-spoken
returns-in_err-say_number-clause-spoken g c =
    let p = err_from_is_err_and c.from_residual.result c.from_residual.ensures.1 in
    let said = said_by c.args.self.now c.args.line.now in
    rw p.1 (number_fails c.args.k said p.0 c.in_err-say_number.ensures)

pub returns-in_err-ending-clause-spoken : goal.returns-in_err-ending-clause-spoken
returns-in_err-ending-clause-spoken g c =
    let p = err_from_is_err_and c.from_residual-in_err-ending.result
    c.from_residual-in_err-ending.ensures.1 in
    let said = said_by c.args.self.now c.args.line.now in
    rw p.1
    (text_fails c.args.k said p.0 c.in_ok-say_number.ensures c.in_err-ending.ensures.spoken)

pub returns-in_err-say-clause-spoken : goal.returns-in_err-say-clause-spoken
returns-in_err-say-clause-spoken g c =
    let p = err_from_is_err_and c.from_residual-in_err-say.result
    c.from_residual-in_err-say.ensures.1 in
    let said = said_by c.args.self.now c.args.line.now in
    rw p.1
    (newline_fails c.args.k said p.0 c.in_ok-say_number.ensures c.in_ok-ending.ensures.spoken
    c.in_err-say.ensures)
