use Rattle.adv_position.proofs.Whole.{bad_line_is_found}
use Rattle.adv_position.proofs.laws.bad_line_is_found.Goals as goal

pub returns : goal.returns
returns c = bad_line_is_found c.spelled_number_is_read.ensures c.written_number_is_spelled.ensures
    c.start_fits.ensures
