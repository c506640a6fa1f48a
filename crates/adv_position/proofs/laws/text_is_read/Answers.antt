use Rattle.adv_position.proofs.Whole.{text_is_read}
use Rattle.adv_position.proofs.laws.text_is_read.Goals as goal

pub returns : goal.returns
returns c = text_is_read c.spelled_number_is_read.ensures c.written_number_is_spelled.ensures
    c.start_fits.ensures
