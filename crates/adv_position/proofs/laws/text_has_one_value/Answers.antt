use Rattle.adv_position.proofs.Whole.{text_has_one_value}
use Rattle.adv_position.proofs.laws.text_has_one_value.Goals as goal

pub returns : goal.returns
returns c = text_has_one_value c.spelled_number_is_read.ensures c.written_number_is_spelled.ensures
    c.start_fits.ensures
