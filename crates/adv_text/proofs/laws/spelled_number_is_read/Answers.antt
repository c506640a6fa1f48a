use Rattle.adv_text.proofs.Numbers.{spelled_number_is_read}
use Rattle.adv_text.proofs.laws.spelled_number_is_read.Goals as goal

pub returns : goal.returns
returns c = spelled_number_is_read
