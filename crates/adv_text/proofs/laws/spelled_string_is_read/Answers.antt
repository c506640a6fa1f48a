use Rattle.adv_text.proofs.Strings.{spelled_string_is_read}
use Rattle.adv_text.proofs.laws.spelled_string_is_read.Goals as goal

pub returns : goal.returns
returns c = spelled_string_is_read
