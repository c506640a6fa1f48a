use Rattle.adv_check.specs.Sites.{sites}
use Rattle.adv_check.proofs.Faultless.{none_listed-where_none_wrong}
use Rattle.adv_check.proofs.laws.no_warnings_where_faultless.Goals as goal

pub returns : goal.returns
returns c db = none_listed-where_none_wrong (sites db)
