use Rattle.adv_decompiler.proofs.WrittenActions as law
use Rattle.adv_decompiler.proofs.laws.written_is_meant.Goals as goal

pub returns : goal.returns
returns c = law.written_is_meant
