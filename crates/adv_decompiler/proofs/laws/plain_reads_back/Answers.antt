use Rattle.adv_decompiler.proofs.PlainWhole.{reads_back}
use Rattle.adv_decompiler.proofs.laws.plain_reads_back.Goals as goal

pub returns : goal.returns
returns c = λ db limits.
    reads_back db limits (record { number = c.written_number_is_spelled.ensures; string = c.written_string_is_spelled.ensures }) c.one_source.ensures
