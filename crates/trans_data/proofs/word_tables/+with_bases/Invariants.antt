use Rattle.std.proofs.Common.{length}
use Rattle.trans_data.proofs.word_tables.+with_bases.Given as goal

abbrev pub decreases-with_bases : goal.decreases-with_bases
decreases-with_bases l = length l.words.now
