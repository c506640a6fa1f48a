use Rattle.std.proofs.Common.{length}
use Rattle.trans_data.proofs.messages.+messages.Given as goal

abbrev pub decreases-messages : goal.decreases-messages
decreases-messages l = length l.texts.now
