-- The routines call no others.
use Rattle.std.proofs.Common.{refl}
use Rattle.inform_codes.specs.Grown.{body_of}
use Rattle.trans_words.specs.Laws.{ReaderCallsItself}

-- the routines of the word reader call no routine but their own
pub reader_calls_itself : ReaderCallsItself
unfolding body_of
reader_calls_itself db name h = rw (
  h.0,
  h.1.0,
  h.1.1.0,
  h.1.1.1.0,
  h.1.1.1.1.0,
  h.1.1.1.1.1.0,
  h.1.1.1.1.1.1.0,
  h.1.1.1.1.1.1.1.0,
) refl
