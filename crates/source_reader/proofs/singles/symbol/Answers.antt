use Rattle.std.proofs.Common.{sym, ◌∙◌, arith}
use Rattle.source_reader.proofs.EndMarks.{end_mark_read}
use Rattle.source_reader.proofs.singles.symbol.Goals as goal

pub returns-then-rest-byte : goal.returns-then-rest-byte
returns-then-rest-byte c =
    rw c.pass.ensures
    (end_mark_read c.args.byte c.args.scan.now (sym c.is_end_mark.ensures ∙ c.if-is_end_mark.true) (rw (← c.rest-rest.ensures.value) (omega arith))
    (rw (← c.rest-rest.ensures.value) c.if-rest-byte.true))
