use Rattle.std.proofs.Common.{◌∙◌, sym}
use Rattle.std.proofs.lemmas.List.{take_rest}
use Rattle.adv_text.proofs.PlainStrings.{plain_read}
use Rattle.adv_text.proofs.fast.plain_string.Goals as goal

pub returns-clause-value : goal.returns-clause-value
returns-clause-value c =
    plain_read c.args.bytes.now _ c.plain_length-size.result (take_rest c.args.bytes.now 2) c.if-bytes-lt2.false (sym c.is_whitespace.ensures ∙ c.if-not-is_whitespace.false) c.if-bytes-ne34.false
    (record { plain = c.plain_length-size.ensures.value; room = c.if-inside-size.false; quote = c.if-inside-size-ne34.false; single = c.if-inside-size-eq34.false; short = c.if-size-gt4096.false })
