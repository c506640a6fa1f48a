use Rattle.std.proofs.Common.{◌∙◌, sym}
use Rattle.std.proofs.lemmas.List.{take_rest}
use Rattle.adv_text.proofs.ShortNumbers.{read_after}
use Rattle.adv_text.proofs.fast.short_number.Goals as goal

pub returns-clause-value : goal.returns-clause-value
returns-clause-value c at =
    read_after c.args.bytes.now _ at c.in_ok-amount.amount c.in_ok-amount.size (take_rest c.args.bytes.now 1) c.in-len1-up.len_at_least (sym c.is_whitespace.ensures ∙ c.if-not-is_whitespace.false)
    c.in_ok-amount.ensures.digit c.in_ok-amount.ensures.small c.in_ok-amount.ensures.read
