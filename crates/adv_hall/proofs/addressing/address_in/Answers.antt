use Rattle.std.proofs.Common.{◌∙◌, ◌+◌, ap, sym}
use Rattle.scott_rules.specs.Commands.{Span}
use Rattle.adv_hall.specs.Address.{number_among}
use Rattle.adv_hall.proofs.GoingOn.{number-range}
use Rattle.adv_hall.proofs.Addresses.{rest-again, address-found}
use Rattle.adv_hall.proofs.addressing.address_in.Goals as goal

pub returns-clause-value : goal.returns-clause-value
returns-clause-value c =
    let line = c.args.line.now in
    let span : Span = (c.in_ok-start.start, c.in_ok-start.length) in
    let first = sym (ap (λ w. w.first) c.split.ensures.value) ∙ c.in_ok-start.was in
    address-found c.args.count line span c.in_ok-session.session c.of.result first
    (c.in_ok-session.ensures ∙ ap (number_among c.args.count) c.word_at.ensures)
    (c.of.ensures
    ∙ rest-again line c.bytes-bytes.result.now (span.0 + span.1 + 1) c.min-rest.result
    c.bytes-bytes.ensures.value c.bytes-bytes.ensures.typed
    (rw (c.from.ensures, c.from-2.ensures) at c.min-rest.ensures))

pub returns-clause-range : goal.returns-clause-range
returns-clause-range c =
    let k = c.in_ok-session.session in
    number-range c.args.count c.word_at.result.now k (sym c.in_ok-session.ensures)
