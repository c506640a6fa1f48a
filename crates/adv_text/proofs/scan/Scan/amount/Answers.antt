use Rattle.std.proofs.Common.{◌≡◌, ◌∙◌, ◌+◌, ◌-◌, length, take, drop, get_or, Ok, to_z, of_z, w32, ap, sym, rules}
use Rattle.adv_text.specs.Spelling.{signed}
use Rattle.adv_text.specs.Reading.{Input, input, digits_at, amount_at}
use Rattle.adv_text.proofs.Turns.{place_further, after_piece, first_fits, digit_read, digit_too_many, digits_end, digits_stop, amount_end, amount_other, amount_first}
use Rattle.adv_text.proofs.scan.Scan.amount.Goals as goal
use Rattle.adv_text.proofs.scan.Scan.amount.Goals.{in_default-rest-2, in-len1-up-rest+then-not-is_ascii_digit-2}

pub loop-rest-preserved : goal.loop-rest-preserved
loop-rest-preserved c =
    let rest = c.loop-rest.rest.now in
    let there = c.in-len1-up-rest.len_at_least in
    let fits = rw c.greatest.ensures at c.if-amount-greatest.false in
    record {
      place = place_further c.loop-rest.at _ rest there c.loop-rest.invariant.place;
      fits = fits;
      same = digit_read c.args.negative c.args.start c.loop-rest.amount c.from-in-len1-up-rest.result c.loop-rest.at rest _ there
          (sym c.if-not-is_ascii_digit-2.ensures.value) c.from-in-len1-up-rest.ensures fits c.loop-rest.invariant.same;
    }

pub loop-rest-init : goal.loop-rest-init
loop-rest-init c =
    let rest = c.self.inside.rest.now in
    let there = c.in-len1-up.len_at_least in
    let digit = sym c.if-not-is_ascii_digit.ensures.value in
    record {
      place = place_further c.self.inside.at _ rest there (ap (λ (here : Input). here.at + length here.rest) c.self.view_is);
      fits = first_fits c.args.negative c.from-amount.result (get_or rest 0 0) digit c.from-amount.ensures;
      same =
          amount_first c.args.negative c.args.start c.from-amount.result c.self.inside.at rest there digit c.from-amount.ensures
          ∙ ap (λ (here : Input). amount_at c.args.negative c.args.start here.at here.rest) c.self.view_is;
    }

pub returns-in-Some : goal.returns-in-Some
returns-in-Some c =
    let negative = c.args.negative in
    let rest = c.self.inside.rest.now in
    let size = c.in-Some.size in
    let past = c.self.inside.at + size in
    let left = take (length rest - size) (drop size rest) in
    let whole = to_z w32 (of_z w32 c.signed.result) in
    let fits : whole ≡ c.signed.result = search rules in
    sym (ap (λ (here : Input). amount_at negative c.args.start here.at here.rest) c.self.view_is)
    ∙ c.in-Some.ensures.read negative c.args.start c.self.inside.at
    ∙ ap (λ text. Ok (signed negative c.in-Some.amount, input past text)) (sym (after_piece size rest))
    ∙ ap (λ number. Ok (number, input past left)) (sym (fits ∙ c.signed.ensures ∙ ap (signed negative) c.from.ensures))

pub returns-in_default-rest : goal.returns-in_default-rest
returns-in_default-rest c =
    sym (ap (λ (here : Input). amount_at c.args.negative c.args.start here.at here.rest) c.self.view_is)
    ∙ amount_end c.args.negative c.args.start c.self.inside.at c.self.inside.rest.now c.in_default-rest.len_below

pub returns-then-not-is_ascii_digit : goal.returns-then-not-is_ascii_digit
returns-then-not-is_ascii_digit c =
    sym (ap (λ (here : Input). amount_at c.args.negative c.args.start here.at here.rest) c.self.view_is)
    ∙ amount_other c.args.negative c.args.start c.self.inside.at c.self.inside.rest.now c.in-len1-up.len_at_least
    (sym c.is_ascii_digit.ensures.value ∙ c.if-not-is_ascii_digit.true)

pub returns-then-amount-greatest : goal.returns-then-amount-greatest
returns-then-amount-greatest c =
    digit_too_many c.args.negative c.args.start c.loop-rest.amount c.from-in-len1-up-rest.result c.loop-rest.at c.loop-rest.rest.now _ c.in-len1-up-rest.len_at_least
    (sym c.if-not-is_ascii_digit-2.ensures.value) c.from-in-len1-up-rest.ensures (rw c.greatest.ensures at c.if-amount-greatest.true) c.loop-rest.invariant.same

pub returns : goal.returns
returns c =
    let amount = c.loop-rest.amount in
    let rest = c.loop-rest.rest.now in
    let whole = to_z w32 (of_z w32 c.signed-2.result) in
    let fits : whole ≡ c.signed-2.result = search rules in
    let ends = elim c.if-rest-lt1.branch as (λ _. digits_at c.args.negative c.args.start amount c.loop-rest.at rest ≡ Ok (signed c.args.negative amount, input c.loop-rest.at rest)) [
      | in_default-rest-2 w ↦ digits_end c.args.negative c.args.start amount c.loop-rest.at rest w.in_default-rest-2.len_below
      | in-len1-up-rest+then-not-is_ascii_digit-2 w ↦ digits_stop c.args.negative c.args.start amount c.loop-rest.at rest w.in-len1-up-rest.len_at_least
          (sym w.is_ascii_digit-in-len1-up-rest.ensures.value ∙ w.if-not-is_ascii_digit-2.true)
    ] in
    sym c.loop-rest.invariant.same ∙ ends ∙ ap (λ number. Ok (number, input c.loop-rest.at rest)) (sym (fits ∙ c.signed-2.ensures))
