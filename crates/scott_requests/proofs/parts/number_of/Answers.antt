use Rattle.std.proofs.Common.{◌≡◌, ◌∙◌, true, sym}
use Rattle.std.specs.List.{list_all}
use Rattle.std.specs.Char.{is_ascii_digit}
use Rattle.scott_requests.proofs.Numbers.{number-parsed}
use Rattle.scott_requests.proofs.parts.number_of.Goals as goal

pub returns-then-are_digits : goal.returns-then-are_digits
returns-then-are_digits c =
    let all : list_all is_ascii_digit c.args.digits.now ≡ true = sym c.are_digits.ensures
    ∙ c.if-are_digits.true in
    c.ok.ensures.value ∙ number-parsed c.args.digits.now c.parse.result c.parse.ensures.value.0 all
