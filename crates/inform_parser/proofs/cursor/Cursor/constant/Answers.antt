use Rattle.std.proofs.Common.{◌∙◌, sym, refl}
use Rattle.inform_grammar.specs.ValueRules.{minus_number}
use Rattle.inform_parser.proofs.ValueSteps.{constant_as}
use Rattle.inform_parser.proofs.InTurn.{only, made, same_some, stops, stops_some, follows, follows_some, passed, there, other_some}
use Rattle.inform_parser.proofs.cursor.Cursor.constant.Goals as goal

pub returns-then-at_number : goal.returns-then-at_number
unfolding minus_number
returns-then-at_number c = same_some _ (constant_as _) (passed _ _ (sym c.at_number.ensures ∙ c.if-at_number.true) c.pass_number.ensures (made _ refl))

pub returns-then-at_character : goal.returns-then-at_character
unfolding minus_number
returns-then-at_character c = same_some _ (constant_as _) (other_some _ _ (sym c.at_number.ensures ∙ c.if-at_number.false) (passed _ _ (sym c.at_character.ensures ∙ c.if-at_character.true) c.pass_character.ensures (made _ refl)))

pub returns-in_err-name : goal.returns-in_err-name
unfolding minus_number
returns-in_err-name c = same_some _ (constant_as _) (other_some _ _ (sym c.at_number.ensures ∙ c.if-at_number.false) (other_some _ _ (sym c.at_character.ensures ∙ c.if-at_character.false) (there _ _ (sym c.at_name.ensures ∙ c.if-at_name.true) (stops_some _ c.from_residual.result c.from_residual.ensures.1 (only c.in_err-name.ensures)))))

pub returns-then-at_name : goal.returns-then-at_name
unfolding minus_number
returns-then-at_name c = same_some _ (constant_as _) (other_some _ _ (sym c.at_number.ensures ∙ c.if-at_number.false) (other_some _ _ (sym c.at_character.ensures ∙ c.if-at_character.false) (there _ _ (sym c.at_name.ensures ∙ c.if-at_name.true) (follows_some _ c.in_ok-name.ensures (made _ refl)))))

pub returns-in_err-expect : goal.returns-in_err-expect
unfolding minus_number
returns-in_err-expect c = same_some _ (constant_as _) (other_some _ _ (sym c.at_number.ensures ∙ c.if-at_number.false) (other_some _ _ (sym c.at_character.ensures ∙ c.if-at_character.false) (other_some _ _ (sym c.at_name.ensures ∙ c.if-at_name.false) (stops_some _ c.from_residual-in_err-expect.result c.from_residual-in_err-expect.ensures.1 (only c.in_err-expect.ensures)))))

pub returns-in_err-number : goal.returns-in_err-number
unfolding minus_number
returns-in_err-number c = same_some _ (constant_as _) (other_some _ _ (sym c.at_number.ensures ∙ c.if-at_number.false) (other_some _ _ (sym c.at_character.ensures ∙ c.if-at_character.false) (other_some _ _ (sym c.at_name.ensures ∙ c.if-at_name.false) (follows_some _ c.in_ok-expect.ensures (stops _ c.from_residual-in_err-number.result c.from_residual-in_err-number.ensures.1 (only c.in_err-number.ensures))))))

pub returns : goal.returns
unfolding minus_number
returns c = same_some _ (constant_as _) (other_some _ _ (sym c.at_number.ensures ∙ c.if-at_number.false) (other_some _ _ (sym c.at_character.ensures ∙ c.if-at_character.false) (other_some _ _ (sym c.at_name.ensures ∙ c.if-at_name.false) (follows_some _ c.in_ok-expect.ensures (follows _ (only c.in_ok-number.ensures) (made _ (refl)))))))
