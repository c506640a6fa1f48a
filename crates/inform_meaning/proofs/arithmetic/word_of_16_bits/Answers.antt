use Rattle.std.proofs.Common.{◌∙◌, ap, pos, to_z, nat_abs}
use Rattle.std.specs.Int.{int_wrap, int_rem_euclid, w16, w32, w64}
use Rattle.std.proofs.lemmas.Int.{to_z-of_z}
use Rattle.inform_meaning.proofs.arithmetic.word_of_16_bits.Goals as goal

-- src/arithmetic.rt:8:1
pub returns : goal.returns
unfolding int_wrap
returns c =
    to_z-of_z w32 c.from.result (record { sfits = c.from.type_inv })
    ∙ c.from.ensures
    ∙ to_z-of_z w16 c.cast_signed.result (record { sfits = c.cast_signed.type_inv })
    ∙ c.cast_signed.ensures
    ∙ ap (λ x. to_z w16 (nat_abs x))
    (to_z-of_z w64 c.rem_euclid.result (record { sfits = c.rem_euclid.type_inv }) ∙ c.rem_euclid.ensures.value
    ∙ ap (λ x. int_rem_euclid x (pos 65536)) (to_z-of_z w64 c.args.z c.ranges.z))
