use Rattle.std.proofs.Common.{◌∷◌, []}
use Rattle.std.proofs.lemmas.Bool.{and_parts}
use Rattle.std.proofs.lemmas.Result.{on_ok_weaker}
use Rattle.scott_types.specs.Limits.{is_number}
use Rattle.scott_format.proofs.CanonText.{same_in_32_bits}
use Rattle.scott_format.proofs.Texts.{numbers_written}
use Rattle.scott_format.proofs.writing.put_trailer.Goals as goal

pub returns : goal.returns
returns c =
    let trailer = c.args.trailer.now in
    let version = and_parts (is_number trailer.version) _ c.requires in
    let adventure = and_parts (is_number trailer.adventure) _ version.1 in
    let third = and_parts (is_number trailer.third) _ adventure.1 in
    on_ok_weaker c.put_number_and.result
    (numbers_written c.args.out.now.items c.put_numbers.new.out.items c.put_number_and.new.out.items (trailer.version ∷ trailer.adventure ∷ []) trailer.third
    (rw (same_in_32_bits trailer.version version.0, same_in_32_bits trailer.adventure adventure.0) at c.in_ok-put_numbers.ensures))
    (rw (same_in_32_bits trailer.third third.0) at c.put_number_and.ensures)
