use Rattle.std.proofs.Common.{◌≡◌, ◌∙◌, true, sym}
use Rattle.std.specs.Char.{is_ascii_graphic}
use Rattle.adv_io.proofs.lines.typed_byte.Goals as goal

pub returns-then-is_ascii_graphic : goal.returns-then-is_ascii_graphic
returns-then-is_ascii_graphic c =
    let graphic : is_ascii_graphic c.args.byte ≡ true = sym c.is_ascii_graphic.ensures.value ∙ c.if-is_ascii_graphic.true in
    rw graphic c.to_ascii_lowercase.ensures.value
