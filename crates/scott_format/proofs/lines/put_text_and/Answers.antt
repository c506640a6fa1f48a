use Rattle.scott_format.proofs.CanonText.{kept}
use Rattle.scott_format.proofs.lines.put_text_and.Goals as goal

pub put_quoted-requires : goal.put_quoted-requires
put_quoted-requires c = rw c.bytes.ensures (kept c.args.text.now c.requires)
