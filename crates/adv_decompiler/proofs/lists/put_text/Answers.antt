use Rattle.adv_decompiler.proofs.Feeding.{kept_text}
use Rattle.adv_decompiler.proofs.lists.put_text.Goals as goal

pub put_quoted-requires : goal.put_quoted-requires
put_quoted-requires c = rw c.bytes.ensures (kept_text c.args.text.now c.requires)
