-- The bytes of a name, wherever they stand.
use Rattle.std.specs.Prelude.{ℕ, List, take}
use Rattle.inform_tree.specs.declared.names.Kept.{Kept}
use Rattle.inform_tree.specs.declared.names.Kept.TheVariants as k

abbrev pub bytes_kept : Kept → List ℕ
bytes_kept (k.Short x) = take x.count x.bytes
bytes_kept (k.Long x) = x.bytes.items
