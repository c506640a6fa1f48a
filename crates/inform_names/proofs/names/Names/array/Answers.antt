use Rattle.std.proofs.Common.{◌≡◌, Some, rules}
use Rattle.std.specs.Prelude.{slice_get}
use Rattle.inform_tree.specs.Programs as d
use Rattle.inform_names.specs.Views.{directives_of}
use Rattle.inform_names.proofs.Faultless.{arrays_have_lengths}
use Rattle.inform_names.proofs.names.Names.array.Goals as goal

pub length-requires : goal.length-requires
length-requires c =
    let here : slice_get (directives_of c.args.self.now.accepted.now) c.in-Some.meaning.at
    ≡ Some (d.Array c.in-Array.field-0 c.in-Array.field-1 c.in-Array.entries.items) =
    search rules in
    arrays_have_lengths c.args.self.now.accepted.now.width
    (directives_of c.args.self.now.accepted.now) c.in-Some.meaning.at c.in-Array.field-0
    c.in-Array.field-1 c.in-Array.entries.items c.args.self.now.accepted.now.accepted here
