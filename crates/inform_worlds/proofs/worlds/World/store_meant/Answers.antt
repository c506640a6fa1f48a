use Rattle.std.proofs.Common.{◌∙◌, ap, slice_set, nat_abs, to_z, of_z}
use Rattle.std.specs.Int.{w32}
use Rattle.std.proofs.lemmas.Int.{to_z-of_z}
use Rattle.inform_names.specs.Views.{names_of, directives_of}
use Rattle.inform_meaning.specs.Worlds.{kept}
use Rattle.inform_worlds.specs.Scopes.{scope_of}
use Rattle.inform_worlds.specs.Worlds.{globals_of}
use Rattle.inform_worlds.proofs.ByNumber.{stored_entry}
use Rattle.inform_worlds.proofs.worlds.World.store_meant.Goals as goal

pub returns-in-Some-entry-clause-stored : goal.returns-in-Some-entry-clause-stored
returns-in-Some-entry-clause-stored c = λ is.
    ap (λ arrays. record { globals = globals_of (names_of c.args.self.now.names.accepted.now) c.args.self.now.globals.items; arrays = arrays; scope = scope_of c.args.self.now.scope })
    (stored_entry (λ entries. entries.items) c.meanings_are_of_directives.ensures c.args.self.now.names.accepted.now.width (directives_of c.args.self.now.names.accepted.now)
    c.args.self.now.arrays.items c.args.name.now c.in-Some.at c.in-Some.ensures.means.0 (c.requires ∙ c.in-Some.ensures.means.1) c.in-Some.ensures.within
    c.index_mut.result.now c.put.new.entries (nat_abs c.args.index) (kept c.args.words c.args.value) c.index_mut.ensures.value
    (c.put.ensures
    ∙ ap (λ i. slice_set c.index_mut.result.now.items (nat_abs i) (to_z w32 (of_z w32 c.kept.result))) (to_z-of_z w32 c.args.index c.ranges.index)
    ∙ ap (slice_set c.index_mut.result.now.items (nat_abs c.args.index))
    (to_z-of_z w32 c.kept.result (record { sfits = c.kept.type_inv }) ∙ c.kept.ensures ∙ ap (kept c.args.words) (to_z-of_z w32 c.args.value c.ranges.value))))
