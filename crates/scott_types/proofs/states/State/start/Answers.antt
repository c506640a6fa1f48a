use Rattle.std.proofs.Common.{◌≡◌, ◌∙◌, ap, map, to_z, of_z, w32, rules}
use Rattle.scott_types.specs.Database.{database_of, place_of_item}
use Rattle.scott_types.specs.State.{start as starting}
use Rattle.scott_types.proofs.Starting.{Fits-same, first-start}
use Rattle.scott_types.proofs.states.State.start.Goals as goal

pub returns : goal.returns
returns c =
    let parts = c.parts-parts.result.now in
    let light : to_z w32 (of_z w32 parts.header.light) ≡ parts.header.light = search rules in
    let places = c.start_places.ensures ∙ ap (map place_of_item) c.deref.ensures.value in
    let same = first-start (database_of parts) _ _ light places ∙ ap starting c.parts-parts.ensures.value in
    record {
      value = same;
      fits = Fits-same c.args.db.now _ same c.parts-parts.ensures.kept;
    }
