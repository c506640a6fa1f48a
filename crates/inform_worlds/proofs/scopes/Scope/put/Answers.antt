use Rattle.std.proofs.Common.{◌∙◌, sym, ap, slice_set}
use Rattle.std.specs.Int.{w32}
use Rattle.std.proofs.lemmas.Int.{to_z-of_z}
use Rattle.inform_worlds.specs.Scopes.{table_of}
use Rattle.inform_worlds.proofs.Tables.{place_is, put_at}
use Rattle.inform_worlds.proofs.scopes.Scope.put.Goals as goal

pub returns-in-Some-clause-locals : goal.returns-in-Some-clause-locals
returns-in-Some-clause-locals c =
    ap (λ x. table_of c.args.self.now.names.now (slice_set c.args.self.now.locals c.in-Some.place x)) (to_z-of_z w32 c.args.value c.ranges.value)
    ∙ put_at c.args.name.now c.args.self.now.names.now c.args.self.now.locals c.in-Some.place c.args.value
    (sym (place_is c.args.name.now c.args.self.now.names.now) ∙ sym c.requires.place ∙ c.in-Some.is)
