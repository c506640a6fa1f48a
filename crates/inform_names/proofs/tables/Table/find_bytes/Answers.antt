use Rattle.std.proofs.Common.{◌∙◌, ℕ, List, ap}
use Rattle.inform_names.specs.declared.meanings.Meaning.{Meaning}
use Rattle.inform_names.specs.Tables.{found_in}
use Rattle.inform_names.proofs.Lookups.{found_by_view}
use Rattle.inform_names.proofs.tables.Table.find_bytes.Goals as goal

pub returns : goal.returns
returns c = c.copied.ensures
    ∙ c.get.ensures.value
    ∙ found_by_view c.self.inside.meanings.entries c.args.name.now
    ∙ ap (λ (table : List (List ℕ × Meaning)). found_in table c.args.name.now) c.self.view_is
