use Rattle.adv_coverage.proofs.Alike.{lines_count_alike}
use Rattle.adv_coverage.proofs.laws.lines_count_alike.Goals as goal

pub returns : goal.returns
returns c =
    lines_count_alike c.meanings_are_of_directives.ensures c.names_mean_their_directives.ensures
    c.lines_are_numbered.ensures c.counts_rise.ensures c.counts_stay.ensures
