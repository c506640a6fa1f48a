-- The worked examples hold by computing.
use Rattle.std.proofs.Common.{refl}
use Rattle.inform_grammar.specs.Worked.{ChainsRead, EntriesRead, ElseIsNearest, BracketsRead, CasesRead, ItemsRead, LoopsRead, DirectivesRead, ConditionsAreNoValues, MixedJudged, EndsJudged, RoomJudged, LimitJudged}
use Rattle.inform_grammar.proofs.Opened.{opened}

pub chains_read : ChainsRead
unfolding opened
chains_read = refl

pub entries_read : EntriesRead
unfolding opened
entries_read = (refl, refl)

pub else_is_nearest : ElseIsNearest
unfolding opened
else_is_nearest = refl

pub brackets_read : BracketsRead
unfolding opened
brackets_read = (refl, refl)

pub cases_read : CasesRead
unfolding opened
cases_read = refl

pub items_read : ItemsRead
unfolding opened
items_read = refl

pub loops_read : LoopsRead
unfolding opened
loops_read = (refl, refl)

pub directives_read : DirectivesRead
unfolding opened
directives_read = (refl, refl)

pub conditions_are_no_values : ConditionsAreNoValues
unfolding opened
conditions_are_no_values = (refl, refl)

pub mixed_judged : MixedJudged
unfolding opened
mixed_judged = (refl, refl, refl)

pub ends_judged : EndsJudged
unfolding opened
ends_judged = (refl, refl)

pub room_judged : RoomJudged
unfolding opened
room_judged = (refl, refl)

pub limit_judged : LimitJudged
unfolding opened
limit_judged = (refl, refl)
