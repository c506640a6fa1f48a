-- The worked examples hold by computing.
use Rattle.std.proofs.Common.{refl}
use Rattle.inform_meaning.proofs.Opened.{opened}
use Rattle.inform_entered.specs.Worked.{CallsEnter, EmptyBodiesAreNotEntered, EndsAreKept}

pub calls_enter : CallsEnter
unfolding opened
calls_enter = (refl, refl, refl, refl, refl)

pub empty_bodies_are_not_entered : EmptyBodiesAreNotEntered
unfolding opened
empty_bodies_are_not_entered = refl

pub ends_are_kept : EndsAreKept
unfolding opened
ends_are_kept = refl
