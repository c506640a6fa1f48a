use Rattle.std.proofs.Common.{inl, inr, refl}
use Rattle.scott_types.proofs.conditions.Condition.names.Goals as goal

pub returns-in-At : goal.returns-in-At
returns-in-At c = elim c.in-At.is [
  | inl is ↦ rw is refl
  | inr is ↦ rw is refl
]
