-- The shape of a game without lines that do anything.
use Rattle.std.proofs.Common.{◌≡◌, arith, ℕ, zero, suc, true, false, length, Some, None, refl}
use Rattle.std.specs.Fmt.{digits}
use Rattle.scott_types.specs.State.{start}
use Rattle.scott_rules.specs.Groups.{Group, groups}
use Rattle.scott_rules.specs.Games.{hill}
use Rattle.trans_specs.specs.ActionSpecs.{HasLineRoutine}
use Rattle.trans_specs.specs.Shaped.{IsIn, IsLine}
use Rattle.trans_specs.specs.Names.{line_name}
use Rattle.trans_specs.specs.Directives.{data_directives}
use Rattle.trans_specs.specs.Worked.{hill_directives, HillIsShaped, dead_line, DeadLineIsRefused}
use Rattle.trans_specs.proofs.Apart.{no_line, no_group}

none_acts : (k : ℕ) → ¬ (HasLineRoutine hill k)
none_acts zero h = cc_of h.not_zero where
  cc_of : true ≡ false → ⊥
  cc_of e = cc
none_acts (suc k) h = absurd (omega (arith, h.there))

none_is_head : (g : Group) → ¬ (IsIn g (groups hill))
none_is_head g h = none h.1 where
  none : None ≡ Some g → ⊥
  none e = cc

pub hill_is_shaped : HillIsShaped
hill_is_shaped = record {
  declared = refl;
  lines = λ k h. absurd (none_acts k h);
  groups_there = λ g h. absurd (none_is_head g h);
  lines_only = λ k r there is. absurd (no_line hill_directives k r there refl is);
  groups_only = λ k r there is. absurd (no_group hill_directives k r there refl is);
  called_once = λ g h. absurd (none_is_head g h);
  by_groups = λ k h r is calls. absurd (none_acts k h);
}

own_name : dead_line.name ≡ line_name 0
unfolding digits
own_name = refl

pub dead_line_is_refused : DeadLineIsRefused
dead_line_is_refused shaped = none_acts named.0 named.1 where
  named : IsLine hill dead_line
  named = shaped.lines_only 0 dead_line (length (data_directives hill (start hill)), refl) own_name
