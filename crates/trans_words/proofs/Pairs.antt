-- Conditions of two parts.
use Rattle.std.specs.Prelude.{ℕ, Bool, true, false}
use Rattle.inform_tree.specs.Conditions.{Condition}
use Rattle.inform_meaning.specs.Worlds.{Program, Scope}
use Rattle.inform_logic.specs.Stages.{Stage}
use Rattle.inform_logic.specs.Leading.{Tests}
use Rattle.inform_logic.proofs.Conditions.{all_of, all_hold, one_holds, one_fails, any_of, none_holds, this_holds, this_fails}
use Rattle.trans_words.proofs.Trees.{both, either}

module _ {p : Program} {d : ℕ} {x y : Condition} {s : Scope} {w : Stage} where
  -- both have to hold: the first one holds, so the second one decides
  pub second_of_both : {t : Bool} → Tests p d x s w true w 0 → Tests p d y s w t w 0
      → Tests p d (both x y) s w t w 0
  second_of_both {t = true} first second = all_of (one_holds first (one_holds second all_hold))
  second_of_both {t = false} first second = all_of (one_holds first (one_fails second))

  -- the first one doesn't hold
  pub first_of_both : Tests p d x s w false w 0 → Tests p d (both x y) s w false w 0
  first_of_both first = all_of (one_fails first)

  -- one has to hold: the first one doesn't, so the second one decides
  pub second_of_either : {t : Bool} → Tests p d x s w false w 0 → Tests p d y s w t w 0
      → Tests p d (either x y) s w t w 0
  second_of_either {t = true} first second = any_of (this_fails first (this_holds second))
  second_of_either {t = false} first second =
      any_of (this_fails first (this_fails second none_holds))

  -- the first one holds
  pub first_of_either : Tests p d x s w true w 0 → Tests p d (either x y) s w true w 0
  first_of_either first = any_of (this_holds first)
