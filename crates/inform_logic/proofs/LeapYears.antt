-- Whether a year is a leap year: conditions within conditions.
use Rattle.std.proofs.Common.{◌≡◌, ◌∙◌, arith, ℕ, suc, ◌%◌, ◌<◌, pos, nat_eq, not, ◌&&◌, ◌||◌, if◌then◌else◌, Bool, true, false, [], ◌∷◌, codes, refl, ap}
use Rattle.inform_tree.specs.declared.conditions.Relation.TheVariants.{Eq, Ne}
use Rattle.inform_tree.specs.Values.{Number}
use Rattle.inform_tree.specs.Conditions as c
use Rattle.inform_meaning.specs.Worlds.{Program, scope_of}
use Rattle.inform_logic.specs.Stages.{Stage}
use Rattle.inform_logic.specs.Leading.{Tests, Does, by_return}
use Rattle.inform_logic.specs.Holding.{routine_at, Has}
use Rattle.inform_logic.specs.Worked.{year_rest, leap_test, is_leap, LeapYearsAreKnown}
use Rattle.inform_logic.proofs.Words.{small_number, small_remainder, eq_is, ne_is}
use Rattle.inform_logic.proofs.Values.{valued, number, local, product_of_two}
use Rattle.inform_logic.proofs.Conditions.{compare, all_of, all_hold, one_holds, one_fails, any_of, none_holds, this_holds, this_fails}
use Rattle.inform_logic.proofs.Statements.{end, next, returns, return_true, return_false, if_true, if_false}
use Rattle.inform_logic.proofs.Routines.{routine}

module _ (p : Program) (d : ℕ) (w : Stage) (y : ℕ) (has : Has p is_leap) where
  abbrev BodyGives : ℕ → Type 0
  BodyGives n = Does p (suc d) (codes "is_leap") (pos y ∷ []) w (pos n) w 2

  abbrev Holds : c.Condition → Bool → Type 0
  Holds x t = Tests p d x (scope_of (routine_at has.at is_leap) (pos y ∷ [])) w t w 0

  -- what is left of the year is 0, or it isn't
  none : (n : ℕ) → 0 < n → n < 32768 → {t : Bool} → nat_eq (y % n) 0 ≡ t
      → Holds (c.Compare Eq (year_rest n) (Number 0)) t
  none n positive small h = compare (product_of_two (local refl)
      (valued (small_number p.width small) number) (small_remainder p.width y n positive)) number
      (eq_is (y % n) 0 ∙ h)

  some : (n : ℕ) → 0 < n → n < 32768 → {t : Bool} → nat_eq (y % n) 0 ≡ t
      → Holds (c.Compare Ne (year_rest n) (Number 0)) (not t)
  some n positive small h = compare (product_of_two (local refl)
      (valued (small_number p.width small) number) (small_remainder p.width y n positive)) number
      (ne_is (y % n) 0 ∙ ap not h)

  leap : Holds leap_test true → BodyGives 1
  leap test = routine has (returns (if_true test (returns return_true))) by_return

  common : Holds leap_test false → BodyGives 0
  common test = routine has (next (if_false test end) (returns return_false)) by_return

  -- what the routine gives, by whether 4, 100 and 400 divide the year
  by : (a b c : Bool) → nat_eq (y % 4) 0 ≡ a → nat_eq (y % 100) 0 ≡ b → nat_eq (y % 400) 0 ≡ c
      → BodyGives (if (a && not b) || c then 1 else 0)
  by true false c h4 h100 h400 = leap (any_of (this_holds (all_of (one_holds
      (none 4 (omega arith) (omega arith) h4)
      (one_holds (some 100 (omega arith) (omega arith) h100) all_hold)))))
  by true true true h4 h100 h400 = leap (any_of (this_fails (all_of (one_holds
      (none 4 (omega arith) (omega arith) h4)
      (one_fails (some 100 (omega arith) (omega arith) h100))))
      (this_holds (none 400 (omega arith) (omega arith) h400))))
  by true true false h4 h100 h400 = common (any_of (this_fails (all_of (one_holds
      (none 4 (omega arith) (omega arith) h4)
      (one_fails (some 100 (omega arith) (omega arith) h100))))
      (this_fails (none 400 (omega arith) (omega arith) h400) none_holds)))
  by false b true h4 h100 h400 = leap (any_of (this_fails (all_of (one_fails
      (none 4 (omega arith) (omega arith) h4)))
      (this_holds (none 400 (omega arith) (omega arith) h400))))
  by false b false h4 h100 h400 = common (any_of (this_fails (all_of (one_fails
      (none 4 (omega arith) (omega arith) h4)))
      (this_fails (none 400 (omega arith) (omega arith) h400) none_holds)))

pub leap_years_are_known : LeapYearsAreKnown
leap_years_are_known p d w y has =
    by p d w y has (nat_eq (y % 4) 0) (nat_eq (y % 100) 0) (nat_eq (y % 400) 0) refl refl refl
