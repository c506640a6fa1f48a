-- The switch that says where a place is.
use Rattle.std.proofs.Common.{◌≡◌, arith, suc, pos, decimal, nat_eq, nat_le, ◌&&◌, if◌then◌else◌, Bool, true, false, [], ◌∷◌, ◌++◌, codes, refl, subst}
use Rattle.inform_logic.specs.Stages.{said}
use Rattle.inform_logic.specs.Leading.{Does, at_end}
use Rattle.inform_logic.specs.Worked.{PlaceIsSaid}
use Rattle.inform_logic.proofs.Choices.{one_number, one_range}
use Rattle.inform_logic.proofs.Values.{local}
use Rattle.inform_logic.proofs.Printing.{print_nothing, print_text, print_number, said_twice}
use Rattle.inform_logic.proofs.Statements.{end, next, print, switch, this_case, later_case, default}
use Rattle.inform_logic.proofs.Routines.{routine}

-- the routine says nowhere of place 0, the room of a place up to 9, and that any other is held
pub place_is_said : PlaceIsSaid
place_is_said p d w n has = by (nat_eq n 0) (nat_le n 9) refl refl where
  within : (few : Bool) → nat_eq n 0 ≡ false → nat_le n 9 ≡ few → nat_le 1 n && nat_le n 9 ≡ few
  within few is h = grind (arith, is, h)

  -- what is said, by whether the place is 0 and whether it is at most 9
  by : (zero few : Bool) → nat_eq n 0 ≡ zero → nat_le n 9 ≡ few → Does p (suc d) (codes "say_place")
      (pos n ∷ []) w (pos 1)
      (said (if zero then codes "nowhere" else
      if few then codes "room " ++ decimal n else codes "held") w) 2
  by true few is h = routine has (next (switch (local refl)
      (this_case (one_number (omega arith) is)
      (next (print (print_text print_nothing)) end))) end) at_end
  by false true is h = subst (λ w'. Does p (suc d) (codes "say_place") (pos n ∷ []) w (pos 1) w' 2)
      (said_twice (codes "room ") (decimal n) w) (routine has (next (switch (local refl)
      (later_case (one_number (omega arith) is)
      (this_case (one_range (omega arith) (omega arith) (within true is h))
      (next (print (print_text (print_number (local refl) print_nothing))) end)))) end) at_end)
  by false false is h = routine has (next (switch (local refl)
      (later_case (one_number (omega arith) is)
      (later_case (one_range (omega arith) (omega arith) (within false is h))
      (default (next (print (print_text print_nothing)) end))))) end) at_end
