-- How many routines are open, told by the calls.
use Rattle.std.proofs.Common.{◌≡◌, ◌<◌, ◌+◌, List, [], ◌∷◌, refl, arith}
use Rattle.inform_meaning.specs.Frames.{Frame, Begins, Wants, Decides, Looping, Calling, Main, Over}
use Rattle.inform_moves.specs.Heights.{calls_open}
use Rattle.inform_entered.specs.Entered as e
use Rattle.inform_entered.specs.Entered.{open_routines}

same_calls : (fs : List Frame) → e.calls_open fs ≡ calls_open fs
same_calls [] = refl
same_calls (Begins x ∷ fs) = let rest = same_calls fs in omega (arith, rest)
same_calls (Wants x ∷ fs) = let rest = same_calls fs in omega (arith, rest)
same_calls (Decides x ∷ fs) = let rest = same_calls fs in omega (arith, rest)
same_calls (Looping x ∷ fs) = let rest = same_calls fs in omega (arith, rest)
same_calls (Calling x ∷ fs) = let rest = same_calls fs in omega (arith, rest)
same_calls (Main ∷ fs) = let rest = same_calls fs in omega (arith, rest)
same_calls (Over x ∷ fs) = let rest = same_calls fs in omega (arith, rest)

-- where a routine is open, `main` is and each call
pub some_open : (fs : List Frame) → 0 < open_routines fs → calls_open fs + 1 ≡ open_routines fs
some_open [] some = absurd (omega (arith, some))
some_open (Begins x ∷ fs) some = let all = same_calls (Begins x ∷ fs) in omega (arith, all)
some_open (Wants x ∷ fs) some = let all = same_calls (Wants x ∷ fs) in omega (arith, all)
some_open (Decides x ∷ fs) some = let all = same_calls (Decides x ∷ fs) in omega (arith, all)
some_open (Looping x ∷ fs) some = let all = same_calls (Looping x ∷ fs) in omega (arith, all)
some_open (Calling x ∷ fs) some = let all = same_calls (Calling x ∷ fs) in omega (arith, all)
some_open (Main ∷ fs) some = let all = same_calls (Main ∷ fs) in omega (arith, all)
some_open (Over x ∷ fs) some = absurd (omega (arith, some))
