-- How a console in memory keeps what was said and taken.
use Rattle.std.proofs.Common.{◌≡◌, ℕ, suc, ◌<◌, List, [], ◌∷◌, ◌++◌, drop, length, refl, sym, ap, arith, Option, Some, None, slice_get}
use Rattle.std.proofs.lemmas.List.{length-append}
use Rattle.std.proofs.lemmas.Option.{slice_get_past, slice_get_read}
use Rattle.std.proofs.Math.Seq.{drop-cons}
use Rattle.std.specs.Option.{option_copied}
use Rattle.std.specs.Slice.{IsGetResult}
use denote.Ref.{Bor}
use Rattle.adv_io.specs.CallCount.{CallCount}
use Rattle.adv_io.specs.Recorded.{Recorded, with_taken, retold, AreMarks}
use Rattle.adv_io.proofs.Histories.{kept-takes}

-- what `get` gives, copied
pub option_copied-get : (xs : List ℕ) (i : ℕ) (r : Option (Bor ℕ)) → IsGetResult xs i i r → option_copied r ≡ slice_get xs i
option_copied-get xs i None is = sym (slice_get_past xs i is.3)
option_copied-get xs i (Some x) is = sym (slice_get_read xs (length xs) i x.now refl is.3.0 is.1)

-- what a clause sees of the fields
abbrev pub recorded : List ℕ → List ℕ → List (List ℕ) → ℕ → CallCount → Recorded
recorded said marks lines room calls = record { history = retold 0 said marks lines; left = drop (length marks) lines; room = room; calls = calls }

-- a mark at the end of the said bytes is the next line taken
pub recorded-push : (said marks : List ℕ) (lines : List (List ℕ)) (room : ℕ) (calls : CallCount) → AreMarks 0 marks (length said) → length marks < length lines → recorded said (marks ++ length said ∷ []) lines room calls ≡ with_taken (recorded said marks lines room calls) (drop (length marks) lines)
recorded-push said marks lines room calls ordered more =
    let longer : length (marks ++ length said ∷ []) ≡ suc (length marks) = simp length-append (omega arith) in
    let further : drop (length (marks ++ length said ∷ [])) lines ≡ drop (suc (length marks)) lines = ap (λ n. drop n lines) longer in
    rw (drop-cons lines (length marks) [])
    (λ i. record { history = kept-takes said marks lines ordered more [] i; left = further i; room = room; calls = calls })
