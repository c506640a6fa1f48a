-- The exits of a room, one after another.
use Rattle.std.proofs.Common.{◌≡◌, ℕ, ◌+◌, ◌≤◌, ◌<◌, Bool, ℤ, List, [], ◌∷◌, ◌++◌, take, drop, length, get_or, Result, Ok, sym, ap, ◌∙◌, add-one}
use Rattle.std.specs.Prelude.{slice_set}
use Rattle.std.proofs.Math.Seq.{drop-cons}
use Rattle.std.proofs.lemmas.List.{take_more_set, take_all, drop_all}
use Rattle.source_reader.specs.declared.tree.At.{At}
use Rattle.source_reader.specs.declared.tree.Ref.{Ref}
use Rattle.adv_compiler.specs.Faults.{Fault, ◌>>=◌}
use Rattle.adv_compiler.specs.Known.{Known}
use Rattle.adv_compiler.specs.Values.{value_of}
use Rattle.adv_compiler.specs.Entries.{exits}

-- one exit more
pub exits_further : (known : Known) (ways : List ℤ) (refs : List (At Ref)) (k : ℕ) (d : At Ref) (z : ℤ) (total : Result (List ℤ) Fault)
    → k < length refs → k < length ways → value_of known.rooms (get_or refs k d).at (get_or refs k d).what ≡ Ok z
    → exits known (take k ways) (drop k refs) ≡ total → exits known (take (k + 1) (slice_set ways k z)) (drop (k + 1) refs) ≡ total
exits_further known ways refs k d z total there room value so_far =
    let r : At Ref = get_or refs k d in
    let first : drop k refs ≡ r ∷ drop (k + 1) refs = drop-cons refs k d there ∙ ap (λ (j : ℕ). r ∷ drop j refs) (sym (add-one k)) in
    let step : exits known (take k ways) (drop k refs) ≡ exits known (take k ways ++ z ∷ []) (drop (k + 1) refs) =
    ap (exits known (take k ways)) first ∙ ap (λ (v : Result ℤ Fault). v >>= λ z. exits known (take k ways ++ z ∷ []) (drop (k + 1) refs)) value in
    ap (λ (ws : List ℤ). exits known ws (drop (k + 1) refs)) (take_more_set ways k z room) ∙ sym step ∙ so_far

-- after the last exit they are all
pub exits_end : (known : Known) (ways : List ℤ) (refs : List (At Ref)) (k : ℕ) (total : Result (List ℤ) Fault)
    → length refs ≤ k → length ways ≤ k → exits known (take k ways) (drop k refs) ≡ total → total ≡ Ok ways
exits_end known ways refs k total past full so_far =
    sym so_far ∙ ap (λ (rs : List (At Ref)). exits known (take k ways) rs) (drop_all k refs past)
    ∙ ap (λ (ws : List ℤ). Ok ws) (take_all k ways full)
