-- A span whose ends are brought within the text has the same bytes.
use Rattle.std.specs.Prelude.{min}
use Rattle.std.proofs.Common.{◌≡◌, ℕ, ◌-◌, ◌≤◌, ◌<◌, List, [], length, take, drop, sym, ap, ◌∙◌, inl, inr, arith, length-drop}
use Rattle.std.proofs.lemmas.Bool.{cases_lt}
use Rattle.std.proofs.lemmas.List.{drop_all, take_all}

-- how many bytes are taken counts only up to the end
same_take : (xs : List ℕ) (m n : ℕ) → length xs ≤ m → length xs ≤ n → take m xs ≡ take n xs
same_take xs m n few fewer = take_all m xs few ∙ sym (take_all n xs fewer)

begins_within : (bytes : List ℕ) (from to : ℕ) → from ≤ min to (length bytes) → take (min to (length bytes) - from) (drop from bytes) ≡ take (to - from) (drop from bytes)
begins_within bytes from to within =
    elim (cases_lt (length bytes) to) [
      | inl past ↦
          let rest : length (drop from bytes) ≡ length bytes - from = length-drop from bytes in
          same_take (drop from bytes) (min to (length bytes) - from) (to - from) (omega arith) (omega arith)
      | inr inside ↦ let same : min to (length bytes) ≡ to = omega arith in ap (λ (n : ℕ). take (n - from) (drop from bytes)) same
    ]

-- a span that begins after the end of the text has no bytes, and none when it is brought within it
begins_past : (bytes : List ℕ) (from to end : ℕ) → end ≡ min to (length bytes) → end < from → take (end - end) (drop end bytes) ≡ take (to - from) (drop from bytes)
begins_past bytes from to end is past =
    let none : end - end ≡ 0 = omega arith in
    let nothing : take (end - end) (drop end bytes) ≡ [] = ap (λ (n : ℕ). take n (drop end bytes)) none in
    elim (cases_lt (length bytes) to) [
      | inl more ↦
          let empty : drop from bytes ≡ [] = drop_all from bytes (omega arith) in
          nothing ∙ sym (ap (λ (xs : List ℕ). take (to - from) xs) empty ∙ take_all (to - from) [] (omega arith))
      | inr inside ↦
          let zero_bytes : to - from ≡ 0 = omega arith in
          nothing ∙ sym (ap (λ (n : ℕ). take n (drop from bytes)) zero_bytes)
    ]

-- a span has the same bytes when its end is brought within the text, and its start before that end
pub within_text : (bytes : List ℕ) (from to start end : ℕ) → end ≡ min to (length bytes) → start ≡ min from end
    → take (end - start) (drop start bytes) ≡ take (to - from) (drop from bytes)
within_text bytes from to start end ends starts =
    elim (cases_lt end from) [
      | inl past ↦
          let same : start ≡ end = omega arith in
          ap (λ (n : ℕ). take (end - n) (drop n bytes)) same ∙ begins_past bytes from to end ends past
      | inr within ↦
          let same : start ≡ from = omega arith in
          ap (λ (n : ℕ). take (end - n) (drop n bytes)) same ∙ ap (λ (n : ℕ). take (n - from) (drop from bytes)) ends
          ∙ begins_within bytes from to (omega arith)
    ]
