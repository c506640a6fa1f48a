-- The steps of the loop that reads a list, for any kind of entry.
use Rattle.std.proofs.Common.{◌≡◌, ℕ, suc, ◌+◌, ◌-◌, ◌≤◌, ◌<◌, List, [], ◌∷◌, ◌++◌, Result, Ok, Err, refl, sym, ap, subst, ◌∙◌, append_assoc, arith}
use Rattle.std.proofs.lemmas.List.{append-nil}
use Rattle.adv_text.specs.Reading.{Input}
use Rattle.scott_format.specs.Faults.{Fault}
use Rattle.scott_format.specs.Plan.{Plan, done, ◌>>=◌, many, run}
use Rattle.scott_format.specs.Reading.{Stands}
use Rattle.scott_format.specs.declared.faults.FormatFault.{FormatFault}
use Rattle.scott_format.proofs.Plans.{and_then, run-ok, run-then, Stands-then, Stands-under}

-- the entries so far, and those that are read yet
abbrev pub with_prefix : {X : Type 0} → List X → Result (List X × Input) Fault → Result (List X × Input) Fault
with_prefix prefix (Ok x) = Ok (prefix ++ x.0, x.1)
with_prefix prefix (Err fault) = Err fault

regroup : {X : Type 0} (prefix : List X) (x : X) (r : Result (List X × Input) Fault)
    → with_prefix prefix (and_then r (λ xs after. Ok (x ∷ xs, after))) ≡ with_prefix (prefix ++ x ∷ []) r
regroup prefix x (Ok y) = ap (λ (xs : List _). Ok (xs, y.1)) (sym (append_assoc prefix (x ∷ []) y.0))
regroup prefix x (Err fault) = refl

pub begins : {X : Type 0} (r : Result (List X × Input) Fault) → with_prefix [] r ≡ r
begins (Ok x) = refl
begins (Err fault) = refl

module _ {X : Type 0} (p : ℕ → Plan X) where
  -- what follows an entry x
  abbrev others : ℕ → ℕ → X → Plan (List X)
  others k n x = many p (k + 1) n >>= λ xs. done (x ∷ xs)

  pub many-suc : (k n : ℕ) → many p k (suc n) ≡ (p k >>= others k n)
  unfolding many
  many-suc k n = refl

  many-zero : (k : ℕ) → many p k 0 ≡ done []
  unfolding many
  many-zero k = refl

  pub goes_on : (prefix : List X) (x : X) (k n : ℕ) (s after : Input) (total : Result (List X × Input) Fault) → k < n → run (p k) s ≡ Ok (x, after)
      → with_prefix prefix (run (many p k (n - k)) s) ≡ total → with_prefix (prefix ++ x ∷ []) (run (many p (k + 1) (n - (k + 1))) after) ≡ total
  goes_on prefix x k n s after total less e so_far =
      let count : n - k ≡ suc (n - (k + 1)) = omega arith in
      let m = n - (k + 1) in
      let one : run (many p k (n - k)) s ≡ and_then (run (many p (k + 1) m) after) (λ xs end. Ok (x ∷ xs, end)) =
      ap (λ (j : ℕ). run (many p k j) s) count ∙ ap (λ (q : Plan (List X)). run q s) (many-suc k m) ∙ run-ok (others k m) (p k) s after x e
      ∙ run-then (λ xs. done (x ∷ xs)) (many p (k + 1) m) after in
      sym (regroup prefix x (run (many p (k + 1) m) after)) ∙ sym (ap (with_prefix prefix) one) ∙ so_far

  pub stops : (prefix : List X) (k n : ℕ) (s : Input) (total : Result (List X × Input) Fault) (fault : FormatFault) → k < n → Stands fault (run (p k) s)
      → with_prefix prefix (run (many p k (n - k)) s) ≡ total → Stands fault total
  stops prefix k n s total fault less h so_far =
      let count : n - k ≡ suc (n - (k + 1)) = omega arith in
      let m = n - (k + 1) in
      let one : run (many p k (n - k)) s ≡ run (p k >>= others k m) s =
      ap (λ (j : ℕ). run (many p k j) s) count ∙ ap (λ (q : Plan (List X)). run q s) (many-suc k m) in
      subst (λ (r : Result (List X × Input) Fault). Stands fault r) (ap (with_prefix prefix) (sym one) ∙ so_far)
      (Stands-under (with_prefix prefix) (λ e. refl) fault (run (p k >>= others k m) s) (Stands-then (others k m) (p k) s fault h))

  pub ends : (prefix : List X) (k n : ℕ) (s : Input) (total : Result (List X × Input) Fault) → n ≤ k
      → with_prefix prefix (run (many p k (n - k)) s) ≡ total → total ≡ Ok (prefix, s)
  ends prefix k n s total le so_far =
      let count : n - k ≡ 0 = omega arith in
      let none : run (many p k (n - k)) s ≡ Ok ([], s) = ap (λ (j : ℕ). run (many p k j) s) count ∙ ap (λ (q : Plan (List X)). run q s) (many-zero k) in
      sym so_far ∙ ap (with_prefix prefix) none ∙ ap (λ (xs : List X). Ok (xs, s)) (append-nil prefix)
