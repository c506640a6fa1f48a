-- The steps of the loop that reads a list, for any kind of entry.
use Rattle.std.proofs.Common.{◌≡◌, ℕ, suc, ◌+◌, ◌-◌, ◌≤◌, ◌<◌, true, false, List, [], ◌∷◌, ◌++◌, Result, Ok, Err, refl, sym, ap, subst, ◌∙◌, append_assoc, arith}
use Rattle.std.proofs.lemmas.List.{append-nil}
use Rattle.adv_text.specs.Reading.{Input}
use Rattle.source_reader.specs.declared.tokens.Token.{Token}
use Rattle.source_reader.specs.declared.tree.At.{At}
use Rattle.source_reader.specs.declared.tree.Entries.{Entries}
use Rattle.source_reader.specs.declared.faults.SourceFault.{SourceFault}
use Rattle.source_reader.specs.Faults.{Fault, unexpected, Stands}
use Rattle.source_reader.specs.Plan.{Plan, done, refuse, ◌>>=◌, onward, run}
use Rattle.source_reader.specs.Singles.{here, is_mark, any_token}
use Rattle.source_reader.specs.Lists.{no_entries, with_first, entry_or_end, up_to}
use Rattle.source_reader.proofs.Plans.{run-ok, run-then, Stands-then, Stands-under}

-- the entries so far, and those that are read yet
abbrev pub with_prefix : {X : Type 0} → List (At X) → Result (Entries X × Input) Fault → Result (Entries X × Input) Fault
with_prefix prefix (Ok x) = Ok (record { entries = prefix ++ x.0.entries; end = x.0.end }, x.1)
with_prefix prefix (Err fault) = Err fault

regroup : {X : Type 0} (prefix : List (At X)) (x : At X) (r : Result (Entries X × Input) Fault)
    → with_prefix prefix (onward r (λ more after. Ok (with_first x more, after))) ≡ with_prefix (prefix ++ x ∷ []) r
regroup prefix x (Ok y) =
    ap (λ (xs : List (At _)). Ok (record { entries = xs; end = y.0.end }, y.1)) (sym (append_assoc prefix (x ∷ []) y.0.entries))
regroup prefix x (Err fault) = refl

pub begins : {X : Type 0} (r : Result (Entries X × Input) Fault) → with_prefix [] r ≡ r
begins (Ok x) = refl
begins (Err fault) = refl

module _ {X : Type 0} (p : ℕ → Token → Plan X) where
  -- what follows an entry that began with a token
  abbrev others : ℕ → At Token → X → Plan (Entries X)
  others n t x = up_to p n >>= λ more. done (with_first (here t.at x) more)

  up_to-suc : (n : ℕ) → up_to p (suc n) ≡ (any_token >>= entry_or_end p (up_to p n))
  unfolding up_to
  up_to-suc n = refl

  up_to-zero : up_to p 0 ≡ refuse 0
  unfolding up_to
  up_to-zero = refl

  -- reading the list is reading a token, and then what it begins
  one : (k m : ℕ) (s : Input) → k < m → run (up_to p (m - k)) s ≡ run (any_token >>= entry_or_end p (up_to p (m - (k + 1)))) s
  one k m s less =
      let count : m - k ≡ suc (m - (k + 1)) = omega arith in
      ap (λ (j : ℕ). run (up_to p j) s) count ∙ ap (λ (q : Plan (Entries X)). run q s) (up_to-suc (m - (k + 1)))

  -- the same, where the token was read
  after_token : (k m : ℕ) (s after : Input) (t : At Token) → k < m → run any_token s ≡ Ok (t, after)
      → run (up_to p (m - k)) s ≡ run (entry_or_end p (up_to p (m - (k + 1))) t) after
  after_token k m s after t less e = one k m s less ∙ run-ok (entry_or_end p (up_to p (m - (k + 1)))) any_token s after t e

  closed : (others : Plan (Entries X)) (t : At Token) → is_mark 125 t.what ≡ true → entry_or_end p others t ≡ done (no_entries t.at)
  closed others t e = rw e refl

  opened : (others : Plan (Entries X)) (t : At Token) → is_mark 125 t.what ≡ false
      → entry_or_end p others t ≡ (p t.at t.what >>= λ x. others >>= λ more. done (with_first (here t.at x) more))
  opened others t e = rw e refl

  module _ (prefix : List (At X)) (k m : ℕ) (s : Input) (total : Result (Entries X × Input) Fault) (so_far : with_prefix prefix (run (up_to p (m - k)) s) ≡ total) where
    pub stops_at_token : (fault : SourceFault) → k < m → Stands fault (run any_token s) → Stands fault total
    stops_at_token fault less h =
        let f = entry_or_end p (up_to p (m - (k + 1))) in
        subst (λ (r : Result (Entries X × Input) Fault). Stands fault r) (ap (with_prefix prefix) (sym (one k m s less)) ∙ so_far)
        (Stands-under (with_prefix prefix) (λ e. refl) fault (run (any_token >>= f) s) (Stands-then f any_token s fault h))

    pub ends : (t : At Token) (after : Input) → k < m → run any_token s ≡ Ok (t, after) → is_mark 125 t.what ≡ true
        → total ≡ Ok (record { entries = prefix; end = t.at }, after)
    ends t after less e mark =
        let others = up_to p (m - (k + 1)) in
        let read : run (up_to p (m - k)) s ≡ Ok (no_entries t.at, after) =
        after_token k m s after t less e ∙ ap (λ (q : Plan (Entries X)). run q after) (closed others t mark) in
        sym so_far ∙ ap (with_prefix prefix) read ∙ ap (λ (xs : List (At X)). Ok (record { entries = xs; end = t.at }, after)) (append-nil prefix)

    -- what is read, where the token begins an entry
    entry : (t : At Token) (after : Input) → k < m → run any_token s ≡ Ok (t, after) → is_mark 125 t.what ≡ false
        → run (up_to p (m - k)) s ≡ run (p t.at t.what >>= others (m - (k + 1)) t) after
    entry t after less e mark =
        after_token k m s after t less e ∙ ap (λ (q : Plan (Entries X)). run q after) (opened (up_to p (m - (k + 1))) t mark)

    pub stops_in_entry : (t : At Token) (after : Input) (fault : SourceFault) → k < m → run any_token s ≡ Ok (t, after) → is_mark 125 t.what ≡ false
        → Stands fault (run (p t.at t.what) after) → Stands fault total
    stops_in_entry t after fault less e mark h =
        let f = others (m - (k + 1)) t in
        subst (λ (r : Result (Entries X × Input) Fault). Stands fault r) (ap (with_prefix prefix) (sym (entry t after less e mark)) ∙ so_far)
        (Stands-under (with_prefix prefix) (λ e. refl) fault (run (p t.at t.what >>= f) after) (Stands-then f (p t.at t.what) after fault h))

    pub goes_on : (t : At Token) (after end : Input) (x : X) → k < m → run any_token s ≡ Ok (t, after) → is_mark 125 t.what ≡ false
        → run (p t.at t.what) after ≡ Ok (x, end)
        → with_prefix (prefix ++ here t.at x ∷ []) (run (up_to p (m - (k + 1))) end) ≡ total
    goes_on t after end x less e mark h =
        let n = m - (k + 1) in
        let read : run (up_to p (m - k)) s ≡ onward (run (up_to p n) end) (λ more after. Ok (with_first (here t.at x) more, after)) =
        entry t after less e mark ∙ run-ok (others n t) (p t.at t.what) after end x h
        ∙ run-then (λ more. done (with_first (here t.at x) more)) (up_to p n) end in
        sym (regroup prefix (here t.at x) (run (up_to p n) end)) ∙ sym (ap (with_prefix prefix) read) ∙ so_far

    pub is_exhausted : m ≤ k → total ≡ Err (unexpected 0)
    is_exhausted le =
        let count : m - k ≡ 0 = omega arith in
        let none : run (up_to p (m - k)) s ≡ Err (unexpected 0) =
        ap (λ (j : ℕ). run (up_to p j) s) count ∙ ap (λ (q : Plan (Entries X)). run q s) up_to-zero in
        sym so_far ∙ ap (with_prefix prefix) none
