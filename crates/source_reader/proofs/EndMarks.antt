-- A mark that stands right after what it ends is read at once.
use Rattle.std.proofs.Common.{◌≡◌, ℕ, ◌+◌, ◌<◌, ◌||◌, ◌==◌, Bool, true, false, List, [], ◌∷◌, length, get_or, drop, Result, Ok, refl, ap, sym, subst, arith, ◌⊎◌, inl, inr}
use Rattle.std.proofs.lemmas.Bool.{eqb-true}
use Rattle.adv_text.specs.Reading.{Input, input}
use Rattle.source_reader.specs.Faults.{Fault}
use Rattle.source_reader.specs.Plan.{run}
use Rattle.source_reader.specs.Singles.{is_end_mark, any_token, symbol}
use Rattle.source_reader.specs.Tokens.{token_at}

abbrev IsRead : ℕ → ℕ → List ℕ → Type 0
IsRead b at bytes = run (symbol b) (input at (b ∷ bytes)) ≡ Ok (tt, input (at + 1) bytes)

abbrev reached : List ℕ → ℕ → Result (Unit {0} × Input) Fault
reached bytes at = Ok (tt, input at bytes)

semicolon : (at : ℕ) (bytes : List ℕ) → IsRead 59 at bytes
unfolding any_token symbol token_at
semicolon at bytes = ap (reached bytes) (omega arith)

comma : (at : ℕ) (bytes : List ℕ) → IsRead 44 at bytes
unfolding any_token symbol token_at
comma at bytes = ap (reached bytes) (omega arith)

bracket : (at : ℕ) (bytes : List ℕ) → IsRead 41 at bytes
unfolding any_token symbol token_at
bracket at bytes = ap (reached bytes) (omega arith)

one_of : (x y : Bool) → (x || y) ≡ true → (x ≡ true) ⊎ (y ≡ true)
one_of true y h = inl refl
one_of false y h = inr h

by_mark : (b at : ℕ) (bytes : List ℕ) → is_end_mark b ≡ true → IsRead b at bytes
by_mark b at bytes mark =
    elim (one_of (b == 59) (b == 44 || b == 41) mark) [
      | inl e ↦ subst (λ (c : ℕ). IsRead c at bytes) (sym (eqb-true b 59 e)) (semicolon at bytes)
      | inr h ↦
          elim (one_of (b == 44) (b == 41) h) [
            | inl e ↦ subst (λ (c : ℕ). IsRead c at bytes) (sym (eqb-true b 44 e)) (comma at bytes)
            | inr e ↦ subst (λ (c : ℕ). IsRead c at bytes) (sym (eqb-true b 41 e)) (bracket at bytes)
          ]
    ]

pub end_mark_read : (b : ℕ) (s : Input) → is_end_mark b ≡ true → 0 < length s.rest → get_or s.rest 0 0 ≡ b → run (symbol b) s ≡ Ok (tt, input (s.at + 1) (drop 1 s.rest))
end_mark_read b s mark some first = by s.rest some first
  where
    by : (rest : List ℕ) → 0 < length rest → get_or rest 0 0 ≡ b → run (symbol b) (input s.at rest) ≡ Ok (tt, input (s.at + 1) (drop 1 rest))
    by [] some first = absurd (omega arith)
    by (c ∷ bytes) some first =
        subst (λ (x : ℕ). run (symbol b) (input s.at (x ∷ bytes)) ≡ Ok (tt, input (s.at + 1) bytes)) (sym first) (by_mark b s.at bytes mark)
