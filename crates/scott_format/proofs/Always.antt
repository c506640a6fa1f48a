-- What holds of each value that a plan can give.
use Rattle.std.proofs.Common.{◌≡◌, ℕ, zero, suc, ◌+◌, Bool, true, leb, inl, inr, List, [], ◌∷◌, length, Option, Some, None, ℤ, refl, ap, subst}
use Rattle.std.specs.Prelude.{IfSome, IsTrue}
use Rattle.std.specs.List.{list_all}
use Rattle.std.proofs.lemmas.Bool.{and_parts, and_from}
use Rattle.adv_text.specs.Laws.{Fits32, is_byte, AreBytes}
use Rattle.adv_io.specs.Text.{is_text_byte as is_kept_byte}
use Rattle.scott_types.specs.Limits.{is_file_text, is_file_byte}
use Rattle.scott_format.specs.Plan.{Plan, done, check, number, quoted, perhaps, ◌>>=◌, many, Spelled}
use Rattle.scott_format.specs.TextLaws.{TextLaws}

-- P holds of each value, whatever numbers and texts are read
abbrev pub Always : {X : Type 0} → Plan X → (X → Type 0) → Type 0
Always (done x) P = P x
Always (check test fault p) P = IsTrue test → Always p P
Always (number next) P = (z : ℤ) → Fits32 z → Always (next z) P
Always (quoted next) P = (t : List ℕ) → IsTrue (is_file_text t) → Always (next t) P
Always (perhaps next) P = (o : Option ℤ) → IfSome o Fits32 → Always (next o) P

pub Always-then : {X Y : Type 0} (Q : X → Type 0) (P : Y → Type 0) (f : X → Plan Y) (p : Plan X)
    → Always p Q → ((x : X) → Q x → Always (f x) P) → Always (p >>= f) P
Always-then Q P f (done x) h next = next x h
Always-then Q P f (check test fault p) h next = λ e. Always-then Q P f p (h e) next
Always-then Q P f (number p) h next = λ z fits. Always-then Q P f (p z) (h z fits) next
Always-then Q P f (quoted p) h next = λ t fits. Always-then Q P f (p t) (h t fits) next
Always-then Q P f (perhaps p) h next = λ o fits. Always-then Q P f (p o) (h o fits) next

-- each of a list passes the test, and there are so many
abbrev pub AreAll : {X : Type 0} → (X → Bool) → ℕ → List X → Type 0
AreAll test n xs = IsTrue (list_all test xs) × (length xs ≡ n)

pub Always-many : {X : Type 0} (test : X → Bool) (p : ℕ → Plan X) → ((k : ℕ) → Always (p k) (λ x. IsTrue (test x)))
    → (k n : ℕ) → Always (many p k n) (AreAll test n)
unfolding many
Always-many test p each k zero = (refl, refl)
Always-many test p each k (suc n) =
    Always-then (λ x. IsTrue (test x)) (AreAll test (suc n)) (λ x. many p (k + 1) n >>= λ xs. done (x ∷ xs)) (p k) (each k)
    (λ x passes. Always-then (AreAll test n) (AreAll test (suc n)) (λ xs. done (x ∷ xs)) (many p (k + 1) n) (Always-many test p each (k + 1) n)
    (λ xs h. (and_from _ _ passes h.0, ap suc h.1)))

-- a text of bytes that a string can give is one of a database
is_file_text-bytes : (t : List ℕ) → list_all is_byte t ≡ true → list_all is_kept_byte t ≡ true → list_all is_file_byte t ≡ true
is_file_text-bytes [] of_bytes kept = refl
is_file_text-bytes (b ∷ t) of_bytes kept =
    let byte = and_parts (is_byte b) (list_all is_byte t) of_bytes in
    let one = and_parts (is_kept_byte b) (list_all is_kept_byte t) kept in
    and_from _ _ (and_from _ _ byte.0 one.0) (is_file_text-bytes t byte.1 one.1)

module _ (laws : TextLaws) where
  -- what holds always holds of what bytes spell
  pub always : {X : Type 0} (P : X → Type 0) (p : Plan X) (x : X) (bytes rest : List ℕ) → Always p P → Spelled p x bytes rest → AreBytes bytes → P x
  always P (done y) x bytes rest h spelled all = subst P spelled.0 h
  always P (check test fault p) x bytes rest h spelled all = always P p x bytes rest (h spelled.0) spelled.1 all
  always P (number next) x bytes rest h spelled all =
      always P (next spelled.0) x spelled.1 rest (h spelled.0 (laws.number_fits spelled.0 bytes spelled.1 spelled.2)) spelled.3
      (laws.number_leaves_bytes spelled.0 bytes spelled.1 spelled.2 all)
  always P (quoted next) x bytes rest h spelled all =
      let left = laws.string_leaves_bytes spelled.0 bytes spelled.1 spelled.2 all in
      let kept = and_parts (leb (length spelled.0) 4096) (list_all is_kept_byte spelled.0) (laws.string_is_text spelled.0 bytes spelled.1 spelled.2) in
      always P (next spelled.0) x spelled.1 rest (h spelled.0 (and_from _ _ kept.0 (is_file_text-bytes spelled.0 left.0 kept.1))) spelled.3 left.1
  always P (perhaps next) x bytes rest h (inl spelled) all =
      always P (next (Some spelled.0)) x spelled.1 rest (h (Some spelled.0) (laws.number_fits spelled.0 bytes spelled.1 spelled.2)) spelled.3
      (laws.number_leaves_bytes spelled.0 bytes spelled.1 spelled.2 all)
  always P (perhaps next) x bytes rest h (inr spelled) all = always P (next None) x bytes rest (h None tt) spelled.1 all
