-- What the text that is written of a database is made of: lists, and the tests of the limits.
use Rattle.std.proofs.Common.{◌≡◌, ℕ, ◌+◌, ◌≤◌, ◌≤ℤ◌, Bool, true, ◌&&◌, leb, ltb, List, [], ◌∷◌, ◌++◌, length, Some, None, ℤ, pos, negsuc, refl, sym, subst, append_assoc, inl, inr, to_z, of_z, w32, arith}
use Rattle.std.specs.Prelude.{int_le}
use Rattle.std.specs.List.{list_all}
use Rattle.std.proofs.lemmas.Bool.{and_parts, and_from, le-leb}
use Rattle.std.proofs.lemmas.List.Concat.{flat_map-cons}
use Rattle.std.proofs.lemmas.Int.{ints, to_z-of_z}
use Rattle.adv_text.specs.Laws.{Fits32}
use Rattle.adv_io.specs.Text.{is_text_byte as is_kept_byte}
use Rattle.adv_io.specs.Text.{is_text as is_kept}
use Rattle.scott_types.specs.Limits.{is_file_text, is_file_byte, is_number}
use Rattle.scott_format.specs.Plan.{Plan, done, check, number, quoted, perhaps, ◌>>=◌, many, Spelled}
use Rattle.scott_format.specs.Canon.{Token, line_text, lines_text}

-- ---- one plan after another

pub Spelled-then : {X Y : Type 0} (p : Plan X) (f : X → Plan Y) (x : X) (y : Y) (bytes remaining rest : List ℕ) → Spelled p x bytes remaining → Spelled (f x) y remaining rest
    → Spelled (p >>= f) y bytes rest
Spelled-then (done z) f x y bytes remaining rest h next =
    subst (λ (b : List ℕ). Spelled (f z) y b rest) (sym h.1) (subst (λ v. Spelled (f v) y remaining rest) (sym h.0) next)
Spelled-then (check test fault p) f x y bytes remaining rest h next = (h.0, Spelled-then p f x y bytes remaining rest h.1 next)
Spelled-then (number p) f x y bytes remaining rest h next = (h.0, h.1, h.2, Spelled-then (p h.0) f x y h.1 remaining rest h.3 next)
Spelled-then (quoted p) f x y bytes remaining rest h next = (h.0, h.1, h.2, Spelled-then (p h.0) f x y h.1 remaining rest h.3 next)
Spelled-then (perhaps p) f x y bytes remaining rest (inl h) next = inl (h.0, h.1, h.2, Spelled-then (p (Some h.0)) f x y h.1 remaining rest h.3 next)
Spelled-then (perhaps p) f x y bytes remaining rest (inr h) next = inr (h.0, Spelled-then (p None) f x y bytes remaining rest h.1 next)

-- ---- a list

-- an entry's line, after a line's end
abbrev pub EntrySpelled : {X : Type 0} → Plan X → (X → List Token) → X → Type 0
EntrySpelled p line x = (rest : List ℕ) → Spelled p x (10 ∷ (line_text (line x) ++ rest)) (10 ∷ rest)

-- the lines of entries that pass the test spell the list of these entries
pub many_spelled : {X : Type 0} (piece : ℕ → Plan X) (line : X → List Token) (ok : X → Bool)
    → ((k : ℕ) (x : X) → ok x ≡ true → EntrySpelled (piece k) line x)
    → (xs : List X) (k : ℕ) → list_all ok xs ≡ true → (rest : List ℕ) → Spelled (many piece k (length xs)) xs (10 ∷ (lines_text line xs ++ rest)) (10 ∷ rest)
unfolding many
many_spelled piece line ok each [] k all rest = (refl, refl)
many_spelled piece line ok each (x ∷ xs) k all rest =
    let parts = and_parts (ok x) (list_all ok xs) all in
    let remaining = 10 ∷ (lines_text line xs ++ rest) in
    let others = Spelled-then (many piece (k + 1) (length xs)) (λ ys. done (x ∷ ys)) xs (x ∷ xs) remaining (10 ∷ rest) (10 ∷ rest)
    (many_spelled piece line ok each xs (k + 1) parts.1 rest) (refl, refl) in
    let whole = Spelled-then (piece k) (λ y. many piece (k + 1) (length xs) >>= λ ys. done (y ∷ ys)) x (x ∷ xs)
    (10 ∷ (line_text (line x) ++ (lines_text line xs ++ rest))) remaining (10 ∷ rest) (each k x parts.0 (lines_text line xs ++ rest)) others in
    rw (flat_map-cons, append_assoc) whole

-- ---- tests

le_from : (a b : ℤ) → int_le a b ≡ true → a ≤ℤ b
le_from a b e = grind (arith, ints)

pub fits : (z : ℤ) → is_number z ≡ true → Fits32 z
fits z e = let h = and_parts (int_le (negsuc 2147483647) z) (int_le z (pos 2147483647)) e in (le_from (negsuc 2147483647) z h.0, le_from z (pos 2147483647) h.1)

-- a number that the program gave as one of 32 bits is the number
pub same_in_32_bits : (z : ℤ) → is_number z ≡ true → to_z w32 (of_z w32 z) ≡ z
same_in_32_bits (pos n) e = let h = fits (pos n) e in to_z-of_z w32 (pos n) (record { sfits = omega (arith, ints) })
same_in_32_bits (negsuc n) e = let h = fits (negsuc n) e in to_z-of_z w32 (negsuc n) (record { sfits = omega (arith, ints) })

pub natural_fits : (n : ℕ) → n ≤ 2147483647 → Fits32 (pos n)
natural_fits n h = (omega (arith, ints), omega (arith, ints))

-- a natural number is within its limits
pub within : (least most n : ℕ) → least ≤ n → n ≤ most → (int_le (pos least) (pos n) && int_le (pos n) (pos most)) ≡ true
within least most n low high = and_from _ _ (le-leb least n low) (le-leb n most high)

kept_bytes : (t : List ℕ) → list_all is_file_byte t ≡ true → list_all is_kept_byte t ≡ true
kept_bytes [] h = refl
kept_bytes (b ∷ t) h =
    let parts = and_parts (is_file_byte b) (list_all is_file_byte t) h in
    and_from _ _ (and_parts (ltb b 256) (is_kept_byte b) parts.0).1 (kept_bytes t parts.1)

pub kept : (t : List ℕ) → is_file_text t ≡ true → is_kept t ≡ true
kept t h = let parts = and_parts (leb (length t) 4096) (list_all is_file_byte t) h in and_from _ _ parts.0 (kept_bytes t parts.1)
