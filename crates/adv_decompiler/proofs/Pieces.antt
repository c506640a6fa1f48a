-- What the pieces of opcodes stand for: their numbers, and the parameters in their brackets.
use Rattle.std.proofs.Common.{◌≡◌, ℕ, ◌-◌, ◌<◌, ◌≤◌, Bool, true, false, eqb, ltb, List, [], ◌∷◌, ◌++◌, map, take, drop, refl, sym, ap, subst, ◌∙◌, inl, inr, arith}
use Rattle.std.specs.Prelude.{flat_map, slice_index_or}
use Rattle.std.proofs.lemmas.Bool.{cases_lt, cases_eq, agree_below, agree_below_at, cond-true, cond-false, lt-ltb, le-ltb, ne_eqb}
use Rattle.std.proofs.Math.Seq.{take-add}
use Rattle.scott_types.specs.declared.opcodes.Opcode.{Opcode}
use Rattle.scott_types.specs.declared.opcodes.Opcode.TheVariants.{Nothing, Say}
use Rattle.scott_types.specs.Opcode.{opcode_of, named as named_opcodes, uses, say_number}
use Rattle.adv_decompiler.specs.Written.{Piece, says, numbered, name_piece, piece_of, pieces, number_of, parameters_of, takes}

-- ---- the opcodes of the numbers from 52 to 89 are named

abbrev is_named : Opcode → Bool
is_named (Say message) = false
is_named Nothing = false
is_named _ = true

all_named : agree_below (λ k. is_named (slice_index_or named_opcodes k Nothing)) (λ k. true) 38 ≡ true
all_named = refl

named_by : (n : ℕ) (parameters : List ℕ) (op : Opcode) → is_named op ≡ true → piece_of n parameters op ≡ name_piece n parameters
named_by n parameters (Say message) e = absurd (cc)
named_by n parameters Nothing e = absurd (cc)
named_by n parameters _ e = refl

opcode_of-named : (n : ℕ) → 52 ≤ n → n < 90 → opcode_of n ≡ slice_index_or named_opcodes (n - 52) Nothing
opcode_of-named n low high =
    cond-false (eqb n 0) _ _ (ne_eqb n 0 (λ e. omega arith)) ∙ cond-false (ltb n 52) _ _ (le-ltb n 52 low) ∙ cond-true (ltb n 90) _ _ (lt-ltb n 90 high)

opcode_of-below : (n : ℕ) → 1 ≤ n → n < 52 → opcode_of n ≡ Say n
opcode_of-below n low high = cond-false (eqb n 0) _ _ (ne_eqb n 0 (λ e. omega arith)) ∙ cond-true (ltb n 52) _ _ (lt-ltb n 52 high)

opcode_of-unused : (n : ℕ) → 90 ≤ n → n < 102 → opcode_of n ≡ Nothing
opcode_of-unused n low high =
    cond-false (eqb n 0) _ _ (ne_eqb n 0 (λ e. omega arith)) ∙ cond-false (ltb n 52) _ _ (le-ltb n 52 (omega arith))
    ∙ cond-false (ltb n 90) _ _ (le-ltb n 90 low) ∙ cond-true (ltb n 102) _ _ (lt-ltb n 102 high)

opcode_of-above : (n : ℕ) → 102 ≤ n → opcode_of n ≡ Say (n - 50)
opcode_of-above n low =
    cond-false (eqb n 0) _ _ (ne_eqb n 0 (λ e. omega arith)) ∙ cond-false (ltb n 52) _ _ (le-ltb n 52 (omega arith))
    ∙ cond-false (ltb n 90) _ _ (le-ltb n 90 (omega arith)) ∙ cond-false (ltb n 102) _ _ (le-ltb n 102 low)

-- ---- a piece by its number

pub piece-zero : (parameters : List ℕ) → piece_of 0 parameters (opcode_of 0) ≡ numbered 0
piece-zero parameters = refl

pub piece-said : (n : ℕ) (parameters : List ℕ) → 1 ≤ n → n < 52 → piece_of n parameters (opcode_of n) ≡ says n
piece-said n parameters low high = ap (piece_of n parameters) (opcode_of-below n low high)

pub piece-named : (n : ℕ) (parameters : List ℕ) → 52 ≤ n → n < 90 → piece_of n parameters (opcode_of n) ≡ name_piece n parameters
piece-named n parameters low high =
    let is : is_named (slice_index_or named_opcodes (n - 52) Nothing) ≡ true =
    agree_below_at (λ k. is_named (slice_index_or named_opcodes k Nothing)) (λ k. true) 38 (n - 52) all_named (omega arith) in
    ap (piece_of n parameters) (opcode_of-named n low high) ∙ named_by n parameters (slice_index_or named_opcodes (n - 52) Nothing) is

pub piece-unused : (n : ℕ) (parameters : List ℕ) → 90 ≤ n → n < 102 → piece_of n parameters (opcode_of n) ≡ numbered n
piece-unused n parameters low high = ap (piece_of n parameters) (opcode_of-unused n low high)

pub piece-said_above : (n : ℕ) (parameters : List ℕ) → 102 ≤ n → piece_of n parameters (opcode_of n) ≡ says (n - 50)
piece-said_above n parameters low = ap (piece_of n parameters) (opcode_of-above n low)

-- what holds of each kind of piece holds of the piece of a number
pub by_piece : (P : Piece → Type 0) (n : ℕ) (parameters : List ℕ)
    → ((message : ℕ) → 1 ≤ message → say_number message ≡ n → P (says message))
    → (P (numbered n)) → (52 ≤ n → n < 90 → P (name_piece n parameters)) → P (piece_of n parameters (opcode_of n))
by_piece P n parameters said number name =
    elim (cases_lt n 52) [
      | inl below ↦
          elim (cases_eq n 0) [
            | inl e ↦ subst P (sym (ap (λ (k : ℕ). piece_of k parameters (opcode_of k)) e)) (subst (λ (k : ℕ). P (numbered k)) e number)
            | inr other ↦ subst P (sym (piece-said n parameters (omega arith) below)) (said n (omega arith) (cond-true (ltb n 52) _ _ (lt-ltb n 52 below)))
          ]
      | inr above ↦
          elim (cases_lt n 90) [
            | inl low ↦ subst P (sym (piece-named n parameters above low)) (name above low)
            | inr unnamed ↦
                elim (cases_lt n 102) [
                  | inl low ↦ subst P (sym (piece-unused n parameters unnamed low)) number
                  | inr high ↦
                      subst P (sym (piece-said_above n parameters high))
                      (said (n - 50) (omega arith) (cond-false (ltb (n - 50) 52) _ _ (le-ltb (n - 50) 52 (omega arith)) ∙ omega arith))
                ]
          ]
    ]

-- ---- numbers and parameters

number_of-named : (n : ℕ) (parameters : List ℕ) → number_of (name_piece n parameters) ≡ n
number_of-named n [] = refl
number_of-named n (p ∷ parameters) = refl

number_of-piece : (n : ℕ) (parameters : List ℕ) → number_of (piece_of n parameters (opcode_of n)) ≡ n
number_of-piece n parameters =
    by_piece (λ p. number_of p ≡ n) n parameters (λ message low e. e) refl (λ low high. number_of-named n parameters)

pub numbers-pieces : (parameters ns : List ℕ) → map number_of (pieces parameters ns) ≡ ns
numbers-pieces parameters [] = refl
numbers-pieces parameters (n ∷ ns) =
    ap (λ (m : ℕ). m ∷ map number_of (pieces (drop (uses (opcode_of n)) parameters) ns)) (number_of-piece n (take (uses (opcode_of n)) parameters))
    ∙ ap (λ (ms : List ℕ). n ∷ ms) (numbers-pieces (drop (uses (opcode_of n)) parameters) ns)

parameters_of-named : (n : ℕ) (parameters : List ℕ) → parameters_of (name_piece n parameters) ≡ parameters
parameters_of-named n [] = refl
parameters_of-named n (p ∷ parameters) = refl

parameters_of-piece : (n : ℕ) (parameters : List ℕ) (op : Opcode) → parameters_of (piece_of n (take (uses op) parameters) op) ≡ take (uses op) parameters
parameters_of-piece n parameters (Say message) = refl
parameters_of-piece n parameters Nothing = refl
parameters_of-piece n parameters op = parameters_of-named n (take (uses op) parameters)

-- together the pieces have the parameters that their opcodes take
pub parameters-pieces : (parameters ns : List ℕ) → flat_map parameters_of (pieces parameters ns) ≡ take (takes ns) parameters
parameters-pieces parameters [] = refl
parameters-pieces parameters (n ∷ ns) =
    ap (λ (ps : List ℕ). ps ++ flat_map parameters_of (pieces (drop (uses (opcode_of n)) parameters) ns)) (parameters_of-piece n parameters (opcode_of n))
    ∙ ap (λ (ps : List ℕ). take (uses (opcode_of n)) parameters ++ ps) (parameters-pieces (drop (uses (opcode_of n)) parameters) ns)
    ∙ sym (take-add (uses (opcode_of n)) (takes ns) parameters)

pub ruleset by_number = (piece-zero, piece-said, piece-named, piece-unused, piece-said_above)
