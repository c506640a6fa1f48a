-- The pieces of an action are right: each number is one of an opcode, and brackets have as many
-- parameters as it takes.
use Rattle.std.proofs.Common.{◌≡◌, ℕ, zero, suc, ◌+◌, ◌-◌, ◌≤◌, ◌<◌, ◌⊎◌, inl, inr, true, leb, ltb, List, [], ◌∷◌, take, drop, length, refl, ap, subst, ◌∙◌, arith, length-drop, length-take-le}
use Rattle.std.specs.List.{AllByRecursion}
use Rattle.std.proofs.lemmas.Bool.{cond_both, leb-true, agree_below, agree_below_at}
use Rattle.scott_types.specs.Opcode.{opcode_of, uses, say_number}
use Rattle.adv_compiler.specs.Lines.{parameters}
use Rattle.adv_decompiler.specs.Written.{name_piece, piece_of, pieces, takes}
use Rattle.adv_decompiler.proofs.Pieces.{by_piece}
use Rattle.adv_decompiler.proofs.PlainConditions.{IsSmall}
use Rattle.adv_decompiler.proofs.PlainOpcodes.{IsParameter, IsPiece}

-- ---- the pieces of an action

abbrev nothing_left : List ℕ
nothing_left = []

take-none : (n : ℕ) → take n nothing_left ≡ []
take-none zero = refl
take-none (suc n) = refl

drop-none : (n : ℕ) → drop n nothing_left ≡ []
drop-none zero = refl
drop-none (suc n) = refl

-- parameters are enough for opcodes, or there are none
abbrev pub Enough : List ℕ → List ℕ → Type 0
Enough parameters numbers = (parameters ≡ []) ⊎ (takes numbers ≤ length parameters)

uses-few : agree_below (λ k. leb (uses (opcode_of (k + 52))) 2) (λ k. true) 38 ≡ true
uses-few = refl

uses-at_most : (n : ℕ) → 52 ≤ n → n < 90 → uses (opcode_of n) ≤ 2
uses-at_most n low high =
    let e : n - 52 + 52 ≡ n = omega arith in
    let most = leb-true (uses (opcode_of (n - 52 + 52))) 2 (agree_below_at (λ k. leb (uses (opcode_of (k + 52))) 2) (λ k. true) 38 (n - 52) uses-few (omega arith)) in
    subst (λ (m : ℕ). uses (opcode_of m) ≤ 2) e most

message-least : (message : ℕ) → message ≤ say_number message
message-least message = cond_both (ltb message 52) message (message + 50) (λ m. message ≤ m) (λ e. omega arith) (λ e. omega arith)

all-take : (n : ℕ) (xs : List ℕ) → AllByRecursion IsParameter xs → AllByRecursion IsParameter (take n xs)
all-take zero xs all = tt
all-take (suc n) [] all = tt
all-take (suc n) (x ∷ xs) all = (all.0, all-take n xs all.1)

all-drop : (n : ℕ) (xs : List ℕ) → AllByRecursion IsParameter xs → AllByRecursion IsParameter (drop n xs)
all-drop zero xs all = all
all-drop (suc n) [] all = tt
all-drop (suc n) (x ∷ xs) all = all-drop n xs all.1

name_is : (n : ℕ) (ps : List ℕ) → 52 ≤ n → n < 90 → (ps ≡ []) ⊎ (length ps ≡ uses (opcode_of n)) → AllByRecursion IsParameter ps → IsPiece (name_piece n ps)
name_is n [] low high enough small = (low, high)
name_is n (p ∷ ps) low high (inl e) small = absurd (cc)
name_is n (p ∷ ps) low high (inr e) small =
    record { least = low; most = high; enough = e; some = omega arith; few = omega (arith, uses-at_most n low high); small = small }

piece_is : (n : ℕ) (ps : List ℕ) → IsSmall n → (ps ≡ []) ⊎ (length ps ≡ uses (opcode_of n)) → AllByRecursion IsParameter ps → IsPiece (piece_of n ps (opcode_of n))
piece_is n ps small enough all =
    by_piece IsPiece n ps (λ message low e. (low, omega (arith, message-least message))) small (λ low high. name_is n ps low high enough all)

taken_enough : (n : ℕ) (numbers parameters : List ℕ) → Enough parameters (n ∷ numbers)
    → (take (uses (opcode_of n)) parameters ≡ []) ⊎ (length (take (uses (opcode_of n)) parameters) ≡ uses (opcode_of n))
taken_enough n numbers parameters (inl e) = inl (ap (take (uses (opcode_of n))) e ∙ take-none (uses (opcode_of n)))
taken_enough n numbers parameters (inr h) =
    let some : uses (opcode_of n) ≤ length parameters = omega arith in inr (length-take-le (uses (opcode_of n)) parameters some)

left_enough : (n : ℕ) (numbers parameters : List ℕ) → Enough parameters (n ∷ numbers) → Enough (drop (uses (opcode_of n)) parameters) numbers
left_enough n numbers parameters (inl e) = inl (ap (drop (uses (opcode_of n))) e ∙ drop-none (uses (opcode_of n)))
left_enough n numbers parameters (inr h) = inr (omega (arith, length-drop (uses (opcode_of n)) parameters))

pub pieces_are : (parameters numbers : List ℕ) → AllByRecursion IsParameter parameters → AllByRecursion IsSmall numbers → Enough parameters numbers
    → AllByRecursion IsPiece (pieces parameters numbers)
pieces_are parameters [] all small enough = tt
pieces_are parameters (n ∷ numbers) all small enough = (
  piece_is n (take (uses (opcode_of n)) parameters) small.0 (taken_enough n numbers parameters enough) (all-take (uses (opcode_of n)) parameters all),
  pieces_are (drop (uses (opcode_of n)) parameters) numbers (all-drop (uses (opcode_of n)) parameters all) small.1 (left_enough n numbers parameters enough),
)

pub length-pieces : (parameters numbers : List ℕ) → length (pieces parameters numbers) ≡ length numbers
length-pieces parameters [] = refl
length-pieces parameters (n ∷ numbers) = ap suc (length-pieces (drop (uses (opcode_of n)) parameters) numbers)
