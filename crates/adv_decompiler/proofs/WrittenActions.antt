-- What is written of an action means that action.
use Rattle.std.proofs.Common.{◌≡◌, ℕ, zero, suc, ◌+◌, ◌*◌, ◌/◌, ◌%◌, ◌&&◌, true, leb, List, [], ◌∷◌, ◌++◌, map, take, drop, length, get_or, inl, inr, refl, sym, ap, ◌∙◌, arith}
use Rattle.std.specs.Prelude.{flat_map}
use Rattle.std.specs.List.{list_all}
use Rattle.std.proofs.lemmas.Bool.{and_parts, cond-true, cond-false, eqb-true, cases_Bool}
use Rattle.std.proofs.lemmas.List.{append-nil, drop-map, drop-drop, take-append-drop}
use Rattle.scott_types.specs.Opcode.{opcode_of, uses}
use Rattle.scott_types.specs.declared.parts.Action.{Action}
use Rattle.scott_types.specs.Action.{argument_of, opcode_numbers, is_zero}
use Rattle.adv_decompiler.specs.Written.{is_parameter, tests_first, takes, has_brackets, without_zeros, pieces, written, number_of, parameters_of, as_condition, two_pairs, action_of}
use Rattle.adv_compiler.specs.Lines.{five}
use Rattle.adv_decompiler.specs.Laws.{WrittenIsMeant}
use Rattle.adv_decompiler.proofs.Pieces.{numbers-pieces, parameters-pieces}

-- ---- lists that have the same number at each place, with zeros past their ends

abbrev pub Same : List ℕ → List ℕ → Type 0
Same xs ys = (i : ℕ) → get_or xs i 0 ≡ get_or ys i 0

zeros-same : (xs : List ℕ) → list_all is_zero xs ≡ true → Same [] xs
zeros-same [] all i = refl
zeros-same (x ∷ xs) all zero = sym (eqb-true x 0 (and_parts (is_zero x) (list_all is_zero xs) all).0)
zeros-same (x ∷ xs) all (suc i) = zeros-same xs (and_parts (is_zero x) (list_all is_zero xs) all).1 i

cons-same : (x : ℕ) (xs ys : List ℕ) → Same xs ys → Same (x ∷ xs) (x ∷ ys)
cons-same x xs ys h zero = refl
cons-same x xs ys h (suc i) = h i

after-same : (front xs ys : List ℕ) → Same xs ys → Same (front ++ xs) (front ++ ys)
after-same [] xs ys h i = h i
after-same (x ∷ front) xs ys h i = cons-same x (front ++ xs) (front ++ ys) (after-same front xs ys h) i

five-same : (xs ys : List ℕ) → Same xs ys → five xs ≡ five ys
five-same xs ys h = rw (h 0, h 1, h 2, h 3, h 4) refl

pairs-same : (xs ys : List ℕ) → Same xs ys → two_pairs xs ≡ two_pairs ys
pairs-same xs ys h = rw (h 0, h 1, h 2, h 3) refl

five-all : (xs : List ℕ) → length xs ≡ 5 → five xs ≡ xs
five-all (a ∷ b ∷ c ∷ d ∷ e ∷ []) h = refl
five-all [] h = absurd (omega arith)
five-all (a ∷ []) h = absurd (omega arith)
five-all (a ∷ b ∷ []) h = absurd (omega arith)
five-all (a ∷ b ∷ c ∷ []) h = absurd (omega arith)
five-all (a ∷ b ∷ c ∷ d ∷ []) h = absurd (omega arith)
five-all (a ∷ b ∷ c ∷ d ∷ e ∷ f ∷ xs) h = absurd (omega arith)

-- ---- zeros that are left out

-- without the zeros at its end a list still has the same number at each place
pub without_zeros-same : (xs : List ℕ) → Same (without_zeros xs) xs
without_zeros-same [] i = refl
without_zeros-same (x ∷ xs) i =
    elim (cases_Bool (is_zero x && list_all is_zero xs)) [
      | inl zeros ↦
          ap (λ (ys : List ℕ). get_or ys i 0) (cond-true (is_zero x && list_all is_zero xs) [] (x ∷ without_zeros xs) zeros)
          ∙ zeros-same (x ∷ xs) zeros i
      | inr other ↦
          ap (λ (ys : List ℕ). get_or ys i 0) (cond-false (is_zero x && list_all is_zero xs) [] (x ∷ without_zeros xs) other)
          ∙ cons-same x (without_zeros xs) xs (without_zeros-same xs) i
    ]

takes-zeros : (xs : List ℕ) → list_all is_zero xs ≡ true → takes xs ≡ 0
takes-zeros [] all = refl
takes-zeros (x ∷ xs) all =
    let parts = and_parts (is_zero x) (list_all is_zero xs) all in
    let none : takes xs ≡ 0 = takes-zeros xs parts.1 in let others : 0 + takes xs ≡ 0 = omega arith in ap (λ (n : ℕ). uses (opcode_of n) + takes xs) (eqb-true x 0 parts.0) ∙ others

-- zeros take no parameters
pub takes-without : (xs : List ℕ) → takes (without_zeros xs) ≡ takes xs
takes-without [] = refl
takes-without (x ∷ xs) =
    elim (cases_Bool (is_zero x && list_all is_zero xs)) [
      | inl zeros ↦
          ap takes (cond-true (is_zero x && list_all is_zero xs) [] (x ∷ without_zeros xs) zeros) ∙ sym (takes-zeros (x ∷ xs) zeros)
      | inr other ↦
          ap takes (cond-false (is_zero x && list_all is_zero xs) [] (x ∷ without_zeros xs) other)
          ∙ ap (λ (n : ℕ). uses (opcode_of x) + n) (takes-without xs)
    ]

abbrev no_numbers : List ℕ
no_numbers = []

take-none : (n : ℕ) → take n no_numbers ≡ []
take-none zero = refl
take-none (suc n) = refl

-- ---- pairs

pair-again : (p : ℕ) → 150 * (p / 150) + p % 150 ≡ p
pair-again p = omega arith

pairs-again : (vocab : ℕ) (conds pairs : List ℕ) → length pairs ≡ 2 → two_pairs (opcode_numbers (record { vocab = vocab; conds = conds; pairs = pairs })) ≡ pairs
pairs-again vocab conds (p ∷ q ∷ []) h = rw (pair-again p, pair-again q) refl
pairs-again vocab conds [] h = absurd (omega arith)
pairs-again vocab conds (p ∷ []) h = absurd (omega arith)
pairs-again vocab conds (p ∷ q ∷ r ∷ pairs) h = absurd (omega arith)

-- ---- conditions

parameter-again : (c : ℕ) → is_parameter c ≡ true → as_condition (argument_of c) ≡ c
parameter-again c e = let rest : c % 20 ≡ 0 = eqb-true (c % 20) 0 e in omega arith

-- parameters that were taken are conditions again, and the others are zeros
parameters-same : (n : ℕ) (conds : List ℕ) → list_all is_parameter conds ≡ true → list_all is_zero (drop n conds) ≡ true
    → Same (map as_condition (take n (map argument_of conds))) conds
parameters-same zero conds all zeros i = zeros-same conds zeros i
parameters-same (suc n) [] all zeros i = refl
parameters-same (suc n) (c ∷ conds) all zeros zero = parameter-again c (and_parts (is_parameter c) (list_all is_parameter conds) all).0
parameters-same (suc n) (c ∷ conds) all zeros (suc i) =
    parameters-same n conds (and_parts (is_parameter c) (list_all is_parameter conds) all).1 zeros i

abbrev whole_of : ℕ → List ℕ → List ℕ → Action
whole_of vocab conds pairs = record { vocab = vocab; conds = conds; pairs = pairs }

same_action : (vocab : ℕ) (a b c d : List ℕ) → a ≡ c → b ≡ d → whole_of vocab a b ≡ whole_of vocab c d
same_action vocab a b c d e h = λ i. record { vocab = vocab; conds = e i; pairs = h i }

module _ (vocab : ℕ) (conds pairs : List ℕ) (five_there : length conds ≡ 5) (two_there : length pairs ≡ 2) where
  abbrev whole : Action
  whole = record { vocab = vocab; conds = conds; pairs = pairs }

  abbrev numbers : List ℕ
  numbers = opcode_numbers whole

  abbrev first : ℕ
  first = tests_first conds

  pairs_meant : (parameters : List ℕ) → two_pairs (map number_of (pieces parameters (without_zeros numbers))) ≡ pairs
  pairs_meant parameters =
      ap two_pairs (numbers-pieces parameters (without_zeros numbers)) ∙ pairs-same (without_zeros numbers) numbers (without_zeros-same numbers)
      ∙ pairs-again vocab conds pairs two_there

  -- conditions, followed by the parameters in brackets, are the five conditions of the action
  bracketed_meant : has_brackets conds numbers ≡ true
      → five (take first conds ++ map as_condition (flat_map parameters_of (pieces (drop first (map argument_of conds)) (without_zeros numbers)))) ≡ conds
  bracketed_meant e =
      let all = and_parts (list_all is_parameter (drop first conds)) _ e in
      let enough = and_parts (leb (first + takes numbers) 5) (list_all is_zero (drop (first + takes numbers) conds)) all.1 in
      let zeros : list_all is_zero (drop (takes numbers) (drop first conds)) ≡ true =
      ap (list_all is_zero) (drop-drop (takes numbers) first conds) ∙ enough.1 in
      let taken : flat_map parameters_of (pieces (drop first (map argument_of conds)) (without_zeros numbers))
      ≡ take (takes numbers) (map argument_of (drop first conds)) =
      parameters-pieces (drop first (map argument_of conds)) (without_zeros numbers)
      ∙ ap (λ (n : ℕ). take n (drop first (map argument_of conds))) (takes-without numbers)
      ∙ ap (take (takes numbers)) (drop-map argument_of first conds) in
      ap (λ (ps : List ℕ). five (take first conds ++ map as_condition ps)) taken
      ∙ five-same (take first conds ++ map as_condition (take (takes numbers) (map argument_of (drop first conds)))) (take first conds ++ drop first conds)
      (after-same (take first conds) _ (drop first conds) (parameters-same (takes numbers) (drop first conds) all.0 zeros))
      ∙ ap five (take-append-drop first conds) ∙ five-all conds five_there

  plain_meant : five (without_zeros conds ++ map as_condition (flat_map parameters_of (pieces [] (without_zeros numbers)))) ≡ conds
  plain_meant =
      let none : flat_map parameters_of (pieces [] (without_zeros numbers)) ≡ [] =
      parameters-pieces [] (without_zeros numbers) ∙ take-none (takes (without_zeros numbers)) in
      ap (λ (ps : List ℕ). five (without_zeros conds ++ map as_condition ps)) none ∙ ap five (append-nil (without_zeros conds))
      ∙ five-same (without_zeros conds) conds (without_zeros-same conds) ∙ five-all conds five_there

  written_meant : action_of vocab (written whole) ≡ whole
  written_meant =
      elim (cases_Bool (has_brackets conds numbers)) [
        | inl brackets ↦ ap (action_of vocab) (cond-true (has_brackets conds numbers) _ _ brackets) ∙ same_action vocab _ _ conds pairs (bracketed_meant brackets) (pairs_meant _)
        | inr none ↦ ap (action_of vocab) (cond-false (has_brackets conds numbers) _ _ none) ∙ same_action vocab _ _ conds pairs plain_meant (pairs_meant [])
      ]

pub written_is_meant : WrittenIsMeant
written_is_meant a five_there two_there = written_meant a.vocab a.conds a.pairs five_there two_there
