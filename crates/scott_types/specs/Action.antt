-- An action line unpacked.
use Rattle.std.specs.Prelude.{ℕ, ◌/◌, ◌%◌, ◌==◌, ◌&&◌, Bool, List, [], ◌∷◌, map, filter, flat_map}
use Rattle.std.specs.List.{list_all}
use Rattle.scott_types.specs.declared.parts.Action.{Action}

abbrev pub verb_of : ℕ → ℕ
verb_of vocab = vocab / 150

abbrev pub noun_of : ℕ → ℕ
noun_of vocab = vocab % 150

-- a condition's argument and its code
abbrev pub argument_of : ℕ → ℕ
argument_of condition = condition / 20

abbrev pub condition_code : ℕ → ℕ
condition_code condition = condition % 20

-- the arguments of the conditions of code 0, which the opcodes take in order
abbrev pub parameters : Action → List ℕ
parameters a = map argument_of (filter (λ c. condition_code c == 0) a.conds)

-- the numbers of the four opcodes
abbrev pub opcode_numbers : Action → List ℕ
opcode_numbers a = flat_map (λ pair. pair / 150 ∷ pair % 150 ∷ []) a.pairs

abbrev pub is_zero : ℕ → Bool
is_zero n = n == 0

-- a line whose eight numbers are zeros
abbrev pub is_zero_action : Action → Bool
is_zero_action a = is_zero a.vocab && (list_all is_zero a.conds && list_all is_zero a.pairs)
