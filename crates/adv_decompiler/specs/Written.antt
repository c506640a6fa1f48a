-- An action as it is written: conditions, and opcodes with their parameters in brackets or without.
use Rattle.std.specs.Prelude.{ℕ, ◌+◌, ◌*◌, ◌==◌, ◌&&◌, not, nat_le, Bool, if◌then◌else◌, List, [], ◌∷◌, ◌++◌, map, flat_map, take, drop, slice_index}
use Rattle.std.specs.List.{prefix_len, list_all}
use Rattle.scott_types.specs.declared.parts.Action.{Action}
use Rattle.scott_types.specs.Action.{argument_of, condition_code, opcode_numbers, is_zero}
use Rattle.scott_types.specs.declared.opcodes.Opcode.{Opcode}
use Rattle.scott_types.specs.declared.opcodes.Opcode.TheVariants.{Nothing, Say}
use Rattle.scott_types.specs.Opcode.{opcode_of, uses, say_number}
use Rattle.adv_compiler.specs.Lines.{five}

-- an opcode: the message that it says, its number, or its name, perhaps with parameters in brackets
pub data Piece : Type 0 where
  says : ℕ → Piece
  numbered : ℕ → Piece
  named : ℕ → Piece
  bracketed : ℕ → List ℕ → Piece

-- conditions, each packed as in the file, and opcodes
pub record WrittenAction : Type 0 where
  pub conds : List ℕ
  pub ops : List Piece

-- ---- what is written of an action

-- a condition of code 0 is a parameter
abbrev pub is_parameter : ℕ → Bool
is_parameter condition = condition_code condition == 0

-- how many conditions stand before the first parameter
abbrev pub tests_first : List ℕ → ℕ
tests_first conds = prefix_len (λ c. not (is_parameter c)) conds

-- how many parameters the opcodes take together
abbrev pub takes : List ℕ → ℕ
takes [] = 0
takes (n ∷ numbers) = uses (opcode_of n) + takes numbers

-- with brackets, where the parameters stand last, are enough, and those that no opcode takes are
-- zeros
abbrev pub has_brackets : List ℕ → List ℕ → Bool
has_brackets conds numbers =
    list_all is_parameter (drop (tests_first conds) conds)
    && (nat_le (tests_first conds + takes numbers) 5
    && list_all is_zero (drop (tests_first conds + takes numbers) conds))

-- the numbers up to the last one that isn't 0
abbrev pub without_zeros : List ℕ → List ℕ
without_zeros [] = []
without_zeros (n ∷ ns) = if is_zero n && list_all is_zero ns then [] else n ∷ without_zeros ns

-- an opcode of this number, with these parameters in brackets if there are any
abbrev pub name_piece : ℕ → List ℕ → Piece
name_piece n [] = named n
name_piece n (p ∷ ps) = bracketed n (p ∷ ps)

abbrev pub piece_of : ℕ → List ℕ → Opcode → Piece
piece_of n parameters (Say message) = says message
piece_of n parameters Nothing = numbered n
piece_of n parameters _ = name_piece n parameters

-- each opcode with the next parameters, as many as it takes
abbrev pub pieces : List ℕ → List ℕ → List Piece
pieces parameters [] = []
pieces parameters (n ∷ ns) =
    piece_of n (take (uses (opcode_of n)) parameters) (opcode_of n)
    ∷ pieces (drop (uses (opcode_of n)) parameters) ns

abbrev pub written : Action → WrittenAction
written a =
    if has_brackets a.conds (opcode_numbers a)
    then record {
      conds = take (tests_first a.conds) a.conds;
      ops = pieces (drop (tests_first a.conds) (map argument_of a.conds))
          (without_zeros (opcode_numbers a));
    }
    else record
    { conds = without_zeros a.conds; ops = pieces [] (without_zeros (opcode_numbers a)) }

-- ---- what is meant by it

-- the number of an opcode, and the parameters in its brackets
abbrev pub number_of : Piece → ℕ
number_of (says message) = say_number message
number_of (numbered n) = n
number_of (named n) = n
number_of (bracketed n parameters) = n

abbrev pub parameters_of : Piece → List ℕ
parameters_of (bracketed n parameters) = parameters
parameters_of _ = []

-- a parameter as a condition of code 0
abbrev pub as_condition : ℕ → ℕ
as_condition parameter = 20 * parameter

-- the first four of these and zeros, in two pairs
abbrev pub two_pairs : List ℕ → List ℕ
two_pairs ns =
    (150 * slice_index ns 0 + slice_index ns 1) ∷ (150 * slice_index ns 2 + slice_index ns 3) ∷ []

-- the parameters in brackets follow the conditions, and zeros fill what is left
abbrev pub action_of : ℕ → WrittenAction → Action
action_of vocab w = record {
  vocab = vocab;
  conds = five (w.conds ++ map as_condition (flat_map parameters_of w.ops));
  pairs = two_pairs (map number_of w.ops);
}
