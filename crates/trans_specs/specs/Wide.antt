-- The numbers of a database that a translated game needs as words, and the first that is none.
use Rattle.std.specs.Prelude.{ℕ, ◌+◌, ◌/◌, ◌&&◌, ℤ, pos, negsuc, int_le, Bool, not, List, [], ◌∷◌, ◌++◌, find, Option}
use Rattle.inform_tree.specs.declared.widths.Width.{Width}
use Rattle.inform_tree.specs.declared.widths.Width.TheVariants.{W16, W32}
use Rattle.scott_types.specs.declared.parts.Action.{Action}
use Rattle.scott_types.specs.declared.parts.Header.{Header}
use Rattle.scott_types.specs.Database.{Database}
use Rattle.scott_types.specs.Action.{verb_of, argument_of}
use Rattle.trans_specs.specs.declared.places.Place.{Place}
use Rattle.trans_specs.specs.declared.places.Place.TheVariants.{Carry, Treasures, Light, Home, Verb, Condition, Opcode}

-- ---- words

abbrev pub is_word_of : Width → ℤ → Bool
is_word_of W16 z = int_le (negsuc 32767) z && int_le z (pos 32767)
is_word_of W32 z = int_le (negsuc 2147483647) z && int_le z (pos 2147483647)

-- ---- numbers with their places, in the order of the file

abbrev pub Placed : Type 0
Placed = Place × ℤ

abbrev pub placed_header : Header → List Placed
placed_header h = (Carry, h.carry) ∷ (Treasures, h.treasures) ∷ (Light, h.light)
    ∷ (Home, h.home) ∷ []

-- the arguments of conditions, from number j on
abbrev pub placed_conditions : ℕ → ℕ → List ℕ → List Placed
placed_conditions k j [] = []
placed_conditions k j (packed ∷ rest) =
    (Condition k j, pos (argument_of packed)) ∷ placed_conditions k (j + 1) rest

-- the first opcodes of pairs, from number j on
abbrev pub placed_opcodes : ℕ → ℕ → List ℕ → List Placed
placed_opcodes k j [] = []
placed_opcodes k j (pair ∷ rest) =
    (Opcode k j, pos (pair / 150)) ∷ placed_opcodes k (j + 2) rest

abbrev pub placed_action : ℕ → Action → List Placed
placed_action k a = (Verb k, pos (verb_of a.vocab))
    ∷ (placed_conditions k 1 a.conds ++ placed_opcodes k 1 a.pairs)

-- the lines from number k on
abbrev pub placed_actions : ℕ → List Action → List Placed
placed_actions k [] = []
placed_actions k (a ∷ rest) = placed_action k a ++ placed_actions (k + 1) rest

abbrev pub placed_numbers : Database → List Placed
placed_numbers db = placed_header db.header ++ placed_actions 0 db.actions

-- ---- the first that is no word of the width

abbrev pub is_too_wide : Width → Placed → Bool
is_too_wide width placed = not (is_word_of width placed.1)

abbrev pub wide_at : Width → Database → Option Placed
wide_at width db = find (is_too_wide width) (placed_numbers db)
