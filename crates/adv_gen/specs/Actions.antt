-- The action lines of a game that is made.
use Rattle.std.specs.Prelude.{ℕ, ◌+◌, ◌*◌, ◌%◌, List, [], ◌∷◌, min, slice_index, slice_index_or}
use Rattle.scott_types.specs.declared.parts.Action.{Action}
use Rattle.scott_types.specs.declared.verbs.TheConstants.{MORE}
use Rattle.adv_gen.specs.declared.actions.Kind.{Kind}
use Rattle.adv_gen.specs.declared.actions.Kind.TheVariants.{Automatic, ForNoun, Tail, ForVerb}
use Rattle.rand_pcg.specs.Lcg.{Lcg}
use Rattle.adv_gen.specs.Picks.{after, pick, picked}

-- ---- what it is for

-- of every five actions
abbrev pub kinds : List Kind
kinds = Automatic ∷ ForNoun ∷ Tail ∷ ForVerb ∷ Tail ∷ []

abbrev pub kind_of : ℕ → Kind
kind_of k = slice_index_or kinds (k % 5) Tail

-- an automatic action has a chance of 1 to 100; the nouns are those after the directions, of which
-- one above 149 counts as 149
abbrev pub vocabulary : Kind → ℕ → Lcg → ℕ
vocabulary Automatic size generator = 1 + pick generator 0 100
vocabulary ForNoun size generator =
    150 * (1 + pick generator 0 (size + 36)) + min (7 + pick generator 1 (size + 30)) 149
vocabulary ForVerb size generator = 150 * (2 + pick generator 0 (size + 35))
vocabulary Tail size generator = 0

abbrev pub vocabulary_picks : Kind → ℕ
vocabulary_picks Automatic = 1
vocabulary_picks ForNoun = 2
vocabulary_picks ForVerb = 1
vocabulary_picks Tail = 0

-- ---- its conditions, of seven picks

-- a condition of any code, of which the argument is picked first
unfoldable pub condition : Lcg → ℕ → ℕ
condition generator place = 20 * pick generator place 16 + pick generator (place + 1) 20

-- a condition of code 0: its argument is a parameter of the opcodes
unfoldable pub parameter : Lcg → ℕ → ℕ
parameter generator place = 20 * pick generator place 16

abbrev pub conditions : Lcg → List ℕ
conditions generator =
    condition generator 0 ∷ condition generator 2
    ∷ parameter generator 4 ∷ parameter generator 5 ∷ parameter generator 6 ∷ []

-- ---- its opcodes, of three picks

abbrev pub made_opcodes : List ℕ
made_opcodes =
    1 ∷ 2 ∷ 3 ∷ 52 ∷ 53 ∷ 55 ∷ 58 ∷ 60 ∷ 62 ∷ 72 ∷ 74 ∷ 75 ∷ 77 ∷ 78 ∷ 82 ∷ 86 ∷ []

unfoldable pub opcode : Lcg → ℕ → ℕ
opcode generator place = slice_index made_opcodes (pick generator place 16)

-- an action that is no tail goes on with the tail after it
abbrev pub last_opcode : Kind → ℕ
last_opcode Automatic = MORE
last_opcode ForNoun = MORE
last_opcode ForVerb = MORE
last_opcode Tail = 0

abbrev pub opcode_pairs : Kind → Lcg → List ℕ
opcode_pairs kind generator =
    (150 * opcode generator 0 + opcode generator 1)
    ∷ (150 * opcode generator 2 + last_opcode kind) ∷ []

-- ---- the whole

abbrev pub action_of : Kind → ℕ → Lcg → Action
action_of kind size generator = record {
  vocab = vocabulary kind size generator;
  conds = conditions (after (vocabulary_picks kind) generator);
  pairs = opcode_pairs kind (after (vocabulary_picks kind + 7) generator);
}

abbrev pub action : ℕ → ℕ → Lcg → Action
action size k generator = action_of (kind_of k) size generator

abbrev pub action_picks : ℕ → ℕ
action_picks k = vocabulary_picks (kind_of k) + 10

abbrev pub actions : ℕ → Lcg → List Action
actions size generator = picked action_picks (action size) (5 * size + 5) generator
